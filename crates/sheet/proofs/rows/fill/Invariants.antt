use Rattle.sheet.specs.Promise.{listed}
use Rattle.sheet.proofs.Filling.{Filling}
use Rattle.sheet.proofs.rows.fill.Given as goal

abbrev pub invariant-loop-i : goal.invariant-loop-i
invariant-loop-i l =
    Filling (listed l.given l.count l.points l.quads l.initial.out) l.i l.counts l.jacobian l.cosine l.out
