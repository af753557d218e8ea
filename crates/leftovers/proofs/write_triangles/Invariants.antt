use Rattle.leftovers.proofs.Texts.{Writing}
use Rattle.leftovers.proofs.write_triangles.Given as goal

abbrev pub invariant-loop-i : goal.invariant-loop-i
invariant-loop-i l = Writing l.w l.initial.out l.out l.lay.slots l.lay.points l.used l.n l.i
