use Rattle.std.specs.Prelude.{◌∷◌}
use Rattle.laws.specs.Kit.{arith, []}
use lib.Seq.{lt-length-sets, sets-eq}
use Rattle.definition.specs.Trace.{entry}
use Rattle.traces.proofs.write_flip.Goals as goal

pub bounds-t-1 : goal.bounds-t-1
bounds-t-1 c =
    let a = c.args in
    lt-length-sets a.t.now 0 (2 ∷ []) (omega (arith, c.requires.in_bounds))

pub returns : goal.returns
unfolding entry
returns c =
    let a = c.args in
    sets-eq (2 ∷ a.u ∷ a.v ∷ []) a.t.now 0 (omega (arith, c.requires.in_bounds))
