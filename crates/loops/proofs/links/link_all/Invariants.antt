use Rattle.std.specs.Prelude.{◌≡◌}
use Rattle.laws.specs.Kit.{ℕ, List, length}
use Rattle.definition.specs.Plane.{Edge}
use Rattle.loops.specs.Link.{Linking}
use Rattle.loops.proofs.Linking.{Going}
use Rattle.loops.proofs.links.link_all.Given as goal

abbrev pub invariant-loop-i : goal.invariant-loop-i
invariant-loop-i l = (length l.w ≡ length l.initial.w) × ((n : ℕ) (es : List Edge) → Linking l.initial.w l.lay.slots l.lay.points n l.k es l.k 0 → Going l.initial.w l.w l.lay.slots l.lay.points n l.k es l.i)
