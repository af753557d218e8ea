use Rattle.std.specs.Prelude.{◌≡◌, ◌/◌, ◌<◌}
use Rattle.laws.specs.Kit.{ℕ, length}
use Rattle.sorting.specs.Places.{key_at}
use Rattle.balance.specs.Codes.{side_at}
use Rattle.groups.specs.Edges.{tagged}
use Rattle.groups.proofs.places.put_edges.Given as goal

abbrev pub invariant-loop-j : goal.invariant-loop-j
invariant-loop-j l = (length l.w ≡ length l.initial.w) × ((i : ℕ) → i < l.j → key_at l.w i ≡ tagged (side_at l.triangles 3 i) (i / 3))
