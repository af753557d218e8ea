use Rattle.std.specs.Prelude.{◌≡◌, ◌<◌, ◌≤◌}
use Rattle.laws.specs.Kit.{ℕ, length}
use Rattle.definition.specs.Call.{tri_at}
use Rattle.filing.specs.Filing.{rotated}
use Rattle.sorting.specs.Places.{key_at}
use Rattle.filing.specs.Places.{key}
use Rattle.filing.proofs.places.put_triangles.Given as goal

abbrev pub invariant-loop-i : goal.invariant-loop-i
invariant-loop-i l = (l.i ≤ l.n) × (length l.w ≡ length l.initial.w) × ((j : ℕ) → j < l.i → key_at l.w j ≡ key (rotated (tri_at l.triangles j)))
