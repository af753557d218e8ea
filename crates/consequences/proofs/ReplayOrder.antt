-- Replay: a split whose slot has no triangle around its point is refused with 12, whatever room is left.
-- 12 is therefore tested before 8 and 9.
use Rattle.std.specs.Prelude.{◌≡◌, ◌≤◌}
use Rattle.laws.specs.Kit.{refl, false, some, ℕ, length}
use Rattle.definition.specs.Numbers.{Settings}
use Rattle.definition.specs.Plane.{Node}
use Rattle.definition.specs.Cells.{Live, Mesh, was_split, cell_of}
use Rattle.definition.specs.Insertion.{holds, split}
use Rattle.definition.specs.Replay.{Redone, balked, unsound, redo_inserted, redo_split, redo}
use Rattle.laws.specs.Bools.{cond_ok, never}

-- outside: 12
pub twelve_first : (s : Settings) (m : Mesh) (id : ℕ) (p : Node) (x : Live) → cell_of m id ≡ some x → holds m p x.cell ≡ false → redo s m (was_split id p) ≡ balked unsound
unfolding redo redo_split
twelve_first s m id p x there outside =
    rw there
    (cond_ok (λ (r : Redone). r ≡ balked unsound) (holds m p x.cell) (redo_inserted (split s m p x.slot x.cell)) (balked unsound) (λ z. never (holds m p x.cell) z outside) (λ z. refl))

-- also where no point is free
pub twelve_where_full : (s : Settings) (m : Mesh) (id : ℕ) (p : Node) (x : Live) → s.capacity ≤ length m.points → cell_of m id ≡ some x → holds m p x.cell ≡ false
    → redo s m (was_split id p) ≡ balked unsound
twelve_where_full s m id p x full there outside = twelve_first s m id p x there outside
