-- When an insertion ends a run: 8 only where no point is free, 9 only where a point is and two slots are not,
-- 11 only where a point and two slots are; 8 is therefore tested before 9 and 9 before 11.
use Rattle.std.specs.Prelude.{◌+◌, ◌<◌, ◌≤◌}
use Rattle.laws.specs.Kit.{cond, Option, none, some, ℕ, ltb, leb, ltb-true, ltb-false, leb-false, length, Float}
use borrow.Author.Tests.{leb-true}
use Rattle.definition.specs.Floats.{◌⊗◌}
use Rattle.definition.specs.Numbers.{Settings, node_spacing}
use Rattle.definition.specs.Counts.{of_points, of_slots, of_trace}
use Rattle.definition.specs.Plane.{Node}
use Rattle.definition.specs.Cells.{Cell, tri, quad, Live, Mesh, cell_of}
use Rattle.definition.specs.Trace.{in_room}
use Rattle.definition.specs.Insertion.{Inserted, nowhere, inserted, full, point_clear, slot_clear, holder, split_triangle, split, split_clear, insert_near}
use Rattle.laws.specs.Bools.{cond_ok}
use Rattle.consequences.specs.NoRoom.{Lacking}

module _ (s : Settings) (m : Mesh) where
  split_lacks : (p : Node) (id : ℕ) (c : Cell) → (Lacking s m) (split s m p id c)
  unfolding split
  split_lacks p id (quad q) = tt
  split_lacks p id (tri t) =
      let done = split_triangle m id t p in
      let entered = cond (in_room done) (inserted (length m.points) done) (full of_trace) in
      cond_ok (Lacking s m) (leb s.capacity (length m.points)) (full of_points) (cond (ltb s.slots (m.used + 2)) (full of_slots) entered)
      (λ z. leb-true s.capacity (length m.points) z)
      (λ z. cond_ok (Lacking s m) (ltb s.slots (m.used + 2)) (full of_slots) entered
      (λ y. (leb-false s.capacity (length m.points) z, ltb-true s.slots (m.used + 2) y))
      (λ y. cond_ok (Lacking s m) (in_room done) (inserted (length m.points) done) (full of_trace) (λ x. tt) (λ x. (leb-false s.capacity (length m.points) z, ltb-false s.slots (m.used + 2) y))))

  clear_lacks : (p : Node) (spacing : Float) (o : Option Live) → (Lacking s m) (split_clear s m p spacing o)
  unfolding split_clear
  clear_lacks p spacing none = tt
  clear_lacks p spacing (some x) = cond_ok (Lacking s m) (point_clear m p spacing x.cell) (split s m p x.slot x.cell) nowhere (λ z. split_lacks p x.slot x.cell) (λ z. tt)

  pub near_lacks : (seed : ℕ) (p : Node) → (Lacking s m) (insert_near s m seed p)
  unfolding insert_near
  near_lacks seed p =
      let spacing = node_spacing ⊗ m.bucket in
      cond_ok (Lacking s m) (slot_clear m p spacing (cell_of m seed)) (split_clear s m p spacing (holder m seed p)) nowhere (λ z. clear_lacks p spacing (holder m seed p)) (λ z. tt)
