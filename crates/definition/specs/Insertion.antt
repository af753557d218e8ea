-- Insertion of a side node: a split of the triangle that holds it.
use Rattle.std.specs.Prelude.{Bool, true, false, not, cond, List, [], ◌∷◌, ◌++◌, ℕ, ◌+◌, leb, ltb, length, Float}
use Rattle.std.proofs.Math.Option.{Option, none, some}
use Rattle.definition.specs.Lists.{all, find}
use Rattle.definition.specs.Floats.{◌⊕◌, ◌⊗◌, ◌≺◌}
use Rattle.definition.specs.Numbers.{Settings, insert_shares, node_spacing, insert_reach}
use Rattle.definition.specs.Counts.{Want, of_points, of_slots, of_trace}
use Rattle.definition.specs.Plane.{Node, Vec, flat, point_strictly_inside, dist}
use Rattle.definition.specs.Cells.{Tri, Cell, tri, quad, Live, was_split, Mesh, new_tri, nodes, node_at, cell_of, in_slot_order, noting, set_cell, push_cell}
use Rattle.definition.specs.Trace.{in_room}
use Rattle.definition.specs.Candidates.{live_region}

-- no place found; a new node and the mesh with it; or the run ends, and the mesh stays
pub data Inserted : Type 0 where
  nowhere : Inserted
  inserted : ℕ → Mesh → Inserted
  full : Want → Inserted

-- ---- where a point may go

-- the cell is a triangle with p strictly inside
unfoldable pub holds : Mesh → Node → Cell → Bool
holds m p (tri t) = point_strictly_inside (node_at m t.n0) (node_at m t.n1) (node_at m t.n2) p
holds m p (quad q) = false

-- p is not nearer than spacing to a node of the cell
unfoldable pub point_clear : Mesh → Node → Float → Cell → Bool
point_clear m p spacing c = all (λ v. not (dist p (node_at m v) ≺ spacing)) (nodes c)

-- p is not nearer than spacing to a node of the cell in a slot, if there is one
unfoldable pub slot_clear : Mesh → Node → Float → Option Live → Bool
slot_clear m p spacing none = true
slot_clear m p spacing (some x) = point_clear m p spacing x.cell

-- the first triangle that holds p: of the region around the seed, and then of all in the order of their slots
unfoldable pub holder : Mesh → ℕ → Node → Option Live
holder m seed p = find (λ x. holds m p x.cell) (live_region m seed p (insert_reach ⊗ m.bucket) ++ in_slot_order m.live)

-- ---- the split

-- a point added after the others
unfoldable pub with_point : Mesh → Node → Mesh
with_point m p =
    record { points = m.points ++ (p ∷ []); used = m.used; live = m.live; bucket = m.bucket; locked = m.locked; room = m.room; history = m.history }

-- the first third keeps the slot; the other two take new ones
unfoldable pub split_triangle : Mesh → ℕ → Tri → Node → Mesh
split_triangle m id t p =
    let v = length m.points in
    noting (was_split id p)
    (push_cell
    (push_cell (set_cell (with_point m p) id (tri (new_tri t.n0 t.n1 v))) (tri (new_tri t.n1 t.n2 v)))
    (tri (new_tri t.n2 t.n0 v)))

-- a triangle split at p, if a point and two slots are free and the entry fits the trace
unfoldable pub split : Settings → Mesh → Node → ℕ → Cell → Inserted
split s m p id (quad q) = nowhere
split s m p id (tri t) =
    let done = split_triangle m id t p in
    let entered = cond (in_room done) (inserted (length m.points) done) (full of_trace) in
    cond (leb s.capacity (length m.points)) (full of_points) (cond (ltb s.slots (m.used + 2)) (full of_slots) entered)

-- the triangle split where no node is too near
unfoldable pub split_clear : Settings → Mesh → Node → Float → Option Live → Inserted
split_clear s m p spacing none = nowhere
split_clear s m p spacing (some x) = cond (point_clear m p spacing x.cell) (split s m p x.slot x.cell) nowhere

-- the triangle that holds p is split where neither it nor the seed has a node too near
unfoldable pub insert_near : Settings → Mesh → ℕ → Node → Inserted
insert_near s m seed p =
    let spacing = node_spacing ⊗ m.bucket in
    let result = split_clear s m p spacing (holder m seed p) in
    cond (slot_clear m p spacing (cell_of m seed)) result nowhere

-- the point at a share of the target along n, with z 0.0
unfoldable pub along : Node → Vec → Float → Float → Node
along o n target share = flat (o.x ⊕ share ⊗ target ⊗ n.dx) (o.y ⊕ share ⊗ target ⊗ n.dy)

-- the first share that gives a place
unfoldable pub insert_by : Settings → Mesh → ℕ → Node → Vec → Float → List Float → Inserted
insert_by s m seed o n target [] = nowhere
insert_by s m seed o n target (share ∷ shares) =
    elim (insert_near s m seed (along o n target share)) [
      | nowhere ↦ insert_by s m seed o n target shares
      | inserted v m' ↦ inserted v m'
      | full w ↦ full w
    ]

-- the shares in their order
unfoldable pub insert_along : Settings → Mesh → ℕ → Node → Vec → Float → Inserted
insert_along s m seed o n target = insert_by s m seed o n target insert_shares
