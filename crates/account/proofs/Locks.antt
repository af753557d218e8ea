-- Which edges are locked is given once: no step of a run changes it.
use Rattle.std.specs.Prelude.{◌≡◌, ◌+◌, ◌∷◌}
use Rattle.laws.specs.Kit.{refl, ◌∙◌, ap, cond, Option, none, some, ℕ, ltb, leb, List, [], length, Float}
use Rattle.definition.specs.Floats.{◌⊗◌}
use Rattle.definition.specs.Numbers.{Settings, node_spacing, insert_shares}
use Rattle.definition.specs.Counts.{of_points, of_slots, of_trace}
use Rattle.definition.specs.Plane.{Node, Vec, Edge}
use Rattle.definition.specs.Cells.{Tri, Quad, Cell, tri, quad, Live, Mesh, cell_of, with_live, noting, set_cell, push_cell, remove_cells}
use Rattle.definition.specs.Flips.{set_tris, flip, recover}
use Rattle.definition.specs.Insertion.{Inserted, nowhere, inserted, full, point_clear, slot_clear, holder, with_point, split_triangle, split, split_clear, insert_near, along, insert_by, insert_along}
use Rattle.definition.specs.Trace.{in_room}
use Rattle.definition.specs.Attempt.{recover_all, replaced}
use Rattle.laws.specs.Bools.{cond_ok}
use Rattle.account.proofs.Flips.{flip_made}
use Rattle.account.proofs.Steps.{recover_ok, recover_all_ok}
use Rattle.account.specs.Locks.{LockedAs}

-- ---- one step
pub flip_locked : (m : Mesh) (e : Edge) (m' : Mesh) → flip m e ≡ some m' → m'.locked ≡ m.locked
unfolding set_tris set_cell with_live noting
flip_locked m e m' f = ap (λ n. n.locked) (flip_made m e m' f).after

pub split_locked : (m : Mesh) (id : ℕ) (t : Tri) (p : Node) → (split_triangle m id t p).locked ≡ m.locked
unfolding split_triangle push_cell set_cell with_live noting with_point
split_locked m id t p = refl

pub replaced_locked : (m : Mesh) (q : Quad) (cells : List Live) → (replaced m q cells).locked ≡ m.locked
unfolding replaced push_cell remove_cells with_live noting
replaced_locked m q cells = refl

-- ---- recovery
pub recover_locked : (m : Mesh) (u v : ℕ) → (recover m u v).mesh.locked ≡ m.locked
recover_locked m u v = recover_ok (λ n a. a.locked ≡ m.locked) (λ n a b e h i f. flip_locked a e b f ∙ h) 0 m u v refl

pub recover_all_locked : (m : Mesh) (es : List Edge) → (recover_all m es).mesh.locked ≡ m.locked
recover_all_locked m es = recover_all_ok (λ n a. a.locked ≡ m.locked) (λ n a b e h i f. flip_locked a e b f ∙ h) 0 m es refl

pub inserted_locked : (s : Settings) (m : Mesh) (p : Node) (id : ℕ) (c : Cell) → LockedAs m (split s m p id c)
unfolding split
inserted_locked s m p id (quad q) = tt
inserted_locked s m p id (tri t) =
    let done = split_triangle m id t p in
    let entered = cond (in_room done) (inserted (length m.points) done) (full of_trace) in
    let tight = ltb s.slots (m.used + 2) in
    cond_ok (LockedAs m) (leb s.capacity (length m.points)) (full of_points) (cond tight (full of_slots) entered) (λ z. tt)
    (λ z. cond_ok (LockedAs m) tight (full of_slots) entered (λ y. tt)
    (λ y. cond_ok (LockedAs m) (in_room done) (inserted (length m.points) done) (full of_trace) (λ r. split_locked m id t p) (λ r. tt)))

clear_locked : (s : Settings) (m : Mesh) (p : Node) (spacing : Float) (o : Option Live) → LockedAs m (split_clear s m p spacing o)
unfolding split_clear
clear_locked s m p spacing none = tt
clear_locked s m p spacing (some x) = cond_ok (LockedAs m) (point_clear m p spacing x.cell) (split s m p x.slot x.cell) nowhere (λ z. inserted_locked s m p x.slot x.cell) (λ z. tt)

pub near_locked : (s : Settings) (m : Mesh) (seed : ℕ) (p : Node) → LockedAs m (insert_near s m seed p)
unfolding insert_near
near_locked s m seed p =
    let spacing = node_spacing ⊗ m.bucket in
    cond_ok (LockedAs m) (slot_clear m p spacing (cell_of m seed)) (split_clear s m p spacing (holder m seed p)) nowhere (λ z. clear_locked s m p spacing (holder m seed p)) (λ z. tt)

by_locked : (s : Settings) (m : Mesh) (seed : ℕ) (o : Node) (n : Vec) (target : Float) (shares : List Float) → LockedAs m (insert_by s m seed o n target shares)
unfolding insert_by
by_locked s m seed o n target [] = tt
by_locked s m seed o n target (c ∷ cs) = go (insert_near s m seed (along o n target c)) refl (near_locked s m seed (along o n target c)) (by_locked s m seed o n target cs)
  where
    go : (r : Inserted) → insert_near s m seed (along o n target c) ≡ r → LockedAs m r → LockedAs m (insert_by s m seed o n target cs) → LockedAs m (insert_by s m seed o n target (c ∷ cs))
    go nowhere f h next = rw (f, insert_by) next
    go (inserted v m') f h next = rw (f, insert_by) h
    go (full w) f h next = rw (f, insert_by) tt

pub insert_locked : (s : Settings) (m : Mesh) (seed : ℕ) (o : Node) (n : Vec) (target : Float) → LockedAs m (insert_along s m seed o n target)
unfolding insert_along
insert_locked s m seed o n target = by_locked s m seed o n target insert_shares
