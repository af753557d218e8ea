-- A triangle split at a new point: what its three parts need, and the points slice with the new point.
use mathlib.Core.Path.{◌≡◌, refl, ap, sym, ◌∙◌}
use mathlib.Core.Logic.{◌≢◌}
use mathlib.Core.List.{List, [], ◌∷◌, ◌++◌}
use Prim.Native.Nat.{ℕ, ◌+◌, ◌*◌, ◌<◌}
use native.Mathlib.Omega.{arith}
use lib.ListN.{length, get_or, set, length-set, length-append}
use lib.Seq.{get_or-set_same, get_or-set_other}
use lib.Ieee.{Float, nan}
use Rattle.definition.specs.Floats.{0·0}
use Rattle.definition.specs.Plane.{Node, flat}
use Rattle.definition.specs.Cells.{Tri, was_split, Mesh, new_tri, new_live, noting, set_cell, push_cell, with_live}
use Rattle.definition.specs.Insertion.{with_point, split_triangle}
use Rattle.cells.specs.Rep.{Shape, Rep, Pts}
use Rattle.cells.specs.Walk.{node_in, CanSee}
use Rattle.meshes.specs.Changes.{CanSet, CanPush, tri_of_nodes}
use Rattle.cells.proofs.Points.{read_point, pts_as, pts_more}
use Rattle.cells.proofs.Slots.{rep_held, rep_see, tri_held, rep_noting}
use Rattle.crossings.proofs.Tris.{TriOk, tri_ok}
use Rattle.flips.specs.Nodes.{tri_read}
use Rattle.flips.specs.Split.{with_spot, HasRoom, CanSplit}
use Rattle.flips.proofs.Flips.{ok_shape, tri_path}

-- ---- the three parts

-- any point, where only the work slice counts
pub origin : Node
origin = flat 0·0 0·0

-- slot i was given out, and a b c are the nodes of its triangle
pub record Parts (m : Mesh) (i n a b c : ℕ) : Type 0 where
  pub given : i < m.used
  pub ok : TriOk n a b c

module _ (w : List ℕ) (s p : ℕ) (m : Mesh) (r : Rep w s p m) (i used n : ℕ) (k : CanSplit m i used n) where
  inside : i < m.used
  unfolding new_live
  inside = (rep_held w s p m r k.in_slot.has).inside

  pub split_see : CanSee w s i
  split_see = rep_see w s p m r i (omega (arith, inside, r.used))

  pub split_read : tri_read w s i ≡ k.in_slot.t
  split_read = tri_path w s i k.in_slot.t (tri_held w s p m r i k.in_slot)

  pub parts : (a b c : ℕ) → a ≡ node_in w s i 0 → b ≡ node_in w s i 1 → c ≡ node_in w s i 2 → Parts m i n a b c
  unfolding new_live
  parts a b c ea eb ec =
      let h = tri_held w s p m r i k.in_slot in
      let g = tri_ok (length m.points) k.in_slot.t (rep_held w s p m r k.in_slot.has).shape in
      let pa : a ≡ k.in_slot.t.n0 = ea ∙ h.n0 in
      let pb : b ≡ k.in_slot.t.n1 = eb ∙ h.n1 in
      let pc : c ≡ k.in_slot.t.n2 = ec ∙ h.n2 in
      record { given = inside; ok = rw (pa, pb, pc, ← k.count) g }

-- two nodes of the triangle and the new one
part_ok : (n a b : ℕ) → a < n → b < n → a ≢ b → TriOk (n + 1) a b n
part_ok n a b h g d =
    record { a_known = omega arith; b_known = omega arith; c_known = omega arith; ab = d; bc = λ e. omega (arith, e); ca = λ e. omega (arith, e) }

grown : (m : Mesh) (z : Node) (n : ℕ) → length m.points ≡ n → length (m.points ++ (z ∷ [])) ≡ n + 1
grown m z n e = length-append m.points (z ∷ []) ∙ (omega arith)

part_shape : (m : Mesh) (z : Node) (n a b : ℕ) → length m.points ≡ n → a < n → b < n → a ≢ b → Shape (length (m.points ++ (z ∷ []))) (tri_of_nodes a b n)
part_shape m z n a b e h g d = rw (grown m z n e) (ok_shape (n + 1) a b n (part_ok n a b h g d))

module _ (m : Mesh) (z : Node) (s p i used n a b c : ℕ) (k : CanSplit m i used n) (h : HasRoom s p used n) (o : Parts m i n a b c) where
  pub can_set : CanSet (with_point m z) i (tri_of_nodes a b n)
  unfolding with_point
  can_set = record { given = o.given; shape = part_shape m z n a b k.count o.ok.a_known o.ok.b_known o.ok.ab }

  pub can_push : CanPush (set_cell (with_point m z) i (tri_of_nodes a b n)) s used (tri_of_nodes b c n)
  unfolding with_point set_cell with_live
  can_push =
      record { next = sym k.given; free = omega (arith, h.slots); shape = part_shape m z n b c k.count o.ok.b_known o.ok.c_known o.ok.bc }

  pub can_push2 : CanPush (push_cell (set_cell (with_point m z) i (tri_of_nodes a b n)) (tri_of_nodes b c n)) s (used + 1) (tri_of_nodes c a n)
  unfolding with_point set_cell push_cell with_live
  can_push2 =
      record { next = omega (arith, k.given); free = omega (arith, h.slots); shape = part_shape m z n c a k.count o.ok.c_known o.ok.a_known o.ok.ca }

pub split_is : (w : List ℕ) (s p : ℕ) (m : Mesh) (z : Node) (i n a b c a' b' c' : ℕ) → length m.points ≡ n → a ≡ a' → b ≡ b' → c ≡ c'
    → Rep w s p (push_cell (push_cell (set_cell (with_point m z) i (tri_of_nodes a b n)) (tri_of_nodes b c n)) (tri_of_nodes c a n))
    → Rep w s p (split_triangle m i (new_tri a' b' c') z)
unfolding split_triangle new_tri
split_is w s p m z i n a b c a' b' c' e ea eb ec r =
    rw (e, ← ea, ← eb, ← ec)
    (rep_noting (was_split i z) (push_cell (push_cell (set_cell (with_point m z) i (tri_of_nodes a b n)) (tri_of_nodes b c n)) (tri_of_nodes c a n)) w s p r)

-- ---- the points slice

module _ (q : List Float) (n : ℕ) (x y : Float) where
  spot_kept : (j : ℕ) → j < 3 * n → get_or (with_spot q n x y) j nan ≡ get_or q j nan
  spot_kept j h =
      get_or-set_other (set (set q (3 * n) x) (3 * n + 1) y) (3 * n + 2) j 0·0 nan (λ e. omega (arith, e))
      ∙ (get_or-set_other (set q (3 * n) x) (3 * n + 1) j y nan (λ e. omega (arith, e)) ∙ get_or-set_other q (3 * n) j x nan (λ e. omega (arith, e)))

  spot_length : length (with_spot q n x y) ≡ length q
  spot_length = simp length-set

  spot_new : 3 * n + 2 < length q → read_point (with_spot q n x y) n ≡ flat x y
  unfolding flat
  spot_new h =
      let q1 = set q (3 * n) x in
      let q2 = set q1 (3 * n + 1) y in
      let l1 : length q1 ≡ length q = simp length-set in
      let l2 : length q2 ≡ length q = simp length-set in
      let e0 : get_or (set q2 (3 * n + 2) 0·0) (3 * n) nan ≡ x =
      get_or-set_other q2 (3 * n + 2) (3 * n) 0·0 nan (λ e. omega (arith, e))
      ∙ (get_or-set_other q1 (3 * n + 1) (3 * n) y nan (λ e. omega (arith, e)) ∙ get_or-set_same q (3 * n) x nan (omega arith)) in
      let e1 : get_or (set q2 (3 * n + 2) 0·0) (3 * n + 1) nan ≡ y =
      get_or-set_other q2 (3 * n + 2) (3 * n + 1) 0·0 nan (λ e. omega (arith, e)) ∙ get_or-set_same q1 (3 * n + 1) y nan (omega (arith, l1)) in
      let e2 : get_or (set q2 (3 * n + 2) 0·0) (3 * n + 2) nan ≡ 0·0 = get_or-set_same q2 (3 * n + 2) 0·0 nan (omega (arith, l2)) in
      rw (e0, e1, e2)

split_points : (m : Mesh) (i : ℕ) (t : Tri) (z : Node) → (with_point m z).points ≡ (split_triangle m i t z).points
unfolding split_triangle noting push_cell set_cell with_point with_live
split_points m i t z = refl

pub pts_split : (q q' : List Float) (p : ℕ) (m : Mesh) (i n : ℕ) (t : Tri) (x y : Float) → Pts q p m → length m.points ≡ n → n < p → q' ≡ with_spot q n x y
    → Pts q' p (split_triangle m i t (flat x y))
pts_split q q' p m i n t x y r e h z =
    let l : length q' ≡ length q = ap length z ∙ spot_length q n x y in
    let k : (j : ℕ) → j < 3 * length m.points → get_or q' j nan ≡ get_or q j nan = λ j b. rw z (spot_kept q n x y j (omega arith)) in
    let f : read_point q' (length m.points) ≡ flat x y = rw (z, e) (spot_new q n x y (omega (arith, r.fits))) in
    pts_as q' p (with_point m (flat x y)) (split_triangle m i t (flat x y)) (split_points m i t (flat x y)) (pts_more q q' p m (flat x y) r (omega arith) l k (sym f))
