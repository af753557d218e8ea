-- The numbers of sides, put into places and sorted, tell which edges the cells have.
use mathlib.Core.Path.{◌≡◌, refl, sym, ap, ap₂, ◌∙◌}
use mathlib.Core.Bool.{Bool, true, false, ◌||◌}
use mathlib.Core.List.{List, [], ◌∷◌, ◌++◌}
use Prim.Native.Nat.{ℕ, zero, suc, ◌+◌, ◌*◌, ◌-◌, ◌/◌, ◌≤◌, ◌<◌, min, max}
use native.Mathlib.Decide.{dec_lt}
use native.Mathlib.Omega.{arith}
use lib.Dec.{ltb, eqb}
use borrow.Author.Tests.{lt-ltb, le-ltb, eqb-true, eq-eqb}
use Rattle.definition.specs.Lists.{any, flat_map, table, numbers, sort}
use Rattle.definition.specs.Plane.{Edge}
use Rattle.definition.specs.Cells.{Tri, Quad, key, same_edge, tri_edges, quad_edges, has_edge_in}
use Rattle.definition.specs.Call.{first_tris}
use Rattle.laws.specs.Bools.{same_bool, both}
use Rattle.laws.specs.Lists.{in_any, any_in, sort_in, in_sort}
use Rattle.sorting.specs.Climbs.{climbs}
use Rattle.sorting.specs.Digits.{unit}
use Rattle.sorting.specs.Places.{key_at, SortableBy, Sorted}
use Rattle.sorting.specs.Rows.{row, row_split, row_same}
use Rattle.balance.specs.Sides.{tri_sides, quad_sides}
use Rattle.balance.specs.Codes.{next, side_at, edge, code}
use Rattle.balance.specs.Places.{Small, Placed}
use Rattle.balance.specs.Promise.{first_fours}
use Rattle.balance.proofs.Corners.{next_within, tris_row, quads_row}
use Rattle.lost_joints.specs.Filed.{has_key, cell_edges, Fileable, Filed}

-- ---- a test of some element

any_append : {A : Type 0} (p : A → Bool) (xs ys : List A) → any p (xs ++ ys) ≡ (any p xs || any p ys)
unfolding any
any_append p [] ys = refl
any_append p (x ∷ xs) ys = ap (λ b. p x || b) (any_append p xs ys) ∙ regroup (p x) (any p xs) (any p ys)
  where
    regroup : (a b c : Bool) → (a || (b || c)) ≡ ((a || b) || c)
    regroup true b c = refl
    regroup false b c = refl

any_flat : {A B C : Type 0} (p : B → Bool) (q : C → Bool) (f : A → List B) (g : A → List C) → ((x : A) → any p (f x) ≡ any q (g x)) → (xs : List A) → any p (flat_map f xs) ≡ any q (flat_map g xs)
unfolding flat_map any
any_flat p q f g h [] = refl
any_flat p q f g h (x ∷ xs) = any_append p (f x) (flat_map f xs) ∙ ap₂ (λ a b. a || b) (h x) (any_flat p q f g h xs) ∙ sym (any_append q (g x) (flat_map g xs))

any_row : {A B : Type 0} (p : A → Bool) (q : B → Bool) (f : ℕ → A) (g : ℕ → B) (a n : ℕ) → ((j : ℕ) → a ≤ j → j < a + n → p (f j) ≡ q (g j)) → any p (row f a n) ≡ any q (row g a n)
unfolding table numbers any
any_row p q f g a zero h = refl
any_row p q f g a (suc n) h = ap₂ (λ a b. a || b) (h a (omega arith) (omega arith)) (any_row p q f g (suc a) n (λ j l m. h j (omega arith) (omega arith)))

any_sort : {A : Type 0} (p : A → Bool) (b : A → A → Bool) (xs : List A) → any p (sort b xs) ≡ any p xs
any_sort p b xs = same_bool _ _
    (λ e. let r = any_in p (sort b xs) e in in_any p xs (r.0, sort_in b r.0 xs r.1, r.2))
    (λ e. let r = any_in p xs e in in_any p (sort b xs) (r.0, in_sort b r.0 xs r.1, r.2))

-- ---- sides as numbers

-- both nodes are below 2^20
abbrev Low : Edge → Type 0
Low s = (s.0 < 1048576) × (s.1 < 1048576)

-- half of a side's number is its edge's
half : (s : Edge) → code s / 2 ≡ edge (min s.0 s.1) (max s.0 s.1)
unfolding code
half s = elim (dec_lt s.0 s.1) [
  | yes l ↦ rw (lt-ltb s.0 s.1 l) (omega arith)
  | no l ↦ let m : s.1 ≤ s.0 = omega arith in rw (le-ltb s.0 s.1 m) (omega arith)
]

code_small : (s : Edge) → Low s → code s < 2199023255552
code_small s h = omega (arith, half s)

-- the test of a number is that of an edge
tests : (u v : ℕ) → v < 1048576 → (s : Edge) → Low s → eqb (code s / 2) (edge u v) ≡ same_edge (u, v) (key s.0 s.1)
unfolding same_edge key
tests u v m s h =
    same_bool _ _
    (λ e. let k = sym (half s) ∙ eqb-true (code s / 2) (edge u v) e in
    let a : u ≡ min s.0 s.1 = omega arith in
    let b : v ≡ max s.0 s.1 = omega arith in
    rw (eq-eqb u (min s.0 s.1) a, eq-eqb v (max s.0 s.1) b) refl)
    (λ e. let r = both (eqb u (min s.0 s.1)) (eqb v (max s.0 s.1)) e in
    let a = eqb-true u (min s.0 s.1) r.0 in
    let b = eqb-true v (max s.0 s.1) r.1 in
    eq-eqb (code s / 2) (edge u v) (half s ∙ ap₂ edge (sym a) (sym b)))

-- ---- the sides of one list of cells

module _ (cells : List ℕ) (c n : ℕ) (l : 3 ≤ c) (m : c ≤ 4) (small : Small cells (c * n)) where
  low : (j : ℕ) → j < c * n → Low (side_at cells c j)
  unfolding side_at
  low j h = (small j h, small (next c j) (next_within c j n l m h))

  module _ (w : List ℕ) (at : ℕ) (there : (j : ℕ) → j < c * n → key_at w (at + j) ≡ code (side_at cells c j)) where
    part : (u v : ℕ) → v < 1048576
        → any (λ x. eqb (x / 2) (edge u v)) (row (key_at w) at (c * n)) ≡ any (λ s. same_edge (u, v) (key s.0 s.1)) (row (side_at cells c) 0 (c * n))
    part u v k =
        ap (any (λ x. eqb (x / 2) (edge u v))) (row_same (key_at w) (λ j. code (side_at cells c j)) at 0 (c * n) (λ j h. there j h ∙ ap (λ z. code (side_at cells c z)) (let e : j ≡ 0 + j = omega arith in e)))
        ∙ any_row (λ x. eqb (x / 2) (edge u v)) (λ s. same_edge (u, v) (key s.0 s.1)) (λ j. code (side_at cells c j)) (side_at cells c) 0 (c * n) (λ j a b. tests u v k (side_at cells c j) (low j (omega arith)))

    part_small : (j : ℕ) → j < c * n → key_at w (at + j) < 2199023255552
    part_small j h = omega (arith, there j h, code_small (side_at cells c j) (low j h))

-- ---- both lists

module _ (quads : List ℕ) (q : ℕ) (left : List ℕ) (t : ℕ) (w : List ℕ) (can : Fileable quads q left t w)
    (w₁ w₂ : List ℕ) (one : Placed quads 4 q false w w₁ 0) (two : Placed left 3 t false w₁ w₂ (4 * q)) where
  abbrev N : ℕ
  N = 4 * q + 3 * t

  in_quads : (j : ℕ) → j < 4 * q → key_at w₂ (0 + j) ≡ code (side_at quads 4 j)
  in_quads j h = two.kept (0 + j) (omega arith) ∙ one.there j h

  pub sortable : SortableBy w₂ N 3
  unfolding unit
  sortable =
      record {
        room = omega (arith, one.size, two.size, can.work);
        digits = omega arith;
        small = λ i h. elim (dec_lt i (4 * q)) [
          | yes l ↦
              let e : 0 + i ≡ i = omega arith in
              let k = part_small quads 4 q (omega arith) (omega arith) can.quads_nodes w₂ 0 in_quads i l in
              omega (arith, ap (key_at w₂) e)
          | no l ↦
              let j = i - 4 * q in
              let e : 4 * q + j ≡ i = omega arith in
              let k = part_small left 3 t (omega arith) (omega arith) can.left_nodes w₂ (4 * q) two.there j (omega arith) in
              omega (arith, ap (key_at w₂) e)
        ];
      }

  tri_any : (e : Edge) (t : Tri) → any (λ s. same_edge e (key s.0 s.1)) (tri_sides t) ≡ any (same_edge e) (tri_edges t)
  unfolding any tri_sides tri_edges
  tri_any e t = refl

  quad_any : (e : Edge) (p : Quad) → any (λ s. same_edge e (key s.0 s.1)) (quad_sides p) ≡ any (same_edge e) (quad_edges p)
  unfolding any quad_sides quad_edges
  quad_any e p = refl

  pub filed : (w₃ : List ℕ) → Sorted w₂ w₃ N → Filed (cell_edges quads q left t) N w₃
  unfolding has_key cell_edges has_edge_in
  filed w₃ sorted =
      record {
        ordered = record { room = omega (arith, one.size, two.size, sorted.size, can.work); ascends = climbs w₂ w₃ N sorted };
        finds = λ u v l m.
            let p : ℕ → Bool = λ x. eqb (x / 2) (edge u v) in
            let e : Edge = (u, v) in
            let z : 0 + 4 * q ≡ 4 * q = omega arith in
            ap (any p) sorted.there ∙ any_sort p ltb (row (key_at w₂) 0 N)
            ∙ ap (any p) (row_split (key_at w₂) 0 (4 * q) (3 * t)) ∙ any_append p (row (key_at w₂) 0 (4 * q)) (row (key_at w₂) (0 + 4 * q) (3 * t))
            ∙ ap₂ (λ a b. a || b)
            (part quads 4 q (omega arith) (omega arith) can.quads_nodes w₂ 0 in_quads u v m ∙ ap (any (λ s. same_edge e (key s.0 s.1))) (quads_row quads q)
            ∙ any_flat (λ s. same_edge e (key s.0 s.1)) (same_edge e) quad_sides quad_edges (quad_any e) (first_fours q quads))
            (ap (λ y. any p (row (key_at w₂) y (3 * t))) z ∙ part left 3 t (omega arith) (omega arith) can.left_nodes w₂ (4 * q) two.there u v m ∙ ap (any (λ s. same_edge e (key s.0 s.1))) (tris_row left t)
            ∙ any_flat (λ s. same_edge e (key s.0 s.1)) (same_edge e) tri_sides tri_edges (tri_any e) (first_tris t left))
            ∙ sym (any_append (same_edge e) (flat_map quad_edges (first_fours q quads)) (flat_map tri_edges (first_tris t left)));
      }
