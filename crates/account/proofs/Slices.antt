-- What is written at the front of a slice is read back, whatever the slice held.
use Rattle.std.specs.Prelude.{◌≡◌, ◌+◌, ◌*◌, ◌∷◌, ◌++◌}
use Rattle.laws.specs.Kit.{refl, sym, ◌∙◌, ap, ℕ, suc, arith, List, [], append_assoc, length, get_or, take, drop, length-append, Float}
use Rattle.std.proofs.Common.{get_or-append-add}
use Rattle.std.proofs.Math.Seq.{take-append_seam}
use Rattle.definition.specs.Lists.{flat_map, table, numbers, below}
use Rattle.definition.specs.Floats.{0·0}
use Rattle.definition.specs.Plane.{Node}
use Rattle.definition.specs.Cells.{Tri, Quad, new_tri, tri_nodes}
use Rattle.definition.specs.Front.{Result}
use Rattle.definition.specs.Call.{Lent, Lengths, coordinates, onto, point_at, tri_at, quad_at, quad_words, first_points, first_tris, first_quads, lengths, written}

-- ---- rows of one width
module _ {A B : Type 0} (w : ℕ) (read : List B → ℕ → A) (write : A → List B) (wide : (a : A) → length (write a) ≡ w)
    (back : (pre rest : List B) (i : ℕ) (a : A) → length pre ≡ w * i → read (pre ++ (write a ++ rest)) i ≡ a) where
  read_from : (pre rest : List B) (i : ℕ) (xs : List A) → length pre ≡ w * i → table (read (pre ++ (flat_map write xs ++ rest))) (numbers i (length xs)) ≡ xs
  unfolding table numbers flat_map
  read_from pre rest i [] e = refl
  read_from pre rest i (a ∷ xs) e =
      let more = flat_map write xs in
      let one : pre ++ ((write a ++ more) ++ rest) ≡ pre ++ (write a ++ (more ++ rest)) = ap (λ l. pre ++ l) (append_assoc (write a) more rest) in
      let two : pre ++ ((write a ++ more) ++ rest) ≡ (pre ++ write a) ++ (more ++ rest) = one ∙ sym (append_assoc pre (write a) (more ++ rest)) in
      let head : read (pre ++ ((write a ++ more) ++ rest)) i ≡ a = ap (λ l. read l i) one ∙ back pre (more ++ rest) i a e in
      let tail : table (read (pre ++ ((write a ++ more) ++ rest))) (numbers (suc i) (length xs)) ≡ xs =
      ap (λ l. table (read l) (numbers (suc i) (length xs))) two ∙ read_from (pre ++ write a) rest (suc i) xs (omega (arith, length-append pre (write a), wide a)) in
      λ j. head j ∷ tail j

  -- the rows are read back
  pub read_back : (xs : List A) (old : List B) → table (read (onto (flat_map write xs) old)) (below (length xs)) ≡ xs
  unfolding onto below
  read_back xs old = read_from [] (drop (length (flat_map write xs)) old) 0 xs (omega arith)

-- the entry at a place past what comes before
entry : {B : Type 0} (d : B) (pre l : List B) (n k : ℕ) → n ≡ length pre + k → get_or (pre ++ l) n d ≡ get_or l k d
entry d pre l n k e = ap (λ i. get_or (pre ++ l) i d) e ∙ get_or-append-add pre l k d

-- ---- points, triangles, quads, numbers
-- of each list
pub points_back : (ps : List Node) (old : List Float) → first_points (length ps) (onto (flat_map coordinates ps) old) ≡ ps
unfolding first_points coordinates point_at
points_back = read_back 3 point_at coordinates (λ p. refl)
    (λ pre rest i p e.
    let l = p.x ∷ p.y ∷ p.z ∷ rest in
    let e0 = entry 0·0 pre l (3 * i) 0 (omega arith) in
    let e1 = entry 0·0 pre l (3 * i + 1) 1 (omega arith) in
    let e2 = entry 0·0 pre l (3 * i + 2) 2 (omega arith) in
    λ j. record { x = e0 j; y = e1 j; z = e2 j })

pub tris_back : (ts : List Tri) (old : List ℕ) → first_tris (length ts) (onto (flat_map tri_nodes ts) old) ≡ ts
unfolding first_tris tri_nodes tri_at new_tri
tris_back = read_back 3 tri_at tri_nodes (λ t. refl)
    (λ pre rest i t e.
    let l = t.n0 ∷ t.n1 ∷ t.n2 ∷ rest in
    let e0 = entry 0 pre l (3 * i) 0 (omega arith) in
    let e1 = entry 0 pre l (3 * i + 1) 1 (omega arith) in
    let e2 = entry 0 pre l (3 * i + 2) 2 (omega arith) in
    λ j. record { n0 = e0 j; n1 = e1 j; n2 = e2 j })

pub quads_back : (qs : List Quad) (old : List ℕ) → first_quads (length qs) (onto (flat_map quad_words qs) old) ≡ qs
unfolding first_quads quad_words quad_at
quads_back = read_back 8 quad_at quad_words (λ q. refl)
    (λ pre rest i q e.
    let l = q.n0 ∷ q.n1 ∷ q.n2 ∷ q.n3 ∷ q.edge.0 ∷ q.edge.1 ∷ q.round ∷ q.replaced ∷ rest in
    let e0 = entry 0 pre l (8 * i) 0 (omega arith) in
    let e1 = entry 0 pre l (8 * i + 1) 1 (omega arith) in
    let e2 = entry 0 pre l (8 * i + 2) 2 (omega arith) in
    let e3 = entry 0 pre l (8 * i + 3) 3 (omega arith) in
    let e4 = entry 0 pre l (8 * i + 4) 4 (omega arith) in
    let e5 = entry 0 pre l (8 * i + 5) 5 (omega arith) in
    let e6 = entry 0 pre l (8 * i + 6) 6 (omega arith) in
    let e7 = entry 0 pre l (8 * i + 7) 7 (omega arith) in
    λ j. record { n0 = e0 j; n1 = e1 j; n2 = e2 j; n3 = e3 j; edge = (e4 j, e5 j); round = e6 j; replaced = e7 j })

pub numbers_back : (ns old : List ℕ) → take (length ns) (onto ns old) ≡ ns
unfolding onto
numbers_back ns old = take-append_seam ns (drop (length ns) old)

-- ---- the lists that a finished run wrote
module _ (r : Result) (l exit : Lent) (n : Lengths) (sizes : n ≡ lengths r) (wrote : exit ≡ written r.points r.quads r.triangles r.sizes r.trace l) where
  -- each list is the run's
  pub read_points : first_points n.points exit.points ≡ r.points
  unfolding lengths written
  read_points = ap (λ k. first_points k.points exit.points) sizes ∙ ap (λ x. first_points (length r.points) x.points) wrote ∙ points_back r.points l.points

  pub read_quads : first_quads n.quads exit.quads ≡ r.quads
  unfolding lengths written
  read_quads = ap (λ k. first_quads k.quads exit.quads) sizes ∙ ap (λ x. first_quads (length r.quads) x.quads) wrote ∙ quads_back r.quads l.quads

  pub read_triangles : first_tris n.triangles exit.triangles_out ≡ r.triangles
  unfolding lengths written
  read_triangles =
      ap (λ k. first_tris k.triangles exit.triangles_out) sizes ∙ ap (λ x. first_tris (length r.triangles) x.triangles_out) wrote ∙ tris_back
      r.triangles l.triangles_out

  pub read_sizes : take n.components exit.components ≡ r.sizes
  unfolding lengths written
  read_sizes = ap (λ k. take k.components exit.components) sizes ∙ ap (λ x. take (length r.sizes) x.components) wrote ∙ numbers_back r.sizes l.components
