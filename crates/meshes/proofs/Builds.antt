-- The mesh of the given triangles: empty rings, then triangle after triangle.
use Rattle.std.specs.Prelude.{◌≡◌, ◌+◌, ◌*◌, ◌<◌, ◌≤◌, ◌∷◌, ◌++◌}
use Rattle.laws.specs.Kit.{refl, sym, ◌∙◌, ap, Bool, false, ℕ, suc, arith, List, [], length, get_or, Float}
use native.Mathlib.Numerals.{add-one}
use Rattle.rings.specs.Rings.{OpenedFrom}
use Rattle.rings.proofs.Families.{opened}
use Rattle.definition.specs.Floats.{0·0}
use Rattle.definition.specs.Lists.{table, numbers, below}
use Rattle.definition.specs.Numbers.{Settings}
use Rattle.definition.specs.Plane.{Edge}
use Rattle.definition.specs.Cells.{Tri, Cell, tri, Live, Mesh, new_live, with_live, push_cell}
use Rattle.definition.specs.Call.{tri_at, first_tris, first_points}
use Rattle.definition.specs.Front.{in_slots, new_mesh}
use Rattle.laws.specs.Lists.{table_length, numbers_length, numbers_snoc}
use Rattle.laws.specs.Cells.{points_length}
use Rattle.laws.specs.Frames.{Keeps, Only, Zeros, keeps_trans, keeps_more}
use Rattle.cells.specs.Layout.{rings_at, codes, notes_at, even_at, mesh_end}
use Rattle.cells.specs.Rep.{corners, Room, Rep}
use Rattle.meshes.specs.Changes.{CanPush, Turns, tri_of_nodes}
use Rattle.meshes.specs.Build.{IsNew, CanBuild, Empties}
use Rattle.cells.proofs.Points.{table_snoc}
use Rattle.cells.proofs.Frames.{rep_as, keeps_kept}
use Rattle.cells.proofs.Notes.{note_none, grown_same}

-- ---- empty

-- what a range cleared within the mesh's own areas keeps
only_keeps : (w w' : List ℕ) (s p a b : ℕ) → b ≤ mesh_end s p → Only w w' a b → Keeps w w' (mesh_end s p)
only_keeps w w' s p a b h o = record { len = o.len; high = λ i l. o.high i (omega arith) }

-- the words from a on, n of them, are 0, and nothing else changed
abbrev Wiped : List ℕ → List ℕ → ℕ → ℕ → Type 0
Wiped w w' a n = Only w w' a (a + n) × ((k : ℕ) → k < n → get_or w' (a + k) 0 ≡ 0)

pub empty_done : (w w1 w2 w3 w4 : List ℕ) (s p a b : ℕ) → a ≡ notes_at s p → b ≡ even_at s p → Room w s p → Zeros w w1 s → Wiped w1 w2 a p → Wiped w2 w3 b s
    → OpenedFrom w3 w4 (rings_at s) (codes s p) (4 * s) → Empties w w4 s p
unfolding corners
empty_done w w1 w2 w3 w4 s p a b ea eb r z y x o =
    let l1 : length w1 ≡ length w = z.keeps.len in
    let l2 : length w2 ≡ length w1 = y.0.len in
    let l3 : length w3 ≡ length w2 = x.0.len in
    let l4 : length w4 ≡ length w3 = o.kept.len in
    record {
      rep = λ m u q e.
          record {
            room = record { fits = omega (arith, r.fits); small = r.small };
            used = u;
            points = q;
            distinct = rw e tt;
            cells = rw e tt;
            rings = rw e (opened w3 w4 (rings_at s) (codes s p) (4 * s) (record { fits = omega (arith, r.fits); small = r.small; first = omega arith }) o);
            dead = λ i h out. o.kept.low i (omega arith) ∙ x.0.low i (omega arith) ∙ y.0.low i (omega arith) ∙ z.zero i h;
            notes = λ v h. note_none w4 s p m v (rw (← ea) (o.kept.high (a + v) (omega arith) ∙ x.0.low (a + v) (omega arith) ∙ y.1 v h));
            even = λ h q.
                let c : b + 0 ≡ even_at s p = omega arith in
                let g : get_or w3 (even_at s p) 0 ≡ 0 = rw c at (x.1 0 h) in
                absurd (omega (arith, q, o.kept.high (even_at s p) (omega arith), g));
          };
      keeps = keeps_trans w w3 w4 (mesh_end s p)
          (keeps_trans w w2 w3 (mesh_end s p)
          (keeps_trans w w1 w2 (mesh_end s p) (keeps_more w w1 s (mesh_end s p) (omega arith) z.keeps) (only_keeps w1 w2 s p a (a + p) (omega arith) y.0))
          (only_keeps w2 w3 s p b (b + s) (omega arith) x.0))
          (keeps_kept w3 w4 (rings_at s) (codes s p) (mesh_end s p) (omega arith) o.kept);
    }

-- ---- the lists

pub tris_length : (n : ℕ) (xs : List ℕ) → length (first_tris n xs) ≡ n
unfolding first_tris below
tris_length n xs = table_length (tri_at xs) (numbers 0 n) ∙ numbers_length 0 n

tris_snoc : (n : ℕ) (xs : List ℕ) → first_tris (suc n) xs ≡ first_tris n xs ++ tri_at xs n ∷ []
unfolding first_tris below
tris_snoc n xs =
    let e : 0 + n ≡ n = omega arith in
    ap (table (tri_at xs)) (numbers_snoc 0 n) ∙ table_snoc (tri_at xs) (numbers 0 n) (0 + n) ∙ (rw e)

slots_snoc : (k : ℕ) (ts : List Tri) (t : Tri) → in_slots k (ts ++ t ∷ []) ≡ in_slots k ts ++ new_live (k + length ts) (tri t) ∷ []
unfolding in_slots
slots_snoc k [] t = let e : k + 0 ≡ k = omega arith in rw e
slots_snoc k (x ∷ ts) t =
    let e : suc k + length ts ≡ k + suc (length ts) = omega arith in
    ap (λ (l : List Live). new_live k (tri x) ∷ l) (slots_snoc (suc k) ts t ∙ (rw e))

live_snoc : (n : ℕ) (xs : List ℕ) → in_slots 0 (first_tris (suc n) xs) ≡ in_slots 0 (first_tris n xs) ++ new_live n (tri (tri_at xs n)) ∷ []
live_snoc n xs =
    let e : 0 + length (first_tris n xs) ≡ n = omega (arith, tris_length n xs) in
    ap (in_slots 0) (tris_snoc n xs) ∙ slots_snoc 0 (first_tris n xs) (tri_at xs n) ∙ ap (λ (k : ℕ). in_slots 0 (first_tris n xs) ++ new_live k (tri (tri_at xs n)) ∷ []) e

-- ---- triangle after triangle

-- some mesh of the first n triangles over g points
abbrev pub sample : List ℕ → ℕ → ℕ → Mesh
sample xs n g = record { points = first_points g []; used = n; live = in_slots 0 (first_tris n xs); bucket = 0·0; locked = λ e. false; room = 0; history = [] }

pub sample_new : (xs : List ℕ) (n g : ℕ) → IsNew (sample xs n g) xs n g
sample_new xs n g = record { points = points_length g []; used = refl; live = refl }

-- the mesh before the last triangle
before : Mesh → List ℕ → ℕ → Mesh
before m xs n = with_live m n (in_slots 0 (first_tris n xs))

module _ (w : List ℕ) (s p : ℕ) (xs : List ℕ) (n g i a b c : ℕ) (can : CanBuild w s p xs n g) (h : i < n)
    (ea : a ≡ get_or xs (3 * i) 0) (eb : b ≡ get_or xs (3 * i + 1) 0) (ec : c ≡ get_or xs (3 * i + 2) 0) where
  cell_is : tri_of_nodes a b c ≡ tri (tri_at xs i)
  unfolding tri_at
  cell_is = rw (← ea, ← eb, ← ec)

  pub build_can : (m : Mesh) → IsNew m xs i g → CanPush m s i (tri_of_nodes a b c)
  build_can m k =
      record {
        next = sym k.used;
        free = omega (arith, can.slots);
        shape = rw (cell_is, k.points) (can.given i h);
      }

  pub build_more : (w1 w2 : List ℕ) → ((m : Mesh) → IsNew m xs i g → Rep w1 s p m)
      → Turns w1 w2 s p (λ m. CanPush m s i (tri_of_nodes a b c)) (λ m. push_cell m (tri_of_nodes a b c)) → (m : Mesh) → IsNew m xs (i + 1) g → Rep w2 s p m
  unfolding before with_live push_cell
  build_more w1 w2 f t m k =
      let k0 : IsNew (before m xs i) xs i g = record { points = k.points; used = refl; live = refl } in
      let r = t.rep (before m xs i) (f (before m xs i) k0) (build_can (before m xs i) k0) in
      let u : m.used ≡ i + 1 = k.used in
      let e : in_slots 0 (first_tris i xs) ++ new_live i (tri_of_nodes a b c) ∷ [] ≡ m.live =
      ap (λ (x : Cell). in_slots 0 (first_tris i xs) ++ new_live i x ∷ []) cell_is ∙ sym (live_snoc i xs) ∙ ap (λ (j : ℕ). in_slots 0 (first_tris j xs)) (sym (add-one i)) ∙ sym k.live in
      rep_as w2 s p (push_cell (before m xs i) (tri_of_nodes a b c)) m r (omega arith) (omega (arith, can.slots)) (grown_same (push_cell (before m xs i) (tri_of_nodes a b c)) m refl) (omega (arith, can.points, k.points)) e

-- the given mesh of the definition is such a mesh
pub new_is : (st : Settings) (locked : Edge → Bool) (xs : List ℕ) (q : List Float) (n g : ℕ) → IsNew (new_mesh st locked (first_tris n xs) (first_points g q)) xs n g
unfolding new_mesh
new_is st locked xs q n g = record { points = points_length g q; used = tris_length n xs; live = refl }

-- with no triangle there is no live cell
pub new_none : (m : Mesh) (xs : List ℕ) (g : ℕ) → IsNew m xs 0 g → m.live ≡ []
unfolding first_tris below numbers table in_slots
new_none m xs g k = k.live
