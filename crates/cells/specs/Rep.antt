-- The memory stands for the mesh, for s slots and p points of capacity.
use Rattle.std.specs.Prelude.{◌≡◌, false, List, [], ◌∷◌, ◌++◌, ℕ, suc, ◌+◌, ◌*◌, ◌^◌, ◌<◌, ◌≤◌, eqb, length, get_or, Float}
use Rattle.rings.specs.Rings.{Out, Distinct, Below, Family, pick}
use Rattle.definition.specs.Cells.{Tri, Quad, Cell, tri, quad, Live, Mesh, nodes, new_live, tris_of}
use Rattle.definition.specs.Components.{odd_one}
use Rattle.definition.specs.Call.{first_points}
use Rattle.cells.specs.Layout.{nodes_at, rings_at, codes, even_at}
use Rattle.cells.specs.Notes.{NoteAt}

-- ---- a cell

-- nodes distinct and below n
pub record Shape (n : ℕ) (t : Cell) : Type 0 where
  pub distinct : Distinct (nodes t)
  pub known : Below n (nodes t)

-- slot i has the cell's kind, which is how many nodes it has, and its nodes
pub record CellAt (w : List ℕ) (s i : ℕ) (t : Cell) : Type 0 where
  pub kind : get_or w i 0 ≡ length (nodes t)
  pub node : (k : ℕ) → k < length (nodes t) → get_or w (nodes_at s + 4 * i + k) 0 ≡ get_or (nodes t) k 0

-- a live cell in a slot below k, with nodes below n
pub record Held (w : List ℕ) (s k n : ℕ) (x : Live) : Type 0 where
  pub inside : x.slot < k
  pub shape : Shape n x.cell
  pub at : CellAt w s x.slot x.cell

-- each live cell is in a slot below k, with nodes below n
abbrev pub Cells : List ℕ → ℕ → ℕ → ℕ → List Live → Type 0
Cells w s k n [] = Unit {0}
Cells w s k n (x ∷ l) = Held w s k n x × Cells w s k n l

-- the slots of live cells
abbrev pub slots : List Live → List ℕ
slots [] = []
slots (x ∷ l) = x.slot ∷ slots l

-- the cell is in the list
pub data Has (x : Live) : List Live → Type 0 where
  here : {l : List Live} → Has x (x ∷ l)
  there : {y : Live} {l : List Live} → Has x l → Has x (y ∷ l)

-- ---- corners

-- of the nodes from place k on, the codes of those that are v
unfoldable pub at_node : ℕ → ℕ → ℕ → List ℕ → List ℕ
at_node v c k [] = []
at_node v c k (x ∷ l) = pick (eqb x v) (c + k) ++ at_node v c (suc k) l

-- the corners at v of a cell in slot i
abbrev pub cell_corners : ℕ → ℕ → Cell → List ℕ
cell_corners v i t = at_node v (4 * i) 0 (nodes t)

-- the corners at v of all live cells, in the order of the cells
unfoldable pub corners : List Live → ℕ → List ℕ
corners [] v = []
corners (x ∷ l) v = cell_corners v x.slot x.cell ++ corners l v

-- ---- the mesh

-- 64 words a slot and 8 a point, and every code fits a word
pub record Room (w : List ℕ) (s p : ℕ) : Type 0 where
  pub fits : 64 * s + 8 * p ≤ length w
  pub small : codes s p ≤ 2 ^ 32

-- nothing is noted of the components
abbrev pub Uneven : List ℕ → ℕ → ℕ → Type 0
Uneven w s p = get_or w (even_at s p) 0 ≡ 0

-- no component of the triangles is odd
abbrev pub NoneOdd : Mesh → Type 0
NoneOdd m = odd_one (tris_of m.live) ≡ false

-- Live slots are distinct and were given out; each live cell is stored, its nodes distinct and among the points;
-- the ring of v has its corners in the order of the live cells; a slot that is not live has kind 0;
-- every note is true, also that of the components.
pub record Rep (w : List ℕ) (s p : ℕ) (m : Mesh) : Type 0 where
  pub room : Room w s p
  pub used : m.used ≤ s
  pub points : length m.points ≤ p
  pub distinct : Distinct (slots m.live)
  pub cells : Cells w s m.used (length m.points) m.live
  pub rings : Family w (rings_at s) (codes s p) (4 * s) (corners m.live)
  pub dead : (i : ℕ) → i < s → Out i (slots m.live) → get_or w i 0 ≡ 0
  pub notes : (u : ℕ) → u < p → NoteAt w s p m u
  pub even : 1 ≤ s → get_or w (even_at s p) 0 ≡ 1 → NoneOdd m

-- slot i holds the triangle t
pub record TriIn (m : Mesh) (i : ℕ) : Type 0 where
  pub t : Tri
  pub has : Has (new_live i (tri t)) m.live

-- slot i holds the quad q
pub record QuadIn (m : Mesh) (i : ℕ) : Type 0 where
  pub q : Quad
  pub has : Has (new_live i (quad q)) m.live

-- the lent points slice stands for the mesh's points, with room for p
pub record Pts (q : List Float) (p : ℕ) (m : Mesh) : Type 0 where
  pub fits : 3 * p ≤ length q
  pub few : length m.points ≤ p
  pub are : m.points ≡ first_points (length m.points) q
