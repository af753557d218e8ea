-- What the writers ask and give.
use Rattle.std.specs.Prelude.{◌≡◌, ◌+◌, ◌*◌, ◌<◌, ◌≤◌, ◌∷◌, ◌++◌}
use Rattle.laws.specs.Kit.{ℕ, List, [], length, get_or}
use Rattle.rings.specs.Rings.{Out, Family}
use Rattle.definition.specs.Plane.{Edge}
use Rattle.definition.specs.Cells.{Quad, Cell, Mesh, tri, new_tri, quad, new_quad, new_live, with_live}
use Rattle.laws.specs.Frames.{Under, Keeps}
use Rattle.cells.specs.Layout.{nodes_at, rings_at, codes, notes_at, fronts_at, mesh_end}
use Rattle.cells.specs.Notes.{note, NoteAt}
use Rattle.cells.specs.Rep.{Shape, Cells, slots, corners, at_node, Room, Rep}

-- the memory of each mesh that `may` be changed becomes that of the changed mesh;
-- beyond the mesh's own areas nothing changed
pub record Turns (w w' : List ℕ) (s p : ℕ) (may : Mesh → Type 0) (to : Mesh → Mesh) : Type 0 where
  pub rep : (m : Mesh) → Rep w s p m → may m → Rep w' s p (to m)
  pub keeps : Keeps w w' (mesh_end s p)

-- every mesh may be changed
abbrev pub Anything : Mesh → Type 0
Anything m = Unit {0}

-- the triangle of three nodes as a cell
abbrev pub tri_of_nodes : ℕ → ℕ → ℕ → Cell
tri_of_nodes a b c = tri (new_tri a b c)

-- the quad of four
abbrev pub quad_of_nodes : ℕ → ℕ → ℕ → ℕ → Cell
quad_of_nodes a b c d = quad (new_quad a b c d)

-- with the edge it grew from, its round and how many triangles it replaced.
-- None of them is in the work slice: what is stored for a quad is right whatever its birth
abbrev pub born_of_nodes : Edge → ℕ → ℕ → ℕ → ℕ → ℕ → ℕ → Quad
born_of_nodes e round gone a b c d = record { n0 = a; n1 = b; n2 = c; n3 = d; edge = e; round = round; replaced = gone }

-- the cell t may come into slot i, the next one
pub record CanPush (m : Mesh) (s i : ℕ) (t : Cell) : Type 0 where
  pub next : i ≡ m.used
  pub free : i < s
  pub shape : Shape (length m.points) t

-- the cell t may replace that in slot i, which was given out
pub record CanSet (m : Mesh) (i : ℕ) (t : Cell) : Type 0 where
  pub given : i < m.used
  pub shape : Shape (length m.points) t

-- the cell t may come into slot i, which holds none, with n slots given out then
pub record CanPut (m : Mesh) (s i n : ℕ) (t : Cell) : Type 0 where
  pub out : Out i (slots m.live)
  pub given : i < n
  pub more : m.used ≤ n
  pub fits : n ≤ s
  pub shape : Shape (length m.points) t

-- it came there, last of the live cells
abbrev pub put : Mesh → ℕ → ℕ → Cell → Mesh
put m i n t = with_live m n (m.live ++ (new_live i t ∷ []))

-- the memory becomes that of the mesh with the cell, whatever the number of slots given out then
pub record Puts (w w' : List ℕ) (s p i : ℕ) (t : Cell) : Type 0 where
  pub rep : (m : Mesh) (n : ℕ) → Rep w s p m → CanPut m s i n t → Rep w' s p (put m i n t)
  pub keeps : Keeps w w' (mesh_end s p)

-- node a has a note
pub record CanForget (w : List ℕ) (s p a : ℕ) : Type 0 where
  pub room : Room w s p
  pub node : a < p

-- nothing is noted of it any more, and nothing else changed
pub record Forgets (w w' : List ℕ) (s p a : ℕ) : Type 0 where
  pub none : note w' s p a ≡ 0
  pub other : (u : ℕ) → (u ≡ a → ⊥) → note w' s p u ≡ note w s p u
  pub under : Under w w' (notes_at s p)
  pub keeps : Keeps w w' (fronts_at s p)

-- the note of u is true of the mesh, and u is none of the nodes ns if something is noted
pub record Apart (w : List ℕ) (s p : ℕ) (m : Mesh) (ns : List ℕ) (u : ℕ) : Type 0 where
  pub is : NoteAt w s p m u
  pub out : 0 < note w s p u → Out u ns

-- the live cells of the mesh m are stored, and slot i, which is none of theirs,
-- has kind n and so far the nodes ns, linked; the notes are true of m
pub record Filling (w : List ℕ) (s p n i : ℕ) (m : Mesh) (ns : List ℕ) : Type 0 where
  pub room : Room w s p
  pub inside : i < s
  pub fresh : Out i (slots m.live)
  pub below : m.used ≤ s
  pub few : length m.points ≤ p
  pub kind : get_or w i 0 ≡ n
  pub cells : Cells w s m.used (length m.points) m.live
  pub dead : (j : ℕ) → j < s → (j ≡ i → ⊥) → Out j (slots m.live) → get_or w j 0 ≡ 0
  pub node : (j : ℕ) → j < length ns → get_or w (nodes_at s + 4 * i + j) 0 ≡ get_or ns j 0
  pub rings : Family w (rings_at s) (codes s p) (4 * s) (λ v. corners m.live v ++ at_node v (4 * i) 0 ns)
  pub notes : (u : ℕ) → u < p → Apart w s p m ns u

-- some mesh and nodes for which the memory stands so, with j nodes
pub record Fills (w : List ℕ) (s p i j a : ℕ) : Type 0 where
  pub n : ℕ
  pub m : Mesh
  pub ns : List ℕ
  pub is : Filling w s p n i m ns
  pub many : length ns ≡ j
  pub few : j < 4
  pub node : a < p

-- node a was placed
pub record Placed (w w' : List ℕ) (s p i j a : ℕ) : Type 0 where
  pub is : (n : ℕ) (m : Mesh) (ns : List ℕ) → Filling w s p n i m ns → length ns ≡ j → Filling w' s p n i m (ns ++ a ∷ [])
  pub keeps : Keeps w w' (fronts_at s p)
