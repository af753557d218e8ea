-- Triangles written one behind the other.
use Rattle.std.specs.Prelude.{◌≡◌, ◌+◌, ◌*◌, ◌<◌, ◌≤◌, ◌∷◌, ◌++◌}
use Rattle.laws.specs.Kit.{Option, none, some, ℕ, List, [], length}
use Rattle.definition.specs.Lists.{flat_map}
use Rattle.definition.specs.Cells.{Tri, Live, Mesh, tri_nodes, tri_of, cell_of}
use Rattle.definition.specs.Call.{onto}

-- three numbers
abbrev pub three : ℕ → ℕ → ℕ → List ℕ
three a b c = a ∷ b ∷ c ∷ []

-- the triangle of a cell, if there is a cell and it is one
abbrev pub tris_in : Option Live → List Tri
tris_in none = []
tris_in (some x) = tri_of x.cell

-- the triangle in slot i, if there is one
abbrev pub slot_tris : Mesh → ℕ → List Tri
slot_tris m i = tris_in (cell_of m i)

-- slot i is there to be read, and three numbers fit behind n triangles
pub record CanWrite (out : List ℕ) (s i n : ℕ) : Type 0 where
  pub inside : i < s
  pub few : n < s
  pub room : 3 * s ≤ length out

-- the triangles ts came behind the n that stood in the slice
pub record WroteSlot (out out' : List ℕ) (n r : ℕ) (ts : List Tri) : Type 0 where
  pub count : r ≡ n + length ts
  pub few : r ≤ n + 1
  pub is : (ls : List Tri) (old : List ℕ) → n ≡ length ls → out ≡ onto (flat_map tri_nodes ls) old → out' ≡ onto (flat_map tri_nodes (ls ++ ts)) old
