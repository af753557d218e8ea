-- Slots given up one after the other.
use Rattle.std.specs.Prelude.{◌≡◌, ◌+◌, ◌<◌, ◌≤◌, ◌∷◌, ◌++◌}
use Rattle.laws.specs.Kit.{Bool, true, false, not, Option, none, some, ℕ, List, [], length, get_or, take, drop}
use Rattle.definition.specs.Lists.{any, flat_map}
use Rattle.definition.specs.Plane.{Edge}
use Rattle.definition.specs.Cells.{Quad, Mesh, quad, live_tri, remove_cell, push_cell}
use Rattle.definition.specs.Call.{onto, quad_words}
use Rattle.definition.specs.Replay.{cells_in, entered_quad}
use Rattle.cells.specs.Rep.{Rep}
use Rattle.meshes.specs.Changes.{born_of_nodes}
use Rattle.retrace.specs.Stored.{four, stored}

-- a triangle is in the slot
unfoldable pub has_tri : Mesh → ℕ → Bool
has_tri m id = any live_tri (cells_in m (id ∷ []))

-- the triangles in the slots, one after the other; none where a slot holds none when its turn comes
unfoldable pub taking : Mesh → List ℕ → Option Mesh
taking m [] = some m
taking m (id ∷ ids) = elim (has_tri m id) [ true ↦ taking (remove_cell m id) ids | false ↦ none ]

-- the answer, and the mesh that the memory stands for where every slot gave way
abbrev pub TakesTo : List ℕ → ℕ → ℕ → Option Mesh → Bool → Type 0
TakesTo w s p none r = r ≡ false
TakesTo w s p (some m) r = (r ≡ true) × Rep w s p m

-- the answer, and the mesh that the memory stands for then, for each mesh that it stood for
pub record TakesOut (w w' trace : List ℕ) (s p from n : ℕ) (r : Bool) : Type 0 where
  pub is : (m : Mesh) → Rep w s p m → TakesTo w' s p (taking m (take n (drop from trace))) r
  pub len : length w' ≡ length w

-- a quad of these nodes may take slot i, the next one
pub record CanPlace (m : Mesh) (s i a b c d : ℕ) : Type 0 where
  pub next : i ≡ m.used
  pub free : i < s
  pub n0 : a < length m.points
  pub n1 : b < length m.points
  pub n2 : c < length m.points
  pub n3 : d < length m.points

-- it did, whatever its birth, and r says whether a node stands in it twice
pub record Places (w w' : List ℕ) (s p i a b c d : ℕ) (r : Bool) : Type 0 where
  pub rep : (m : Mesh) → Rep w s p (stored m) → CanPlace m s i a b c d → (e : Edge) (round gone : ℕ) → Rep w' s p (stored (push_cell m (quad (born_of_nodes e round gone a b c d))))
  pub odd : (e : Edge) (round gone : ℕ) → r ≡ not (four (born_of_nodes e round gone a b c d))
  pub len : length w' ≡ length w

-- the entry at `at` has n slots, and they are there
pub record HasSlots (t : List ℕ) (at n : ℕ) : Type 0 where
  pub count : n ≡ get_or t (at + 8) 0
  pub fits : at + 9 + n ≤ length t

-- the quad of the entry at `from` stands behind the k quads that stood in the slice
pub record PutsWords (quads quads' trace : List ℕ) (from k : ℕ) : Type 0 where
  pub is : (qs : List Quad) (old : List ℕ) → k ≡ length qs → quads ≡ onto (flat_map quad_words qs) old
      → quads' ≡ onto (flat_map quad_words (qs ++ entered_quad (drop from trace) ∷ [])) old
  pub len : length quads' ≡ length quads
