-- The flood of a region, edge after edge.
use Rattle.std.specs.Prelude.{◌≡◌, ◌∷◌}
use Rattle.laws.specs.Kit.{Bool, true, false, ℕ, List, []}
use Rattle.definition.specs.Plane.{Edge}
use Rattle.definition.specs.Cells.{Tri, tri, Live, Mesh, owners, new_live, has_edge_in}
use Rattle.cells.specs.Rep.{Rep, TriIn}
use Rattle.regions.specs.Listing.{State, Aside}

-- nothing where the test passes
abbrev pub unless : Bool → List Live → List Live
unless true l = []
unless false l = l

-- the owners of an edge, unless it is one of the sides
unfoldable pub beyond : Mesh → List Edge → Edge → List Live
beyond m sides e = unless (has_edge_in sides e) (owners m e)

-- the triangle in slot i
abbrev pub tri_live : ℕ → Tri → Live
tri_live i t = new_live i (tri t)

-- the triangle in slot i alone is listed, where n slots were given out
pub record Seeded (w w' : List ℕ) (s p n i : ℕ) : Type 0 where
  pub aside : Aside w w' s p
  pub alone : (m : Mesh) → Rep w s p m → m.used ≡ n → (t : TriIn m i) → State w' s p 1 m (tri_live i t.t ∷ [])
