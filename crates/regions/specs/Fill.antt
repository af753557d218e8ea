-- What the tests of a region read, and what its replacement gives.
use Rattle.std.specs.Prelude.{◌∷◌}
use Rattle.laws.specs.Kit.{ℕ, List, [], length, Float}
use Rattle.rings.specs.Rings.{Below}
use Rattle.definition.specs.Plane.{Edge}
use Rattle.definition.specs.Cells.{Live, Mesh}
use Rattle.definition.specs.Attempt.{replaced}
use Rattle.laws.specs.Frames.{Keeps}
use Rattle.cells.specs.Layout.{mesh_end}
use Rattle.cells.specs.Rep.{Rep, TriIn, Pts}
use Rattle.meshes.specs.Changes.{CanPush, quad_of_nodes, born_of_nodes}
use Rattle.regions.specs.Listing.{Listed}

-- the quad's nodes are among the points
abbrev pub Known : Mesh → ℕ → ℕ → ℕ → ℕ → Type 0
Known m a b c d = Below (length m.points) (a ∷ b ∷ c ∷ d ∷ [])

-- the cells xs are listed, over the points
pub record Shown (w : List ℕ) (q : List Float) (s p n : ℕ) (m : Mesh) (xs : List Live) : Type 0 where
  pub list : Listed w s p n m xs
  pub pts : Pts q p m

-- slot j holds a triangle, over the points
pub record Drawn (w : List ℕ) (q : List Float) (s p j : ℕ) (m : Mesh) : Type 0 where
  pub rep : Rep w s p m
  pub pts : Pts q p m
  pub tri : TriIn m j

-- the cells listed are gone; nothing beyond the mesh changed
pub record Gone (w w' : List ℕ) (s p n : ℕ) (to : Mesh → List Live → Mesh) : Type 0 where
  pub rep : (m : Mesh) (xs : List Live) → Listed w s p n m xs → Rep w' s p (to m xs)
  pub keeps : Keeps w w' (mesh_end s p)

-- the quad a b c d in slot i took their place, whatever its birth
pub record Replaced (w w' : List ℕ) (s p i n a b c d : ℕ) : Type 0 where
  pub rep : (m : Mesh) (xs : List Live) (e : Edge) (round gone : ℕ) → Listed w s p n m xs → CanPush m s i (quad_of_nodes a b c d)
      → Rep w' s p (replaced m (born_of_nodes e round gone a b c d) xs)
  pub keeps : Keeps w w' (mesh_end s p)
