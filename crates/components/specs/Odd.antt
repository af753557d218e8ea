-- What the odd test gives.
use Rattle.std.specs.Prelude.{◌≡◌}
use Rattle.laws.specs.Kit.{Bool, ℕ, List}
use Rattle.definition.specs.Cells.{Live, Mesh}
use Rattle.definition.specs.Components.{removing_leaves_odd_component}
use Rattle.regions.specs.Listing.{Listed, Aside}

-- the answer is the definition's, and the region is still listed
pub record OddTo (w w' : List ℕ) (s p n : ℕ) (m : Mesh) (xs : List Live) (r : Bool) : Type 0 where
  pub same : r ≡ removing_leaves_odd_component m xs
  pub list : Listed w' s p n m xs
  pub aside : Aside w w' s p
