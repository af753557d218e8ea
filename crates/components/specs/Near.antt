-- A look around a region: a triangle beside it that is not listed, and the pieces that a flood takes from there.
use Rattle.std.specs.Prelude.{IsSome, Option as Answer, ◌≡◌, ◌++◌}
use Rattle.laws.specs.Kit.{ℕ, List, length}
use Rattle.definition.specs.Cells.{Live, Mesh}
use Rattle.laws.specs.Lists.{In}
use Rattle.account.specs.Triangles.{Shares}
use Rattle.regions.specs.Listing.{Aside}
use Rattle.components.specs.Flood.{body, Reach, Marked}
use Rattle.components.specs.Seek.{Looked}

-- a triangle that shares an edge with one of xs
abbrev pub BesideOne : List Live → Live → Type 0
BesideOne xs z = (y : Live) × In y xs × Shares (body y) (body z)

-- of the k listed the first n are those of the region
pub record Around (w : List ℕ) (s p k n : ℕ) (m : Mesh) (region xs : List Live) : Type 0 where
  pub state : Marked w s p k m xs
  pub rest : List Live
  pub parts : xs ≡ region ++ rest
  pub len : n ≡ length region

-- with xs listed, triangles that shared edges lead to from x are listed behind them: all,
-- or so many that none beside the region is left; t is what a look around it then finds
pub record Pieced (w w' : List ℕ) (s p r : ℕ) (t : Answer ℕ) (m : Mesh) (region xs : List Live) (x : Live) : Type 0 where
  pub new : List Live
  pub state : Marked w' s p r m (xs ++ new)
  pub aside : Aside w w' s p
  pub done : List Live
  pub reach : Reach m xs x done new
  pub whole : IsSome t → Reach m xs x new new
  pub looked : Looked s t m (xs ++ new) (BesideOne region)
