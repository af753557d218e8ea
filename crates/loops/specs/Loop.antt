-- What the front's loops ask.
use Rattle.std.specs.Prelude.{◌≤◌}
use Rattle.laws.specs.Kit.{ℕ, List}
use Rattle.definition.specs.Plane.{Edge}
use Rattle.cells.specs.Rep.{Room}
use Rattle.edges.specs.Stored.{Edges, EdgesAt}

-- the k edges of the front, over n nodes, are es
pub record CanLoop (w : List ℕ) (s p n k : ℕ) (es : List Edge) : Type 0 where
  pub room : Room w s p
  pub at : EdgesAt w s p k es
  pub edges : Edges n es
  pub nodes : n ≤ p
