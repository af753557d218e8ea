-- The front's edges in the lent work slice.
use Rattle.std.specs.Prelude.{◌≡◌, ◌<◌, ◌≤◌}
use Rattle.laws.specs.Kit.{true, ℕ, List, length, get_or}
use Rattle.definition.specs.Plane.{Edge}
use Rattle.definition.specs.Cells.{edge_before}
use Rattle.definition.specs.Account.{Pairwise}
use Rattle.cells.specs.Layout.{notes_at, mesh_end, front_u_at, front_links_at}
use Rattle.edges.specs.Stored.{Edges, EdgesAt}

-- the k edges es of n nodes, which ascend, stand in their area, and nothing else changed but notes
pub record FrontTo (w w' : List ℕ) (s p n k : ℕ) (es : List Edge) : Type 0 where
  pub at : EdgesAt w' s p k es
  pub edges : Edges n es
  pub ascending : Pairwise (λ e f. edge_before e f ≡ true) es
  pub len : length w' ≡ length w
  pub below : (i : ℕ) → i < notes_at s p → get_or w' i 0 ≡ get_or w i 0
  pub between : (i : ℕ) → mesh_end s p ≤ i → i < front_u_at s p → get_or w' i 0 ≡ get_or w i 0
  pub behind : (i : ℕ) → front_links_at s p ≤ i → get_or w' i 0 ≡ get_or w i 0
