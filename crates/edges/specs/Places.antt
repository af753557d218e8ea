-- The edges at the places of a loop, and what can be read of them.
use Rattle.std.specs.Prelude.{◌≡◌, ◌+◌, ◌*◌, ◌<◌, ◌≤◌}
use Rattle.laws.specs.Kit.{ℕ, List, length, get_or}
use Rattle.definition.specs.Plane.{Edge}
use Rattle.cells.specs.Layout.{order_at}
use Rattle.cells.specs.Rep.{Room}
use Rattle.edges.specs.Stored.{Edges, edges_on}

-- the edge at place i can be read
pub record Place (w : List ℕ) (s p i : ℕ) : Type 0 where
  pub room : Room w s p
  pub low : i < 3 * s
  pub number : get_or w (order_at s p + i) 0 < 3 * s

-- both nodes of the edge are among n
pub record Known (n : ℕ) (e : Edge) : Type 0 where
  pub first : e.0 < n
  pub second : e.1 < n

-- the edges l of n nodes stand at the places from b to e
pub record OnPlaces (w : List ℕ) (s p b e n : ℕ) (l : List Edge) : Type 0 where
  pub len : e ≡ b + length l
  pub few : e ≤ 3 * s
  pub are : edges_on w s p b (length l) ≡ l
  pub places : (i : ℕ) → b ≤ i → i < e → get_or w (order_at s p + i) 0 < 3 * s
  pub edges : Edges n l
