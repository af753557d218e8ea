-- A word for each node, from b on, in the p words where the side nodes will stand.
use Rattle.std.specs.Prelude.{◌≡◌, ◌≢◌, Bool, not, cond, List, ℕ, ◌+◌, ◌%◌, ◌^◌, ◌≤◌, ◌<◌, eqb, length, get_or, Option, Some, None}
use Rattle.definition.specs.Lists.{any}
use Rattle.definition.specs.Cells.{Live, Mesh, has_node}
use Rattle.cells.specs.Layout.{near_at}
use Rattle.edge_candidates.specs.Wishes.{Besides}
use Rattle.candidates.specs.Spans.{In, Beside}
use Rattle.candidates.specs.declared.spans.Span.{Span}

-- the words are there
pub record Spare (w : List ℕ) (p b : ℕ) : Type 0 where
  pub fits : b + p ≤ length w
  pub small : p ≤ 2 ^ 32

-- and behind the mesh and the region
pub record CanMark (w : List ℕ) (s p b : ℕ) : Type 0 where
  pub spare : Spare w p b
  pub from : near_at s p ≤ b

-- those of the span are 0
pub record Cleared (w w' : List ℕ) (p b : ℕ) (g : Span) : Type 0 where
  pub zero : (v : ℕ) → In g v → get_or w' (b + v) 0 ≡ 0
  pub besides : Besides w w' b p

-- those of the nodes that f holds of are 1, and the others stay
pub record Put (w w' : List ℕ) (p b : ℕ) (f : ℕ → Bool) : Type 0 where
  pub word : (v : ℕ) → get_or w' (b + v) 0 ≡ cond (f v) 1 (get_or w (b + v) 0)
  pub besides : Besides w w' b p

-- v is a node of the region
abbrev pub of_region : List Live → ℕ → Bool
of_region region v = any (has_node v) region

-- words stay odd or even, and 2 or more
pub record Risen (w w' : List ℕ) (p b : ℕ) : Type 0 where
  pub parity : (v : ℕ) → get_or w' (b + v) 0 % 2 ≡ get_or w (b + v) 0 % 2
  pub stays : (v : ℕ) → 2 ≤ get_or w (b + v) 0 → 2 ≤ get_or w' (b + v) 0
  pub besides : Besides w w' b p

-- that of v is 2 or more now
pub record Raised (w w' : List ℕ) (p b v : ℕ) : Type 0 where
  pub risen : Risen w w' p b
  pub own : 2 ≤ get_or w' (b + v) 0

-- those of the nodes beside a are
pub record RaisedBy (w w' : List ℕ) (p b : ℕ) (m : Mesh) (a : ℕ) : Type 0 where
  pub risen : Risen w w' p b
  pub beside : (v : ℕ) → Beside m a v → 2 ≤ get_or w' (b + v) 0

-- what the word x tells of v
pub record Told (m : Mesh) (a : ℕ) (region : List Live) (v x : ℕ) : Type 0 where
  pub inner : eqb (x % 2) 0 ≡ not (of_region region v)
  pub beside : Beside m a v → 2 ≤ x

-- so for all nodes of the span
pub record MarkedTo (w w' : List ℕ) (p b : ℕ) (m : Mesh) (a : ℕ) (region : List Live) (g : Span) : Type 0 where
  pub told : (v : ℕ) → In g v → Told m a region v (get_or w' (b + v) 0)
  pub besides : Besides w w' b p

-- the words of the nodes up to `high` are there, and the search begins at one of them or behind them
pub record CanSkip (w : List ℕ) (b from high : ℕ) : Type 0 where
  pub start : from ≤ high + 1
  pub fits : b + high < length w

-- v is the first node from `from` to `high` whose word is not 0
pub record FirstTold (w : List ℕ) (b from high v : ℕ) : Type 0 where
  pub least : from ≤ v
  pub most : v ≤ high
  pub none : (u : ℕ) → from ≤ u → u < v → get_or w (b + u) 0 ≡ 0
  pub is : get_or w (b + v) 0 ≢ 0

-- the search found it, or no word is another than 0
abbrev pub NextTold : List ℕ → ℕ → ℕ → ℕ → Option ℕ → Type 0
NextTold w b from high (Some v) = FirstTold w b from high v
NextTold w b from high None = (u : ℕ) → from ≤ u → u ≤ high → get_or w (b + u) 0 ≡ 0
