-- Node numbers from one to another.
use Rattle.std.specs.Prelude.{◌≡◌, true, List, ℕ, ◌<◌, ◌≤◌, min, max, length}
use Rattle.definition.specs.Lists.{any}
use Rattle.definition.specs.Cells.{Tri, Live, Mesh, has_node, tri_has, has_edge}
use Rattle.candidates.specs.declared.spans.Span.{Span}

-- the span r is g with v in it
pub record Widens (g : Span) (v : ℕ) (r : Span) : Type 0 where
  pub low : r.low ≡ min g.low v
  pub high : r.high ≡ max g.high v

-- v is in the span
pub record In (g : Span) (v : ℕ) : Type 0 where
  pub from : g.low ≤ v
  pub to : v ≤ g.high

-- the span r has what g has and all that are P; it stays below n
pub record Grows (n : ℕ) (P : ℕ → Type 0) (g r : Span) : Type 0 where
  pub low : r.low ≤ g.low
  pub high : g.high ≤ r.high
  pub known : g.high < n → r.high < n
  pub has : (v : ℕ) → P v → In r v

-- v is a node of the triangle
abbrev pub OfTri : Tri → ℕ → Type 0
OfTri t v = tri_has t v ≡ true

-- v is a node of the region
abbrev pub OfRegion : List Live → ℕ → Type 0
OfRegion region v = any (has_node v) region ≡ true

-- v is another node that has an edge with a
abbrev pub Beside : Mesh → ℕ → ℕ → Type 0
Beside m a v = (a ≡ v → ⊥) × (has_edge m a v ≡ true)

-- the span has a, the nodes of the region and those beside a, and nothing but nodes
pub record Spans (m : Mesh) (a : ℕ) (region : List Live) (r : Span) : Type 0 where
  pub node : In r a
  pub known : r.high < length m.points
  pub inner : (v : ℕ) → OfRegion region v → In r v
  pub beside : (v : ℕ) → Beside m a v → In r v
