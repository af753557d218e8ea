-- Blocks of the triangles in hand, each with a box around its walls: a segment whose line passes by a box crosses none of its walls.
use Rattle.std.specs.Prelude.{◌≡◌, ◌⊎◌, Bool, true, false, not, List, ℕ, ◌+◌, ◌*◌, ◌<◌, ◌≤◌, T, length, get_or, Float}
use Rattle.std.specs.Float.{nan}
use Rattle.std.specs.Float.Ieee.{is_nan}
use Rattle.definition.specs.Floats.{◌⊖◌, ◌⊗◌, ◌≼◌}
use Rattle.definition.specs.Plane.{Node}
use Rattle.definition.specs.Lists.{all}
use Rattle.definition.specs.Cells.{Tri, Live, Mesh, node_at, key, edges}
use Rattle.definition.specs.Candidates.{shared_by_tris, walls, segment_inside}
use Rattle.laws.specs.Lists.{Stored}
use Rattle.cells.specs.Layout.{list_at}
use Rattle.cells.specs.Rep.{TriIn, slots}
use Rattle.live_regions.specs.Stack.{Inner, Noted}
use Rattle.side_candidates.specs.Hand.{InHand, Ends, open_edge}
use Rattle.side_candidates.specs.declared.blocks.Frame.{Frame}
use Rattle.side_candidates.specs.declared.blocks.Line.{Line}

-- ---- boxes

-- no NaN
abbrev pub Real : Float → Type 0
Real x = T (not (is_nan x))

-- x is not below the bound b, nor above it, unless that is a NaN
abbrev pub Low : Float → Float → Type 0
Low b x = Real b → (b ≼ x) ≡ true

abbrev pub High : Float → Float → Type 0
High b x = Real b → (x ≼ b) ≡ true

-- r bounds x, and all that b bounds
pub record Bounded (R : Float → Float → Type 0) (b x r : Float) : Type 0 where
  pub here : R r x
  pub keeps : (z : Float) → R b z → R r z

-- the node lies in the box
pub record Holds (b : Frame) (t : Node) : Type 0 where
  pub left : Low b.x0 t.x
  pub right : High b.x1 t.x
  pub low : Low b.y0 t.y
  pub high : High b.y1 t.y

-- what lies in the box b lies in r
abbrev pub WithinToo : Frame → Frame → Type 0
WithinToo b r = (t : Node) → Holds b t → Holds r t

-- both ends of the edge lie in the box
pub record HoldsBoth (b : Frame) (s t : Node) : Type 0 where
  pub first : Holds b s
  pub second : Holds b t

-- the box with two nodes in it where `wall` says so
pub record Sided (b : Frame) (s t : Node) (wall : Bool) (r : Frame) : Type 0 where
  pub both : wall ≡ true → HoldsBoth r s t
  pub keeps : WithinToo b r

-- the walls of the triangle lie in the box
pub record Framed (m : Mesh) (b : Frame) (t : Tri) : Type 0 where
  pub first : shared_by_tris m (key t.n0 t.n1) ≡ false → HoldsBoth b (node_at m t.n0) (node_at m t.n1)
  pub second : shared_by_tris m (key t.n1 t.n2) ≡ false → HoldsBoth b (node_at m t.n1) (node_at m t.n2)
  pub third : shared_by_tris m (key t.n2 t.n0) ≡ false → HoldsBoth b (node_at m t.n2) (node_at m t.n0)

-- so for the box r, which has all that the box b has
pub record FramedTo (m : Mesh) (b r : Frame) (t : Tri) : Type 0 where
  pub walls : Framed m r t
  pub keeps : WithinToo b r

-- the slot of the cell at place k of the region
abbrev pub slot_at : List Live → ℕ → ℕ
slot_at region k = get_or (slots region) k 0

-- the walls of the cells at the places from j up to k lie in the box
abbrev pub FramedFrom : Mesh → Frame → List Live → ℕ → ℕ → Type 0
FramedFrom m b region j k = (i : ℕ) → j ≤ i → i < k → (t : TriIn m (slot_at region i)) → Framed m b t.t

-- ---- the lent boxes

-- box j of the lent ones; boxes beyond them do not occur
abbrev pub frame_at : List Frame → ℕ → Frame
frame_at h j = get_or h j (record { x0 = nan; x1 = nan; y0 = nan; y1 = nan })

-- block i of so many cells has its walls in box i
abbrev pub BlockIn : List Frame → ℕ → Mesh → List Live → ℕ → Type 0
BlockIn h size m region i = i < length h → (k : ℕ) → i * size ≤ k → k < i * size + size → k < length region → (t : TriIn m (slot_at region k)) → Framed m (frame_at h i) t.t

-- so for each block
abbrev pub Boxed : List Frame → ℕ → Mesh → List Live → Type 0
Boxed h size m region = (i : ℕ) → BlockIn h size m region i

-- so for each before block j
abbrev pub BoxedTo : List Frame → ℕ → Mesh → List Live → ℕ → Type 0
BoxedTo h size m region j = (i : ℕ) → i < j → BlockIn h size m region i

-- the region is in blocks of so many cells with a box each
pub record Boxes (h : List Frame) (size n : ℕ) (m : Mesh) (region : List Live) : Type 0 where
  pub some : 0 < size
  pub few : size ≤ n + 1
  pub boxed : Boxed h size m region

-- and so the one in hand
pub record Fence (w : List ℕ) (q : List Float) (s p n : ℕ) (h : List Frame) (size : ℕ) (m : Mesh) (region : List Live) : Type 0 where
  pub hand : InHand w q s p n m region
  pub boxes : Boxes h size n m region

-- ---- a line beside a box

-- the line from the node p to the node q
pub record Leads (p q : Node) (o : Line) : Type 0 where
  pub x : o.x ≡ p.x
  pub y : o.y ≡ p.y
  pub dx : o.dx ≡ q.x ⊖ p.x
  pub dy : o.dy ≡ q.y ⊖ p.y

-- the two products of a node's cross product with the line, by its y and by its x
abbrev pub by_y : Line → Float → Float
by_y o y = o.dx ⊗ (y ⊖ o.y)

abbrev pub by_x : Line → Float → Float
by_x o x = o.dy ⊗ (x ⊖ o.x)

-- each of l and r is at most each of d and u
pub record Ordered (l r d u : Float) : Type 0 where
  pub ld : (l ≼ d) ≡ true
  pub rd : (r ≼ d) ≡ true
  pub lu : (l ≼ u) ≡ true
  pub ru : (r ≼ u) ≡ true

-- at the sides of the box no product by x is above one by y
abbrev pub Leftward : Frame → Line → Type 0
Leftward b o = Ordered (by_x o b.x0) (by_x o b.x1) (by_y o b.y0) (by_y o b.y1)

-- nor below one
abbrev pub Rightward : Frame → Line → Type 0
Rightward b o = Ordered (by_y o b.y0) (by_y o b.y1) (by_x o b.x0) (by_x o b.x1)

-- the box lies on one side of the line
abbrev pub Beside : Frame → Line → Type 0
Beside b o = Leftward b o ⊎ Rightward b o

-- ---- cells gone through

-- `rest` is listed from place k to n
pub record Scan (w : List ℕ) (s p n k : ℕ) (m : Mesh) (rest : List Live) : Type 0 where
  pub stored : Stored w (list_at s p + k) (slots rest)
  pub inner : Inner m rest
  pub noted : Noted w s p m rest
  pub len : k + length rest ≡ n

-- all cells pass so far: those from k on decide
pub record Passing (w : List ℕ) (s p n k : ℕ) (m : Mesh) (f : Live → Bool) (total : Bool) : Type 0 where
  pub rest : List Live
  pub scan : Scan w s p n k m rest
  pub same : total ≡ all f rest

-- every edge of the cell is open
abbrev pub open_cell : Mesh → ℕ → ℕ → Live → Bool
open_cell m a b x = all (open_edge m a b) (edges x.cell)

-- by r all cells up to place k pass, or one does not, which decides
pub record Through (w : List ℕ) (s p n k : ℕ) (m : Mesh) (a b : ℕ) (total r : Bool) : Type 0 where
  pub on : r ≡ true → k ≤ n → Passing w s p n k m (open_cell m a b) total
  pub end : r ≡ true → n ≤ k → true ≡ total
  pub stop : r ≡ false → false ≡ total

-- what is known before the cells from place k on are gone through
pub record CanPass (w : List ℕ) (q : List Float) (s p n k : ℕ) (m : Mesh) (region : List Live) (a b : ℕ) : Type 0 where
  pub hand : InHand w q s p n m region
  pub ends : Ends m a b
  pub from : Passing w s p n k m (open_cell m a b) (segment_inside m a b (walls m region))

-- the cells from place k on, the block with number j, may be gone through
pub record CanSkip (w : List ℕ) (q : List Float) (s p n k : ℕ) (h : List Frame) (size j : ℕ) (o : Line) (m : Mesh) (region : List Live) (a b : ℕ) : Type 0 where
  pub boxes : Boxes h size n m region
  pub pass : CanPass w q s p n k m region a b
  pub leads : Leads (node_at m a) (node_at m b) o
  pub block : k ≡ j * size
