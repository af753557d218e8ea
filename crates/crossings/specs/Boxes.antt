-- What is said of the box around a node and its neighbours.
use Rattle.std.specs.Prelude.{◌≡◌, ◌+◌, ◌*◌, ◌^◌, ◌<◌, ◌≤◌}
use Rattle.laws.specs.Kit.{Bool, true, ℕ, List, length, set, Float}
use Rattle.definition.specs.Floats.{◌≼◌}
use Rattle.definition.specs.Plane.{Node}
use Rattle.definition.specs.Cells.{Mesh, node_at}
use Rattle.definition.specs.Call.{point_at}
use Rattle.plane.specs.Points.{Within}
use Rattle.cells.specs.Layout.{codes, notes_at, boxes_at, mesh_end}
use Rattle.cells.specs.Notes.{note, bound, Near}
use Rattle.crossings.specs.declared.buckets.Limits.{Limits}
use Rattle.crossings.specs.declared.boxes.Side.{Side}
use Rattle.crossings.specs.declared.boxes.Sides.{Sides}

-- ---- a side

-- a lower side lies below, an upper side above
abbrev pub up : Float → Float → Bool
up x y = x ≼ y

abbrev pub down : Float → Float → Bool
down x y = y ≼ x

-- the side of the node i alone
pub record Starts (i : ℕ) (x : Float) (r : Side) : Type 0 where
  pub node : r.node ≡ i
  pub at : r.at ≡ x
  pub here : r.fine ≡ true → (x ≼ x) ≡ true

-- r is the side b or the node i at x
pub data Comes (b : Side) (i : ℕ) (x : Float) (r : Side) : Type 0 where
  old : r.node ≡ b.node → r.at ≡ b.at → Comes b i x r
  new : r.node ≡ i → r.at ≡ x → Comes b i x r

-- the one of them that bounds both, and what b bounds
pub record Picks (R : Float → Float → Bool) (b : Side) (i : ℕ) (x : Float) (r : Side) : Type 0 where
  pub comes : Comes b i x r
  pub fine : r.fine ≡ true → b.fine ≡ true
  pub here : r.fine ≡ true → R r.at x ≡ true
  pub keeps : r.fine ≡ true → (z : Float) → R b.at z ≡ true → R r.at z ≡ true

-- the node of a side is one of the mesh, and bounds the node a and its neighbours by their coordinates
pub record Bound (R : Float → Float → Bool) (f : ℕ → Float) (m : Mesh) (a : ℕ) (b : Side) : Type 0 where
  pub known : b.node < length m.points
  pub all : b.fine ≡ true → (v : ℕ) → Near m a v → R (f b.node) (f v) ≡ true

-- ---- a box

-- the box around node i
pub record StartsAt (i : ℕ) (t : Node) (r : Sides) : Type 0 where
  pub left : Starts i t.x r.left
  pub right : Starts i t.x r.right
  pub low : Starts i t.y r.low
  pub high : Starts i t.y r.high

-- the box b with node i in it
pub record Widens (b : Sides) (i : ℕ) (t : Node) (r : Sides) : Type 0 where
  pub left : Picks up b.left i t.x r.left
  pub right : Picks down b.right i t.x r.right
  pub low : Picks up b.low i t.y r.low
  pub high : Picks down b.high i t.y r.high

-- the box bounds the node a and its neighbours
pub record Bounds (m : Mesh) (a : ℕ) (b : Sides) : Type 0 where
  pub left : Bound up (λ v. (node_at m v).x) m a b.left
  pub right : Bound down (λ v. (node_at m v).x) m a b.right
  pub low : Bound up (λ v. (node_at m v).y) m a b.low
  pub high : Bound down (λ v. (node_at m v).y) m a b.high

-- all coordinates compared
pub record AllFine (b : Sides) : Type 0 where
  pub left : b.left.fine ≡ true
  pub right : b.right.fine ≡ true
  pub low : b.low.fine ≡ true
  pub high : b.high.fine ≡ true

-- ---- the note

-- there is a place for the box of a, and none is noted
pub record CanNote (w : List ℕ) (s p a : ℕ) : Type 0 where
  pub fits : mesh_end s p ≤ length w
  pub small : codes s p ≤ 2 ^ 32
  pub slot : a < s
  pub point : a < p
  pub none : note w s p a < 4

-- the memory with the box noted at a
abbrev pub with_box : List ℕ → ℕ → ℕ → ℕ → ℕ → ℕ → ℕ → ℕ → List ℕ
with_box w s p a l r b t =
    let k = boxes_at s p + 4 * a in
    set (set (set (set (set w (notes_at s p + a) (note w s p a + 4)) k l) (k + 1) r) (k + 2) b) (k + 3) t

-- ---- a node passed over

-- the box of a can be read
pub record CanLook (w : List ℕ) (q : List Float) (s p a : ℕ) : Type 0 where
  pub fits : mesh_end s p ≤ length w
  pub small : codes s p ≤ 2 ^ 32
  pub slot : a < s
  pub sides : (j : ℕ) → j < 4 → Within q (bound w s p a j)

-- the box of a lies beyond a limit
pub data Beyond (w : List ℕ) (q : List Float) (s p a : ℕ) (l : Limits) : Type 0 where
  on_left : ((point_at q (bound w s p a 1)).x ≼ l.x0) ≡ true → Beyond w q s p a l
  on_right : (l.x1 ≼ (point_at q (bound w s p a 0)).x) ≡ true → Beyond w q s p a l
  under : ((point_at q (bound w s p a 3)).y ≼ l.y0) ≡ true → Beyond w q s p a l
  over : (l.y1 ≼ (point_at q (bound w s p a 2)).y) ≡ true → Beyond w q s p a l

-- the node a and its neighbours lie beyond a limit
pub data Away (m : Mesh) (a : ℕ) (l : Limits) : Type 0 where
  to_left : ((v : ℕ) → Near m a v → ((node_at m v).x ≼ l.x0) ≡ true) → Away m a l
  to_right : ((v : ℕ) → Near m a v → (l.x1 ≼ (node_at m v).x) ≡ true) → Away m a l
  below : ((v : ℕ) → Near m a v → ((node_at m v).y ≼ l.y0) ≡ true) → Away m a l
  above : ((v : ℕ) → Near m a v → (l.y1 ≼ (node_at m v).y) ≡ true) → Away m a l
