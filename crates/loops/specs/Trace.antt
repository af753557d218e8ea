-- The loops in the making: the front's edges at each node, those that are in no loop yet, and those that are placed.
use Rattle.std.specs.Prelude.{None, Some, Option as Answer, ◌≡◌, ◌+◌, ◌*◌, ◌<◌, ◌≤◌, ◌∷◌, ◌++◌}
use Rattle.laws.specs.Kit.{Bool, true, false, cond, none, some, ℕ, zero, suc, eqb, List, [], length, get_or}
use Rattle.definition.specs.Lists.{find}
use Rattle.definition.specs.Plane.{Edge}
use Rattle.definition.specs.Cells.{touches}
use Rattle.definition.specs.Loops.{Walk, walk, far_end, without_edge}
use Rattle.cells.specs.Layout.{front_links_at, front_used_at, order_at, starts_at, heads_at}
use Rattle.edges.specs.Stored.{edges_on}
use Rattle.edges.specs.Parts.{edge_of}
use Rattle.loops.specs.Loop.{CanLoop}

-- ---- edges by number

-- edge number i is in no loop yet
abbrev pub fresh : List ℕ → ℕ → ℕ → ℕ → Bool
fresh w s p i = eqb (get_or w (front_used_at s p + i) 0) 0

-- of the m edges from number i on, those in no loop
unfoldable pub unused : List ℕ → ℕ → ℕ → List Edge → ℕ → ℕ → List Edge
unused w s p es i zero = []
unused w s p es i (suc m) = let rest = unused w s p es (suc i) m in cond (fresh w s p i) (edge_of es i ∷ rest) rest

-- the number of the first edge that touches v, of the m from number i on; i + m where none does
unfoldable pub seek : List Edge → ℕ → ℕ → ℕ → ℕ
seek es v i zero = i
seek es v i (suc m) = let rest = seek es v (suc i) m in cond (touches (edge_of es i) v) i rest

-- ---- the edges at each node

-- for the m edges from number i on: the first edge at each node, and at either end of an edge the next one there
pub record Listed (w : List ℕ) (s p n : ℕ) (es : List Edge) (i m : ℕ) : Type 0 where
  pub heads : (v : ℕ) → v < n → get_or w (heads_at s p + v) 0 ≡ seek es v i m
  pub firsts : (j l : ℕ) → i ≤ j → j + suc l ≡ i + m → get_or w (front_links_at s p + 2 * j) 0 ≡ seek es (edge_of es j).0 (suc j) l
  pub seconds : (j l : ℕ) → i ≤ j → j + suc l ≡ i + m → get_or w (front_links_at s p + (2 * j + 1)) 0 ≡ seek es (edge_of es j).1 (suc j) l

-- the front and all its edges at each node
pub record Ready (w : List ℕ) (s p n k : ℕ) (es : List Edge) : Type 0 where
  pub front : CanLoop w s p n k es
  pub lists : Listed w s p n es 0 k

-- the edge c touches v, with l edges behind it
pub record AtNode (w : List ℕ) (s p n k c l v : ℕ) (es : List Edge) : Type 0 where
  pub ready : Ready w s p n k es
  pub sum : c + suc l ≡ k
  pub end : touches (edge_of es c) v ≡ true

-- c is the first edge at v that is in no loop
pub record IsLeft (w : List ℕ) (s p k v c : ℕ) (es : List Edge) : Type 0 where
  pub inside : c < k
  pub hit : find (λ e. touches e v) (unused w s p es 0 k) ≡ some (edge_of es c)
  pub free : fresh w s p c ≡ true

-- r is the first edge at v that is in no loop, where there is one
pub record Found (w : List ℕ) (s p k v : ℕ) (r : Answer ℕ) (es : List Edge) : Type 0 where
  pub hit : (c : ℕ) → r ≡ Some c → IsLeft w s p k v c es
  pub miss : r ≡ None → find (λ e. touches e v) (unused w s p es 0 k) ≡ none

-- the other end of the edge c, seen from v
pub record FarTo (n c v r : ℕ) (es : List Edge) : Type 0 where
  pub is : r ≡ far_end (edge_of es c) v
  pub known : r < n

-- ---- placed edges

-- path stands at the places from a to b, and behind it is room for the edges in no loop
pub record Placed (w : List ℕ) (s p n k a b : ℕ) (es path : List Edge) : Type 0 where
  pub ready : Ready w s p n k es
  pub room : b + length (unused w s p es 0 k) ≤ k
  pub sum : a + length path ≡ b
  pub are : edges_on w s p a (length path) ≡ path
  pub places : (i : ℕ) → a ≤ i → i < b → get_or w (order_at s p + i) 0 < k

-- nothing changed before the links, nor the first b places and the first j starts, and no edge left a loop
pub record Aside (w w' : List ℕ) (s p b j : ℕ) : Type 0 where
  pub len : length w' ≡ length w
  pub below : (i : ℕ) → i < front_links_at s p → get_or w' i 0 ≡ get_or w i 0
  pub order : (i : ℕ) → i < b → get_or w' (order_at s p + i) 0 ≡ get_or w (order_at s p + i) 0
  pub starts : (i : ℕ) → i < j → get_or w' (starts_at s p + i) 0 ≡ get_or w (starts_at s p + i) 0
  pub used : (i : ℕ) → i < 3 * s → fresh w s p i ≡ false → fresh w' s p i ≡ false

-- the edge c may come to place b
pub record CanPlace (w : List ℕ) (s p n k a b c : ℕ) (es path : List Edge) : Type 0 where
  pub placed : Placed w s p n k a b es path
  pub inside : c < k
  pub free : fresh w s p c ≡ true

-- it is there
pub record PlaceTo (w w' : List ℕ) (s p n k a b c : ℕ) (es path : List Edge) : Type 0 where
  pub placed : Placed w' s p n k a (b + 1) es (path ++ edge_of es c ∷ [])
  pub left : unused w' s p es 0 k ≡ without_edge (edge_of es c) (unused w s p es 0 k)
  pub less : length (unused w s p es 0 k) ≡ suc (length (unused w' s p es 0 k))
  pub aside : Aside w w' s p b (3 * s)
  pub gone : fresh w' s p c ≡ false

-- ---- a walk

-- path ends here
pub record CanWalk (w : List ℕ) (s p n k a b here : ℕ) (es path : List Edge) : Type 0 where
  pub placed : Placed w s p n k a b es path
  pub known : here < n

-- the walk's path stands in its place
pub record WalkTo (w w' : List ℕ) (s p n k a b r : ℕ) (es : List Edge) (t : Walk) : Type 0 where
  pub placed : Placed w' s p n k a r es t.path
  pub left : unused w' s p es 0 k ≡ t.left
  pub fewer : length (unused w' s p es 0 k) ≤ length (unused w s p es 0 k)
  pub aside : Aside w w' s p b (3 * s)
  pub more : b ≤ r

-- ---- a loop

-- the edge i is the first in no loop; its loop has number j and place b
pub record CanTrace (w : List ℕ) (s p n k b j i : ℕ) (es : List Edge) : Type 0 where
  pub ready : Ready w s p n k es
  pub room : b + length (unused w s p es 0 k) ≤ k
  pub few : j ≤ b
  pub inside : i < k
  pub free : fresh w s p i ≡ true
  pub rest : List Edge
  pub first : unused w s p es 0 k ≡ edge_of es i ∷ rest

-- the walk from the edge e on, through the edges left
abbrev pub walk_of : Edge → List Edge → Walk
walk_of e rest = walk (length rest) e.0 e.1 (e ∷ []) rest

-- the loop stands there
pub record TraceTo (w w' : List ℕ) (s p n k b r j i : ℕ) (es : List Edge) (t : Walk) : Type 0 where
  pub placed : Placed w' s p n k b r es t.path
  pub start : get_or w' (starts_at s p + j) 0 ≡ b
  pub left : unused w' s p es 0 k ≡ t.left
  pub fewer : length (unused w' s p es 0 k) < length (unused w s p es 0 k)
  pub aside : Aside w w' s p b j
  pub gone : fresh w' s p i ≡ false
  pub more : b < r
