-- The front's edges come to the lists of their ends.
use Rattle.std.specs.Prelude.{◌≡◌, ◌+◌, ◌*◌, ◌<◌, ◌≤◌}
use Rattle.laws.specs.Kit.{true, ℕ, List, length, get_or, set}
use Rattle.definition.specs.Plane.{Edge}
use Rattle.cells.specs.Layout.{front_links_at, front_used_at, heads_at}
use Rattle.cells.specs.Rep.{Room}
use Rattle.loops.specs.Loop.{CanLoop}
use Rattle.loops.specs.Trace.{fresh, Listed, Ready}

-- the n words from a on are x, and nothing else changed
pub record Filled (w w' : List ℕ) (a n x : ℕ) : Type 0 where
  pub len : length w' ≡ length w
  pub inside : (i : ℕ) → i < n → get_or w' (a + i) 0 ≡ x
  pub low : (i : ℕ) → i < a → get_or w' i 0 ≡ get_or w i 0
  pub high : (i : ℕ) → a + n ≤ i → get_or w' i 0 ≡ get_or w i 0

-- the edge i may come to the list of node x, with the link l
pub record CanLink (w : List ℕ) (s p x l i : ℕ) : Type 0 where
  pub room : Room w s p
  pub node : x < p
  pub link : l < 6 * s
  pub edge : i < 3 * s

-- the slice with the edge i at the front of the list of node x, with the link l
unfoldable pub linked : List ℕ → ℕ → ℕ → ℕ → ℕ → ℕ → List ℕ
linked w s p x l i = set (set w (front_links_at s p + l) (get_or w (heads_at s p + x) 0)) (heads_at s p + x) i

-- the m edges from number i on are in the lists
pub record Linking (w : List ℕ) (s p n k : ℕ) (es : List Edge) (i m : ℕ) : Type 0 where
  pub front : CanLoop w s p n k es
  pub lists : Listed w s p n es i m
  pub sum : i + m ≡ k

-- after a change of links and heads the m edges from number i on are in the lists
pub record LinkTo (w w' : List ℕ) (s p n k : ℕ) (es : List Edge) (i m : ℕ) : Type 0 where
  pub linking : Linking w' s p n k es i m
  pub len : length w' ≡ length w
  pub below : (x : ℕ) → x < front_links_at s p → get_or w' x 0 ≡ get_or w x 0
  pub between : (x : ℕ) → front_used_at s p ≤ x → x < heads_at s p → get_or w' x 0 ≡ get_or w x 0

-- all are in the lists, and none in a loop
pub record Clear (w : List ℕ) (s p n k : ℕ) (es : List Edge) : Type 0 where
  pub ready : Ready w s p n k es
  pub flags : (x : ℕ) → x < k → fresh w s p x ≡ true

-- after a change all edges are in the lists, and none in a loop
pub record ListTo (w w' : List ℕ) (s p n k : ℕ) (es : List Edge) : Type 0 where
  pub clear : Clear w' s p n k es
  pub len : length w' ≡ length w
  pub below : (x : ℕ) → x < front_links_at s p → get_or w' x 0 ≡ get_or w x 0
