-- A walk over the owners of an edge u-v, in their order, along the ring of u.
use Rattle.std.specs.Prelude.{◌≡◌, Bool, true, false, cond, ◌||◌, List, [], ◌∷◌, ℕ, zero, suc, ◌+◌, ◌*◌, ◌/◌, ◌%◌, ◌-◌, ◌<◌, ◌≤◌, eqb, ltb, length, get_or}
use Rattle.std.proofs.Math.Option.{Option, none, some}
use Rattle.rings.specs.Rings.{nx}
use Rattle.definition.specs.Lists.{filter}
use Rattle.definition.specs.Cells.{Live, key, owns}
use Rattle.cells.specs.Layout.{nodes_at, rings_at, codes}
use Rattle.cells.specs.Rep.{Held, Cells, Room, corners}

-- the owners of u-v among some cells
abbrev pub own : ℕ → ℕ → List Live → List Live
own u v l = filter (owns (key u v)) l

-- ---- what is read

-- the node in place k of slot i
abbrev pub node_in : List ℕ → ℕ → ℕ → ℕ → ℕ
node_in w s i k = get_or w (nodes_at s + 4 * i + k) 0

-- the place after k, and the place before it, in a cell of n nodes
unfoldable pub after : ℕ → ℕ → ℕ
after k n = cond (eqb (k + 1) n) 0 (k + 1)

-- the place before
unfoldable pub before : ℕ → ℕ → ℕ
before k n = cond (eqb k 0) (n - 1) (k - 1)

-- the node after corner c in its cell
abbrev pub node_after : List ℕ → ℕ → ℕ → ℕ
node_after w s c = node_in w s (c / 4) (after (c % 4) (get_or w (c / 4) 0))

-- the node before it
abbrev pub node_before : List ℕ → ℕ → ℕ → ℕ
node_before w s c = node_in w s (c / 4) (before (c % 4) (get_or w (c / 4) 0))

-- v stands beside corner c in its cell
unfoldable pub beside : List ℕ → ℕ → ℕ → ℕ → Bool
beside w s c v = eqb (node_after w s c) v || eqb (node_before w s c) v

-- what a read of slot i asks
pub record CanSee (w : List ℕ) (s i : ℕ) : Type 0 where
  pub fits : 5 * s ≤ length w
  pub inside : i < s

-- what a read of the cell of corner c asks
pub record CanRead (w : List ℕ) (s c : ℕ) : Type 0 where
  pub fits : 5 * s < length w
  pub inside : c < 4 * s
  pub least : 3 ≤ get_or w (c / 4) 0
  pub most : get_or w (c / 4) 0 ≤ 4

-- the nodes of an edge: u has a ring, and v is another
pub record IsEdge (p u v : ℕ) : Type 0 where
  pub node : u < p
  pub apart : u ≡ v → ⊥

-- ---- places in a ring

-- following next from c gives l and then z
abbrev pub From : (ℕ → ℕ) → ℕ → List ℕ → ℕ → Type 0
From f c [] z = c ≡ z
From f c (x ∷ l) z = (c ≡ x) × From f (f x) l z

-- c is a place in the ring of u: the corners at u of the cells of `rest` follow
pub record Pos (w : List ℕ) (s p u c : ℕ) (rest : List Live) : Type 0 where
  pub room : Room w s p
  pub node : u < p
  pub cells : Cells w s s p rest
  pub from : From (nx w (rings_at s)) c (corners rest u) (4 * s + u)
  pub few : length (corners rest u) ≤ codes s p

-- how many links lead from c to a sentinel, at most n
unfoldable pub steps : ℕ → List ℕ → ℕ → ℕ → ℕ
steps zero w s c = 0
steps (suc n) w s c = cond (ltb c (4 * s)) (suc (steps n w s (nx w (rings_at s) c))) 0

-- the measure of a walk
abbrev pub left : List ℕ → ℕ → ℕ → ℕ → ℕ
left w s p c = steps (codes s p) w s c

-- r is the corner at u of the first owner of u-v among the cells of `rest`, or the sentinel
pub data Sought (w : List ℕ) (s p u v r : ℕ) (rest : List Live) : Type 0 where
  nobody : own u v rest ≡ [] → r ≡ 4 * s + u → Sought w s p u v r rest
  somebody : (x : Live) (more : List Live) → own u v rest ≡ x ∷ own u v more → r / 4 ≡ x.slot → r < 4 * s → Held w s s p x
      → Pos w s p u (nx w (rings_at s) r) more → left w s p r ≡ suc (length (corners more u)) → suc (length (corners more u)) ≤ length (corners rest u)
      → Sought w s p u v r rest

-- the corner c is that of the first of xs, the owners of u-v that are still to come; 4 s or more where there is none
pub record At (w : List ℕ) (s p u v c : ℕ) (xs : List Live) : Type 0 where
  pub rest : List Live
  pub sought : Sought w s p u v c rest
  pub are : own u v rest ≡ xs

-- r is the next owner's after c
pub record Next (w : List ℕ) (s p u v c r : ℕ) : Type 0 where
  pub fewer : left w s p r < left w s p c
  pub at : (x : Live) (xs : List Live) → At w s p u v c (x ∷ xs) → At w s p u v r xs

-- one where the test passes
abbrev pub one_if : Bool → ℕ
one_if true = 1
one_if false = 0

-- the slot of a live cell, or another number
abbrev pub slot_or : ℕ → Option Live → ℕ
slot_or n none = n
slot_or n (some x) = x.slot
