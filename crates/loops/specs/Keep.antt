-- A loop that has come to its places: what it takes to see whether it is kept, and what that gives.
use Rattle.std.specs.Prelude.{◌≡◌, ◌+◌, ◌<◌, ◌≤◌, ◌∷◌, ◌++◌}
use Rattle.laws.specs.Kit.{true, false, ℕ, List, [], length, Float}
use Rattle.definition.specs.Plane.{Node, Edge}
use Rattle.definition.specs.Cells.{Mesh}
use Rattle.cells.specs.Rep.{Room, Pts}
use Rattle.edges.specs.Stored.{Measured}
use Rattle.edges.specs.Places.{OnPlaces}
use Rattle.loops.specs.Sift.{some_open, Blocked}

-- the loop l over n nodes stands at the places from b to e
pub record OpenLoop (w : List ℕ) (s p b e n : ℕ) (bl l : List Edge) : Type 0 where
  pub room : Room w s p
  pub at : OnPlaces w s p b e n l
  pub nodes : n ≤ p
  pub blocked : Blocked w s p bl

-- the loop l at the places from b to e may come behind the j loops ls;
-- of these the first stands before place b where it is the only one
pub record CanMeasure (w : List ℕ) (q f : List Float) (s p b e j : ℕ) (m : Mesh) (l : List Edge) (ls : List (List Edge)) : Type 0 where
  pub room : Room w s p
  pub pts : Pts q p m
  pub at : OnPlaces w s p b e (length m.points) l
  pub inside : j < length f
  pub many : length ls ≡ j
  pub sums : Measured f s p j m.points ls
  pub first : (k : List Edge) → ls ≡ k ∷ [] → OnPlaces w s p 0 b (length m.points) k

-- it may become loop j
pub record CanKeep (w : List ℕ) (q f : List Float) (s p b e j : ℕ) (m : Mesh) (bl l : List Edge) (ls : List (List Edge)) : Type 0 where
  pub loop : OpenLoop w s p b e (length m.points) bl l
  pub behind : CanMeasure w q f s p b e j m l ls

-- it is where some edge of it is not blocked; else there are as many loops and edges as before
pub record KeepTo (f f' : List Float) (s p b e j b' j' : ℕ) (ps : List Node) (bl l : List Edge) (ls : List (List Edge)) : Type 0 where
  pub kept : some_open bl l ≡ true → (j' ≡ j + 1) × (b' ≡ e) × Measured f' s p (j + 1) ps (ls ++ l ∷ [])
  pub dropped : some_open bl l ≡ false → (j' ≡ j) × (b' ≡ b) × (f' ≡ f)
