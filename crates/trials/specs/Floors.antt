-- A floor under the scores: trials below it are left out, where so many as are wanted reach it or every score does.
use Rattle.std.specs.Prelude.{◌≡◌, Bool, true, not, ◌⊎◌, List, ℕ, ◌+◌, ◌≤◌, ◌<◌, length, get_or, Float, Option, Some, None}
use Rattle.std.specs.Float.{inf}
use Rattle.definition.specs.Call.{point_at}
use Rattle.definition.specs.Floats.{◌⊕◌, ◌⊗◌, ◌≺◌, 0·0}
use Rattle.definition.specs.Lists.{filter}
use Rattle.definition.specs.Metrics.{Weights, weights, c0, d0, d1, jacobian_at}
use Rattle.definition.specs.Plane.{Node, dist}
use Rattle.definition.specs.Trials.{Trial}
use Rattle.plane.specs.Points.{Within}
use Rattle.trials.specs.Kept.{Falling, listed}

-- a floor, which is minus infinity where there is none
abbrev pub bar : Option Float → Float
bar (Some z) = z
bar None = inf true

-- its score is not below the floor
unfoldable pub reaches : Float → Trial → Bool
reaches z t = not (t.score ≺ z)

-- the trials that reach the floor
unfoldable pub reaching : Float → List Trial → List Trial
reaching z l = filter (reaches z) l

-- the first k, of at most so many, fall, and those that reach the floor are the list
pub record KeepsAbove (z : Float) (scores : List Float) (nodes : List ℕ) (most k : ℕ) (l : List Trial) : Type 0 where
  pub few : k ≤ most
  pub falls : Falling (listed scores nodes k)
  pub list : reaching z (listed scores nodes k) ≡ l

-- every trial reaches the floor, or so many of the list do
abbrev pub Fair : Float → ℕ → List Trial → Type 0
Fair z pairs l = ((t : List Trial) → reaching z t ≡ t) ⊎ (pairs ≤ length (reaching z l))

-- ---- the scaled Jacobian at the first corner, which does not turn on the node across it

-- that of the quad a b d c
abbrev pub first_corner : Node → Node → Node → Node → Float
first_corner a b d c = jacobian_at a b d c (weights (d0 c0)) (weights (d1 c0))

-- a weighted sum up to its third node
unfoldable pub begun : Weights → Float → Float → Float → Float
begun w a b d = 0·0 ⊕ w.w0 ⊗ a ⊕ w.w1 ⊗ b ⊕ w.w2 ⊗ d

-- the sums of both columns at the corner a of the quad a b d c are with d what they are with a in its place
pub record Neutral (a b d : Node) : Type 0 where
  pub first_x : begun (weights (d0 c0)) a.x b.x d.x ≡ begun (weights (d0 c0)) a.x b.x a.x
  pub first_y : begun (weights (d0 c0)) a.y b.y d.y ≡ begun (weights (d0 c0)) a.y b.y a.y
  pub second_x : begun (weights (d1 c0)) a.x b.x d.x ≡ begun (weights (d1 c0)) a.x b.x a.x
  pub second_y : begun (weights (d1 c0)) a.y b.y d.y ≡ begun (weights (d1 c0)) a.y b.y a.y

-- so for each of the nodes that stand in the slice from a place on
abbrev pub AllNeutral : List ℕ → List Float → ℕ → ℕ → ℕ → ℕ → Type 0
AllNeutral w q far_at fars a b = (j : ℕ) → j < fars → Neutral (point_at q a) (point_at q b) (point_at q (get_or w (far_at + j) 0))

-- so where there is a floor
abbrev pub NeutralUnder : Option Float → List ℕ → List Float → ℕ → ℕ → ℕ → ℕ → Type 0
NeutralUnder (Some z) w q far_at fars a b = AllNeutral w q far_at fars a b
NeutralUnder None w q far_at fars a b = Unit {0}

-- the edge's ends are in the slice of points, and its length is theirs
pub record Ended (q : List Float) (a b : ℕ) (ab : Float) : Type 0 where
  pub a_within : Within q a
  pub b_within : Within q b
  pub edge : ab ≡ dist (point_at q a) (point_at q b)
