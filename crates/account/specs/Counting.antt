-- Every attempt is counted once, and every added point: the sum of attempts, and the points of a finished run.
use Rattle.std.specs.Prelude.{◌≡◌, ◌+◌, ◌∷◌, ◌++◌}
use Rattle.laws.specs.Kit.{refl, sym, ◌∙◌, ap, subst, Bool, ℕ, arith, List, [], append-nil, append_assoc, length, take, length-append}
use Rattle.std.proofs.Math.Seq.{take-append_seam}
use Rattle.definition.specs.Numbers.{Settings}
use Rattle.definition.specs.Counts.{Counts, tally, ◌⊞◌, no_counts, emptied, one_attempt, Spent, spending, at_limit, Refusal, Placement, Shape, Recovery, Region, OddRegion, refused_by}
use Rattle.definition.specs.Plane.{Node, Edge}
use Rattle.definition.specs.Cells.{Tri, Mesh}
use Rattle.definition.specs.Front.{State, counting, Result, ran, new_mesh, start, result, run_front}
use Rattle.account.specs.Start.{Proper}
use Rattle.account.specs.Run.{Rule}

-- ---- the sum
-- attempts = quads + placement + invalid_quad + recovery + region + odd_region + limit
abbrev pub AddsUp : Counts → ℕ → Type 0
AddsUp c quads = c.attempts ≡ quads + c.placement + c.invalid_quad + c.recovery + c.region + c.odd_region + c.limit

-- ---- the points
-- the points are the given ones, then the added ones
pub record Counted (ps points : List Node) (c : Counts) (quads : ℕ) : Type 0 where
  pub added : List Node
  pub points_are : points ≡ ps ++ added
  pub number : length added ≡ c.mismatch_insertions
  pub adds_up : AddsUp c quads

-- n more points, after those before
pub record More (before after : List Node) (n : ℕ) : Type 0 where
  pub new : List Node
  pub is : after ≡ before ++ new
  pub number : length new ≡ n
