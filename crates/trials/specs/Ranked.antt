-- The pairs of side nodes that the code goes through, and their trials.
use Rattle.std.specs.Prelude.{◌≡◌, ◌||◌, cond, List, [], ◌∷◌, ℕ, ◌+◌, ◌*◌, ◌≤◌, ◌<◌, length, take, drop, get_or, Float}
use Rattle.std.proofs.Common.{◌∙◌, arith, length-take, length-drop, get_or-take, get_or-drop}
use Rattle.definition.specs.Call.{point_at}
use Rattle.definition.specs.Cells.{new_quad}
use Rattle.definition.specs.Lists.{contains}
use Rattle.definition.specs.Metrics.{Metrics, quad_metrics}
use Rattle.definition.specs.Numbers.{Quality}
use Rattle.definition.specs.Plane.{dist}
use Rattle.definition.specs.Trials.{Trial, rated}
use Rattle.plane.specs.Points.{Within}
use Rattle.trials.specs.declared.ranked.Half.{Half}

-- the list that stands in the slice from a place on
abbrev pub part : List ℕ → ℕ → ℕ → List ℕ
part w at n = take n (drop at w)

-- its length and its elements
pub length_part : (w : List ℕ) (at n : ℕ) → at + n ≤ length w → length (part w at n) ≡ n
length_part w at n h = simp (length-take, length-drop) (omega arith)

pub part_at : (w : List ℕ) (at n k : ℕ) → k < n → get_or (part w at n) k 0 ≡ get_or w (at + k) 0
part_at w at n k h = get_or-take n (drop at w) k 0 h ∙ get_or-drop at w k 0

-- the part's elements are below n where those of the slice are
pub part_below : (w : List ℕ) (at k n : ℕ) → at + k ≤ length w → ((i : ℕ) → i < k → get_or w (at + i) 0 < n) → (i : ℕ) → i < length (part w at k) → get_or (part w at k) i 0 < n
part_below w at k n f h i u = let l : i < k = omega (arith, length_part w at k f) in rw (part_at w at k i l) (h i l)

-- the metrics of the quad of four nodes of the slice
unfoldable pub metrics_at : List Float → ℕ → ℕ → ℕ → ℕ → Metrics
metrics_at q a b c d = quad_metrics (point_at q a) (point_at q b) (point_at q c) (point_at q d)

-- the definition's `trial`, over the slice's points
unfoldable pub trial_at : Quality → List Float → ℕ → ℕ → ℕ → ℕ → List Trial
trial_at y q a b c d =
    let scored = rated y (new_quad a b d c) (metrics_at q a b d c) in
    cond (contains (a ∷ b ∷ []) c || contains (a ∷ b ∷ c ∷ []) d) [] scored

-- the half's nodes are in the slice of points, and its lengths are theirs
pub record HalfAt (q : List Float) (h : Half) : Type 0 where
  pub a_within : Within q h.a
  pub b_within : Within q h.b
  pub c_within : Within q h.c
  pub edge : h.ab ≡ dist (point_at q h.a) (point_at q h.b)
  pub side : h.ca ≡ dist (point_at q h.c) (point_at q h.a)

-- the side nodes at b are in the slice of points
pub record Far (w : List ℕ) (q : List Float) (far_at fars : ℕ) : Type 0 where
  pub stands : far_at + fars ≤ length w
  pub within : (j : ℕ) → j < fars → Within q (get_or w (far_at + j) 0)

-- the edge's ends and the side nodes at both are below n, and the slice has n points
pub record Named (n : ℕ) (w : List ℕ) (q : List Float) (near_at nears far_at fars a b : ℕ) : Type 0 where
  pub points : 3 * n ≤ length q
  pub a_below : a < n
  pub b_below : b < n
  pub near : near_at + nears ≤ length w
  pub near_below : (i : ℕ) → i < nears → get_or w (near_at + i) 0 < n
  pub far : far_at + fars ≤ length w
  pub far_below : (j : ℕ) → j < fars → get_or w (far_at + j) 0 < n
