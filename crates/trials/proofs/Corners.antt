-- The scaled Jacobian at the first corner bounds the score, and does not turn on the node across.
use mathlib.Core.Path.{◌≡◌, refl, ap, sym, ◌∙◌}
use mathlib.Core.Bool.{true, false, not, ◌||◌}
use mathlib.Core.List.{List, [], ◌∷◌, map}
use Prim.Native.Nat.{ℕ, ◌<◌}
use lib.Dec.{T}
use lib.ListN.{length, get_or}
use lib.Ieee.{Float, nan, inf, is_nan, binary64, fits, to_bits, of_bits, div}
use lib.Ieee.Bits.{of_bits-to_bits}
use Rattle.definition.specs.Account.{All}
use Rattle.definition.specs.Call.{point_at}
use Rattle.definition.specs.Cells.{Quad, new_quad}
use Rattle.definition.specs.Floats.{◌≺◌, ◌≼◌, lesser, 0·0}
use Rattle.definition.specs.Lists.{any, contains, flat_map}
use Rattle.definition.specs.Metrics.{Metrics, absent, measured, weights, c0, d0, d1, corner, weighted, scaled, jacobian_at, min_scaled_jacobian, quad_metrics, corners, not_convex, angle_of, largest_cosine, passes, score}
use Rattle.definition.specs.Numbers.{Quality, tiny_cross}
use Rattle.definition.specs.Plane.{Node, flat, twice_area}
use Rattle.plane.specs.Points.{ground, node, spot_x, spot_y}
use Rattle.plane.specs.declared.points.Spot.{Spot}
use Rattle.definition.specs.Trials.{Trial, rated}
use Rattle.laws.specs.Bools.{cond_ok, to_T}
use Rattle.rounding.proofs.Keys.{le_lt_trans, lt_le, lt_le_trans}
use Rattle.rounding.proofs.Order.{real_left}
use Rattle.trials.specs.Floors.{Neutral, begun, first_corner}
use Rattle.trials.specs.Nodes.{all_flat_map}
use Rattle.trials.specs.Ranked.{metrics_at, trial_at}
use Rattle.trials.proofs.Falling.{not_below, score_below}

-- ---- the least of several is below what one of them is below

by_first : (x y z : Float) → (x ≺ z) ≡ true → (lesser x y ≺ z) ≡ true
unfolding lesser
by_first x y z h = cond_ok (λ t. (t ≺ z) ≡ true) (y ≺ x) y x (λ e. lt_le_trans y x z e (lt_le x z h)) (λ _. h)

by_second : (x y z : Float) → T (not (is_nan x)) → (y ≺ z) ≡ true → (lesser x y ≺ z) ≡ true
unfolding lesser ◌≼◌
by_second x y z n h =
    cond_ok (λ t. (t ≺ z) ≡ true) (y ≺ x) y x (λ _. h) (λ e. le_lt_trans x y z (not_below y x (real_left y z (to_T (lt_le y z h))) n e) h)

-- ---- the corner

least_below : (a b d c : Node) (z : Float) → (first_corner a b d c ≺ z) ≡ true → (min_scaled_jacobian a b d c ≺ z) ≡ true
unfolding min_scaled_jacobian is_nan
least_below a b d c z h = by_first _ _ z (by_first _ _ z (by_first _ _ z (by_second (inf false) _ z tt h)))

across : (a b d c : Node) → Neutral a b d → first_corner a b d c ≡ first_corner a b a c
unfolding jacobian_at weighted begun
across a b d c n = rw (n.first_x, n.first_y, n.second_x, n.second_y)

-- ---- the trials

module _ (y : Quality) (q : List Float) (a b c d : ℕ) (z : Float) (n : Neutral (point_at q a) (point_at q b) (point_at q d))
    (h : (first_corner (point_at q a) (point_at q b) (point_at q a) (point_at q c) ≺ z) ≡ true) where
  abbrev Below : Trial → Type 0
  Below t = (t.score ≺ z) ≡ true

  measured_below : (k : Quad) (sj e : Float) → (sj ≺ z) ≡ true → All Below (rated y k (measured sj e))
  unfolding rated
  measured_below k sj e low =
      cond_ok (λ (l : List Trial). All Below l) (passes y (measured sj e)) (record { score = score (measured sj e); nodes = k } ∷ []) [] (λ _. (score_below sj e z low, tt)) (λ _. tt)

  -- the metrics are absent, or have that Jacobian
  rated_below : (k : Quad) → All Below (rated y k (metrics_at q a b d c))
  unfolding rated metrics_at quad_metrics passes
  rated_below k =
      let sj = min_scaled_jacobian (point_at q a) (point_at q b) (point_at q d) (point_at q c) in
      let low : (sj ≺ z) ≡ true = least_below (point_at q a) (point_at q b) (point_at q d) (point_at q c) z (rw (across (point_at q a) (point_at q b) (point_at q d) (point_at q c) n) h) in
      let angles = map angle_of (corners (point_at q a) (point_at q b) (point_at q d) (point_at q c)) in
      let area = twice_area (point_at q a) (point_at q b) (point_at q d) (point_at q c) ≼ tiny_cross in
      let bent = any not_convex (corners (point_at q a) (point_at q b) (point_at q d) (point_at q c)) in
      let level = any (λ t. t.sides ≼ 0·0) angles in
      cond_ok (λ (m : Metrics). All Below (rated y k m)) (area || bent || level) absent (measured sj (largest_cosine angles)) (λ _. tt) (λ _. measured_below k sj (largest_cosine angles) low)

  pub trial_below : All Below (trial_at y q a b c d)
  unfolding trial_at
  trial_below = cond_ok (λ (l : List Trial). All Below l) (contains (a ∷ b ∷ []) c || contains (a ∷ b ∷ c ∷ []) d) [] (rated y (new_quad a b d c) (metrics_at q a b d c)) (λ _. tt) (λ _. rated_below (new_quad a b d c))

-- no trial of c reaches a floor that the corner is below
pub node_below : (y : Quality) (q : List Float) (a b c : ℕ) (ds : List ℕ) (z : Float) → ((j : ℕ) → j < length ds → Neutral (point_at q a) (point_at q b) (point_at q (get_or ds j 0)))
    → (first_corner (point_at q a) (point_at q b) (point_at q a) (point_at q c) ≺ z) ≡ true
    → All (λ t. (t.score ≺ z) ≡ true) (flat_map (trial_at y q a b c) ds)
node_below y q a b c ds z n h = all_flat_map (λ t. (t.score ≺ z) ≡ true) (trial_at y q a b c) ds (λ j u. trial_below y q a b c (get_or ds j 0) z (n j u) h)

-- ---- what the code divides by zero to get

pub zero_over_zero : div binary64 (of_bits binary64 0) (of_bits binary64 0) ≡ nan
unfolding div of_bits
zero_over_zero = refl

-- floats with the same bits are the same
pub same_float : (x y : Float) → fits binary64 x ≡ true → fits binary64 y ≡ true → to_bits binary64 x ≡ to_bits binary64 y → x ≡ y
same_float x y h k e = sym (of_bits-to_bits binary64 x (to_T h)) ∙ ap (of_bits binary64) e ∙ of_bits-to_bits binary64 y (to_T k)

-- a node that is given by its spot
pub neutral_at : (u v w : Spot) (a b d : Node) → node u ≡ ground a → node v ≡ ground b → node w ≡ ground d → Neutral (node u) (node v) (node w) → Neutral a b d
unfolding ground flat
neutral_at u v w a b d e f g n =
    let m : Neutral (ground a) (ground b) (ground d) = rw (← e, ← f, ← g) n in
    record { first_x = m.first_x; first_y = m.first_y; second_x = m.second_x; second_y = m.second_y }

-- the corner by the sums of its columns
pub corner_by : (u v t : Spot) (a b c : Node) {lx ly kx ky : Float} → node u ≡ ground a → node v ≡ ground b → node t ≡ ground c
    → lx ≡ weighted (weights (d0 c0)) u.x v.x u.x t.x → ly ≡ weighted (weights (d0 c0)) u.y v.y u.y t.y
    → kx ≡ weighted (weights (d1 c0)) u.x v.x u.x t.x → ky ≡ weighted (weights (d1 c0)) u.y v.y u.y t.y
    → scaled (corner lx ly) (corner kx ky) ≡ first_corner a b a c
unfolding jacobian_at
corner_by u v t a b c e f g l m n o =
    rw (l, m, n, o, spot_x u a e, spot_y u a e, spot_x v b f, spot_y v b f, spot_x t c g, spot_y t c g)
