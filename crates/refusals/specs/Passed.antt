-- What each of the conditions before a run says where it does not hold, in terms of the slices.
-- The laws named `pass` lead back to the condition.
use Rattle.std.specs.Prelude.{◌≡◌, ◌≢◌, ◌&&◌, ◌||◌, ◌+◌, ◌*◌, ◌<◌, ◌≤◌, ◌∷◌}
use Rattle.laws.specs.Kit.{refl, sym, ◌∙◌, inl, inr, Bool, true, false, not, ℕ, arith, ℕ_discrete, eqb, ltb, leb, eq-eqb, ne_eqb, eqb-true, eqb-false, le-ltb, ltb-false, lt-leb, leb-false, not-false, List, [], length, get_or, Float}
use borrow.Author.Tests.{leb-true}
use Rattle.definition.specs.Floats.{◌≼◌, abs, 0·0, 0·1, 0·5, 0·99, 1·0, 4·0}
use Rattle.definition.specs.Lists.{any, all}
use Rattle.definition.specs.Cells.{Tri, new_tri, tri_nodes}
use Rattle.definition.specs.Call.{Asked, Lent, point_at, tri_at, first_points, first_tris, joint_at, given_points, given_tris, given_joints, most_given, most_capacity, most_slots, most_joints, most_coordinate, slot_words, point_words, slot_floats, over_limit, bad_size, bad_stop, ranges, most_pairs, good_quality, bad_quality, too_short, unknown_node, twice, repeated_node, outside, far_point, grid_node, bad_joint, bad_joints}
use Rattle.laws.specs.Bools.{which, and_right, both, or_none}
use Rattle.laws.specs.Tables.{none_below, below_none}
use Rattle.refusals.specs.Tests.{by_thirds}

-- ---- 1

-- the stated numbers are within their limits
pub record Limited (a : Asked) : Type 0 where
  pub count : a.count ≤ 4096
  pub given : a.given ≤ 4096
  pub capacity : a.capacity ≤ 8192
  pub slots : a.slots ≤ 16384

module _ (a : Asked) where
  pub limited : over_limit a ≡ false → Limited a
  unfolding over_limit most_given most_capacity most_slots
  limited e =
      let h3 = or_none _ (ltb 16384 a.slots) e in
      let h2 = or_none _ (ltb 8192 a.capacity) h3.0 in
      let h1 = or_none (ltb 4096 a.count) (ltb 4096 a.given) h2.0 in
      record {
        count = ltb-false 4096 a.count h1.0;
        given = ltb-false 4096 a.given h1.1;
        capacity = ltb-false 8192 a.capacity h2.1;
        slots = ltb-false 16384 a.slots h3.1;
      }

  pub limits_pass : Limited a → over_limit a ≡ false
  unfolding over_limit most_given most_capacity most_slots
  limits_pass h =
      rw (le-ltb 4096 a.count h.count, le-ltb 4096 a.given h.given, le-ltb 8192 a.capacity h.capacity, le-ltb 16384 a.slots h.slots)

  -- ---- 3

  -- the rule is one of the two
  pub ruled : bad_stop a ≡ false → a.stop ≤ 1
  unfolding bad_stop
  ruled e = elim (which (eqb a.stop 0)) [
    | inl f ↦ omega (arith, eqb-true a.stop 0 f)
    | inr f ↦ omega (arith, eqb-true a.stop 1 (rw f at (not-false (eqb a.stop 0 || eqb a.stop 1) e)))
  ]

  pub rule_passes : a.stop ≤ 1 → bad_stop a ≡ false
  unfolding bad_stop
  rule_passes h = elim (ℕ_discrete a.stop 0) [
    | yes e ↦ rw (eq-eqb a.stop 0 e)
    | no e ↦ rw (ne_eqb a.stop 0 e, eq-eqb a.stop 1 (omega arith))
  ]

  -- ---- 14

  -- no more pairs than can be kept
  pub few_pairs : bad_quality a ≡ false → a.quality.pairs ≤ 64
  unfolding bad_quality good_quality most_pairs
  few_pairs e =
      let y = a.quality in
      let rest = ranges 0·0 1·0 y.least_jacobian && ranges 0·5 0·99 y.largest_cosine && ranges 0·1 4·0 y.side_low && ranges 0·1 4·0 y.side_high && y.side_low ≼ y.side_high && leb 1 y.pairs in
      leb-true a.quality.pairs 64 (and_right rest (leb a.quality.pairs 64) (not-false (good_quality a.quality) e))

-- ---- 4

-- every slice is as long as stated, and what is given fits
pub record Roomy (a : Asked) (l : Lent) : Type 0 where
  pub points : 3 * a.capacity ≤ length l.points
  pub triangles : 3 * a.count ≤ length l.triangles
  pub joints : 2 * a.joints ≤ length l.joints
  pub quads : 8 * a.slots ≤ length l.quads
  pub triangles_out : 3 * a.slots ≤ length l.triangles_out
  pub components : a.slots ≤ length l.components
  pub work : 64 * a.slots + 8 * a.capacity ≤ length l.work
  pub float_work : 4 * a.slots ≤ length l.float_work
  pub given : a.given ≤ a.capacity
  pub count : a.count ≤ a.slots

module _ (a : Asked) (l : Lent) where
  pub roomy : too_short a l ≡ false → Roomy a l
  unfolding too_short slot_words point_words slot_floats
  roomy e =
      let h9 = or_none _ (ltb a.slots a.count) e in
      let h8 = or_none _ (ltb a.capacity a.given) h9.0 in
      let h7 = or_none _ (ltb (length l.float_work) (4 * a.slots)) h8.0 in
      let h6 = or_none _ (ltb (length l.work) (64 * a.slots + 8 * a.capacity)) h7.0 in
      let h5 = or_none _ (ltb (length l.components) a.slots) h6.0 in
      let h4 = or_none _ (ltb (length l.triangles_out) (3 * a.slots)) h5.0 in
      let h3 = or_none _ (ltb (length l.quads) (8 * a.slots)) h4.0 in
      let h2 = or_none _ (ltb (length l.joints) (2 * a.joints)) h3.0 in
      let h1 = or_none (ltb (length l.points) (3 * a.capacity)) (ltb (length l.triangles) (3 * a.count)) h2.0 in
      record {
        points = ltb-false _ _ h1.0;
        triangles = ltb-false _ _ h1.1;
        joints = ltb-false _ _ h2.1;
        quads = ltb-false _ _ h3.1;
        triangles_out = ltb-false _ _ h4.1;
        components = ltb-false _ _ h5.1;
        work = ltb-false _ _ h6.1;
        float_work = ltb-false _ _ h7.1;
        given = ltb-false _ _ h8.1;
        count = ltb-false _ _ h9.1;
      }

  pub room_passes : Roomy a l → too_short a l ≡ false
  unfolding too_short slot_words point_words slot_floats
  room_passes h =
      rw (
        le-ltb _ _ h.points,
        le-ltb _ _ h.triangles,
        le-ltb _ _ h.joints,
        le-ltb _ _ h.quads,
        le-ltb _ _ h.triangles_out,
        le-ltb _ _ h.components,
        le-ltb _ _ h.work,
        le-ltb _ _ h.float_work,
        le-ltb _ _ h.given,
        le-ltb _ _ h.count,
      )

-- ---- 5

-- every node of the given triangles is a given point
abbrev pub Known : ℕ → ℕ → List ℕ → Type 0
Known given count ts = (i : ℕ) → i < 3 * count → get_or ts i 0 < given

module _ (a : Asked) (l : Lent) where
  unknown : Tri → Bool
  unknown t = any (λ v. leb a.given v) (tri_nodes t)

  three_known : (j : ℕ) → unknown (tri_at l.triangles j) ≡ false
      → (get_or l.triangles (3 * j) 0 < a.given) × (get_or l.triangles (3 * j + 1) 0 < a.given) × (get_or l.triangles (3 * j + 2) 0 < a.given)
  unfolding unknown any tri_nodes tri_at new_tri
  three_known j e =
      let t = l.triangles in
      let h0 = or_none (leb a.given (get_or t (3 * j) 0)) _ e in
      let h1 = or_none (leb a.given (get_or t (3 * j + 1) 0)) _ h0.1 in
      let h2 = or_none (leb a.given (get_or t (3 * j + 2) 0)) false h1.1 in
      (leb-false _ _ h0.0, leb-false _ _ h1.0, leb-false _ _ h2.0)

  pub known : unknown_node a l ≡ false → Known a.given a.count l.triangles
  unfolding unknown_node unknown given_tris first_tris
  known e = by_thirds (λ i. get_or l.triangles i 0 < a.given) a.count (λ j k. three_known j (below_none unknown (tri_at l.triangles) a.count e j k))

  pub known_pass : Known a.given a.count l.triangles → unknown_node a l ≡ false
  unfolding unknown_node given_tris first_tris any tri_nodes tri_at new_tri
  known_pass h =
      none_below _ (tri_at l.triangles) a.count
      (λ j k. rw (
        lt-leb a.given _ (h (3 * j) (omega arith)),
        lt-leb a.given _ (h (3 * j + 1) (omega arith)),
        lt-leb a.given _ (h (3 * j + 2) (omega arith)),
      ))

-- ---- 6

-- triangle i has three nodes
pub record Apart (ts : List ℕ) (i : ℕ) : Type 0 where
  pub d01 : get_or ts (3 * i) 0 ≢ get_or ts (3 * i + 1) 0
  pub d12 : get_or ts (3 * i + 1) 0 ≢ get_or ts (3 * i + 2) 0
  pub d02 : get_or ts (3 * i) 0 ≢ get_or ts (3 * i + 2) 0

module _ (a : Asked) (l : Lent) where
  pub apart : repeated_node a l ≡ false → (i : ℕ) → i < a.count → Apart l.triangles i
  unfolding repeated_node given_tris first_tris twice tri_at new_tri
  apart e i k =
      let t = l.triangles in
      let h1 = or_none _ (eqb (get_or t (3 * i) 0) (get_or t (3 * i + 2) 0)) (below_none twice (tri_at t) a.count e i k) in
      let h0 = or_none (eqb (get_or t (3 * i) 0) (get_or t (3 * i + 1) 0)) (eqb (get_or t (3 * i + 1) 0) (get_or t (3 * i + 2) 0)) h1.0 in
      record { d01 = eqb-false _ _ h0.0; d12 = eqb-false _ _ h0.1; d02 = eqb-false _ _ h1.1 }

  -- no triangle has a node twice
  pub apart_pass : ((i : ℕ) → i < a.count → twice (tri_at l.triangles i) ≡ false) → repeated_node a l ≡ false
  unfolding repeated_node given_tris first_tris
  apart_pass h = none_below twice (tri_at l.triangles) a.count h

  pub apart_each : repeated_node a l ≡ false → (i : ℕ) → i < a.count → twice (tri_at l.triangles i) ≡ false
  unfolding repeated_node given_tris first_tris
  apart_each e = below_none twice (tri_at l.triangles) a.count e

-- ---- 7

-- point i lies within the limit
pub record Near (ps : List Float) (i : ℕ) : Type 0 where
  pub x : (abs (get_or ps (3 * i) 0·0) ≼ most_coordinate) ≡ true
  pub y : (abs (get_or ps (3 * i + 1) 0·0) ≼ most_coordinate) ≡ true

module _ (a : Asked) (l : Lent) where
  -- no point is outside
  pub near_pass : ((i : ℕ) → i < a.given → outside (point_at l.points i) ≡ false) → far_point a l ≡ false
  unfolding far_point given_points first_points
  near_pass h = none_below outside (point_at l.points) a.given h

  pub near_each : far_point a l ≡ false → (i : ℕ) → i < a.given → outside (point_at l.points i) ≡ false
  unfolding far_point given_points first_points
  near_each e = below_none outside (point_at l.points) a.given e

  pub near : far_point a l ≡ false → (i : ℕ) → i < a.given → Near l.points i
  unfolding outside point_at
  near e i k =
      let h = both (abs (get_or l.points (3 * i) 0·0) ≼ most_coordinate) (abs (get_or l.points (3 * i + 1) 0·0) ≼ most_coordinate) (not-false _ (near_each e i k)) in
      record { x = h.0; y = h.1 }

-- ---- 13

module _ (a : Asked) (l : Lent) where
  -- no more joints than the table holds
  pub few_joints : bad_joints a l ≡ false → a.joints ≤ 256
  unfolding bad_joints most_joints
  few_joints e = ltb-false 256 a.joints (or_none (ltb 256 a.joints) _ e).0

  -- no joint is bad
  pub joints_pass : a.joints ≤ 256 → ((i : ℕ) → i < a.joints → bad_joint a.given (joint_at l.joints i) ≡ false) → bad_joints a l ≡ false
  unfolding bad_joints most_joints given_joints
  joints_pass h f = rw (le-ltb 256 a.joints h) (none_below (bad_joint a.given) (joint_at l.joints) a.joints f)

  pub joints_each : bad_joints a l ≡ false → (i : ℕ) → i < a.joints → bad_joint a.given (joint_at l.joints i) ≡ false
  unfolding bad_joints given_joints
  joints_each e = below_none (bad_joint a.given) (joint_at l.joints) a.joints (or_none (ltb most_joints a.joints) _ e).1

-- ---- 15

not_all : {A : Type 0} (p : A → Bool) (xs : List A) → not (all p xs) ≡ any (λ x. not (p x)) xs
unfolding all any
not_all p [] = refl
not_all p (x ∷ xs) = first (p x) (not_all p xs)
  where
    first : (b : Bool) → not (all p xs) ≡ any (λ x. not (p x)) xs → not (b && all p xs) ≡ (not b || any (λ x. not (p x)) xs)
    first true e = e
    first false e = refl

module _ (a : Asked) (l : Lent) where
  -- every point is on the grid
  pub grid_pass : ((i : ℕ) → i < a.given → not (grid_node (point_at l.points i)) ≡ false) → not (all grid_node (given_points a l)) ≡ false
  unfolding given_points first_points
  grid_pass h = not_all grid_node _ ∙ none_below (λ p. not (grid_node p)) (point_at l.points) a.given h

  pub grid_each : not (all grid_node (given_points a l)) ≡ false → (i : ℕ) → i < a.given → not (grid_node (point_at l.points i)) ≡ false
  unfolding given_points first_points
  grid_each e = below_none (λ p. not (grid_node p)) (point_at l.points) a.given (sym (not_all grid_node _) ∙ e)

-- ---- all of them

-- what a call that none of them refuses has
pub record Passed (a : Asked) (l : Lent) : Type 0 where
  pub limited : Limited a
  pub sized : bad_size a ≡ false
  pub ruled : a.stop ≤ 1
  pub pairs : a.quality.pairs ≤ 64
  pub roomy : Roomy a l
  pub known : Known a.given a.count l.triangles
  pub apart : (i : ℕ) → i < a.count → Apart l.triangles i
  pub near : (i : ℕ) → i < a.given → Near l.points i
  pub joints : a.joints ≤ 256
