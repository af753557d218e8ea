-- The sheet on what `run_front` handed back, from the account that it promises and nothing else of it:
-- `quads_points` carries that 5 does not come up, `quads_pass` the rest.
use Rattle.std.specs.Prelude.{◌≡◌, ◌&&◌, ◌*◌, ◌≤◌, ◌∷◌}
use Rattle.laws.specs.Kit.{refl, sym, ◌∙◌, ap, Bool, true, false, not, some, ℕ, arith, eqb, ne_eqb, le-ltb, lt-leb, not-true, List, [], map, length, get_or, Float}
use Rattle.definition.specs.Lists.{any}
use Rattle.definition.specs.Floats.{◌≺◌, finite}
use Rattle.definition.specs.Numbers.{Quality}
use Rattle.definition.specs.Counts.{Counts}
use Rattle.definition.specs.Plane.{Node}
use Rattle.definition.specs.Metrics.{Metrics, absent, measured, passes}
use Rattle.definition.specs.Cells.{Tri, quad_nodes}
use Rattle.definition.specs.Call.{first_points, first_quads, outside, most_slots, most_capacity}
use Rattle.definition.specs.Account.{All, Account, measures}
use Rattle.definition.specs.Sheet.{Value, Listed, filed, place, counted, worst_jacobian, worst_cosine, sheet, listed_points, listed_quads, all_metrics, over_limit, too_short, unknown_corner, far_point, call}
use Rattle.laws.specs.Bools.{both}
use Rattle.laws.specs.Cells.{points_length}
use Rattle.sheet_steps.specs.Counting.{counting, counting_none, step_small, counts_at}
use Rattle.sheet.specs.Promise.{listed}
use Rattle.sheet.specs.Refusals.{Clear, call_filed}
use Rattle.sheet.specs.Worst.{all_values, all_map, all_mid}
use Rattle.sheet.specs.Theorems.{jacobian_first, cosine_first}

-- what is known of the lists beside their account: they are within the limits of 1 and in slices of the lengths of 4
pub record Handed (l : Listed) : Type 0 where
  pub few_points : l.given ≤ 8192
  pub few_quads : l.count ≤ 16384
  pub points : 3 * l.given ≤ length l.points
  pub quads : 8 * l.count ≤ length l.quads
  pub out : 2 * l.count ≤ length l.out

-- a sheet, and all its quads pass the set
pub record Passing (y : Quality) (l : Listed) : Type 0 where
  pub answer : (call l).answer ≡ filed (sheet (all_metrics l))
  pub eleventh : get_or (sheet (all_metrics l)).counts 10 0 ≡ 0
  pub jacobian : (v : Value) → (sheet (all_metrics l)).jacobian ≡ some v → (v.1 ≺ y.least_jacobian) ≡ false
  pub cosine : (v : Value) → (sheet (all_metrics l)).cosine ≡ some v → (y.largest_cosine ≺ v.1) ≡ false

-- ---- lists

none_any : {A : Type 0} (p : A → Bool) (xs : List A) → All (λ x. p x ≡ false) xs → any p xs ≡ false
unfolding any
none_any p [] h = refl
none_any p (x ∷ xs) h = rw h.0 (none_any p xs h.1)

all_mapped : {A B : Type 0} (f : A → B) (P : B → Type 0) (xs : List A) → All (λ x. P (f x)) xs → All P (map f xs)
all_mapped f P [] h = tt
all_mapped f P (x ∷ xs) h = (h.0, all_mapped f P xs h.1)

-- ---- what a set that is passed says

module _ (y : Quality) where
  abbrev Passes : Metrics → Type 0
  Passes m = passes y m ≡ true

  -- metrics are there, so the place is a step
  a_step : (m : Metrics) → Passes m → eqb (place m) 10 ≡ false
  unfolding passes place
  a_step absent h = sym h
  a_step (measured sj k) h = ne_eqb (place (measured sj k)) 10 (omega (arith, step_small sj k))

  counted_none : (ms : List Metrics) → All Passes ms → counted 10 ms ≡ 0
  unfolding counted
  counted_none [] h = counting_none (λ m. eqb (place m) 10)
  counted_none (m ∷ ms) h =
      let e = a_step m h.0 in
      let c = rw e at (counting (λ m. eqb (place m) 10) m ms) in
      let n = counted_none ms h.1 in
      omega arith

  not_below : (sj k : Float) → Passes (measured sj k) → (sj ≺ y.least_jacobian) ≡ false
  unfolding passes
  not_below sj k h =
      let g = both (finite sj && finite k && not (sj ≺ y.least_jacobian)) (not (y.largest_cosine ≺ k)) h in
      not-true _ (both (finite sj && finite k) (not (sj ≺ y.least_jacobian)) g.0).1

  not_above : (sj k : Float) → Passes (measured sj k) → (y.largest_cosine ≺ k) ≡ false
  unfolding passes
  not_above sj k h = not-true _ (both (finite sj && finite k && not (sj ≺ y.least_jacobian)) (not (y.largest_cosine ≺ k)) h).1

  module _ (ms : List Metrics) (h : All Passes ms) where
    worst_not_below : (v : Value) → worst_jacobian ms ≡ some v → (v.1 ≺ y.least_jacobian) ≡ false
    worst_not_below v e =
        let f = jacobian_first ms v e in
        let g = all_values (λ sj k. sj) Passes (λ x. (x ≺ y.least_jacobian) ≡ false) not_below 0 ms h in
        all_mid (λ w. (w.1 ≺ y.least_jacobian) ≡ false) f.before v f.after (rw f.there at g)

    worst_not_above : (v : Value) → worst_cosine ms ≡ some v → (y.largest_cosine ≺ v.1) ≡ false
    worst_not_above v e =
        let f = cosine_first ms v e in
        let g = all_values (λ sj k. k) Passes (λ x. (y.largest_cosine ≺ x) ≡ false) not_above 0 ms h in
        all_mid (λ w. (y.largest_cosine ≺ w.1) ≡ false) f.before v f.after (rw f.there at g)

-- ---- the theorem

module _
    {given : List Node} {tris left : List Tri} {stop most capacity slots : ℕ} {y : Quality} {c : Counts} {sizes : List ℕ} (n k : ℕ) (ps : List Float) (qs : List ℕ) (out : List Float)
    (a : Account given tris stop y most capacity slots c (first_points n ps) (first_quads k qs) left sizes) (h : Handed (listed n k ps qs out)) where
  abbrev l : Listed
  l = listed n k ps qs out

  -- every quad has four of the points
  corners : unknown_corner l ≡ false
  unfolding unknown_corner listed_quads
  corners =
      none_any _ (first_quads k qs)
      (all_map _ _ (λ q g. none_any _ (quad_nodes q) (all_map _ _ (λ v m. lt-leb n v (omega (arith, m.0, points_length n ps))) (quad_nodes q) g)) (first_quads k qs) a.quads_points)

  own_clear : Clear l
  unfolding over_limit too_short far_point listed_points most_slots most_capacity
  own_clear =
      record {
        c1 = rw (le-ltb 16384 k h.few_quads, le-ltb 8192 n h.few_points);
        c4 = rw (le-ltb _ _ h.points, le-ltb _ _ h.quads, le-ltb _ _ h.out);
        c5 = corners;
        c7 = none_any outside _ a.points_within;
      }

  all_pass : All (λ m. passes y m ≡ true) (all_metrics l)
  unfolding all_metrics listed_points listed_quads
  all_pass = all_mapped (measures (first_points n ps)) (λ m. passes y m ≡ true) (first_quads k qs) a.quads_pass

  -- a sheet comes back, no quad is without metrics, and neither worst is beyond the set's bound
  pub on_our_mesh : Passing y l
  unfolding sheet
  on_our_mesh =
      record {
        answer = ap (λ r. r.answer) (call_filed l own_clear);
        eleventh = counts_at (all_metrics l) 10 (omega arith) ∙ counted_none y (all_metrics l) all_pass;
        jacobian = worst_not_below y (all_metrics l) all_pass;
        cosine = worst_not_above y (all_metrics l) all_pass;
      }
