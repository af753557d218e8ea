-- The kept trials in the order of their scores: insertion keeps it, and a trial below the last one's score is dropped.
use mathlib.Core.Path.{◌≡◌, refl, ap, sym, subst, ◌∙◌}
use mathlib.Core.Bool.{Bool, true, false, not, ◌&&◌, ◌||◌}
use mathlib.Core.Logic.{inl, inr}
use mathlib.Core.List.{List, [], ◌∷◌}
use Prim.Native.Nat.{ℕ, zero, suc, ◌-◌, ◌<◌}
use native.Mathlib.Nat.{le_of_suc-le-suc, not-suc-le-zero}
use native.Mathlib.Omega.{arith}
use borrow.Author.Tests.{not-true}
use lib.Dec.{T}
use lib.ListN.{length, take, get_or}
use lib.Ieee.{Float, nan, inf, fin, is_nan}
use Rattle.definition.specs.Account.{All}
use Rattle.definition.specs.Cells.{Quad, new_quad}
use Rattle.definition.specs.Floats.{◌≺◌, ◌≼◌, finite, lesser}
use Rattle.definition.specs.Lists.{contains, insert, flat_map}
use Rattle.definition.specs.Metrics.{Metrics, absent, measured, passes, score}
use Rattle.definition.specs.Numbers.{Quality}
use Rattle.definition.specs.Trials.{Trial, rated, trial_before}
use Rattle.laws.specs.Bools.{and_left, cond_ok, either, never, none_left, of_T, to_T, which}
use Rattle.laws.specs.Sorts.{all_insert, insert_no, insert_yes}
use Rattle.rounding.proofs.Keys.{le_trans, lt_le, lt_le_trans}
use Rattle.rounding.proofs.Order.{le_or_lt, real_left}
use Rattle.trials.specs.Kept.{Falling, Keeps, NoBetter, Number, Outdone, length_listed, listed, listed_at, onto, row}
use Rattle.trials.specs.Nodes.{all_flat_map, all_take}
use Rattle.trials.specs.Ranked.{metrics_at, trial_at}
use Rattle.trials.proofs.Rating.{kept_one, kept_same}

-- ---- two trials

-- of two numbers the second is at most the first where the first is not below it
pub not_below : (u v : Float) → T (not (is_nan u)) → T (not (is_nan v)) → (u ≺ v) ≡ false → (v ≼ u) ≡ true
unfolding ◌≺◌ ◌≼◌
not_below u v hu hv e = elim (le_or_lt u v hu hv) [ inl l ↦ of_T _ l | inr l ↦ never _ (of_T _ l) e ]

-- one that comes before x is no worse
before_no_worse : (x y : Trial) → Number x → Number y → trial_before y x ≡ true → NoBetter y x
unfolding trial_before
before_no_worse x y hx hy e = elim (either (x.score ≺ y.score) _ e) [
  | inl l ↦ lt_le x.score y.score l
  | inr l ↦ not_below y.score x.score hy hx (not-true _ (and_left (not (y.score ≺ x.score)) _ l))
]

-- one that does not is no better
after_no_better : (x y : Trial) → Number x → Number y → trial_before y x ≡ false → NoBetter x y
unfolding trial_before
after_no_better x y hx hy e = not_below x.score y.score hx hy (none_left (x.score ≺ y.score) _ e)

-- ---- insertion

no_better : (x y : Trial) (l : List Trial) → NoBetter x y → All (NoBetter y) l → All (NoBetter x) l
no_better x y [] h k = tt
no_better x y (z ∷ l) h k = (le_trans z.score y.score x.score k.0 h, no_better x y l h k.1)

falling_insert : (x : Trial) (l : List Trial) → Number x → Falling l → Falling (insert trial_before x l)
unfolding insert
falling_insert x [] n h = (n, tt, tt)
falling_insert x (y ∷ l) n h = go (trial_before y x) refl (falling_insert x l n h.2)
  where
    go : (b : Bool) → trial_before y x ≡ b → Falling (insert trial_before x l) → Falling (insert trial_before x (y ∷ l))
    go true e r =
        subst (λ (k : List Trial). Falling k) (sym (insert_yes trial_before x y l e))
        (h.0, all_insert trial_before (NoBetter y) x l (before_no_worse x y n h.0 e) h.1, r)
    go false e r =
        let f = after_no_better x y n h.0 e in
        subst (λ (k : List Trial). Falling k) (sym (insert_no trial_before x y l e)) (n, (f, no_better x y l f h.1), h)

pub falling_onto : (xs l : List Trial) → All Number xs → Falling l → Falling (onto trial_before xs l)
unfolding onto
falling_onto [] l m h = h
falling_onto (x ∷ xs) l m h = falling_insert x (onto trial_before xs l) m.0 (falling_onto xs l m.1 h)

pub falling_take : (n : ℕ) (l : List Trial) → Falling l → Falling (take n l)
falling_take zero l h = tt
falling_take (suc n) [] h = tt
falling_take (suc n) (x ∷ l) h = (h.0, all_take (NoBetter x) n l h.1, falling_take n l h.2)

-- what is kept with the trials xs
pub falling_kept : (s : List Float) (v : List ℕ) (pairs k : ℕ) (xs l : List Trial) → All Number xs → Falling l
    → Keeps s v pairs k (take pairs (onto trial_before xs l)) → Falling (listed s v k)
falling_kept s v pairs k xs l m h g = rw g.list (falling_take pairs (onto trial_before xs l) (falling_onto xs l m h))

-- ---- the scores of trials are numbers

finite_number : (x : Float) → finite x ≡ true → T (not (is_nan x))
unfolding finite is_nan
finite_number nan e = never false e refl
finite_number (inf s) e = tt
finite_number (fin s m e') e = tt

lesser_number : (x y : Float) → T (not (is_nan x)) → T (not (is_nan (lesser x y)))
unfolding lesser ◌≼◌
lesser_number x y h = cond_ok (λ z. T (not (is_nan z))) (y ≺ x) y x (λ e. real_left y x (to_T (lt_le y x e))) (λ _. h)

score_number : (y : Quality) (k : Metrics) → passes y k ≡ true → T (not (is_nan (score k)))
unfolding passes score
score_number y absent e = never false e refl
score_number y (measured sj c) e =
    lesser_number sj _ (finite_number sj (and_left (finite sj) (finite c) (and_left (finite sj && finite c) _ (and_left (finite sj && finite c && not (sj ≺ y.least_jacobian)) _ e))))

rated_numbers : (y : Quality) (q : Quad) (k : Metrics) → All Number (rated y q k)
unfolding rated
rated_numbers y q k = cond_ok (λ (l : List Trial). All Number l) (passes y k) (record { score = score k; nodes = q } ∷ []) [] (λ e. (score_number y k e, tt)) (λ _. tt)

pub trial_numbers : (y : Quality) (q : List Float) (a b c d : ℕ) → All Number (trial_at y q a b c d)
unfolding trial_at
trial_numbers y q a b c d =
    let scored = rated y (new_quad a b d c) (metrics_at q a b d c) in
    cond_ok (λ (l : List Trial). All Number l) (contains (a ∷ b ∷ []) c || contains (a ∷ b ∷ c ∷ []) d) [] scored (λ _. tt) (λ _. rated_numbers y (new_quad a b d c) (metrics_at q a b d c))

pub all_numbers : (f : ℕ → List Trial) (l : List ℕ) → ((n : ℕ) → All Number (f n)) → All Number (flat_map f l)
all_numbers f l h = all_flat_map Number f l (λ i _. h (get_or l i 0))

-- ---- a trial that is outdone

-- a score is at most the scaled Jacobian
pub score_below : (sj c z : Float) → (sj ≺ z) ≡ true → (score (measured sj c) ≺ z) ≡ true
unfolding score lesser
score_below sj c z h = cond_ok (λ x. (x ≺ z) ≡ true) _ _ sj (λ e. lt_le_trans _ sj z e (lt_le sj z h)) (λ _. h)

-- what holds of all holds of the one at i
pub all_get : (P : Trial → Type 0) (l : List Trial) (i : ℕ) (d : Trial) → i < length l → All P l → P (get_or l i d)
all_get P [] i d h k = absurd (not-suc-le-zero h)
all_get P (y ∷ l) zero d h k = k.0
all_get P (y ∷ l) (suc i) d h k = all_get P l i d (le_of_suc-le-suc h) k.1

-- below the last one's score is below every score, so each comes before it
all_before : (x : Trial) (l : List Trial) (i : ℕ) (d : Trial) → length l ≡ suc i → Falling l → (x.score ≺ (get_or l i d).score) ≡ true
    → All (λ y. trial_before y x ≡ true) l
unfolding trial_before
all_before x [] i d e h k = tt
all_before x (y ∷ []) zero d e h k = (rw k, tt)
all_before x (y ∷ z ∷ l) zero d e h k = absurd (omega arith)
all_before x (y ∷ l) (suc i) d e h k =
    let u : i < length l = omega arith in
    let v : (x.score ≺ y.score) ≡ true = lt_le_trans x.score _ y.score k (all_get (NoBetter y) l i d u h.1) in
    (rw v, all_before x l i d (omega arith) h.2 k)

-- one that all come before is dropped where there is no room
last_dropped : (x : Trial) (l : List Trial) → All (λ y. trial_before y x ≡ true) l → take (length l) (insert trial_before x l) ≡ l
unfolding insert
last_dropped x [] h = refl
last_dropped x (y ∷ l) h = rw h.0 (ap (λ (t : List Trial). y ∷ t) (last_dropped x l h.1))

module _ (s : List Float) (v : List ℕ) (count pairs : ℕ) (sj : Float) (f : Falling (listed s v count)) (o : Outdone s count pairs sj) where
  pub dropped : (x : Trial) → (x.score ≺ get_or s (count - 1) nan) ≡ true → Keeps s v pairs count (take pairs (insert trial_before x (listed s v count)))
  unfolding row
  dropped x h =
      let l = listed s v count in
      let n = length_listed s v count in
      let at : get_or l (count - 1) x ≡ row s v (count - 1) = listed_at s v count (count - 1) x (omega (arith, o.some)) in
      let above : (x.score ≺ (get_or l (count - 1) x).score) ≡ true = rw at h in
      let e : length l ≡ suc (count - 1) = omega (arith, n, o.some) in
      record {
        few = omega (arith, o.full);
        list = sym (last_dropped x l (all_before x l (count - 1) x e f above)) ∙ ap (λ (k : ℕ). take k (insert trial_before x l)) (n ∙ o.full);
      }

  -- all stay
  pub kept_outdone : (y : Quality) (q : Quad) (k : Metrics) (c : Float) → k ≡ measured sj c
      → Keeps s v pairs count (take pairs (onto trial_before (rated y q k) (listed s v count)))
  unfolding rated
  kept_outdone y q k c e = elim (which (passes y k)) [
    | inl p ↦ kept_one s v pairs count (record { score = score k; nodes = q }) _ _ (dropped _ (rw e (score_below sj c _ o.below_last))) (rw p)
    | inr p ↦ kept_same s v pairs count _ (omega (arith, o.full)) (rw p)
  ]
