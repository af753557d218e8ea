-- Limits on a cosine: a double from 0 on, below 1, and its exact value in units. Assumes nothing.
use Rattle.laws.specs.Kit.{refl, sym, subst, inl, inr, true, false, ℕ, arith, lit<, lit≤, T, ℤ, pos, negsuc, Float, binary64, nan, fin, inf, of_bits, fits, eq, lt, le}
use Rattle.std.specs.Prelude.{nat_abs, ◌≡◌, ◌⊎◌, ◌+◌, ◌*◌, ◌^◌, ◌<◌}
use Rattle.definition.specs.Floats.{◌≺◌, ◌≼◌, f64, 0·0, 0·5, 0·99, 1·0, 0·90630778703665}
use Rattle.definition.specs.Metrics.{Corner}
use Rattle.definition.specs.Exact.{signed, units, CosineAtMost, CosineUpTo, WideEnough}
use Rattle.laws.specs.Bools.{of_T, to_T}
use Rattle.exact.specs.Near.{Whole, Near}
use Rattle.exact.specs.Parts.{billion}
use Rattle.exact.specs.Values.{whole, Ok}
use Rattle.exact.proofs.Values.{one_sided}
use Rattle.exact.specs.Order.{◌⊏◌, ◌⊑◌}
use Rattle.exact.proofs.Order.{lt_whole, le_whole, whole_lt, whole_le}
use Rattle.exact.specs.Units.{ofℤ}
use Rattle.exact.proofs.Units.{units_is}
use Rattle.exact.proofs.Cosine.{weaken}
use Rattle.exact.proofs.Points.{zero_ok, zero_is}
use Rattle.exact.specs.Passing.{BelowOne, CosineNear}
use Rattle.exact.proofs.Passing.{one_ok, one_is}
use Rattle.exact.specs.Limits.{Limit}

limit_ok : (t : Float) → T (fits binary64 t) → T (le 0·0 t) → T (lt t 1·0) → Ok binary64 t
unfolding le lt eq 0·0 1·0 f64 of_bits
limit_ok nan f l h = absurd h
limit_ok (inf false) f l h = absurd h
limit_ok (inf true) f l h = absurd l
limit_ok (fin s m e) f l h = f

not_negative : (z : Whole) → (z.0 ≡ 0) ⊎ (z.1 ≡ 0) → (0, 0) ⊑ z → z.1 ≡ 0
not_negative z (inl e) h = omega arith
not_negative z (inr e) h = e

under : (z : Whole) (L : ℕ) → z.1 ≡ 0 → z ⊏ (L, 0) → z.0 < L
under z L e h = omega arith

pub limit_below : (t : Float) → Limit t → BelowOne t
unfolding ◌≼◌ ◌≺◌
limit_below t l =
    let o = limit_ok t (to_T l.double) (to_T l.from_zero) (to_T l.below_one) in
    let n = not_negative (whole binary64 t) (one_sided binary64 t) (rw zero_is at (le_whole binary64 0·0 t zero_ok o (to_T l.from_zero))) in
    (o, n, under (whole binary64 t) (2 ^ 1074) n (rw one_is at (lt_whole binary64 t 1·0 o one_ok (to_T l.below_one))))

natAbs_is : (z : ℤ) (w : Whole) → Near (ofℤ z) w 0 → w.1 ≡ 0 → nat_abs z ≡ w.0
natAbs_is (pos n) w h e = omega arith
natAbs_is (negsuc n) w h e = absurd (omega arith)

pub up_to : (t : Float) (k : Corner) → BelowOne t → CosineNear t k → CosineUpTo t k
unfolding billion
up_to t k b c = subst (λ (n : ℕ). CosineAtMost (10 ^ 9 * n + 2 ^ 1074) (10 ^ 9 * 2 ^ 1074) k) (sym (natAbs_is (units t) (whole binary64 t) (units_is t) b.1)) c

-- ---- limits from 0.5 to 0.99
half_ok : Ok binary64 0·5
unfolding 0·5 f64 of_bits fits
half_ok = tt

half_is : whole binary64 0·5 ≡ (2 ^ 1073, 0)
unfolding 0·5 f64 of_bits whole
half_is = refl

most_ok : Ok binary64 0·99
unfolding 0·99 f64 of_bits fits
most_ok = tt

-- in units, and below 1
most_is : (n : ℕ) × (whole binary64 0·99 ≡ (n, 0)) × (n < 2 ^ 1074)
unfolding 0·99 f64 of_bits whole
most_is = ((whole binary64 0·99).0, refl, lit< tt)

range_ok : (t : Float) → T (fits binary64 t) → T (le 0·5 t) → T (le t 0·99) → Ok binary64 t
unfolding le lt eq 0·5 0·99 f64 of_bits
range_ok nan f l h = absurd h
range_ok (inf false) f l h = absurd h
range_ok (inf true) f l h = absurd l
range_ok (fin s m e) f l h = f

pub limit_range : (t : Float) → fits binary64 t ≡ true → (0·5 ≼ t) ≡ true → (t ≼ 0·99) ≡ true → Limit t
unfolding ◌≼◌ ◌≺◌
limit_range t f l h =
    let o = range_ok t (to_T f) (to_T l) (to_T h) in
    let z = whole binary64 t in
    let n = most_is in
    let lo : (2 ^ 1073, 0) ⊑ z = rw half_is at (le_whole binary64 0·5 t half_ok o (to_T l)) in
    let hi : z ⊑ (n.0, 0) = rw n.1 at (le_whole binary64 t 0·99 o most_ok (to_T h)) in
    record {
      double = f;
      from_zero = of_T (le 0·0 t) (whole_le binary64 0·0 t zero_ok o (rw zero_is (from z (2 ^ 1073) lo)));
      below_one = of_T (lt t 1·0) (whole_lt binary64 t 1·0 o one_ok (rw one_is (up z n.0 (2 ^ 1074) hi n.2)));
    }
  where
    from : (z : Whole) (a : ℕ) → (a, 0) ⊑ z → (0, 0) ⊑ z
    from z a h = omega arith

    up : (z : Whole) (a b : ℕ) → z ⊑ (a, 0) → a < b → z ⊏ (b, 0)
    up z a b h k = omega arith

-- ---- the limit of the standard set
pub base_limit : Limit 0·90630778703665
unfolding 0·90630778703665 0·0 1·0 f64 of_bits fits ◌≼◌ ◌≺◌ le lt eq
base_limit = record { double = refl; from_zero = refl; below_one = refl }

pub base_wide : (k : Corner) → CosineUpTo 0·90630778703665 k → WideEnough k
unfolding 0·90630778703665 f64 of_bits units signed
base_wide k c = weaken (10 ^ 9 * nat_abs (units 0·90630778703665) + 2 ^ 1074) (10 ^ 9 * 2 ^ 1074) 90638 (10 ^ 5) k (lit< tt) (lit≤ tt) c
