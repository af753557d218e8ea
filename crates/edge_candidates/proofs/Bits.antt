-- A double written as two words and read back.
use Rattle.std.specs.Prelude.{◌≡◌, ◌+◌, ◌*◌, ◌/◌, ◌%◌, ◌^◌, ◌≤◌}
use Rattle.laws.specs.Kit.{refl, sym, ◌∙◌, subst, Bool, false, not, false≢true, ℕ, arith, T, List, length, get_or, set, length-set, Float, binary64, nan, fin, inf, to_bits, fits}
use lib.Ieee.{is_nan, nan_bits, ne}
use lib.Ieee.Bits.{of_bits-to_bits, nan_bits_is}
use Rattle.definition.specs.Floats.{f64}
use Rattle.laws.specs.Frames.{on, off}
use Rattle.edge_candidates.specs.Words.{float_at, PutTo}

-- ---- bits

pub a_number : (x : Float) → ne x x ≡ false → is_nan x ≡ false
unfolding ne is_nan
a_number nan h = absurd (false≢true (sym h))
a_number (inf s) h = refl
a_number (fin s m e) h = refl

-- ---- words

-- a float stays where its words do
pub float_kept : (w w' : List ℕ) (at : ℕ) → get_or w' at 0 ≡ get_or w at 0 → get_or w' (at + 1) 0 ≡ get_or w (at + 1) 0 → float_at w' at ≡ float_at w at
unfolding float_at
float_kept w w' at h k = rw (h, k)

-- the words of a number have no NaN's pattern
pub no_nan_pair : (w : List ℕ) (at a b : ℕ) → a ≡ get_or w at 0 → b ≡ get_or w (at + 1) 0 → is_nan (float_at w at) ≡ false → T (not (nan_bits binary64 (a + b * 2 ^ 32)))
unfolding float_at f64
no_nan_pair w at a b ea eb h = rw (ea, eb) (subst (λ (t : Bool). T (not t)) (sym (nan_bits_is binary64 (get_or w at 0 + get_or w (at + 1) 0 * 2 ^ 32) ∙ h)) tt)

pub put_to : (w : List ℕ) (at n : ℕ) (x : Float) → T (fits binary64 x) → n ≡ to_bits binary64 x → at + 2 ≤ length w → PutTo w (set (set w at (n % 2 ^ 32)) (at + 1) (n / 2 ^ 32)) at x
unfolding float_at f64
put_to w at n x f e h =
    let v = set w at (n % 2 ^ 32) in
    let l : length v ≡ length w = length-set w at (n % 2 ^ 32) in
    let lo : get_or (set v (at + 1) (n / 2 ^ 32)) at 0 ≡ n % 2 ^ 32 = off v (at + 1) (n / 2 ^ 32) at (omega arith) ∙ on w at (n % 2 ^ 32) (omega arith) in
    let hi : get_or (set v (at + 1) (n / 2 ^ 32)) (at + 1) 0 ≡ n / 2 ^ 32 = on v (at + 1) (n / 2 ^ 32) (omega arith) in
    let z : n % 2 ^ 32 + n / 2 ^ 32 * 2 ^ 32 ≡ n = omega arith in
    record {
      len = length-set v (at + 1) (n / 2 ^ 32) ∙ l;
      is = rw (lo, hi, z, e) (of_bits-to_bits binary64 x f);
      rest = λ i a b. off v (at + 1) (n / 2 ^ 32) i b ∙ off w at (n % 2 ^ 32) i a;
    }
