-- Slices cleared: a range, or the whole.
use mathlib.Core.Path.{◌≡◌, refl, ap, sym, ◌∙◌}
use mathlib.Core.List.{List, [], ◌∷◌, ◌++◌, map}
use Prim.Native.Nat.{ℕ, zero, suc, ◌+◌, ◌≤◌, ◌<◌}
use native.Mathlib.Numerals.{add-one}
use native.Mathlib.Omega.{arith}
use lib.ListN.{length, get_or, set, take, length-set, length-map}
use lib.Seq.{take-suc-set}
use Rattle.std.proofs.lemmas.List.{take_all}
use Rattle.definition.specs.Call.{all_of}
use Rattle.laws.specs.Frames.{Zeros, Only}

-- a range from the front on
pub zeros_of : (w w' : List ℕ) (n : ℕ) → Only w w' 0 (0 + n) → ((k : ℕ) → k < n → get_or w' (0 + k) 0 ≡ 0) → Zeros w w' n
zeros_of w w' n o z =
    record {
      zero = λ k l. let e : 0 + k ≡ k = omega arith in ap (λ (i : ℕ). get_or w' i 0) (sym e) ∙ z k l;
      keeps = record { len = o.len; high = λ i l. o.high i (omega arith) };
    }

-- ---- whole slices, of words or floats

module _ {A : Type 0} (z : A) where
  pub record Part (w₀ w : List A) (i : ℕ) : Type 0 where
    pub len : length w ≡ length w₀
    pub within : i ≤ length w₀
    pub are : take i w ≡ take i (all_of z w₀)

  pub part_start : (w : List A) → Part w w 0
  part_start w = record { len = refl; within = omega arith; are = refl }

  take_more : (w : List A) (i : ℕ) → i < length w → take (suc i) (all_of z w) ≡ take i (all_of z w) ++ (z ∷ [])
  unfolding all_of
  take_more [] i h = absurd (omega (arith, h))
  take_more (x ∷ w) zero h = refl
  take_more (x ∷ w) (suc i) h = ap (λ (l : List A). z ∷ l) (take_more w i (omega arith))

  pub part_more : (w₀ w : List A) (i : ℕ) → i < length w → Part w₀ w i → Part w₀ (set w i z) (i + 1)
  part_more w₀ w i h p =
      let e : i + 1 ≡ suc i = add-one i in
      let g : i < length w₀ = omega (arith, p.len) in
      record {
        len = simp length-set p.len;
        within = omega arith;
        are = rw (e, take-suc-set w i z h, take_more w₀ i g, p.are);
      }

  pub part_done : (w₀ w : List A) (i : ℕ) → length w ≤ i → Part w₀ w i → w ≡ all_of z w₀
  unfolding all_of
  part_done w₀ w i h p =
      let g : length (map (λ _. z) w₀) ≤ i = omega (arith, length-map w₀ (λ _. z), p.len) in
      sym (take_all i w h) ∙ p.are ∙ take_all i (map (λ _. z) w₀) g
