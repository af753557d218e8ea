-- Kept ideals asked four at once, and one of each few first.
use Rattle.std.specs.Prelude.{◌≡◌, ◌||◌, ◌+◌, ◌*◌, ◌<◌, ◌≤◌}
use Rattle.laws.specs.Kit.{sym, ◌∙◌, subst, inl, inr, Bool, true, false, false≢true, ℕ, arith, dec_le, List}
use native.Mathlib.Nat.{lt_of_not-le}
use Rattle.definition.specs.Plane.{Vec}
use Rattle.laws.specs.Bools.{either, none_left, none_right}
use Rattle.edge_candidates.specs.Words.{vec_at, Numbers}
use Rattle.edge_candidates.specs.Wanted.{near}
use Rattle.edge_candidates.specs.Wishes.{CanGet, Hit, Tested, kept_test, four_test}
use Rattle.edge_candidates.proofs.Nears.{fails_more}

pub tested_by : (f : ℕ → Bool) (k r : ℕ) → Hit f k r → Tested f k r true
tested_by f k r h = record { hit = λ y. h; miss = λ y. absurd (false≢true (sym y)) }

-- those before i fail, and those from i on were tested
pub tested_on : (f : ℕ → Bool) (i k : ℕ) (y : Bool) → ((j : ℕ) → 0 ≤ j → j < i → f j ≡ false) → Tested f i k y → Tested f 0 k y
tested_on f i k y h t =
    record {
      hit = λ e. let z = t.hit e in record { i = z.i; from = omega arith; to = z.to; is = z.is };
      miss = λ e j a l. elim (dec_le i j) [ yes g ↦ t.miss e j g l | no g ↦ h j a (lt_of_not-le g) ];
    }

pub can_get_four : (w : List ℕ) (b k i : ℕ) → CanGet w b k → i + 4 ≤ k → CanGet w (b + 4 * i) 4
can_get_four w b k i c h =
    record {
      fits = omega (arith, c.fits, h);
      numbers = λ j l. let z : b + 4 * (i + j) ≡ b + 4 * i + 4 * j = omega arith in subst (Numbers w) z (c.numbers (i + j) (omega arith));
    }

module _ (w : List ℕ) (b i : ℕ) (e : Vec) where
  four_is : four_test w (b + 4 * i) e
      ≡ ((kept_test w b e i || kept_test w b e (i + 1)) || (kept_test w b e (i + 1 + 1) || kept_test w b e (i + 1 + 1 + 1)))
  unfolding four_test
  four_is =
      let z1 : b + 4 * i + 4 ≡ b + 4 * (i + 1) = omega arith in
      let z2 : b + 4 * i + 8 ≡ b + 4 * (i + 1 + 1) = omega arith in
      let z3 : b + 4 * i + 12 ≡ b + 4 * (i + 1 + 1 + 1) = omega arith in
      λ t. (near e (vec_at w (b + 4 * i)) || near e (vec_at w (z1 t))) || (near e (vec_at w (z2 t)) || near e (vec_at w (z3 t)))

  pub four_hit : (k : ℕ) → i + 4 ≤ k → four_test w (b + 4 * i) e ≡ true → Hit (kept_test w b e) 0 k
  four_hit k h y =
      let f = kept_test w b e in
      elim (either (f i || f (i + 1)) (f (i + 1 + 1) || f (i + 1 + 1 + 1)) (sym four_is ∙ y)) [
        | inl x ↦ elim (either (f i) (f (i + 1)) x) [ inl z ↦ at i (omega arith) z | inr z ↦ at (i + 1) (omega arith) z ]
        | inr x ↦ elim (either (f (i + 1 + 1)) (f (i + 1 + 1 + 1)) x) [ inl z ↦ at (i + 1 + 1) (omega arith) z | inr z ↦ at (i + 1 + 1 + 1) (omega arith) z ]
      ]
    where
      at : (j : ℕ) → j < k → kept_test w b e j ≡ true → Hit (kept_test w b e) 0 k
      at j l z = record { i = j; from = omega arith; to = l; is = z }

  pub four_miss : four_test w (b + 4 * i) e ≡ false → ((j : ℕ) → 0 ≤ j → j < i → kept_test w b e j ≡ false) → (j : ℕ) → 0 ≤ j → j < i + 4 → kept_test w b e j ≡ false
  four_miss y h j a l =
      let f = kept_test w b e in
      let z = sym four_is ∙ y in
      let x1 = none_left (f i || f (i + 1)) (f (i + 1 + 1) || f (i + 1 + 1 + 1)) z in
      let x2 = none_right (f i || f (i + 1)) (f (i + 1 + 1) || f (i + 1 + 1 + 1)) z in
      let h1 = fails_more f 0 i h (none_left (f i) (f (i + 1)) x1) in
      let h2 = fails_more f 0 (i + 1) h1 (none_right (f i) (f (i + 1)) x1) in
      let h3 = fails_more f 0 (i + 1 + 1) h2 (none_left (f (i + 1 + 1)) (f (i + 1 + 1 + 1)) x2) in
      fails_more f 0 (i + 1 + 1 + 1) h3 (none_right (f (i + 1 + 1)) (f (i + 1 + 1 + 1)) x2) j a (omega arith)
