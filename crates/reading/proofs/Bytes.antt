-- The bytes from a position on, and fixed bytes at the front.
use Rattle.std.specs.Prelude.{◌≡◌, ◌+◌, ◌-◌, ◌<◌, ◌≤◌, ◌∷◌, Bool, true, false, nat_eq}
use Rattle.laws.specs.Kit.{refl, sym, arith, none, cond, ℕ, eqb, eq-eqb, ne_eqb, eqb-true, eqb-false, [], length, get_or, take, drop}
use native.Mathlib.Numerals.{add-one}
use lib.ListN.{drop_of_length-le, length-drop}
use lib.Pointwise.{pointwise}
use lib.Seq.{drop-cons, take_all}
use Rattle.laws.specs.Bools.{both}
use Rattle.definition.specs.Text.{Bytes, exactly}
use Rattle.reading.specs.Found.{taken}

-- a byte, and those after it
pub from : (s : Bytes) (p : ℕ) → p < length s → drop p s ≡ get_or s p 0 ∷ drop (p + 1) s
from s p h = rw (add-one, drop-cons s p 0)

-- nothing past the end
pub past : (s : Bytes) (p : ℕ) → length s ≤ p → drop p s ≡ []
past s p h = drop_of_length-le s h

-- a slice up to the end
pub to_end : (s : Bytes) (p : ℕ) → take (length s - p) (drop p s) ≡ drop p s
to_end s p = take_all (length s - p) (drop p s) (omega (arith, length-drop p s))

-- the bytes of t stand at the front of s
pub at_front : (t s : Bytes) → pointwise nat_eq (take (length t) s) t ≡ true → taken tt (drop (length t) s) ≡ exactly t s
unfolding exactly
at_front [] s h = refl
at_front (b ∷ t) [] h = cc
at_front (b ∷ t) (c ∷ s) h =
    let k = both (nat_eq c b) (pointwise nat_eq (take (length t) s) t) h in
    rw (eq-eqb b c (sym (eqb-true c b k.0))) (at_front t s k.1)

-- others do
pub not_at_front : (t s : Bytes) → pointwise nat_eq (take (length t) s) t ≡ false → none ≡ exactly t s
unfolding exactly
not_at_front [] s h = cc
not_at_front (b ∷ t) [] h = refl
not_at_front (b ∷ t) (c ∷ s) h = go (λ e. not_at_front t s e) (nat_eq c b) refl
  where
    go : (pointwise nat_eq (take (length t) s) t ≡ false → none ≡ exactly t s) → (k : Bool) → nat_eq c b ≡ k → none ≡ cond (eqb b c) (exactly t s) none
    go more true e = rw (eq-eqb b c (sym (eqb-true c b e))) (more (rw e at h))
    go more false e = rw (ne_eqb b c (λ f. eqb-false c b e (sym f)))
