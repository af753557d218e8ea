-- A reply against a stored answer, and how many of some agree.
use Rattle.std.specs.Prelude.{◌≡◌, refl, Bool, true, false, cond, ◌&&◌, ◌≢◌, List, [], ◌∷◌, ℕ, ◌+◌, eqb}
use Rattle.std.proofs.lemmas.Bool.{false≢true}
use Prim.{absurd}
use Prim.Native.String.{String}
use Rattle.std.proofs.Common.{eqb-true, eq-eqb}
use Rattle.definition.specs.Text.{bytes, reply}
use Rattle.laws.specs.Bools.{fails, both}

-- two byte strings are the same
unfoldable pub same : List ℕ → List ℕ → Bool
same [] [] = true
same [] (y ∷ ys) = false
same (x ∷ xs) [] = false
same (x ∷ xs) (y ∷ ys) = eqb x y && same xs ys

-- 1 where the definition's reply to a text is the answer, otherwise 0
unfoldable pub agrees : List ℕ → List ℕ → ℕ
agrees text answer = cond (same (reply text) answer) 1 0

-- a stored text with its answer
pub record Case : Type 0 where
  pub text : String
  pub answer : String

-- how many of some agree
unfoldable pub agreeing : List Case → ℕ
agreeing [] = 0
agreeing (c ∷ l) = agrees (bytes c.text) (bytes c.answer) + agreeing l

-- ---- what the test says

pub same_itself : (xs : List ℕ) → same xs xs ≡ true
unfolding same
same_itself [] = refl
same_itself (x ∷ xs) = rw (eq-eqb x x refl, same_itself xs)

pub same_only : (xs ys : List ℕ) → same xs ys ≡ true → xs ≡ ys
unfolding same
same_only [] [] e = refl
same_only [] (y ∷ ys) e = absurd (false≢true e)
same_only (x ∷ xs) [] e = absurd (false≢true e)
same_only (x ∷ xs) (y ∷ ys) e =
    let h = both (eqb x y) (same xs ys) e in
    let f = eqb-true x y h.0 in
    let g = same_only xs ys h.1 in
    λ i. f i ∷ g i

pub others : (xs ys : List ℕ) → xs ≢ ys → same xs ys ≡ false
others xs ys h = fails (same xs ys) (λ e. h (same_only xs ys e))
