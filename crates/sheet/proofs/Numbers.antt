-- A sheet's numbers at the front of a slice, and what a caller finds in the answer.
use Rattle.std.specs.Prelude.{◌≡◌, ◌+◌, ◌<◌, ◌≤◌, ◌∷◌, ◌++◌}
use Prim.{absurd}
use Prim.Native.Nat.{zero, suc}
use lib.ListN.{drop}
use Rattle.laws.specs.Kit.{refl, sym, ◌∙◌, ap, ℕ, arith, lt-ltb, le-ltb, List, [], length, set, Float}
use Rattle.definition.specs.Call.{onto}
use Rattle.definition.specs.Sheet as defined
use Rattle.definition.specs.Sheet.{Listed, Returned, filed, refusal, call}
use Rattle.sheet.specs.Promise.{number_of}
use Rattle.sheet.specs.Lent as lent
use Rattle.sheet.specs.Lent.{short_number, lent_call, handed, Put}

-- ---- the front

-- a list at the front, and two numbers behind it
pub written : (cs xs : List ℕ) (n a b : ℕ) → length cs ≡ n → n + 2 ≤ length xs → set (set (cs ++ drop n xs) n a) (suc n) b ≡ onto (cs ++ a ∷ b ∷ []) xs
unfolding onto
written [] [] zero a b e l = absurd (omega arith)
written [] (x ∷ []) zero a b e l = absurd (omega arith)
written [] (x ∷ y ∷ xs) zero a b e l = refl
written [] xs (suc n) a b e l = absurd (omega arith)
written (c ∷ cs) xs zero a b e l = absurd (omega arith)
written (c ∷ cs) [] (suc n) a b e l = absurd (omega arith)
written (c ∷ cs) (x ∷ xs) (suc n) a b e l = ap (λ zs. c ∷ zs) (written cs xs n a b (omega arith) (omega arith))

-- ---- the promise

module _ (l : Listed) (old : List ℕ) where
  -- by what the call returned
  put_as : (x : Returned) → lent_call l old ≡ x → (k : ℕ) (new : List ℕ) (exit : List Float)
      → k ≡ number_of x.answer → new ≡ handed l.count x.answer old → exit ≡ x.out → Put l old k new exit
  put_as x q k new exit e f g =
      record {
        number = e ∙ ap (λ z. number_of z.answer) (sym q);
        numbers = f ∙ ap (λ z. handed l.count z.answer old) (sym q);
        out = g ∙ ap (λ z. z.out) (sym q);
      }

  -- the answer is too short
  short_call : length old < 13 → lent_call l old ≡ record { answer = refusal (short_number l.given l.count); out = l.out }
  unfolding lent_call
  short_call h = rw (lt-ltb (length old) 13 h)

  pub put_short : (k : ℕ) → length old < 13 → k ≡ short_number l.given l.count → Put l old k old l.out
  unfolding number_of handed
  put_short k h e = put_as _ (short_call h) k old l.out e refl refl

  module _ (exit : List Float) (h : 13 ≤ length old) (out_is : exit ≡ (call l).out) where
    long_call : lent_call l old ≡ call l
    unfolding lent_call
    long_call = rw (le-ltb (length old) 13 h)

    pub put_refused : (k : ℕ) → refusal k ≡ (call l).answer → Put l old k old exit
    unfolding number_of handed
    put_refused k f = put_as (call l) long_call k old exit (ap number_of f) (ap (λ a. handed l.count a old) f) out_is

    pub put_numbers : (s : defined.Sheet) (new : List ℕ) → filed s ≡ (call l).answer → new ≡ onto (lent.numbers l.count s) old → Put l old 0 new exit
    unfolding number_of handed
    put_numbers s new f e = put_as (call l) long_call 0 new exit (ap number_of f) (e ∙ ap (λ a. handed l.count a old) f) out_is
