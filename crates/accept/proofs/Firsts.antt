-- What it means that a test names its first offender: none exactly where the clause holds of every element,
use Rattle.std.specs.Prelude.{◌≡◌, ◌+◌, ◌∷◌, ◌++◌}
use Rattle.laws.specs.Kit.{refl, sym, ◌∙◌, ap, inl, inr, Bool, true, false, Option, none, some, ℕ, suc, arith, List, [], length}
use Rattle.definition.specs.Lists.{all}
use Rattle.definition.specs.Account.{All}
use Rattle.laws.specs.Bools.{which, never, both, fails}
use Rattle.laws.specs.Lists.{no_some}
use Rattle.accept.specs.Accept.{failing}
use Rattle.accept.specs.Firsts.{Decides, First}

-- none exactly where all are P, and a number exactly where it is that of the first that is not
pub record NamesFirst {A : Type 0} (P : A → Type 0) (xs : List A) (o : Option ℕ) : Type 0 where
  pub none_holds : o ≡ none → All P xs
  pub holds_none : All P xs → o ≡ none
  pub first : (n : ℕ) → o ≡ some n → First P xs n
  pub first_only : (n : ℕ) → First P xs n → o ≡ some n

module _ {A : Type 0} (p : A → Bool) (P : A → Type 0) (d : Decides p P) where
  refuted : (x : A) → p x ≡ false → P x → ⊥
  refuted x e h = never (p x) (d.complete x h) e

  -- all of a list
  pub decides_all : Decides (all p) (All P)
  unfolding all
  decides_all = record { sound = sound; complete = complete }
    where
      sound : (xs : List A) → all p xs ≡ true → All P xs
      sound [] e = tt
      sound (x ∷ xs) e = let r = both (p x) (all p xs) e in (d.sound x r.0, sound xs r.1)

      complete : (xs : List A) → All P xs → all p xs ≡ true
      complete [] h = refl
      complete (x ∷ xs) h = rw (d.complete x h.0) (complete xs h.1)

  none_holds : (i : ℕ) (xs : List A) → failing p i xs ≡ none → All P xs
  unfolding failing
  none_holds i [] e = tt
  none_holds i (x ∷ xs) e = elim (which (p x)) [
    | inl f ↦ (d.sound x f, none_holds (suc i) xs (rw (f, failing) at e))
    | inr f ↦ no_some i (sym (rw (f, failing) at e))
  ]

  holds_none : (i : ℕ) (xs : List A) → All P xs → failing p i xs ≡ none
  unfolding failing
  holds_none i [] h = refl
  holds_none i (x ∷ xs) h = rw (d.complete x h.0, failing) (holds_none (suc i) xs h.1)

  named : (i : ℕ) (xs : List A) (n : ℕ) → failing p i xs ≡ some n → (k : ℕ) × First P xs k × (n ≡ i + k)
  unfolding failing
  named i [] n e = no_some n e
  named i (x ∷ xs) n e = elim (which (p x)) [
    | inl f ↦
        let r = named (suc i) xs n (rw (f, failing) at e) in
        let h = r.1 in (
          suc r.0,
          record {
            before = x ∷ h.before;
            offender = h.offender;
            after = h.after;
            list_is = ap (λ l. x ∷ l) h.list_is;
            place = ap suc h.place;
            all_before = (d.sound x f, h.all_before);
            offends = h.offends;
          },
          omega (arith, r.2),
        )
    | inr f ↦
        let g : some i ≡ some n = rw (f, failing) at e in
        let m : i ≡ n = cc in
        (0, record { before = []; offender = x; after = xs; list_is = refl; place = refl; all_before = tt; offends = refuted x f }, omega arith)
  ]

  -- the first that fails stands behind what passes
  passed_over : (i : ℕ) (before : List A) (x : A) (after : List A) → All P before → (P x → ⊥) → failing p i (before ++ x ∷ after) ≡ some (i + length before)
  unfolding failing
  passed_over i [] x after h n = rw (fails (p x) (λ e. n (d.sound x e)), failing) (ap some (omega arith))
  passed_over i (y ∷ before) x after h n = rw (d.complete y h.0, failing) (passed_over (suc i) before x after h.1 n ∙ ap some (omega arith))

  pub names_first : (xs : List A) → NamesFirst P xs (failing p 0 xs)
  names_first xs =
      record {
        none_holds = none_holds 0 xs;
        holds_none = holds_none 0 xs;
        first = λ n e. let r = named 0 xs n e in move r.0 n (omega (arith, r.2)) r.1;
        first_only = λ n f. ap (failing p 0) f.list_is ∙ passed_over 0 f.before f.offender f.after f.all_before f.offends ∙ ap some (let q = f.place in omega arith);
      }
    where
      move : (k n : ℕ) → k ≡ n → First P xs k → First P xs n
      move k n e h = rw e at h
