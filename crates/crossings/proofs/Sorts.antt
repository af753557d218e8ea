-- The first of a sorted list is its least element.
use Rattle.std.specs.Prelude.{◌≡◌, ◌⊎◌, ◌∷◌}
use Rattle.laws.specs.Kit.{refl, sym, ◌∙◌, ap, subst, inl, inr, Bool, true, false, Option, none, some, ℕ, arith, List, []}
use Rattle.definition.specs.Lists.{first, insert, sort}
use Rattle.laws.specs.Lists.{In, sort_in}
use Rattle.laws.specs.Sorts.{insert_yes, insert_no}

module _ {A : Type 0} (before : A → A → Bool) where
  some_same : (x y : A) → ◌≡◌ {A = Option A} (some x) (some y) → x ≡ y
  some_same x y h = cc

  -- where no element comes before x, and two of which neither comes before the other are the same,
  -- the first of the sorted list is x
  pub sort_least : ((y z : A) → before y z ≡ false → before z y ≡ false → y ≡ z)
      → (x : A) (l : List A) → In x l → ((y : A) → In y l → before y x ≡ false) → first (sort before l) ≡ some x
  unfolding first sort insert
  sort_least total x [] h least = absurd h
  sort_least total x (z ∷ l) h least = go h (sort_least total x l)
    where
      top : z ≡ x → (k : List A) → sort before l ≡ k → first (insert before z k) ≡ some x
      top e [] q = ap some e
      top e (y ∷ k) q =
          ap first (insert_no before z y k (subst (λ (v : A). before y v ≡ false) (sym e) (least y (inr (sort_in before y l (subst (λ (j : List A). In y j) (sym q) (inl refl)))))))
          ∙ ap some e

      at : (y : A) (k : List A) → y ≡ x → (b : Bool) → before y z ≡ b → first (insert before z (y ∷ k)) ≡ some x
      at y k e true q = ap first (insert_yes before z y k q) ∙ ap some e
      at y k e false q = ap first (insert_no before z y k q) ∙ ap some (total z x (least z (inl refl)) (subst (λ (v : A). before v z ≡ false) e q))

      deep : (k : List A) → first k ≡ some x → first (insert before z k) ≡ some x
      deep [] e = let y : ◌≡◌ {A = ℕ} 0 1 = cc in absurd (omega arith)
      deep (y ∷ k) e = at y k (some_same y x e) (before y z) refl

      go : (x ≡ z) ⊎ In x l → (In x l → ((y : A) → In y l → before y x ≡ false) → first (sort before l) ≡ some x) → first (sort before (z ∷ l)) ≡ some x
      go (inl e) r = top (sym e) (sort before l) refl
      go (inr k) r = deep (sort before l) (r k (λ y j. least y (inr j)))

  -- an empty list has none
  pub sort_none : (l : List A) → ((y : A) → In y l → ⊥) → first (sort before l) ≡ none
  unfolding first sort
  sort_none [] h = refl
  sort_none (x ∷ l) h = absurd (h x (inl refl))
