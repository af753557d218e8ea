-- Lists that differ in order alone.
use Rattle.std.specs.Prelude.{◌≡◌, ◌&&◌, ◌+◌, ◌<◌, ◌∷◌, ◌++◌}
use Rattle.laws.specs.Kit.{refl, sym, ◌∙◌, ap, subst, inl, inr, Bool, true, not, ℕ, arith, eqb, eq-eqb, eqb-true, List, [], length, length-append}
use Rattle.definition.specs.Lists.{filter, insert, sort, flat_map}
use Rattle.definition.specs.Cells.{Tri}
use Rattle.definition.specs.Account.{Rearranged}
use Rattle.laws.specs.Bools.{which, both}
use Rattle.laws.specs.Lists.{In, in_filter, filter_in, filter_all, filter_append}

module _ {A : Type 0} where
  -- how many pass the test
  abbrev pub number : (A → Bool) → List A → ℕ
  number p xs = length (filter p xs)

  -- of two parts
  pub number_append : (p : A → Bool) (xs ys : List A) → number p (xs ++ ys) ≡ number p xs + number p ys
  number_append p xs ys = ap length (filter_append p xs ys) ∙ length-append (filter p xs) (filter p ys)

  pub number_cons : (p : A → Bool) (x : A) (xs : List A) → number p (x ∷ xs) ≡ number p (x ∷ []) + number p xs
  number_cons p x xs = number_append p (x ∷ []) xs

  -- equal lists, and the other way round, and one after the other
  pub same_path : (xs ys : List A) → xs ≡ ys → Rearranged xs ys
  same_path xs ys e p = ap (number p) e

  pub same_back : (xs ys : List A) → Rearranged xs ys → Rearranged ys xs
  same_back xs ys h p = sym (h p)

  pub same_then : (xs ys zs : List A) → Rearranged xs ys → Rearranged ys zs → Rearranged xs zs
  same_then xs ys zs h k p = h p ∙ k p

  -- two parts in either order
  pub same_swap : (xs ys : List A) → Rearranged (xs ++ ys) (ys ++ xs)
  same_swap xs ys p = omega (arith, number_append p xs ys, number_append p ys xs)

  pub same_under : (zs xs ys : List A) → Rearranged xs ys → Rearranged (zs ++ xs) (zs ++ ys)
  same_under zs xs ys h p = omega (arith, number_append p zs xs, number_append p zs ys, h p)

  pub same_over : (xs ys zs : List A) → Rearranged xs ys → Rearranged (xs ++ zs) (ys ++ zs)
  same_over xs ys zs h p = omega (arith, number_append p xs zs, number_append p ys zs, h p)

  -- as many elements
  pub same_length : (xs ys : List A) → Rearranged xs ys → length xs ≡ length ys
  same_length xs ys h = sym (ap length (filter_all (λ x. true) xs (λ x i. refl))) ∙ h (λ x. true) ∙ ap length (filter_all (λ x. true) ys (λ x i. refl))

  -- the elements that fail, and those that pass
  pub same_parts : (q : A → Bool) (xs : List A) → Rearranged xs (filter (λ x. not (q x)) xs ++ filter q xs)
  unfolding filter
  same_parts q [] p = refl
  same_parts q (x ∷ xs) p =
      let no = filter (λ x. not (q x)) xs in
      let yes_too = filter q xs in
      let h = same_parts q xs p in
      elim (which (q x)) [
        | inl e ↦ rw e (omega (arith, number_cons p x xs, number_append p no (x ∷ yes_too), number_append p no yes_too, number_cons p x yes_too, h))
        | inr e ↦ rw e (omega (arith, number_cons p x xs, number_cons p x (no ++ yes_too), h))
      ]

  insert_same : (b : A → A → Bool) (x : A) (xs : List A) → Rearranged (x ∷ xs) (insert b x xs)
  unfolding insert
  insert_same b x [] p = refl
  insert_same b x (y ∷ ys) p = elim (which (b y x)) [
    | inl e ↦ rw (e, insert) (omega (arith, number_cons p x (y ∷ ys), number_cons p y ys, number_cons p y (insert b x ys), number_cons p x ys, insert_same b x ys p))
    | inr e ↦ rw (e, insert) refl
  ]

  -- a sorted list
  pub sort_same : (b : A → A → Bool) (xs : List A) → Rearranged xs (sort b xs)
  unfolding sort
  sort_same b [] p = refl
  sort_same b (x ∷ xs) p = omega (arith, number_cons p x xs, number_cons p x (sort b xs), sort_same b xs p, insert_same b x (sort b xs) p)

  pub not_none : (xs : List A) → 0 < length xs → (x : A) × In x xs
  not_none [] h = absurd (omega arith)
  not_none (x ∷ xs) h = (x, inl refl)

  some_of : (x : A) (xs : List A) → In x xs → 0 < length xs
  some_of x [] i = elim i [ ]
  some_of x (y ∷ ys) i = omega arith

  -- where a test tells elements apart, rearranged lists have the same ones
  pub same_in : (eq : A → A → Bool) → ((x : A) → eq x x ≡ true) → ((x y : A) → eq x y ≡ true → x ≡ y)
      → (xs ys : List A) → Rearranged xs ys → (x : A) → In x xs → In x ys
  same_in eq self sound xs ys h x i =
      let n : 0 < number (eq x) ys = omega (arith, some_of x (filter (eq x) xs) (filter_in (eq x) xs i (self x)), h (eq x)) in
      let r = not_none (filter (eq x) ys) n in
      let k = in_filter (eq x) ys r.1 in
      subst (λ z. In z ys) (sym (sound x r.0 k.1)) k.0

module _ {A B : Type 0} (f : A → List B) (b : A → A → Bool) (p : B → Bool) where
  insert_flat : (x : A) (ys : List A) → number p (f x ++ flat_map f ys) ≡ number p (flat_map f (insert b x ys))
  unfolding insert flat_map
  insert_flat x [] = refl
  insert_flat x (y ∷ ys) = elim (which (b y x)) [
    | inl e ↦
        rw (e, insert)
        (omega (arith, number_append p (f x) (f y ++ flat_map f ys), number_append p (f y) (flat_map f ys), number_append p (f y) (flat_map f (insert b x ys)), number_append p (f x) (flat_map f ys), insert_flat x ys))
    | inr e ↦ rw (e, insert) refl
  ]

  -- what f gives of a sorted list
  pub sort_flat : (xs : List A) → number p (flat_map f xs) ≡ number p (flat_map f (sort b xs))
  unfolding sort flat_map
  sort_flat [] = refl
  sort_flat (x ∷ xs) = omega (arith, number_append p (f x) (flat_map f xs), number_append p (f x) (flat_map f (sort b xs)), sort_flat xs, insert_flat x (sort b xs))

-- ---- numbers and triangles are told apart by a test
pub same_in_numbers : (xs ys : List ℕ) → Rearranged xs ys → (n : ℕ) → In n xs → In n ys
same_in_numbers = same_in eqb (λ n. eq-eqb n n refl) eqb-true

tri_eq : Tri → Tri → Bool
tri_eq s t = eqb s.n0 t.n0 && eqb s.n1 t.n1 && eqb s.n2 t.n2

tri_self : (t : Tri) → tri_eq t t ≡ true
unfolding tri_eq
tri_self t = rw (eq-eqb t.n0 t.n0 refl, eq-eqb t.n1 t.n1 refl, eq-eqb t.n2 t.n2 refl) refl

tri_sound : (s t : Tri) → tri_eq s t ≡ true → s ≡ t
unfolding tri_eq
tri_sound s t h =
    let f = both (eqb s.n0 t.n0 && eqb s.n1 t.n1) _ h in
    let g = both (eqb s.n0 t.n0) _ f.0 in
    let e0 = eqb-true s.n0 t.n0 g.0 in
    let e1 = eqb-true s.n1 t.n1 g.1 in
    let e2 = eqb-true s.n2 t.n2 f.1 in
    λ i. record { n0 = e0 i; n1 = e1 i; n2 = e2 i }

pub same_in_tris : (xs ys : List Tri) → Rearranged xs ys → (t : Tri) → In t xs → In t ys
same_in_tris = same_in tri_eq tri_self tri_sound
