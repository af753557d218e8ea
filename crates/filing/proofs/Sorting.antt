-- Lists sorted by an order, and what a function makes of them.
use Rattle.std.specs.Ordering.{ordering_reverse, is_lt}
use Rattle.std.specs.Prelude.{◌≡◌, ◌∷◌}
use Rattle.laws.specs.Kit.{refl, sym, ◌∙◌, ap, inl, inr, Bool, true, false, List, [], map}
use Rattle.definition.specs.Lists.{insert, sort}
use Rattle.definition.specs.Account.{All}
use Rattle.laws.specs.Bools.{which, never}
use Rattle.laws.specs.Lists.{all_from, all_at, sort_in}
use Rattle.sorting.specs.Ascending.{Strict}
use Rattle.std.specs.declared.cmp.Ordering.{Ordering}
use Rattle.std.specs.declared.cmp.Ordering.TheVariants.{Less, Equal, Greater}
use Rattle.filing.specs.Filing.{order_lists, earlier}
use Rattle.filing.specs.Totals.{Chained, Total, Any}

-- ---- orders of three
through : (p q r : Ordering) → Chained p q r → is_lt p ≡ false → is_lt q ≡ false → is_lt r ≡ false
through Less q r h k l = never true refl k
through Equal q r h k l = ap is_lt h ∙ l
through Greater Less r h k l = never true refl l
through Greater Equal r h k l = ap is_lt h
through Greater Greater r h k l = ap is_lt h

not_back : (p q : Ordering) → q ≡ ordering_reverse p → is_lt p ≡ true → is_lt q ≡ false
not_back Less q h k = ap is_lt h
not_back Equal q h k = never false k refl
not_back Greater q h k = never false k refl

level : (p q : Ordering) → q ≡ ordering_reverse p → is_lt p ≡ false → is_lt q ≡ false → p ≡ Equal
level Less q h k l = never true refl k
level Equal q h k l = refl
level Greater q h k l = never (is_lt q) (ap is_lt h) l

-- a total order that tells elements apart sorts them in one way
pub strict : {A : Type 0} (o : A → A → Ordering) → Total Any o → ((x y : A) → o x y ≡ Equal → x ≡ y) → Strict (earlier o)
strict o t tells =
    record {
      through = λ x y z h k. through (o x y) (o y z) (o x z) (t.chain x y z tt tt tt) h k;
      back = λ x y h. not_back (o x y) (o y x) (t.back x y tt tt) h;
      tells = λ x y h k. tells x y (level (o x y) (o y x) (t.back x y tt tt) h k);
    }

-- ---- what a function makes of lists
module _ {A B : Type 0} (P : A → Type 0) (f : A → B) (o : A → A → Ordering) (q : B → B → Ordering) (alike : (x y : A) → P x → P y → o x y ≡ q (f x) (f y)) where
  pub lists_alike : (xs ys : List A) → All P xs → All P ys → order_lists o xs ys ≡ order_lists q (map f xs) (map f ys)
  unfolding order_lists
  lists_alike [] [] h k = refl
  lists_alike [] (y ∷ ys) h k = refl
  lists_alike (x ∷ xs) [] h k = refl
  lists_alike (x ∷ xs) (y ∷ ys) h k = rw (alike x y h.0 k.0, lists_alike xs ys h.1 k.1)

pub all_sorted : {A : Type 0} (P : A → Type 0) (before : A → A → Bool) (xs : List A) → All P xs → All P (sort before xs)
all_sorted P before xs h = all_from (sort before xs) (λ x i. all_at P xs h x (sort_in before x xs i))

module _ {A B : Type 0} (P : A → Type 0) (f : A → B) (before : A → A → Bool) (less : B → B → Bool) (alike : (x y : A) → P x → P y → before x y ≡ less (f x) (f y)) where
  insert_alike : (x : A) (ys : List A) → P x → All P ys → map f (insert before x ys) ≡ insert less (f x) (map f ys)
  unfolding insert
  insert_alike x [] h k = refl
  insert_alike x (y ∷ ys) h k =
      let a = alike y x k.0 h in
      elim (which (before y x)) [
        | inl e ↦ rw (e, sym a ∙ e, insert, insert_alike x ys h k.1) refl
        | inr e ↦ rw (e, sym a ∙ e, insert) refl
      ]

  pub sort_alike : (xs : List A) → All P xs → map f (sort before xs) ≡ sort less (map f xs)
  unfolding sort
  sort_alike [] h = refl
  sort_alike (x ∷ xs) h = insert_alike x (sort before xs) h.0 (all_sorted P before xs h.1) ∙ ap (insert less (f x)) (sort_alike xs h.1)
