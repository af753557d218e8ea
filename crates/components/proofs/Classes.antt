-- Components of a list of triangles, by closed sets: any two partitions into components have the same sizes.
use Rattle.std.specs.Prelude.{◌≡◌, ◌&&◌, ◌+◌, ◌%◌, ◌∷◌, ◌++◌}
use Rattle.laws.specs.Kit.{refl, sym, ◌∙◌, ap, subst, inl, inr, Bool, true, false, ℕ, suc, arith, eqb, ltb, eq-eqb, ne_eqb, List, [], map, length}
use mathlib.Core.Bool.{and-true, and-false}
use Rattle.definition.specs.Lists.{filter, flat_map, concat}
use Rattle.definition.specs.Cells.{Tri}
use Rattle.definition.specs.Components.{meets, classes, component_sizes, odd_one}
use Rattle.definition.specs.Account.{Rearranged}
use Rattle.laws.specs.Bools.{which, never}
use Rattle.laws.specs.Lists.{In, in_left, in_right, in_either, filter_yes, filter_no, sort_in, in_any, any_in, in_sort, filter_all, map_in, in_map}
use Rattle.account.proofs.Sizes.{along_chain}
use Rattle.account.proofs.Rearranged.{number, number_append, number_cons, same_length, sort_same, same_in_tris, same_back, not_none}
use Rattle.account.proofs.Triangles.{turned, shares_self}
use Rattle.account.specs.Even.{Closed}
use Rattle.account.specs.Classes.{NoShare, AllApart, Right, AllDistinct}
use Rattle.account.proofs.Classes.{in_concat, every, only, meets_says, shares_meets, apart_or_same, classes_right, one_class}

-- ---- counting

pub number_agree : {A : Type 0} (c d : A → Bool) (xs : List A) → ((x : A) → In x xs → c x ≡ d x) → number c xs ≡ number d xs
unfolding filter
number_agree c d [] h = refl
number_agree c d (x ∷ xs) h = elim (which (c x)) [
  | inl e ↦ rw (filter_yes c x xs e, filter_yes d x xs (sym (h x (inl refl)) ∙ e)) (ap suc (number_agree c d xs (λ y i. h y (inr i))))
  | inr e ↦ rw (filter_no c x xs e, filter_no d x xs (sym (h x (inl refl)) ∙ e)) (number_agree c d xs (λ y i. h y (inr i)))
]

pub number_none : {A : Type 0} (c : A → Bool) (xs : List A) → ((x : A) → In x xs → c x ≡ false) → number c xs ≡ 0
unfolding filter
number_none c [] h = refl
number_none c (x ∷ xs) h = rw (filter_no c x xs (h x (inl refl))) (number_none c xs (λ y i. h y (inr i)))

pub number_all : {A : Type 0} (xs : List A) → number (λ x. true) xs ≡ length xs
number_all xs = ap length (filter_all (λ x. true) xs (λ x i. refl))

-- ---- one component

-- a component of ts: no closed set divides it, and it is a closed set
pub record Class (ts k : List Tri) : Type 0 where
  pub some : Tri
  pub has : In some k
  pub inside : (t : Tri) → In t k → In t ts
  pub solid : (c : Tri → Bool) → Closed c ts → (s t : Tri) → In s k → In t k → c s ≡ c t
  pub closed : Closed (λ t. meets t k) ts

module _ (ts : List Tri) (d : AllDistinct ts) where
  self : (k : List Tri) → Class ts k → (t : Tri) → In t k → meets t k ≡ true
  self k a t i = shares_meets t k t i (shares_self t (d t (a.inside t i)))

  into : (k l : List Tri) → Class ts k → Class ts l → (t : Tri) → In t k → In t l → (s : Tri) → In s ts → meets s k ≡ true → meets s l ≡ true
  into k l a b t i j s m h =
      let r = meets_says s k (d s m) h in
      b.closed s r.0 m (a.inside r.0 r.1) r.2 ∙ a.solid (λ u. meets u l) b.closed r.0 t r.1 i ∙ self l b t j

  -- components with a common triangle have the same members
  pub agree : (k l : List Tri) → Class ts k → Class ts l → (t : Tri) → In t k → In t l → (s : Tri) → In s ts → meets s k ≡ meets s l
  agree k l a b t i j s m = elim (which (meets s k)) [
    | inl e ↦ e ∙ sym (into k l a b t i j s m e)
    | inr e ↦ elim (which (meets s l)) [ inl f ↦ never (meets s k) (into l k b a t j i s m f) e | inr f ↦ e ∙ sym f ]
  ]

  outside : (k l : List Tri) → Class ts l → (t : Tri) → In t l → NoShare l k → meets t k ≡ false
  outside k l b t j n = elim (which (meets t k)) [
    | inl e ↦ let r = meets_says t k (d t (b.inside t j)) e in absurd (n t r.0 j r.1 r.2)
    | inr e ↦ e
  ]

  -- of lists apart, a component has its own members alone
  pub alone : (c : Tri → Bool) (k : List Tri) (js : List (List Tri)) → AllApart js → ((l : List Tri) → In l js → Class ts l) → In k js
      → number (λ t. c t && meets t k) (concat js) ≡ number c k
  unfolding concat flat_map filter
  alone c k [] a h j = absurd j
  alone c k (l ∷ js) a h (inl e) =
      let f : Tri → Bool = λ t. c t && meets t k in
      let head : number f l ≡ number c l = number_agree f c l (λ t i. ap (λ b. c t && b) (self k (subst (λ z. Class ts z) (sym e) (h l (inl refl))) t (subst (λ z. In t z) (sym e) i)) ∙ and-true (c t)) in
      let tail : number f (concat js) ≡ 0 = none f js (λ x m t i. ap (λ b. c t && b) (outside k x (h x (inr m)) t i (λ s u p q g. a.0 x m u s (subst (λ z. In u z) e q) p (turned g))) ∙ and-false (c t)) in
      let whole : number f (l ++ concat js) ≡ number f l + number f (concat js) = number_append f l (concat js) in
      let last : number c l ≡ number c k = ap (number c) (sym e) in
      omega arith
    where
      none : (f : Tri → Bool) (js : List (List Tri)) → ((x : List Tri) → In x js → (t : Tri) → In t x → f t ≡ false) → number f (concat js) ≡ 0
      none f [] g = refl
      none f (x ∷ js) g =
          let one = number_none f x (g x (inl refl)) in
          let more = none f js (λ y m. g y (inr m)) in
          let both = number_append f x (concat js) in omega arith
  alone c k (l ∷ js) a h (inr m) =
      let f : Tri → Bool = λ t. c t && meets t k in
      let head : number f l ≡ 0 = number_none f l (λ t i. ap (λ b. c t && b) (outside k l (h l (inl refl)) t i (a.0 k m)) ∙ and-false (c t)) in
      let tail : number f (concat js) ≡ number c k = alone c k js a.1 (λ x n. h x (inr n)) m in
      let whole : number f (l ++ concat js) ≡ number f l + number f (concat js) = number_append f l (concat js) in
      omega arith

-- ---- a partition into components

pub record Parted (ts : List Tri) (ks : List (List Tri)) : Type 0 where
  pub same : Rearranged (concat ks) ts
  pub apart : AllApart ks
  pub class : (k : List Tri) → In k ks → Class ts k

module _ (ts : List Tri) (ks : List (List Tri)) (d : AllDistinct ts) (w : Parted ts ks) where
  pub count : (k : List Tri) → In k ks → number (λ t. meets t k) ts ≡ length k
  count k i = sym (w.same (λ t. meets t k)) ∙ alone ts d (λ t. true) k ks w.apart w.class i ∙ number_all k

-- components of one partition and another that have a common triangle are of one size
pub same_size : (ts : List Tri) (k l : List Tri) → AllDistinct ts → Class ts k → Class ts l → number (λ t. meets t k) ts ≡ length k → number (λ t. meets t l) ts ≡ length l
    → (t : Tri) → In t k → In t l → length k ≡ length l
same_size ts k l d a b p q t i j = sym p ∙ number_agree (λ s. meets s k) (λ s. meets s l) ts (λ s m. agree ts d k l a b t i j s m) ∙ q

-- ---- the definition's classes

module _ (ts : List Tri) (d : AllDistinct ts) where
  right : Right ts (classes ts)
  right = classes_right ts d

  within : (k : List Tri) (t : Tri) → In k (classes ts) → In t k → In t ts
  within k t i j = only ts (classes ts) right.same k t i j

  yes_in : (k : List Tri) (t : Tri) → In k (classes ts) → In t k → meets t k ≡ true
  yes_in k t i j = shares_meets t k t j (shares_self t (d t (within k t i j)))

  not_in : (k l : List Tri) (t : Tri) → In l (classes ts) → In t l → NoShare l k → meets t k ≡ false
  not_in k l t i j n = elim (which (meets t k)) [
    | inl e ↦ let r = meets_says t k (d t (within l t i j)) e in absurd (n t r.0 j r.1 r.2)
    | inr e ↦ e
  ]

  class_closed : (k : List Tri) → In k (classes ts) → Closed (λ t. meets t k) ts
  class_closed k i s t x y h =
      let r = one_class ts (classes ts) right s t x y h in
      elim (apart_or_same (classes ts) r.0 k right.apart r.1 i) [
        | inl e ↦ yes_in k s i (subst (λ z. In s z) e r.2) ∙ sym (yes_in k t i (subst (λ z. In t z) e r.3))
        | inr n ↦ not_in k r.0 s r.1 r.2 n ∙ sym (not_in k r.0 t r.1 r.3 n)
      ]

  class_of : (k : List Tri) → In k (classes ts) → Class ts k
  class_of k i =
      let r = not_none k (right.inhabited k i) in
      record {
        some = r.0;
        has = r.1;
        inside = λ t j. within k t i j;
        solid = λ c h s t x y. along_chain c ts k d h (λ u j. within k u i j) s t x (right.linked k i s t x y);
        closed = class_closed k i;
      }

  pub classes_parted : Parted ts (classes ts)
  classes_parted = record { same = right.same; apart = right.apart; class = class_of }

  -- ---- the odd test

  -- the size of a component is one of the sizes
  pub size_in : (k : List Tri) → Class ts k → number (λ t. meets t k) ts ≡ length k → In (length k) (component_sizes ts)
  unfolding component_sizes
  size_in k a p =
      let r = every ts (classes ts) right.same a.some (a.inside a.some a.has) in
      let e : length k ≡ length r.0 = same_size ts k r.0 d a (class_of r.0 r.1) p (count ts (classes ts) d classes_parted r.0 r.1) a.some a.has r.2 in
      subst (λ n. In n (component_sizes ts)) (sym e) (in_sort (λ a b. ltb b a) (length r.0) (map length (classes ts)) (map_in length r.0 (classes ts) r.1))

  pub odd_yes : (k : List Tri) → Class ts k → number (λ t. meets t k) ts ≡ length k → length k % 2 ≡ 1 → odd_one ts ≡ true
  unfolding odd_one
  odd_yes k a p h = in_any (λ n. eqb (n % 2) 1) (component_sizes ts) (length k, size_in k a p, eq-eqb (length k % 2) 1 h)

  pub odd_no : (js : List (List Tri)) → Parted ts js → ((k : List Tri) → In k js → length k % 2 ≡ 0) → odd_one ts ≡ false
  unfolding odd_one component_sizes
  odd_no js w h = elim (which (odd_one ts)) [
    | inl e ↦
        let r = any_in (λ n. eqb (n % 2) 1) (component_sizes ts) e in
        let q = in_map length r.0 (classes ts) (sort_in (λ a b. ltb b a) r.0 (map length (classes ts)) r.1) in
        let a = class_of q.0 q.1 in
        let g = every ts js w.same a.some (a.inside a.some a.has) in
        let z : length g.0 ≡ length q.0 = same_size ts g.0 q.0 d (w.class g.0 g.1) a (count ts js d w g.0 g.1) (count ts (classes ts) d classes_parted q.0 q.1) a.some g.2 a.has in
        let y : r.0 % 2 ≡ 0 = ap (λ n. n % 2) (q.2 ∙ sym z) ∙ h g.0 g.1 in
        never (eqb (r.0 % 2) 1) r.2 (ne_eqb (r.0 % 2) 1 (λ f. let v : ◌≡◌ {A = ℕ} 0 1 = sym y ∙ f in absurd (omega arith)))
    | inr e ↦ e
  ]

-- ---- two partitions have the same sizes

mid_map : (p : ℕ → Bool) (a : List (List Tri)) (l : List Tri) (b : List (List Tri)) → number p (map length (a ++ l ∷ b)) ≡ number p (length l ∷ []) + number p (map length (a ++ b))
mid_map p [] l b = number_cons p (length l) (map length b)
mid_map p (x ∷ a) l b =
    let h = mid_map p a l b in
    let c = number_cons p (length x) (map length (a ++ l ∷ b)) in
    let e = number_cons p (length x) (map length (a ++ b)) in omega arith

mid_concat : (c : Tri → Bool) (a : List (List Tri)) (l : List Tri) (b : List (List Tri)) → number c (concat (a ++ l ∷ b)) ≡ number c l + number c (concat (a ++ b))
unfolding concat flat_map
mid_concat c [] l b = number_append c l (concat b)
mid_concat c (x ∷ a) l b =
    let h = mid_concat c a l b in
    let f = number_append c x (concat (a ++ l ∷ b)) in
    let e = number_append c x (concat (a ++ b)) in omega arith

in_mid : {A : Type 0} (x : A) (a : List A) (l : A) (b : List A) → In x (a ++ b) → In x (a ++ l ∷ b)
in_mid x a l b i = elim (in_either x a b i) [ inl j ↦ in_left x a (l ∷ b) j | inr j ↦ in_right x a (l ∷ b) (inr j) ]

apart_mid : (a : List (List Tri)) (l : List Tri) (b : List (List Tri)) → AllApart (a ++ l ∷ b) → AllApart (a ++ b)
apart_mid [] l b h = h.1
apart_mid (x ∷ a) l b h = (λ k i. h.0 k (in_mid k a l b i), apart_mid a l b h.1)

split_in : {A : Type 0} (x : A) (xs : List A) → In x xs → (a : List A) × (b : List A) × (xs ≡ a ++ x ∷ b)
split_in {A = A} x [] x'' = elim x'' [ ]
split_in x (y ∷ ys) (inl e) = ([], ys, ap (λ z. z ∷ ys) (sym e))
split_in x (y ∷ ys) (inr i) = let r = split_in x ys i in (y ∷ r.0, r.1, ap (λ z. y ∷ z) r.2)

module _ (ts : List Tri) (d : AllDistinct ts) where
  abbrev Classed : List (List Tri) → Type 0
  Classed ks = (k : List Tri) → In k ks → Class ts k

  concat_ts : (ks : List (List Tri)) → Classed ks → (t : Tri) → In t (concat ks) → In t ts
  concat_ts ks h t i = let r = in_concat ks t i in (h r.0 r.1).inside t r.2

  -- components with a common triangle have the same triangles
  same_members : (k l : List Tri) (ks ls : List (List Tri)) → Classed ks → Classed ls → AllApart ks → AllApart ls → Rearranged (concat ks) (concat ls)
      → In k ks → In l ls → (t : Tri) → In t k → In t l → Rearranged k l
  same_members k l ks ls f g a b h i j t x y c =
      sym (alone ts d c k ks a f i) ∙ h (λ s. c s && meets s k)
      ∙ number_agree (λ s. c s && meets s k) (λ s. c s && meets s l) (concat ls) (λ s m. ap (λ z. c s && z) (agree ts d k l (f k i) (g l j) t x y s (concat_ts ls g s m)))
      ∙ alone ts d c l ls b g j

  pub same_sizes : (ks ls : List (List Tri)) → Classed ks → Classed ls → AllApart ks → AllApart ls → Rearranged (concat ks) (concat ls) → Rearranged (map length ks) (map length ls)
  unfolding concat flat_map
  same_sizes [] [] f g a b h p = refl
  same_sizes [] (l ∷ ls) f g a b h p =
      let c = g l (inl refl) in absurd (same_in_tris (concat (l ∷ ls)) [] (same_back [] (concat (l ∷ ls)) h) c.some (in_left c.some l (concat ls) c.has))
  same_sizes (k ∷ ks) ls f g a b h p =
      let c = f k (inl refl) in
      let r = in_concat ls c.some (same_in_tris (concat (k ∷ ks)) (concat ls) h c.some (in_left c.some k (concat ks) c.has)) in
      let q = split_in r.0 ls r.1 in
      let m = same_members k r.0 (k ∷ ks) ls f g a b h (inl refl) r.1 c.some c.has r.2 in
      let n = q.0 ++ q.1 in
      let g' : Classed n = λ x i. g x (subst (λ z. In x z) (sym q.2) (in_mid x q.0 r.0 q.1 i)) in
      let b' : AllApart n = apart_mid q.0 r.0 q.1 (subst (λ z. AllApart z) q.2 b) in
      let h' : Rearranged (concat ks) (concat n) = λ t. (
      let u = number_append t k (concat ks) in
      let v = mid_concat t q.0 r.0 q.1 in
      let w : number t (concat ls) ≡ number t (concat (q.0 ++ r.0 ∷ q.1)) = ap (λ z. number t (concat z)) q.2 in
      let y = h t in let x = m t in omega arith) in
      let rest = same_sizes ks n (λ x i. f x (inr i)) g' a.1 b' h' p in
      let u = number_cons p (length k) (map length ks) in
      let v = mid_map p q.0 r.0 q.1 in
      let w : number p (map length ls) ≡ number p (map length (q.0 ++ r.0 ∷ q.1)) = ap (λ z. number p (map length z)) q.2 in
      let y : number p (length k ∷ []) ≡ number p (length r.0 ∷ []) = ap (λ z. number p (z ∷ [])) (same_length k r.0 m) in
      omega arith

-- the same partition of the same triangles in another order
pub parted_same : (ts us : List Tri) (ks : List (List Tri)) → Rearranged ts us → Parted ts ks → Parted us ks
parted_same ts us ks h w =
    record {
      same = λ c. w.same c ∙ h c;
      apart = w.apart;
      class = λ k i.
          let a = w.class k i in
          record {
            some = a.some;
            has = a.has;
            inside = λ t j. same_in_tris ts us h t (a.inside t j);
            solid = λ c f. a.solid c (λ s t x y q. f s t (same_in_tris ts us h s x) (same_in_tris ts us h t y) q);
            closed = λ s t x y q. a.closed s t (same_in_tris us ts (same_back ts us h) s x) (same_in_tris us ts (same_back ts us h) t y) q;
          };
    }

-- the sizes of a partition are the definition's, in some order
pub sizes_same : (ts : List Tri) (ks : List (List Tri)) → AllDistinct ts → Parted ts ks → Rearranged (map length ks) (component_sizes ts)
unfolding component_sizes
sizes_same ts ks d w p =
    let c = classes_parted ts d in
    same_sizes ts d ks (classes ts) w.class c.class w.apart c.apart (λ t. w.same t ∙ sym (c.same t)) p ∙ sort_same (λ a b. ltb b a) (map length (classes ts)) p
