-- The sizes of the components: those of the definition are right, descend and add up;
-- and all are even exactly where every closed set is even.
use Rattle.std.specs.Prelude.{◌≡◌, ◌⊎◌, ◌+◌, ◌%◌, ◌<◌, ◌≤◌, ◌∷◌}
use Rattle.laws.specs.Kit.{refl, sym, ◌∙◌, ap, subst, inl, inr, Bool, true, false, not, ℕ, zero, suc, arith, eqb, ltb, eqb-false, ltb-true, ltb-false, List, [], map, length, length-append}
use Rattle.std.proofs.Math.Nat.{suc-mod}
use Rattle.definition.specs.Lists.{flat_map, concat, sort, insert}
use Rattle.definition.specs.Cells.{Tri}
use Rattle.definition.specs.Components.{share_edge, meets, classes, component_sizes, odd_one}
use Rattle.definition.specs.Account.{All, Pairwise, Reached, itself, across, Components, Even, EvenComponents, Apart, sum}
use Rattle.laws.specs.Bools.{which, never}
use Rattle.laws.specs.Lists.{In, all_from, all_at, insert_in, sort_in, none_in, map_in, in_map}
use Rattle.account.proofs.Rearranged.{same_length, sort_same, same_in_numbers}
use Rattle.account.proofs.Triangles.{turned, share_says, shares_self}
use Rattle.account.specs.Even.{Closed, AllEven, xor, odd, parity}
use Rattle.account.proofs.Even.{odd_append, odd_same, same_odd}
use Rattle.account.specs.Classes.{NoShare, AllApart, Right, AllDistinct}
use Rattle.account.proofs.Classes.{reached_in, only, meets_says, shares_meets, apart_or_same, classes_right, one_class}

-- ---- even numbers
whether_even : (n : ℕ) → ((parity n ≡ false) × (n % 2 ≡ 0)) ⊎ ((parity n ≡ true) × (n % 2 ≡ 1))
unfolding parity
whether_even zero = inl (refl, refl)
whether_even (suc n) = elim (whether_even n) [
  | inl h ↦ inr (ap not h.0, rw (suc-mod n 2, h.1) refl)
  | inr h ↦ inl (ap not h.0, rw (suc-mod n 2, h.1) refl)
]

parity_even : (n : ℕ) → parity n ≡ false → Even n
parity_even n e = elim (whether_even n) [ inl h ↦ h.1 | inr h ↦ never (parity n) h.0 e ]

even_parity : (n : ℕ) → Even n → parity n ≡ false
even_parity n e = elim (whether_even n) [ inl h ↦ h.0 | inr h ↦ let g = h.1 in absurd (omega arith) ]

test_even : (n : ℕ) → eqb (n % 2) 1 ≡ false → Even n
test_even n e = elim (whether_even n) [ inl h ↦ h.1 | inr h ↦ absurd (eqb-false (n % 2) 1 e h.1) ]

-- ---- the parity of a closed set, class by class
all : Tri → Bool
all t = true

odd_all : (k : List Tri) → odd all k ≡ parity (length k)
unfolding odd all parity
odd_all [] = refl
odd_all (t ∷ k) = ap not (odd_all k)

odd_none : (ts : List Tri) → odd (λ t. false) ts ≡ false
unfolding odd
odd_none [] = refl
odd_none (t ∷ ts) = odd_none ts

-- a class on which c has one value, of even size, has an even number of members
odd_whole : (c : Tri → Bool) (k : List Tri) → ((s t : Tri) → In s k → In t k → c s ≡ c t) → odd all k ≡ false → odd c k ≡ false
unfolding odd all
odd_whole c [] h e = refl
odd_whole c (t ∷ k) h e =
    odd_same c (λ s. c t) (t ∷ k) (λ s i. h s t i (inl refl)) ∙ (elim (c t) as (λ b. odd (λ s. b) (t ∷ k) ≡ false) [ true ↦ e | false ↦ odd_none (t ∷ k) ])

-- with none
pub xor_none : (b : Bool) → xor b false ≡ b
xor_none true = refl
xor_none false = refl

odd_concat : (c : Tri → Bool) (ks : List (List Tri)) → ((k : List Tri) → In k ks → odd c k ≡ false) → odd c (concat ks) ≡ false
unfolding odd concat flat_map
odd_concat c [] h = refl
odd_concat c (k ∷ ks) h = odd_append c k (concat ks) ∙ ap (λ b. xor b (odd c (concat ks))) (h k (inl refl)) ∙ odd_concat c ks (λ l i. h l (inr i))

-- a closed set has all of a chain or none
pub along_chain : (c : Tri → Bool) (ts k : List Tri) → AllDistinct ts → Closed c ts → ((t : Tri) → In t k → In t ts) → (s t : Tri) → In s k → Reached k s t → c s ≡ c t
along_chain c ts k d h f s t i itself = refl
along_chain c ts k d h f s t i (across r u g j e) =
    let at = f r (reached_in k s r i g) in
    along_chain c ts k d h f s r i g ∙ h r u at (f u j) (share_says r u (d r at) e)

-- components of even sizes: every closed set is even
pub sizes_even : (ts : List Tri) → AllDistinct ts → EvenComponents ts → AllEven ts
sizes_even ts d h c e =
    let w = h.1 in
    let ks = w.classes in
    let even : (k : List Tri) → In k ks → odd all k ≡ false =
    λ k i. odd_all k ∙ even_parity (length k) (all_at Even h.0 h.2 (length k) (same_in_numbers (map length ks) h.0 w.sizes_are (length k) (map_in length k ks i))) in
    let value : (k : List Tri) → In k ks → (s t : Tri) → In s k → In t k → c s ≡ c t =
    λ k i s t x y. along_chain c ts k d e (λ r j. only ts ks w.partition k r i j) s t x (all_at (Reached k s) k (all_at (λ s. All (Reached k s) k) k (all_at (λ k. All (λ s. All (Reached k s) k) k) ks w.connected k i) s x) t y) in
    sym (same_odd (concat ks) ts w.partition c) ∙ odd_concat c ks (λ k i. odd_whole c k (value k i) (even k i))

-- ---- a class is a closed set
module _ (ts : List Tri) (ks : List (List Tri)) (d : AllDistinct ts) (w : Right ts ks) where
  inside : (k : List Tri) (t : Tri) → In k ks → In t k → meets t k ≡ true
  inside k t i j = shares_meets t k t j (shares_self t (d t (only ts ks w.same k t i j)))

  outside : (k l : List Tri) (t : Tri) → In l ks → In t l → NoShare l k → meets t k ≡ false
  outside k l t i j n = elim (which (meets t k)) [
    | inl e ↦ let r = meets_says t k (d t (only ts ks w.same l t i j)) e in absurd (n t r.0 j r.1 r.2)
    | inr e ↦ e
  ]

  class_closed : (k : List Tri) → In k ks → Closed (λ t. meets t k) ts
  class_closed k i s t x y h =
      let r = one_class ts ks w s t x y h in
      elim (apart_or_same ks r.0 k w.apart r.1 i) [
        | inl e ↦ inside k s i (subst (λ z. In s z) e r.2) ∙ sym (inside k t i (subst (λ z. In t z) e r.3))
        | inr n ↦ outside k r.0 s r.1 r.2 n ∙ sym (outside k r.0 t r.1 r.3 n)
      ]

  -- of all triangles, a class has as many members as it is long
  class_odd : (k : List Tri) (js : List (List Tri)) → In k ks → AllApart js → ((l : List Tri) → In l js → In l ks) → In k js
      → odd (λ t. meets t k) (concat js) ≡ odd all k
  unfolding concat flat_map all
  class_odd k [] i a h j = absurd j
  class_odd k (l ∷ js) i a h (inl e) =
      let head : odd (λ t. meets t k) l ≡ odd all l = odd_same (λ t. meets t k) all l (λ t m. inside k t i (subst (λ z. In t z) (sym e) m)) in
      let none : odd (λ t. meets t k) (concat js) ≡ false = odd_concat (λ t. meets t k) js (λ x m.
      odd_same (λ t. meets t k) (λ t. false) x (λ t n. outside k x t (h x (inr m)) n (λ s u p q g. a.0 x m u s (subst (λ z. In u z) e q) p (turned g))) ∙ odd_none x) in
      odd_append (λ t. meets t k) l (concat js) ∙ ap (xor (odd (λ t. meets t k) l)) none ∙ xor_none (odd (λ t. meets t k) l) ∙ head ∙ ap (odd all) (sym e)
  class_odd k (l ∷ js) i a h (inr m) =
      let none : odd (λ t. meets t k) l ≡ false = odd_same (λ t. meets t k) (λ t. false) l (λ t n. outside k l t (h l (inl refl)) n (a.0 k m)) ∙ odd_none l in
      odd_append (λ t. meets t k) l (concat js) ∙ ap (λ b. xor b (odd (λ t. meets t k) (concat js))) none ∙ class_odd k js i a.1 (λ x n. h x (inr n)) m

  class_even : AllEven ts → (k : List Tri) → In k ks → Even (length k)
  class_even h k i = parity_even (length k)
      (sym (odd_all k) ∙ sym (class_odd k ks i w.apart (λ l j. j) i) ∙ same_odd (concat ks) ts w.same (λ t. meets t k) ∙ h (λ t. meets t k) (class_closed k i))

-- every closed set is even: so are all sizes
pub even_sizes : (ts : List Tri) → AllDistinct ts → AllEven ts → All Even (component_sizes ts)
unfolding component_sizes
even_sizes ts d h = all_from (component_sizes ts) (λ n i.
    let r = in_map length n (classes ts) (sort_in (λ a b. ltb b a) n (map length (classes ts)) i) in
    subst Even (sym r.2) (class_even ts (classes ts) d (classes_right ts d) h r.0 r.1))

-- ---- the sizes are right
insert_descends : (n : ℕ) (ns : List ℕ) → Pairwise (λ a b. b ≤ a) ns → Pairwise (λ a b. b ≤ a) (insert (λ a b. ltb b a) n ns)
unfolding insert
insert_descends n [] h = (tt, tt)
insert_descends n (k ∷ ns) h = elim (which (ltb n k)) [
  | inl e ↦
      let l = ltb-true n k e in
      let below : (j : ℕ) → In j (insert (λ a b. ltb b a) n ns) → j ≤ k =
      λ j i. elim (insert_in (λ a b. ltb b a) j n ns i) [ inl f ↦ omega arith | inr m ↦ all_at (λ b. b ≤ k) ns h.0 j m ] in
      rw (e, insert) (all_from (insert (λ a b. ltb b a) n ns) below, insert_descends n ns h.1)
  | inr e ↦
      let l = ltb-false n k e in
      let below : (j : ℕ) → In j (k ∷ ns) → j ≤ n =
      λ j i. elim i [ inl f ↦ omega arith | inr m ↦ let g = all_at (λ b. b ≤ k) ns h.0 j m in omega arith ] in
      rw (e, insert) (all_from (k ∷ ns) below, h)
]

sort_descends : (ns : List ℕ) → Pairwise (λ a b. b ≤ a) (sort (λ a b. ltb b a) ns)
unfolding sort
sort_descends [] = tt
sort_descends (n ∷ ns) = insert_descends n _ (sort_descends ns)

classes_apart : (ks : List (List Tri)) → ((k : List Tri) → In k ks → AllDistinct k) → AllApart ks → Pairwise (λ c d. All (λ s. All (Apart s) d) c) ks
classes_apart [] d a = tt
classes_apart (k ∷ ks) d a = (
  all_from ks (λ l i. all_from k (λ s x. all_from l (λ t y. elim (which (share_edge s t)) [
    | inl e ↦ absurd (a.0 l i s t x y (share_says s t (d k (inl refl) s x) e))
    | inr e ↦ e
  ]))),
  classes_apart ks (λ l i. d l (inr i)) a.1,
)

-- the definition's sizes are those of the components
pub components_right : (ts : List Tri) → AllDistinct ts → Components ts (component_sizes ts)
unfolding component_sizes
components_right ts d =
    let ks = classes ts in
    let w = classes_right ts d in
    record {
      classes = ks;
      partition = w.same;
      apart = classes_apart ks (λ k i t j. d t (only ts ks w.same k t i j)) w.apart;
      connected = all_from ks (λ k i. all_from k (λ s x. all_from k (λ t y. w.linked k i s t x y)));
      inhabited = all_from ks w.inhabited;
      sizes_are = sort_same (λ a b. ltb b a) (map length ks);
      descending = sort_descends (map length ks);
    }

-- no size is 0
pub sizes_positive : (ts : List Tri) → AllDistinct ts → (n : ℕ) → In n (component_sizes ts) → 0 < n
unfolding component_sizes
sizes_positive ts d n i =
    let r = in_map length n (classes ts) (sort_in (λ a b. ltb b a) n (map length (classes ts)) i) in
    subst (λ k. 0 < k) (sym r.2) ((classes_right ts d).inhabited r.0 r.1)

sum_insert : (b : ℕ → ℕ → Bool) (n : ℕ) (ns : List ℕ) → sum (insert b n ns) ≡ n + sum ns
unfolding insert sum
sum_insert b n [] = refl
sum_insert b n (k ∷ ns) = elim (which (b k n)) [ inl e ↦ rw (e, insert) (omega (arith, sum_insert b n ns)) | inr e ↦ rw (e, insert) refl ]

sum_sort : (b : ℕ → ℕ → Bool) (ns : List ℕ) → sum (sort b ns) ≡ sum ns
unfolding sort sum
sum_sort b [] = refl
sum_sort b (n ∷ ns) = sum_insert b n (sort b ns) ∙ ap (λ k. n + k) (sum_sort b ns)

sum_concat : (ks : List (List Tri)) → sum (map length ks) ≡ length (concat ks)
unfolding sum concat flat_map
sum_concat [] = refl
sum_concat (k ∷ ks) = ap (λ n. length k + n) (sum_concat ks) ∙ sym (length-append k (concat ks))

-- the sizes add up to the number of triangles
pub sizes_sum : (ts : List Tri) → AllDistinct ts → sum (component_sizes ts) ≡ length ts
unfolding component_sizes
sizes_sum ts d = sum_sort (λ a b. ltb b a) (map length (classes ts)) ∙ sum_concat (classes ts) ∙ same_length (concat (classes ts)) ts (classes_right ts d).same

-- where the definition finds none odd, all are even
pub none_odd : (ts : List Tri) → AllDistinct ts → odd_one ts ≡ false → EvenComponents ts
unfolding odd_one
none_odd ts d e = (component_sizes ts, components_right ts d, all_from (component_sizes ts) (λ n i. test_even n (none_in (λ n. eqb (n % 2) 1) (component_sizes ts) e n i)))
