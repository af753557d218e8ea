-- The classes that the definition joins are the components: they partition the triangles, are connected by chains,
use Rattle.std.specs.Prelude.{◌≡◌, ◌⊎◌, ◌+◌, ◌<◌, ◌∷◌, ◌++◌}
use Rattle.laws.specs.Kit.{refl, sym, ◌∙◌, ap, subst, inl, inr, Bool, true, false, not, arith, not-true, List, [], length}
use Rattle.definition.specs.Lists.{filter, flat_map, concat}
use Rattle.definition.specs.Cells.{Tri}
use Rattle.definition.specs.Components.{share_edge, meets, join, classes}
use Rattle.definition.specs.Account.{Rearranged, Reached, itself, across}
use Rattle.laws.specs.Bools.{which, never}
use Rattle.laws.specs.Lists.{In, in_left, in_right, in_either, filter_yes, filter_no, in_filter, in_any, any_in}
use Rattle.account.proofs.Rearranged.{number, number_append, number_cons, same_in_tris, same_back}
use Rattle.account.specs.Triangles.{Shares, Distinct}
use Rattle.account.proofs.Triangles.{turned, share_says, shares_test}
use Rattle.account.specs.Classes.{AllApart, AllDistinct, NoShare, Right}

-- ---- chains
-- a chain in a larger class
pub reached_more : (k l : List Tri) → ((r : Tri) → In r k → In r l) → (s t : Tri) → Reached k s t → Reached l s t
reached_more k l f s t itself = itself
reached_more k l f s t (across r u h i e) = across r u (reached_more k l f s r h) (f u i) e

-- a chain after a chain
pub reached_then : (k : List Tri) (s r t : Tri) → Reached k s r → Reached k r t → Reached k s t
reached_then k s r t h itself = h
reached_then k s r t h (across q u g i e) = across q u (reached_then k s r q h g) i e

-- a chain ends in the class
pub reached_in : (k : List Tri) (s t : Tri) → In s k → Reached k s t → In t k
reached_in k s t i itself = i
reached_in k s t i (across r u h j e) = j

-- ---- classes
-- in some class of a list
pub in_concat : (ks : List (List Tri)) (t : Tri) → In t (concat ks) → (k : List Tri) × In k ks × In t k
unfolding concat flat_map
in_concat [] t i = absurd i
in_concat (k ∷ ks) t i = elim (in_either t k (concat ks) i) [ inl j ↦ (k, inl refl, j) | inr j ↦ let r = in_concat ks t j in (r.0, inr r.1, r.2) ]

pub concat_in : (ks : List (List Tri)) (k : List Tri) (t : Tri) → In k ks → In t k → In t (concat ks)
unfolding concat flat_map
concat_in [] k t i j = absurd i
concat_in (l ∷ ks) k t (inl e) j = in_left t l (concat ks) (subst (λ x. In t x) e j)
concat_in (l ∷ ks) k t (inr i) j = in_right t l (concat ks) (concat_in ks k t i j)

module _ (ts : List Tri) (ks : List (List Tri)) (same : Rearranged (concat ks) ts) where
  pub every : (t : Tri) → In t ts → (k : List Tri) × In k ks × In t k
  every t i = in_concat ks t (same_in_tris ts (concat ks) (same_back (concat ks) ts same) t i)

  pub only : (k : List Tri) (t : Tri) → In k ks → In t k → In t ts
  only k t i j = same_in_tris (concat ks) ts same t (concat_in ks k t i j)

-- what meets a class shares an edge with a triangle of it
pub meets_says : (t : Tri) (k : List Tri) → Distinct t → meets t k ≡ true → (s : Tri) × In s k × Shares t s
unfolding meets
meets_says t k d h = let r = any_in (share_edge t) k h in (r.0, r.1, share_says t r.0 d r.2)

-- a triangle that shares an edge with one of a class meets the class
pub shares_meets : (t : Tri) (k : List Tri) (s : Tri) → In s k → Shares t s → meets t k ≡ true
unfolding meets
shares_meets t k s i h = in_any (share_edge t) k (s, i, shares_test t s h)

-- two classes that a test tells apart
apart_two : (ks : List (List Tri)) (p : List Tri → Bool) (k l : List Tri) → AllApart ks → In k ks → In l ks → p k ≡ true → p l ≡ false → NoShare k l
apart_two [] p k l a i j e f = absurd i
apart_two (m ∷ ks) p k l a (inl x) (inl y) e f = never (p m) (ap p (sym x) ∙ e) (ap p (sym y) ∙ f)
apart_two (m ∷ ks) p k l a (inl x) (inr j) e f = λ s t i g h. a.0 l j s t (subst (λ z. In s z) x i) g h
apart_two (m ∷ ks) p k l a (inr i) (inl y) e f = λ s t g j h. a.0 k i t s (subst (λ z. In t z) y j) g (turned h)
apart_two (m ∷ ks) p k l a (inr i) (inr j) e f = apart_two ks p k l a.1 i j e f

-- two classes are one, or apart
pub apart_or_same : (ks : List (List Tri)) (k l : List Tri) → AllApart ks → In k ks → In l ks → (k ≡ l) ⊎ NoShare k l
apart_or_same [] k l a i j = absurd i
apart_or_same (m ∷ ks) k l a (inl x) (inl y) = inl (x ∙ sym y)
apart_or_same (m ∷ ks) k l a (inl x) (inr j) = inr (λ s t i g h. a.0 l j s t (subst (λ z. In s z) x i) g h)
apart_or_same (m ∷ ks) k l a (inr i) (inl y) = inr (λ s t g j h. a.0 k i t s (subst (λ z. In t z) y j) g (turned h))
apart_or_same (m ∷ ks) k l a (inr i) (inr j) = apart_or_same ks k l a.1 i j

apart_filter : (p : List Tri → Bool) (ks : List (List Tri)) → AllApart ks → AllApart (filter p ks)
unfolding filter
apart_filter p [] a = tt
apart_filter p (k ∷ ks) a = elim (which (p k)) [
  | inl e ↦ rw (filter_yes p k ks e) (λ l i. a.0 l (in_filter p ks i).0, apart_filter p ks a.1)
  | inr e ↦ rw (filter_no p k ks e) (apart_filter p ks a.1)
]

concat_parts : (c : Tri → Bool) (p : List Tri → Bool) (ks : List (List Tri))
    → number c (concat (filter p ks)) + number c (concat (filter (λ k. not (p k)) ks)) ≡ number c (concat ks)
unfolding concat flat_map filter
concat_parts c p [] = refl
concat_parts c p (k ∷ ks) =
    let h = concat_parts c p ks in
    elim (which (p k)) [
      | inl e ↦ rw e (omega (arith, h, number_append c k (concat (filter p ks)), number_append c k (concat ks)))
      | inr e ↦ rw e (omega (arith, h, number_append c k (concat (filter (λ k. not (p k)) ks)), number_append c k (concat ks)))
    ]

-- ---- a triangle joins
module _ (t : Tri) (ts : List Tri) (ks : List (List Tri)) (d : AllDistinct (t ∷ ts)) (w : Right ts ks) where
  no_part : List (List Tri)
  no_part = filter (λ k. not (meets t k)) ks

  -- the class of t
  own : List Tri
  own = t ∷ concat (filter (meets t) ks)

  not_met : (l : List Tri) → In l no_part → In l ks × (meets t l ≡ false)
  unfolding no_part
  not_met l i = let r = in_filter (λ k. not (meets t k)) ks i in (r.0, not-true (meets t l) r.1)

  join_same : Rearranged (concat (join t ks)) (t ∷ ts)
  unfolding join concat flat_map
  join_same c =
      let yes_part = concat (filter (meets t) ks) in
      let no_too = concat (filter (λ k. not (meets t k)) ks) in
      omega (arith, number_cons c t (yes_part ++ no_too), number_append c yes_part no_too, concat_parts c (meets t) ks, w.same c, number_cons c t ts)

  -- by a chain to t, and back
  to_own : (s : Tri) → In s own → Reached own s t × Reached own t s
  unfolding own
  to_own s (inl e) = subst (λ z. Reached own z t × Reached own t z) (sym e) (itself, itself)
  to_own s (inr i) =
      let r = in_concat (filter (meets t) ks) s i in
      let f = in_filter (meets t) ks r.1 in
      let g = meets_says t r.0 (d t (inl refl)) f.1 in
      let into : (u : Tri) → In u r.0 → In u own = λ u j. inr (concat_in (filter (meets t) ks) r.0 u r.1 j) in
      let out : Reached own s g.0 = reached_more r.0 own into s g.0 (w.linked r.0 f.0 s g.0 r.2 g.1) in
      let home : Reached own g.0 s = reached_more r.0 own into g.0 s (w.linked r.0 f.0 g.0 s g.1 r.2) in (
        across g.0 t out (inl refl) (shares_test g.0 t (turned g.2)),
        reached_then own t g.0 s (across t g.0 itself (into g.0 g.1) (shares_test t g.0 g.2)) home,
      )

  join_linked : (k : List Tri) → In k (join t ks) → (x y : Tri) → In x k → In y k → Reached k x y
  unfolding join own
  join_linked k (inl e) x y i j = subst (λ z. Reached z x y) (sym e)
      (reached_then own x t y (to_own x (subst (λ z. In x z) e i)).0 (to_own y (subst (λ z. In y z) e j)).1)
  join_linked k (inr l) x y i j = w.linked k (in_filter (λ k. not (meets t k)) ks l).0 x y i j

  join_inhabited : (k : List Tri) → In k (join t ks) → 0 < length k
  unfolding join
  join_inhabited k (inl e) = subst (λ z. 0 < length z) (sym e) (omega arith)
  join_inhabited k (inr i) = w.inhabited k (in_filter (λ k. not (meets t k)) ks i).0

  join_apart : AllApart (join t ks)
  unfolding join no_part
  join_apart = (
    λ l i x y j k h. let n = not_met l i in elim j [
      | inl e ↦ never (meets t l) (shares_meets t l y k (subst (λ z. Shares z y) e h)) n.1
      | inr j' ↦ let r = in_concat (filter (meets t) ks) x j' in let f = in_filter (meets t) ks r.1 in apart_two ks (meets t) r.0 l w.apart f.0 n.0 f.1 n.1 x y r.2 k h
    ],
    apart_filter (λ k. not (meets t k)) ks w.apart,
  )

  join_right : Right (t ∷ ts) (join t ks)
  join_right = record { same = join_same; linked = join_linked; inhabited = join_inhabited; apart = join_apart }

-- the classes of triangles with three nodes each are right
pub classes_right : (ts : List Tri) → AllDistinct ts → Right ts (classes ts)
unfolding classes concat flat_map
classes_right [] d = record { same = λ c. refl; linked = λ k i. absurd i; inhabited = λ k i. absurd i; apart = tt }
classes_right (t ∷ ts) d = join_right t ts (classes ts) d (classes_right ts (λ s i. d s (inr i)))

-- triangles that share an edge are in one class
pub one_class : (ts : List Tri) (ks : List (List Tri)) → Right ts ks → (s t : Tri) → In s ts → In t ts → Shares s t → (k : List Tri) × In k ks × In s k × In t k
one_class ts ks w s t i j h =
    let a = every ts ks w.same s i in
    let b = every ts ks w.same t j in
    elim (apart_or_same ks a.0 b.0 w.apart a.1 b.1) [
      | inl e ↦ (a.0, a.1, a.2, subst (λ z. In t z) (sym e) b.2)
      | inr f ↦ absurd (f s t a.2 b.2 h)
    ]
