-- Evenness by closed sets: all components of a list are even exactly where every set that no shared edge leaves
use Rattle.std.specs.Prelude.{◌≡◌, ◌≢◌, ◌⊎◌, ◌&&◌, ◌∷◌, ◌++◌}
use Rattle.laws.specs.Kit.{refl, sym, ◌∙◌, ap, subst, inl, inr, Bool, true, false, not, cond, ℕ, zero, suc, List, []}
use Rattle.definition.specs.Lists.{filter}
use Rattle.definition.specs.Cells.{Tri, tri_has}
use Rattle.definition.specs.Account.{Rearranged}
use Rattle.laws.specs.Bools.{which, both}
use Rattle.laws.specs.Lists.{In, in_left, in_right, in_either}
use Rattle.account.proofs.Rearranged.{number, same_in_tris}
use Rattle.account.specs.Triangles.{Has, Shares, Corners}
use Rattle.account.proofs.Triangles.{turned, has_test, test_has, has_at}
use Rattle.account.specs.Even.{AllEven, Closed, odd, parity, xor, Swaps}

pub xor_assoc : (a b c : Bool) → xor a (xor b c) ≡ xor (xor a b) c
xor_assoc true true true = refl
xor_assoc true true false = refl
xor_assoc true false c = refl
xor_assoc false b c = refl

-- the parity of two parts
pub odd_append : (c : Tri → Bool) (xs ys : List Tri) → odd c (xs ++ ys) ≡ xor (odd c xs) (odd c ys)
unfolding odd
odd_append c [] ys = refl
odd_append c (x ∷ xs) ys = rw (odd_append c xs ys) (xor_assoc (c x) (odd c xs) (odd c ys))

-- tests that agree
pub odd_same : (c d : Tri → Bool) (xs : List Tri) → ((t : Tri) → In t xs → c t ≡ d t) → odd c xs ≡ odd d xs
unfolding odd
odd_same c d [] h = refl
odd_same c d (x ∷ xs) h = let e : c x ≡ d x = h x (inl refl) in let f : odd c xs ≡ odd d xs = odd_same c d xs (λ t i. h t (inr i)) in cc

odd_number : (c : Tri → Bool) (xs : List Tri) → odd c xs ≡ parity (number c xs)
unfolding odd parity filter
odd_number c [] = refl
odd_number c (x ∷ xs) = elim (which (c x)) [
  | inl e ↦ rw e (ap not (odd_number c xs))
  | inr e ↦ rw e (odd_number c xs)
]

-- the parity does not depend on the order
pub same_odd : (xs ys : List Tri) → Rearranged xs ys → (c : Tri → Bool) → odd c xs ≡ odd c ys
same_odd xs ys h c = odd_number c xs ∙ ap parity (h c) ∙ sym (odd_number c ys)

-- evenness does not depend on the order
pub same_even : (xs ys : List Tri) → Rearranged xs ys → AllEven xs → AllEven ys
same_even xs ys l h c e = sym (same_odd xs ys l c) ∙ h c (λ s t i j g. e s t (same_in_tris xs ys l s i) (same_in_tris xs ys l t j) g)

module _ (rest olds news : List Tri) (k : Tri → Bool) where
  back : (Tri → Bool) → Bool → Tri → Bool
  back c b t = cond (k t) b (c t)

  module _ (c : Tri → Bool) (w : Swaps rest olds news k c) where
    back_rest : (t : Tri) → In t rest → back c w.value t ≡ c t
    unfolding back
    back_rest t i = elim (which (k t)) [ inl e ↦ rw e (sym (w.kept t i e)) | inr e ↦ rw e refl ]

    back_old : (t : Tri) → In t olds → back c w.value t ≡ w.value
    unfolding back
    back_old t i = rw (w.old t i) refl

    back_closed : Closed c (rest ++ news) → Closed (back c w.value) (rest ++ olds)
    back_closed h s t i j e = elim (in_either s rest olds i) [
      | inl i' ↦ elim (in_either t rest olds j) [
        | inl j' ↦ back_rest s i' ∙ h s t (in_left s rest news i') (in_left t rest news j') e ∙ sym (back_rest t j')
        | inr j' ↦ back_rest s i' ∙ w.near s t i' j' e ∙ sym (back_old t j')
      ]
      | inr i' ↦ elim (in_either t rest olds j) [
        | inl j' ↦ back_old s i' ∙ sym (w.near t s j' i' (turned e)) ∙ sym (back_rest t j')
        | inr j' ↦ back_old s i' ∙ sym (back_old t j')
      ]
    ]

    back_odd : odd (back c w.value) (rest ++ olds) ≡ odd c (rest ++ news)
    back_odd =
        let f = odd_same (back c w.value) c rest back_rest in
        let g = odd_same (back c w.value) (λ t. w.value) olds back_old in
        let g' = odd_same c (λ t. w.value) news w.new in
        odd_append (back c w.value) rest olds ∙ ap (λ x. xor x (odd (back c w.value) olds)) f ∙ ap (xor (odd c rest)) (g ∙ w.number ∙ sym g') ∙ sym (odd_append c rest news)

  -- closed sets of the news come from closed sets of the olds
  pub swap_even : AllEven (rest ++ olds) → ((c : Tri → Bool) → Closed c (rest ++ news) → Swaps rest olds news k c) → AllEven (rest ++ news)
  swap_even h w c e = sym (back_odd c (w c e)) ∙ h (back c (w c e).value) (back_closed c (w c e) e)

-- the triangle has both nodes
on_edge : ℕ → ℕ → Tri → Bool
on_edge u v t = tri_has t u && tri_has t v

on_edge_yes : (u v : ℕ) (t : Tri) → Has t u → Has t v → on_edge u v t ≡ true
unfolding on_edge
on_edge_yes u v t h g = rw (has_test t u h, has_test t v g) refl

on_edge_has : (u v : ℕ) (t : Tri) → on_edge u v t ≡ true → Has t u × Has t v
unfolding on_edge
on_edge_has u v t h = let g = both (tri_has t u) (tri_has t v) h in (test_has t u g.0, test_has t v g.1)

-- of a triangle that has not both u and v: what it shares with u v p it shares with p and u, or with p and v
beside : (u v p : ℕ) (r s x y : Tri) → Corners s u v p → (Has r u → Has r v → ⊥)
    → Has x u → Has x p → Has y v → Has y p → Shares r s → Shares r x ⊎ Shares r y
beside u v p r s x y k free xu xp yv yp h =
    let ra = h.sa in
    let rb = h.sb in
    elim (k.is h.a h.ta) [
      | inl e ↦ elim (k.is h.b h.tb) [
        | inl f ↦ absurd (h.differ (e ∙ sym f))
        | inr (inl f) ↦ absurd (free (has_at r h.a u e ra) (has_at r h.b v f rb))
        | inr (inr f) ↦ inl (record { a = h.a; b = h.b; differ = h.differ; sa = ra; sb = rb; ta = has_at x u h.a (sym e) xu; tb = has_at x p h.b (sym f) xp })
      ]
      | inr (inl e) ↦ elim (k.is h.b h.tb) [
        | inl f ↦ absurd (free (has_at r h.b u f rb) (has_at r h.a v e ra))
        | inr (inl f) ↦ absurd (h.differ (e ∙ sym f))
        | inr (inr f) ↦ inr (record { a = h.a; b = h.b; differ = h.differ; sa = ra; sb = rb; ta = has_at y v h.a (sym e) yv; tb = has_at y p h.b (sym f) yp })
      ]
      | inr (inr e) ↦ elim (k.is h.b h.tb) [
        | inl f ↦ inl (record { a = h.a; b = h.b; differ = h.differ; sa = ra; sb = rb; ta = has_at x p h.a (sym e) xp; tb = has_at x u h.b (sym f) xu })
        | inr (inl f) ↦ inr (record { a = h.a; b = h.b; differ = h.differ; sa = ra; sb = rb; ta = has_at y p h.a (sym e) yp; tb = has_at y v h.b (sym f) yv })
        | inr (inr f) ↦ absurd (h.differ (e ∙ sym f))
      ]
    ]

-- ---- a flip
module _ (rest : List Tri) (u v p q : ℕ) (s t s' t' : Tri)
    (ks : Corners s u v p) (kt : Corners t u v q) (ks' : Corners s' p u q) (kt' : Corners t' q v p) (pq : p ≢ q)
    (free : (r : Tri) → In r rest → Has r u → Has r v → ⊥) where
  flip_swaps : (c : Tri → Bool) → Closed c (rest ++ (s' ∷ t' ∷ [])) → Swaps rest (s ∷ t ∷ []) (s' ∷ t' ∷ []) (on_edge u v) c
  unfolding odd
  flip_swaps c h =
      let news = s' ∷ t' ∷ [] in
      let in_s : In s' (rest ++ news) = in_right s' rest news (inl refl) in
      let in_t : In t' (rest ++ news) = in_right t' rest news (inr (inl refl)) in
      let ts : c t' ≡ c s' = h t' s' in_t in_s (record { a = p; b = q; differ = pq; sa = kt'.has2; sb = kt'.has0; ta = ks'.has0; tb = ks'.has2 }) in
      let by : (r : Tri) → In r rest → Shares r s' ⊎ Shares r t' → c r ≡ c s' =
      λ r i e. elim e [ inl g ↦ h r s' (in_left r rest news i) in_s g | inr g ↦ h r t' (in_left r rest news i) in_t g ∙ ts ] in
      record {
        value = c s';
        new = λ x i. elim i [ inl e ↦ ap c e | inr (inl e) ↦ ap c e ∙ ts | inr (inr x3) ↦ elim x3 [ ] ];
        old = λ x i. elim i [ inl e ↦ ap (on_edge u v) e ∙ on_edge_yes u v s ks.has0 ks.has1 | inr (inl e) ↦ ap (on_edge u v) e ∙ on_edge_yes u v t kt.has0 kt.has1 | inr (inr x3) ↦ elim x3 [ ] ];
        kept = λ r i e. absurd (free r i (on_edge_has u v r e).0 (on_edge_has u v r e).1);
        near = λ r x i j e. elim j [
          | inl f ↦ by r i (beside u v p r s s' t' ks (free r i) ks'.has1 ks'.has0 kt'.has1 kt'.has2 (subst (λ y. Shares r y) f e))
          | inr (inl f) ↦ by r i (beside u v q r t s' t' kt (free r i) ks'.has1 ks'.has2 kt'.has1 kt'.has0 (subst (λ y. Shares r y) f e))
          | inr (inr x3) ↦ elim x3 [ ]
        ];
        number = refl;
      }

  -- a flip keeps all components even
  pub flip_even : AllEven (rest ++ (s ∷ t ∷ [])) → AllEven (rest ++ (s' ∷ t' ∷ []))
  flip_even h = swap_even rest (s ∷ t ∷ []) (s' ∷ t' ∷ []) (on_edge u v) h flip_swaps

-- ---- a split
module _ (rest : List Tri) (a b d v : ℕ) (t x y z : Tri)
    (kt : Corners t a b d) (kx : Corners x a b v) (ky : Corners y b d v) (kz : Corners z d a v) (ab : a ≢ b) (av : a ≢ v) (bv : b ≢ v) where
  -- what shares an edge with the whole shares one with a part
  part : (r : Tri) → Shares r t → Shares r x ⊎ Shares r y ⊎ Shares r z
  part r h =
      let to : (w : Tri) → Has w h.a → Has w h.b → Shares r w = λ w i j. record { a = h.a; b = h.b; differ = h.differ; sa = h.sa; sb = h.sb; ta = i; tb = j } in
      elim (kt.is h.a h.ta) [
        | inl e ↦ elim (kt.is h.b h.tb) [
          | inl f ↦ absurd (h.differ (e ∙ sym f))
          | inr (inl f) ↦ inl (to x (has_at x a h.a (sym e) kx.has0) (has_at x b h.b (sym f) kx.has1))
          | inr (inr f) ↦ inr (inr (to z (has_at z a h.a (sym e) kz.has1) (has_at z d h.b (sym f) kz.has0)))
        ]
        | inr (inl e) ↦ elim (kt.is h.b h.tb) [
          | inl f ↦ inl (to x (has_at x b h.a (sym e) kx.has1) (has_at x a h.b (sym f) kx.has0))
          | inr (inl f) ↦ absurd (h.differ (e ∙ sym f))
          | inr (inr f) ↦ inr (inl (to y (has_at y b h.a (sym e) ky.has0) (has_at y d h.b (sym f) ky.has1)))
        ]
        | inr (inr e) ↦ elim (kt.is h.b h.tb) [
          | inl f ↦ inr (inr (to z (has_at z d h.a (sym e) kz.has0) (has_at z a h.b (sym f) kz.has1)))
          | inr (inl f) ↦ inr (inl (to y (has_at y d h.a (sym e) ky.has1) (has_at y b h.b (sym f) ky.has0)))
          | inr (inr f) ↦ absurd (h.differ (e ∙ sym f))
        ]
      ]

  split_swaps : (c : Tri → Bool) → Closed c (rest ++ (x ∷ y ∷ z ∷ [])) → Swaps rest (t ∷ []) (x ∷ y ∷ z ∷ []) (on_edge a b) c
  unfolding odd
  split_swaps c h =
      let news = x ∷ y ∷ z ∷ [] in
      let in_x : In x (rest ++ news) = in_right x rest news (inl refl) in
      let in_y : In y (rest ++ news) = in_right y rest news (inr (inl refl)) in
      let in_z : In z (rest ++ news) = in_right z rest news (inr (inr (inl refl))) in
      let yx : c y ≡ c x = h y x in_y in_x (record { a = b; b = v; differ = bv; sa = ky.has0; sb = ky.has2; ta = kx.has1; tb = kx.has2 }) in
      let zx : c z ≡ c x = h z x in_z in_x (record { a = a; b = v; differ = av; sa = kz.has1; sb = kz.has2; ta = kx.has0; tb = kx.has2 }) in
      record {
        value = c x;
        new = λ w i. elim i [ inl e ↦ ap c e | inr (inl e) ↦ ap c e ∙ yx | inr (inr (inl e)) ↦ ap c e ∙ zx | inr (inr (inr x4)) ↦ elim x4 [ ] ];
        old = λ w i. elim i [ inl e ↦ ap (on_edge a b) e ∙ on_edge_yes a b t kt.has0 kt.has1 | inr x'' ↦ elim x'' [ ] ];
        kept = λ r i e. h r x (in_left r rest news i) in_x (record { a = a; b = b; differ = ab; sa = (on_edge_has a b r e).0; sb = (on_edge_has a b r e).1; ta = kx.has0; tb = kx.has1 });
        near = λ r w i j e. elim j [
          | inl f ↦ elim (part r (subst (λ o. Shares r o) f e)) [
            | inl g ↦ h r x (in_left r rest news i) in_x g
            | inr (inl g) ↦ h r y (in_left r rest news i) in_y g ∙ yx
            | inr (inr g) ↦ h r z (in_left r rest news i) in_z g ∙ zx
          ]
          | inr x'' ↦ elim x'' [ ]
        ];
        number = elim (c x) as (λ b. odd (λ t. b) (t ∷ []) ≡ odd (λ t. b) (x ∷ y ∷ z ∷ [])) [ true ↦ refl | false ↦ refl ];
      }

  -- a split keeps all components even
  pub split_even : AllEven (rest ++ (t ∷ [])) → AllEven (rest ++ (x ∷ y ∷ z ∷ []))
  split_even h = swap_even rest (t ∷ []) (x ∷ y ∷ z ∷ []) (on_edge a b) h split_swaps
