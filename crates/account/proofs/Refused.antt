-- Every edge ever refused is an edge of a dead or a live triangle, so there are at most three for each slot.
use Rattle.std.specs.Prelude.{◌≡◌, ◌≢◌, ◌⊎◌, ◌&&◌, ◌||◌, ◌+◌, ◌*◌, ◌<◌, ◌≤◌, ◌∷◌, ◌++◌}
use Rattle.laws.specs.Kit.{refl, sym, ◌∙◌, ap, subst, inl, inr, Bool, true, false, ℕ, min, max, arith, List, [], length, length-append}
use Rattle.definition.specs.Lists.{any, flat_map}
use Rattle.definition.specs.Plane.{Edge}
use Rattle.definition.specs.Cells.{Tri, tri_has, key, tri_edges}
use Rattle.definition.specs.Account.{Pairwise, Rearranged}
use Rattle.laws.specs.Bools.{which, both, either, never}
use Rattle.laws.specs.Lists.{In, in_left, in_right, in_either, any_in, none_in, no_more}
use Rattle.account.proofs.Rearranged.{same_in_tris}
use Rattle.account.specs.Triangles.{Has, Corners}
use Rattle.account.proofs.Triangles.{has_test, test_has}
use Rattle.account.specs.Even.{xor, odd}
use Rattle.account.proofs.Even.{odd_append, same_odd}
use Rattle.account.proofs.Sizes.{xor_none}
use Rattle.account.specs.Roles.{side, Four}
use Rattle.account.proofs.Roles.{stands, proper, aged, flip_odd, flip_some, split_odd, split_some, improper, young, side_uvp, side_uvq, side_puq, side_qvp, side_vpq}
use Rattle.account.specs.Refused.{Among, Refused, edges_of}

-- whatever the order of the triangles
pub refused_as : (dead xs ys : List Tri) (Q R : Type 0) (e : Edge) → Rearranged xs ys → (Q → R) → Refused dead xs Q e → Refused dead ys R e
refused_as dead xs ys Q R e l f (inl d) = inl d
refused_as dead xs ys Q R e l f (inr h) =
    inr ((h.0.0, same_in_tris xs ys l h.0.0 h.0.1, h.0.2), elim h.1 [ inl q ↦ inl (f q) | inr o ↦ inr (sym (same_odd xs ys l (side e)) ∙ o) ])

-- ---- flips and splits: the olds give way to the news
swapped : (dead rest olds news : List Tri) (QuadHas : Type 0) (e : Edge) → odd (side e) olds ≡ odd (side e) news → (Among e olds → Among e news)
    → Refused dead (rest ++ olds) QuadHas e → Refused dead (rest ++ news) QuadHas e
swapped dead rest olds news QuadHas e o f (inl d) = inl d
swapped dead rest olds news QuadHas e o f (inr h) =
    let a : Among e (rest ++ news) = elim (in_either h.0.0 rest olds h.0.1) [
      | inl i ↦ (h.0.0, in_left h.0.0 rest news i, h.0.2)
      | inr i ↦ let g = f (h.0.0, i, h.0.2) in (g.0, in_right g.0 rest news g.1, g.2)
    ] in
    let b : odd (side e) (rest ++ olds) ≡ odd (side e) (rest ++ news) = odd_append (side e) rest olds ∙ ap (xor (odd (side e) rest)) o ∙ sym (odd_append (side e) rest news) in
    inr (a, elim h.1 [ inl q ↦ inl q | inr x ↦ inr (sym b ∙ x) ])

or_in : (e : Edge) (s t : Tri) → (side e s || side e t) ≡ true → Among e (s ∷ t ∷ [])
or_in e s t h = elim (either (side e s) (side e t) h) [ inl f ↦ (s, inl refl, f) | inr f ↦ (t, inr (inl refl), f) ]

in_or : (e : Edge) (s t : Tri) → Among e (s ∷ t ∷ []) → (side e s || side e t) ≡ true
in_or e s t h = elim h.1 [
  | inl f ↦ rw (ap (side e) (sym f) ∙ h.2) refl
  | inr (inl f) ↦ elim (which (side e s)) [ inl g ↦ rw g refl | inr g ↦ rw (g, ap (side e) (sym f) ∙ h.2) refl ]
  | inr (inr x'') ↦ elim x'' [ ]
]

none_odd : (c : Tri → Bool) (ts : List Tri) → ((t : Tri) → In t ts → c t ≡ false) → odd c ts ≡ false
unfolding odd
none_odd c [] h = refl
none_odd c (t ∷ ts) h = rw (h t (inl refl)) (none_odd c ts (λ r i. h r (inr i)))

side_false : (e : Edge) (t : Tri) → (Has t e.0 → Has t e.1 → ⊥) → side e t ≡ false
unfolding side
side_false e t f = elim (which (tri_has t e.0 && tri_has t e.1)) [
  | inl h ↦ let g = both (tri_has t e.0) (tri_has t e.1) h in absurd (f (test_has t e.0 g.0) (test_has t e.1 g.1))
  | inr h ↦ h
]

side_true : (e : Edge) (t : Tri) → Has t e.0 → Has t e.1 → side e t ≡ true
unfolding side
side_true e t h g = rw (has_test t e.0 h, has_test t e.1 g) refl

module _ (dead rest : List Tri) (u v p q : ℕ) (s t s' t' : Tri) (four : Four u v p q)
    (ks : Corners s u v p) (kt : Corners t u v q) (ks' : Corners s' p u q) (kt' : Corners t' q v p)
    (free : (r : Tri) → In r rest → Has r u → Has r v → ⊥) (QuadHas : Type 0) (e : Edge) (ends : e.0 ≢ e.1) where
  -- the edge that is flipped has two triangles and no quad: it was refused only if a dead triangle has it
  flipped_edge : Has s e.0 → Has s e.1 → Has t e.0 → Has t e.1 → ((r : Tri) → In r rest → Has r e.0 → Has r e.1 → ⊥) → (QuadHas → ⊥)
      → Refused dead (rest ++ (s ∷ t ∷ [])) QuadHas e → Refused dead (rest ++ (s' ∷ t' ∷ [])) QuadHas e
  unfolding odd
  flipped_edge s0 s1 t0 t1 f nq (inl d) = inl d
  flipped_edge s0 s1 t0 t1 f nq (inr h) = elim h.1 [
    | inl z ↦ absurd (nq z)
    | inr z ↦
        let g : odd (side e) (rest ++ (s ∷ t ∷ [])) ≡ false =
        odd_append (side e) rest (s ∷ t ∷ []) ∙ ap (λ c. xor c (odd (side e) (s ∷ t ∷ []))) (none_odd (side e) rest (λ r i. side_false e r (f r i)))
        ∙ rw (side_true e s s0 s1, side_true e t t0 t1) refl in
        never (odd (side e) (rest ++ (s ∷ t ∷ []))) z g
  ]

  -- a flip keeps what is kept of an edge
  pub flip_refused : (((e.0 ≡ u) × (e.1 ≡ v)) ⊎ ((e.0 ≡ v) × (e.1 ≡ u)) → QuadHas → ⊥) → Refused dead (rest ++ (s ∷ t ∷ [])) QuadHas e
      → Refused dead (rest ++ (s' ∷ t' ∷ [])) QuadHas e
  unfolding odd
  flip_refused nq h =
      let x = stands u v p q e.0 four in
      let y = stands u v p q e.1 four in
      let es = side_uvp u v p q e x.0 y.0 x.1 y.1 s ks in
      let et = side_uvq u v p q e x.0 y.0 x.1 y.1 t kt in
      let es' = side_puq u v p q e x.0 y.0 x.1 y.1 s' ks' in
      let et' = side_qvp u v p q e x.0 y.0 x.1 y.1 t' kt' in
      let has : (r : Tri) (a b : ℕ) → a ≡ b → Has r b → Has r a = λ r a b f i. subst (λ n. Has r n) (sym f) i in
      elim (which (proper x.0 y.0)) [
        | inl k ↦ swapped dead rest (s ∷ t ∷ []) (s' ∷ t' ∷ []) QuadHas e (rw (es, et, es', et') (flip_odd x.0 y.0 k))
            (λ z. or_in e s' t' (rw (es', et') (flip_some x.0 y.0 k (rw (es, et) at (in_or e s t z))))) h
        | inr k ↦ elim (improper u v p q e x.0 y.0 x.1 y.1 k) [
          | inl f ↦ absurd (ends f)
          | inr (inl f) ↦ flipped_edge (has s _ u f.0 ks.has0) (has s _ v f.1 ks.has1) (has t _ u f.0 kt.has0) (has t _ v f.1 kt.has1)
              (λ r i c d. free r i (has r u _ (sym f.0) c) (has r v _ (sym f.1) d)) (nq (inl f)) h
          | inr (inr f) ↦ flipped_edge (has s _ v f.0 ks.has1) (has s _ u f.1 ks.has0) (has t _ v f.0 kt.has1) (has t _ u f.1 kt.has0)
              (λ r i c d. free r i (has r u _ (sym f.1) d) (has r v _ (sym f.0) c)) (nq (inr f)) h
        ]
      ]

-- a split: u v p are the triangle's nodes, q the new one, which the edge has not
module _ (dead rest : List Tri) (u v p q : ℕ) (t x y z : Tri) (four : Four u v p q)
    (kt : Corners t u v p) (kx : Corners x u v q) (ky : Corners y v p q) (kz : Corners z p u q)
    (QuadHas : Type 0) (e : Edge) (ends : e.0 ≢ e.1) (old0 : e.0 ≢ q) (old1 : e.1 ≢ q) where
  -- a split keeps what is kept of a refused edge
  pub split_refused : Refused dead (rest ++ (t ∷ [])) QuadHas e → Refused dead (rest ++ (x ∷ y ∷ z ∷ [])) QuadHas e
  unfolding odd
  split_refused h =
      let f = stands u v p q e.0 four in
      let g = stands u v p q e.1 four in
      let et = side_uvp u v p q e f.0 g.0 f.1 g.1 t kt in
      let ex = side_uvq u v p q e f.0 g.0 f.1 g.1 x kx in
      let ey = side_vpq u v p q e f.0 g.0 f.1 g.1 y ky in
      let ez = side_puq u v p q e f.0 g.0 f.1 g.1 z kz in
      elim (which (aged f.0 g.0)) [
        | inr k ↦ elim (young u v p q e f.0 g.0 f.1 g.1 k) [ inl i ↦ absurd (ends i) | inr (inl i) ↦ absurd (old0 i) | inr (inr i) ↦ absurd (old1 i) ]
        | inl k ↦ swapped dead rest (t ∷ []) (x ∷ y ∷ z ∷ []) QuadHas e (rw (et, ex, ey, ez) (split_odd f.0 g.0 k))
            (λ w. elim w.1 [
              | inl i ↦
                  let o : (side e x || (side e y || side e z)) ≡ true = rw (ex, ey, ez) (split_some f.0 g.0 k (sym et ∙ ap (side e) (sym i) ∙ w.2)) in
                  elim (either (side e x) (side e y || side e z) o) [
                    | inl j ↦ (x, inl refl, j)
                    | inr j ↦ elim (either (side e y) (side e z) j) [ inl l ↦ (y, inr (inl refl), l) | inr l ↦ (z, inr (inr (inl refl)), l) ]
                  ]
              | inr x3 ↦ elim x3 [ ]
            ]) h
      ]

-- ---- a quad: the region's triangles die
pub quad_refused : (dead live keep gone : List Tri) (Before After : Type 0) (e : Edge) → Rearranged live (keep ++ gone) → (Before → After)
    → Refused dead live Before e → Refused (dead ++ gone) keep After e
quad_refused dead live keep gone Before After e l f (inl d) = inl (d.0, in_left d.0 dead gone d.1, d.2)
quad_refused dead live keep gone Before After e l f (inr h) = elim (which (any (side e) gone)) [
  | inl g ↦ let r = any_in (side e) gone g in inl (r.0, in_right r.0 dead gone r.1, r.2)
  | inr g ↦
      let none : (t : Tri) → In t gone → side e t ≡ false = none_in (side e) gone g in
      let o : odd (side e) live ≡ odd (side e) keep =
      same_odd live (keep ++ gone) l (side e) ∙ odd_append (side e) keep gone ∙ ap (xor (odd (side e) keep)) (none_odd (side e) gone none) ∙ xor_none (odd (side e) keep) in
      elim (in_either h.0.0 keep gone (same_in_tris live (keep ++ gone) l h.0.0 h.0.1)) [
        | inl i ↦ inr ((h.0.0, i, h.0.2), elim h.1 [ inl k ↦ inl (f k) | inr k ↦ inr (sym o ∙ k) ])
        | inr i ↦ never (side e h.0.0) h.0.2 (none h.0.0 i)
      ]
]

-- an edge has its smaller node first
key_is : (a b : ℕ) (e : Edge) → e.0 < e.1 → ((a ≡ e.0) × (b ≡ e.1)) ⊎ ((a ≡ e.1) × (b ≡ e.0)) → e ≡ key a b
unfolding key
key_is a b e l (inl h) = let f : e.0 ≡ min a b = omega arith in let g : e.1 ≡ max a b = omega arith in (λ i. (f i, g i))
key_is a b e l (inr h) = let f : e.0 ≡ min a b = omega arith in let g : e.1 ≡ max a b = omega arith in (λ i. (f i, g i))

side_edge : (e : Edge) (t : Tri) → e.0 < e.1 → side e t ≡ true → In e (tri_edges t)
unfolding side tri_edges
side_edge e t l h =
    let g = both (tri_has t e.0) (tri_has t e.1) h in
    elim (test_has t e.0 g.0) [
      | inl a ↦ elim (test_has t e.1 g.1) [
        | inl b ↦ absurd (omega arith)
        | inr (inl b) ↦ inl (key_is t.n0 t.n1 e l (inl (sym a, sym b)))
        | inr (inr b) ↦ inr (inr (inl (key_is t.n2 t.n0 e l (inr (sym b, sym a)))))
      ]
      | inr (inl a) ↦ elim (test_has t e.1 g.1) [
        | inl b ↦ inl (key_is t.n0 t.n1 e l (inr (sym b, sym a)))
        | inr (inl b) ↦ absurd (omega arith)
        | inr (inr b) ↦ inr (inl (key_is t.n1 t.n2 e l (inl (sym a, sym b))))
      ]
      | inr (inr a) ↦ elim (test_has t e.1 g.1) [
        | inl b ↦ inr (inr (inl (key_is t.n2 t.n0 e l (inl (sym a, sym b)))))
        | inr (inl b) ↦ inr (inl (key_is t.n1 t.n2 e l (inr (sym b, sym a))))
        | inr (inr b) ↦ absurd (omega arith)
      ]
    ]

pub edges_number : (ts : List Tri) → length (edges_of ts) ≡ 3 * length ts
unfolding edges_of flat_map tri_edges
edges_number [] = refl
edges_number (t ∷ ts) = let h = edges_number ts in omega arith

edge_in : (e : Edge) (ts : List Tri) → e.0 < e.1 → Among e ts → In e (edges_of ts)
unfolding edges_of flat_map
edge_in e [] l a = absurd a.1
edge_in e (t ∷ ts) l a = elim a.1 [
  | inl f ↦ in_left e (tri_edges t) (edges_of ts) (side_edge e t l (ap (side e) (sym f) ∙ a.2))
  | inr i ↦ in_right e (tri_edges t) (edges_of ts) (edge_in e ts l (a.0, i, a.2))
]

-- different edges that were refused are at most three for each dead or live triangle
pub at_most_three : (dead live : List Tri) (QuadHas : Edge → Type 0) (es : List Edge) → Pairwise (λ e f. e ≢ f) es
    → ((e : Edge) → In e es → (e.0 < e.1) × Refused dead live (QuadHas e) e)
    → length es ≤ 3 * (length dead + length live)
at_most_three dead live QuadHas es d h =
    let k = no_more es (edges_of (dead ++ live)) d (λ e i. let w = h e i in edge_in e (dead ++ live) w.0 (elim w.1 [
      | inl a ↦ (a.0, in_left a.0 dead live a.1, a.2)
      | inr a ↦ (a.0.0, in_right a.0.0 dead live a.0.1, a.0.2)
    ])) in
    omega (arith, k, edges_number (dead ++ live), length-append dead live)
