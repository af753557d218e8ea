-- The third node of a triangle on an edge, and the ends of a cell's edges.
use Rattle.std.specs.Prelude.{◌≡◌, ◌≢◌, ◌⊎◌, ◌<◌}
use Rattle.laws.specs.Kit.{refl, sym, ◌∙◌, ap, subst, inl, inr, true, false, ℕ, min, max, arith, dec_le, eqb, eq-eqb, ne_eqb}
use Rattle.definition.specs.Plane.{Edge}
use Rattle.definition.specs.Cells.{Tri, Quad, tri, quad, Live, key, tri_edges, quad_edges, same_edge, has_edge_in, tri_has, has_side, owns}
use Rattle.definition.specs.Flips.{off_edge, third}
use Rattle.laws.specs.Bools.{which, both}
use Rattle.laws.specs.Lists.{In, in_any, any_in}
use Rattle.laws.specs.Cells.{same_ends, same_self, same_is}
use Rattle.account.specs.Triangles.{Has, Corners, Distinct}
use Rattle.account.proofs.Triangles.{has_test, test_has, has_at, own_corners, turn, swap}
use Rattle.account.specs.Ends.{Ends, Third}

module _ (t : Tri) (e : Edge) where
  off_no : (n : ℕ) → (n ≡ e.0) ⊎ (n ≡ e.1) → off_edge e n ≡ false
  unfolding off_edge
  off_no n (inl f) = rw (eq-eqb n e.0 f) refl
  off_no n (inr f) = elim (which (eqb n e.0)) [ inl g ↦ rw g refl | inr g ↦ rw (g, eq-eqb n e.1 f) refl ]

  off_yes : (n : ℕ) → n ≢ e.0 → n ≢ e.1 → off_edge e n ≡ true
  unfolding off_edge
  off_yes n f g = rw (ne_eqb n e.0 f, ne_eqb n e.1 g) refl

  third_0 : t.n0 ≢ e.0 → t.n0 ≢ e.1 → third t e ≡ t.n0
  unfolding third
  third_0 a b = rw (off_yes t.n0 a b) refl

  third_1 : (t.n0 ≡ e.0) ⊎ (t.n0 ≡ e.1) → t.n1 ≢ e.0 → t.n1 ≢ e.1 → third t e ≡ t.n1
  unfolding third
  third_1 h a b = rw (off_no t.n0 h, off_yes t.n1 a b) refl

  third_2 : (t.n0 ≡ e.0) ⊎ (t.n0 ≡ e.1) → (t.n1 ≡ e.0) ⊎ (t.n1 ≡ e.1) → third t e ≡ t.n2
  unfolding third
  third_2 h k = rw (off_no t.n0 h, off_no t.n1 k) refl

  third_at : (a b c : ℕ) → Corners t a b c → e.0 ≡ a → e.1 ≡ b → third t e ≡ c → c ≢ a → c ≢ b → Third t e.0 e.1 (third t e)
  third_at a b c k f g z na nb =
      record {
        nodes =
            record {
              is = λ x h. elim (k.is x h) [ inl y ↦ inl (y ∙ sym f) | inr (inl y) ↦ inr (inl (y ∙ sym g)) | inr (inr y) ↦ inr (inr (y ∙ sym z)) ];
              has0 = has_at t a e.0 (sym f) k.has0;
              has1 = has_at t b e.1 (sym g) k.has1;
              has2 = has_at t c (third t e) (sym z) k.has2;
            };
        not_u = λ x. na (sym z ∙ x ∙ f);
        not_v = λ x. nb (sym z ∙ x ∙ g);
      }

  -- the third node of a triangle that has the edge
  pub third_node : Distinct t → e.0 ≢ e.1 → Has t e.0 → Has t e.1 → Third t e.0 e.1 (third t e)
  third_node d uv hu hv =
      let a = t.n0 in
      let b = t.n1 in
      let c = t.n2 in
      let k = own_corners t in
      let ba : b ≢ a = λ x. d.d01 (sym x) in
      let cb : c ≢ b = λ x. d.d12 (sym x) in
      let ac : a ≢ c = λ x. d.d20 (sym x) in
      elim hu [
        | inl f ↦ elim hv [
          | inl g ↦ absurd (uv (f ∙ sym g))
          | inr (inl g) ↦ third_at a b c k f g (third_2 (inl (sym f)) (inr (sym g))) d.d20 cb
          | inr (inr g) ↦ third_at a c b (turn t a b c k) f g (third_1 (inl (sym f)) (λ x. ba (x ∙ f)) (λ x. d.d12 (x ∙ g))) ba d.d12
        ]
        | inr (inl f) ↦ elim hv [
          | inl g ↦ third_at b a c (swap t a b c k) f g (third_2 (inr (sym g)) (inl (sym f))) cb d.d20
          | inr (inl g) ↦ absurd (uv (f ∙ sym g))
          | inr (inr g) ↦ third_at b c a (turn t b a c (swap t a b c k)) f g (third_0 (λ x. d.d01 (x ∙ f)) (λ x. ac (x ∙ g))) d.d01 ac
        ]
        | inr (inr f) ↦ elim hv [
          | inl g ↦ third_at c a b (swap t a c b (turn t a b c k)) f g (third_1 (inr (sym g)) (λ x. d.d12 (x ∙ f)) (λ x. ba (x ∙ g))) d.d12 ba
          | inr (inl g) ↦ third_at c b a (turn t c a b (swap t a c b (turn t a b c k))) f g (third_0 (λ x. ac (x ∙ f)) (λ x. d.d01 (x ∙ g))) ac d.d01
          | inr (inr g) ↦ absurd (uv (f ∙ sym g))
        ]
      ]

-- ---- an edge of a cell is owned by it, and one of a triangle has two nodes
lesser_is : (a b : ℕ) → (min a b ≡ a) ⊎ (min a b ≡ b)
lesser_is a b = elim (dec_le a b) [ yes l ↦ inl (omega arith) | no l ↦ inr (omega arith) ]

greater_is : (a b : ℕ) → (max a b ≡ a) ⊎ (max a b ≡ b)
greater_is a b = elim (dec_le a b) [ yes l ↦ inr (omega arith) | no l ↦ inl (omega arith) ]

has_either : (t : Tri) (a b n : ℕ) → Has t a → Has t b → (n ≡ a) ⊎ (n ≡ b) → Has t n
has_either t a b n x y (inl e) = subst (λ z. Has t z) (sym e) x
has_either t a b n x y (inr e) = subst (λ z. Has t z) (sym e) y

key_ends : (t : Tri) (a b : ℕ) (e : Edge) → Has t a → Has t b → a ≢ b → e ≡ key a b → Ends t e
unfolding key
key_ends t a b e x y n f =
    let f0 : e.0 ≡ min a b = ap (λ z. z.0) f in
    let f1 : e.1 ≡ max a b = ap (λ z. z.1) f in
    record {
      h0 = has_either t a b e.0 x y (elim (lesser_is a b) [ inl g ↦ inl (f0 ∙ g) | inr g ↦ inr (f0 ∙ g) ]);
      h1 = has_either t a b e.1 x y (elim (greater_is a b) [ inl g ↦ inl (f1 ∙ g) | inr g ↦ inr (f1 ∙ g) ]);
      order = omega (arith, n);
    }

pub tri_ends : (t : Tri) (e : Edge) → Distinct t → In e (tri_edges t) → Ends t e
unfolding tri_edges
tri_ends t e d (inl f) = key_ends t t.n0 t.n1 e (inl refl) (inr (inl refl)) d.d01 f
tri_ends t e d (inr (inr (inr x3))) = elim x3 [ ]
tri_ends t e d (inr (inl f)) = key_ends t t.n1 t.n2 e (inr (inl refl)) (inr (inr refl)) d.d12 f
tri_ends t e d (inr (inr (inl f))) = key_ends t t.n2 t.n0 e (inr (inr refl)) (inl refl) d.d20 f

-- both ends are nodes of the triangle, so it is an edge of it
pub tri_edge : (t : Tri) (e : Edge) → Ends t e → In e (tri_edges t)
unfolding tri_edges key
tri_edge t e n = go n.h0 n.h1
  where
    as_key : (a b : ℕ) → e.0 ≡ a → e.1 ≡ b → e ≡ key a b
    as_key a b f g = let l = n.order in let f0 : e.0 ≡ min a b = omega arith in let f1 : e.1 ≡ max a b = omega arith in same_ends f0 f1

    turned : (a b : ℕ) → e.0 ≡ b → e.1 ≡ a → e ≡ key a b
    turned a b f g = let l = n.order in let f0 : e.0 ≡ min a b = omega arith in let f1 : e.1 ≡ max a b = omega arith in same_ends f0 f1

    go : Has t e.0 → Has t e.1 → In e (tri_edges t)
    go (inl f) (inl g) = absurd (let l = n.order in omega arith)
    go (inl f) (inr (inl g)) = inl (as_key t.n0 t.n1 f g)
    go (inl f) (inr (inr g)) = inr (inr (inl (turned t.n2 t.n0 f g)))
    go (inr (inl f)) (inl g) = inl (turned t.n0 t.n1 f g)
    go (inr (inl f)) (inr (inl g)) = absurd (let l = n.order in omega arith)
    go (inr (inl f)) (inr (inr g)) = inr (inl (as_key t.n1 t.n2 f g))
    go (inr (inr f)) (inl g) = inr (inr (inl (as_key t.n2 t.n0 f g)))
    go (inr (inr f)) (inr (inl g)) = inr (inl (turned t.n1 t.n2 f g))
    go (inr (inr f)) (inr (inr g)) = absurd (let l = n.order in omega arith)

-- a side of a quad is an edge of it
pub side_quad : (q : Quad) (e : Edge) → has_side e (quad q) ≡ true → In e (quad_edges q)
unfolding has_side has_edge_in
side_quad q e h = let r = any_in (same_edge e) (quad_edges q) h in subst (λ f. In f (quad_edges q)) (sym (same_is e r.0 r.2)) r.1

-- a quad's edge is a side of it
pub quad_side : (q : Quad) (e : Edge) → In e (quad_edges q) → has_side e (quad q) ≡ true
unfolding has_side has_edge_in
quad_side q e i = in_any (same_edge e) (quad_edges q) (e, i, same_self e)

-- a triangle owns an edge when it has both ends
pub tri_owns : (e : Edge) (z : Live) (t : Tri) → z.cell ≡ tri t → owns e z ≡ true → Has t e.0 × Has t e.1
unfolding owns has_side
tri_owns e z t c h = let g = both (tri_has t e.0) (tri_has t e.1) (rw c at h) in (test_has t e.0 g.0, test_has t e.1 g.1)

pub owns_tri : (e : Edge) (z : Live) (t : Tri) → z.cell ≡ tri t → Has t e.0 → Has t e.1 → owns e z ≡ true
unfolding owns has_side
owns_tri e z t c h g = rw (c, has_test t e.0 h, has_test t e.1 g) refl
