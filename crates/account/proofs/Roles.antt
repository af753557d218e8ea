-- An edge's owners among the triangles of a flip and of a split, by where its ends stand among four different nodes
use Rattle.std.specs.Prelude.{◌≡◌, ◌≢◌, ◌⊎◌, ◌&&◌, ◌||◌, ◌∷◌}
use Rattle.laws.specs.Kit.{refl, sym, ◌∙◌, subst, inl, inr, Bool, true, false, not, ℕ, eqb, eq-eqb, ne_eqb, eqb-true, not-false, List, []}
use Rattle.definition.specs.Lists.{all}
use Rattle.definition.specs.Plane.{Edge}
use Rattle.definition.specs.Cells.{Tri, tri_has}
use Rattle.laws.specs.Bools.{which, both, either, never}
use Rattle.laws.specs.Lists.{In, all_in}
use Rattle.account.specs.Triangles.{Has, Corners}
use Rattle.account.proofs.Triangles.{has_test, test_has}
use Rattle.account.specs.Even.{xor}
use Rattle.account.specs.Roles.{at_u, at_v, at_p, at_q, out, Four, Role, Stands, is_p, is_q, is_u, is_v, side}

-- every number stands in a role
pub stands : (u v p q n : ℕ) → Four u v p q → (r : Role) × Stands u v p q n r
unfolding is_u is_v is_p is_q
stands u v p q n d =
    let differs : (a b : ℕ) → n ≡ a → a ≢ b → eqb n b ≡ false = λ a b e f. ne_eqb n b (λ g. f (sym e ∙ g)) in
    elim (which (eqb n u)) [
      | inl a ↦ let e = eqb-true n u a in (at_u, record { on_u = a; on_v = differs u v e d.uv; on_p = differs u p e d.up; on_q = differs u q e d.uq })
      | inr a ↦ elim (which (eqb n v)) [
        | inl b ↦ let e = eqb-true n v b in (at_v, record { on_u = a; on_v = b; on_p = differs v p e d.vp; on_q = differs v q e d.vq })
        | inr b ↦ elim (which (eqb n p)) [
          | inl c ↦ let e = eqb-true n p c in (at_p, record { on_u = a; on_v = b; on_p = c; on_q = differs p q e d.pq })
          | inr c ↦ elim (which (eqb n q)) [
            | inl f ↦ (at_q, record { on_u = a; on_v = b; on_p = c; on_q = f })
            | inr f ↦ (out, record { on_u = a; on_v = b; on_p = c; on_q = f })
          ]
        ]
      ]
    ]

-- ---- a test of two roles, tried on all
roles : List Role
roles = at_u ∷ at_v ∷ at_p ∷ at_q ∷ out ∷ []

in_roles : (r : Role) → In r roles
unfolding roles
in_roles at_u = inl refl
in_roles at_v = inr (inl refl)
in_roles at_p = inr (inr (inl refl))
in_roles at_q = inr (inr (inr (inl refl)))
in_roles out = inr (inr (inr (inr (inl refl))))

every : (test : Role → Role → Bool) → all (λ a. all (test a) roles) roles ≡ true → (a b : Role) → test a b ≡ true
every test h a b = all_in (test a) roles (all_in (λ a. all (test a) roles) roles h a (in_roles a)) b (in_roles b)

implies : Bool → Bool → Bool
implies a b = not a || b

same : Bool → Bool → Bool
same a b = not (xor a b)

implied : (a b : Bool) → implies a b ≡ true → a ≡ true → b ≡ true
unfolding implies
implied true b h e = h
implied false b h e = never false e refl

same_is : (a b : Bool) → same a b ≡ true → a ≡ b
unfolding same
same_is true true h = refl
same_is true false h = never false h refl
same_is false true h = never false h refl
same_is false false h = refl

-- ---- the triangles u v p, u v q, p u q, q v p and v p q
pub uvp : Role → Bool
uvp r = is_u r || is_v r || is_p r

pub uvq : Role → Bool
uvq r = is_u r || is_v r || is_q r

pub puq : Role → Bool
puq r = is_p r || is_u r || is_q r

pub qvp : Role → Bool
qvp r = is_q r || is_v r || is_p r

pub vpq : Role → Bool
vpq r = is_v r || is_p r || is_q r

-- both nodes are the triangle's
pub on : (Role → Bool) → Role → Role → Bool
on f a b = f a && f b

-- one of the four nodes, twice
alike : Role → Role → Bool
alike a b = is_u a && is_u b || is_v a && is_v b || is_p a && is_p b || is_q a && is_q b

-- not the edge u v, nor one node twice
pub proper : Role → Role → Bool
proper a b = not (alike a b || is_u a && is_v b || is_v a && is_u b)

-- an edge without q, nor one node twice
pub aged : Role → Role → Bool
aged a b = not (alike a b || is_q a || is_q b)

-- a flip keeps the parity of an edge's owners
pub flip_odd : (a b : Role) → proper a b ≡ true → xor (on uvp a b) (xor (on uvq a b) false) ≡ xor (on puq a b) (xor (on qvp a b) false)
unfolding all roles proper alike on uvp uvq puq qvp is_u is_v is_p is_q implies same
flip_odd a b h =
    same_is _ _
    (implied (proper a b) _ (every (λ a b. implies (proper a b) (same (xor (on uvp a b) (xor (on uvq a b) false)) (xor (on puq a b) (xor (on qvp a b) false)))) refl a b) h)

-- an edge that had an owner before a flip has one after it
pub flip_some : (a b : Role) → proper a b ≡ true → (on uvp a b || on uvq a b) ≡ true → (on puq a b || on qvp a b) ≡ true
unfolding all roles proper alike on uvp uvq puq qvp is_u is_v is_p is_q implies same
flip_some a b h g =
    implied (on uvp a b || on uvq a b) _
    (implied (proper a b) _ (every (λ a b. implies (proper a b) (implies (on uvp a b || on uvq a b) (on puq a b || on qvp a b))) refl a b) h) g

-- a split keeps both
pub split_odd : (a b : Role) → aged a b ≡ true → xor (on uvp a b) false ≡ xor (on uvq a b) (xor (on vpq a b) (xor (on puq a b) false))
unfolding all roles aged alike on uvp uvq puq vpq is_u is_v is_p is_q implies same
split_odd a b h =
    same_is _ _
    (implied (aged a b) _ (every (λ a b. implies (aged a b) (same (xor (on uvp a b) false) (xor (on uvq a b) (xor (on vpq a b) (xor (on puq a b) false))))) refl a b) h)

pub split_some : (a b : Role) → aged a b ≡ true → on uvp a b ≡ true → (on uvq a b || (on vpq a b || on puq a b)) ≡ true
unfolding all roles aged alike on uvp uvq puq vpq is_u is_v is_p is_q implies same
split_some a b h g = implied (on uvp a b) _ (implied (aged a b) _ (every (λ a b. implies (aged a b) (implies (on uvp a b) (on uvq a b || (on vpq a b || on puq a b)))) refl a b) h) g

-- ---- what the roles say of the edge
module _ (u v p q : ℕ) (e : Edge) (a b : Role) (x : Stands u v p q e.0 a) (y : Stands u v p q e.1 b) where
  -- the two are one node
  one_node : alike a b ≡ true → e.0 ≡ e.1
  unfolding alike
  one_node h =
      let meet : (n : ℕ) (f g : Bool) → eqb e.0 n ≡ f → eqb e.1 n ≡ g → (f && g) ≡ true → e.0 ≡ e.1 =
      λ n f g i j k. let w = both f g k in eqb-true e.0 n (i ∙ w.0) ∙ sym (eqb-true e.1 n (j ∙ w.1)) in
      elim (either (is_u a && is_u b || is_v a && is_v b || is_p a && is_p b) (is_q a && is_q b) h) [
        | inr k ↦ meet q _ _ x.on_q y.on_q k
        | inl h1 ↦ elim (either (is_u a && is_u b || is_v a && is_v b) (is_p a && is_p b) h1) [
          | inr k ↦ meet p _ _ x.on_p y.on_p k
          | inl h2 ↦ elim (either (is_u a && is_u b) (is_v a && is_v b) h2) [
            | inl k ↦ meet u _ _ x.on_u y.on_u k
            | inr k ↦ meet v _ _ x.on_v y.on_v k
          ]
        ]
      ]

  -- what is not proper is the edge u v, or none
  pub improper : proper a b ≡ false → (e.0 ≡ e.1) ⊎ ((e.0 ≡ u) × (e.1 ≡ v)) ⊎ ((e.0 ≡ v) × (e.1 ≡ u))
  unfolding proper
  improper h = elim (either (alike a b || is_u a && is_v b) (is_v a && is_u b) (not-false _ h)) [
    | inl g ↦ elim (either (alike a b) (is_u a && is_v b) g) [
      | inl k ↦ inl (one_node k)
      | inr k ↦ let w = both (is_u a) (is_v b) k in inr (inl (eqb-true e.0 u (x.on_u ∙ w.0), eqb-true e.1 v (y.on_v ∙ w.1)))
    ]
    | inr k ↦ let w = both (is_v a) (is_u b) k in inr (inr (eqb-true e.0 v (x.on_v ∙ w.0), eqb-true e.1 u (y.on_u ∙ w.1)))
  ]

  -- what is not aged has q, or is no edge
  pub young : aged a b ≡ false → (e.0 ≡ e.1) ⊎ (e.0 ≡ q) ⊎ (e.1 ≡ q)
  unfolding aged
  young h = elim (either (alike a b || is_q a) (is_q b) (not-false _ h)) [
    | inl g ↦ elim (either (alike a b) (is_q a) g) [ inl k ↦ inl (one_node k) | inr k ↦ inr (inl (eqb-true e.0 q (x.on_q ∙ k))) ]
    | inr k ↦ inr (inr (eqb-true e.1 q (y.on_q ∙ k)))
  ]

  -- ---- a triangle's test by its corners

  by_corners : (t : Tri) (f g h n : ℕ) → Corners t f g h → tri_has t n ≡ (eqb n f || eqb n g || eqb n h)
  by_corners t f g h n k = elim (which (eqb n f || eqb n g || eqb n h)) [
    | inl i ↦ has_test t n (elim (either (eqb n f || eqb n g) (eqb n h) i) [
      | inl j ↦ elim (either (eqb n f) (eqb n g) j) [ inl l ↦ subst (λ z. Has t z) (sym (eqb-true n f l)) k.has0 | inr l ↦ subst (λ z. Has t z) (sym (eqb-true n g l)) k.has1 ]
      | inr l ↦ subst (λ z. Has t z) (sym (eqb-true n h l)) k.has2
    ]) ∙ sym i
    | inr i ↦ elim (which (tri_has t n)) [
      | inl j ↦ elim (k.is n (test_has t n j)) [
        | inl l ↦ never (eqb n f || eqb n g || eqb n h) (rw (eq-eqb n f l) refl) i
        | inr (inl l) ↦ never (eqb n f || eqb n g || eqb n h) (elim (which (eqb n f)) [ inl z ↦ rw z refl | inr z ↦ rw (z, eq-eqb n g l) refl ]) i
        | inr (inr l) ↦ never (eqb n f || eqb n g || eqb n h) (elim (which (eqb n f || eqb n g)) [ inl z ↦ rw z refl | inr z ↦ rw (z, eq-eqb n h l) refl ]) i
      ]
      | inr j ↦ j ∙ sym i
    ]
  ]

  pub side_uvp : (t : Tri) → Corners t u v p → side e t ≡ on uvp a b
  unfolding side on uvp
  side_uvp t k = rw (by_corners t u v p e.0 k, by_corners t u v p e.1 k, x.on_u, x.on_v, x.on_p, y.on_u, y.on_v, y.on_p) refl

  pub side_uvq : (t : Tri) → Corners t u v q → side e t ≡ on uvq a b
  unfolding side on uvq
  side_uvq t k = rw (by_corners t u v q e.0 k, by_corners t u v q e.1 k, x.on_u, x.on_v, x.on_q, y.on_u, y.on_v, y.on_q) refl

  pub side_puq : (t : Tri) → Corners t p u q → side e t ≡ on puq a b
  unfolding side on puq
  side_puq t k = rw (by_corners t p u q e.0 k, by_corners t p u q e.1 k, x.on_p, x.on_u, x.on_q, y.on_p, y.on_u, y.on_q) refl

  pub side_qvp : (t : Tri) → Corners t q v p → side e t ≡ on qvp a b
  unfolding side on qvp
  side_qvp t k = rw (by_corners t q v p e.0 k, by_corners t q v p e.1 k, x.on_q, x.on_v, x.on_p, y.on_q, y.on_v, y.on_p) refl

  pub side_vpq : (t : Tri) → Corners t v p q → side e t ≡ on vpq a b
  unfolding side on vpq
  side_vpq t k = rw (by_corners t v p q e.0 k, by_corners t v p q e.1 k, x.on_v, x.on_p, x.on_q, y.on_v, y.on_p, y.on_q) refl
