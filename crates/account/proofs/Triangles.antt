-- The nodes of a triangle, and the triangles that share an edge.
use Rattle.std.specs.Prelude.{◌≡◌, ◌≢◌, ◌⊎◌, ◌||◌, ◌∷◌}
use Rattle.laws.specs.Kit.{refl, sym, ◌∙◌, subst, inl, inr, Bool, true, false, ℕ, eqb, leb, eq-eqb, eqb-true, [], length}
use Rattle.definition.specs.Lists.{filter, any, contains}
use Rattle.definition.specs.Cells.{Tri, new_tri, tri_has, tri_nodes}
use Rattle.definition.specs.Components.{share_edge}
use Rattle.laws.specs.Bools.{which, either, never}
use Rattle.laws.specs.Lists.{In, in_any}
use Rattle.account.specs.Triangles.{Corners, Distinct, Has, Shares}

-- sharing goes both ways
pub turned : {s t : Tri} → Shares s t → Shares t s
turned h = record { a = h.a; b = h.b; differ = h.differ; sa = h.ta; sb = h.tb; ta = h.sa; tb = h.sb }

-- ---- the nodes of a triangle
-- the test for a node
pub has_test : (t : Tri) (a : ℕ) → Has t a → tri_has t a ≡ true
unfolding tri_has
has_test t a (inl e) = rw (eq-eqb t.n0 a (sym e)) refl
has_test t a (inr (inl e)) = elim (which (eqb t.n0 a)) [ inl f ↦ rw f refl | inr f ↦ rw (f, eq-eqb t.n1 a (sym e)) refl ]
has_test t a (inr (inr e)) = elim (which (eqb t.n0 a)) [
  | inl f ↦ rw f refl
  | inr f ↦ elim (which (eqb t.n1 a)) [ inl g ↦ rw (f, g) refl | inr g ↦ rw (f, g, eq-eqb t.n2 a (sym e)) refl ]
]

pub test_has : (t : Tri) (a : ℕ) → tri_has t a ≡ true → Has t a
unfolding tri_has
test_has t a h = elim (either (eqb t.n0 a || eqb t.n1 a) (eqb t.n2 a) h) [
  | inl g ↦ elim (either (eqb t.n0 a) (eqb t.n1 a) g) [ inl e ↦ inl (sym (eqb-true t.n0 a e)) | inr e ↦ inr (inl (sym (eqb-true t.n1 a e))) ]
  | inr e ↦ inr (inr (sym (eqb-true t.n2 a e)))
]

-- a new triangle has its three nodes
pub corners : (a b c : ℕ) → Corners (new_tri a b c) a b c
unfolding new_tri
corners a b c = record { is = λ x h. h; has0 = inl refl; has1 = inr (inl refl); has2 = inr (inr refl) }

-- its own nodes in order
pub own_corners : (t : Tri) → Corners t t.n0 t.n1 t.n2
own_corners t = record { is = λ a h. h; has0 = inl refl; has1 = inr (inl refl); has2 = inr (inr refl) }

-- the last two in the other order
pub turn : (t : Tri) (a b c : ℕ) → Corners t a b c → Corners t a c b
turn t a b c k =
    record { is = λ x h. elim (k.is x h) [ inl e ↦ inl e | inr (inl e) ↦ inr (inr e) | inr (inr e) ↦ inr (inl e) ]; has0 = k.has0; has1 = k.has2; has2 = k.has1 }

-- the first two in the other order
pub swap : (t : Tri) (a b c : ℕ) → Corners t a b c → Corners t b a c
swap t a b c k =
    record { is = λ x h. elim (k.is x h) [ inl e ↦ inr (inl e) | inr (inl e) ↦ inl e | inr (inr e) ↦ inr (inr e) ]; has0 = k.has1; has1 = k.has0; has2 = k.has2 }

pub has_at : (t : Tri) (a b : ℕ) → a ≡ b → Has t a → Has t b
has_at t a b e h = subst (λ x. Has t x) e h

contains_has : (t : Tri) (a : ℕ) → contains (tri_nodes t) a ≡ true → Has t a
unfolding contains tri_nodes any
contains_has t a h = elim (either (eqb a t.n0) _ h) [
  | inl e ↦ inl (eqb-true a t.n0 e)
  | inr g ↦ elim (either (eqb a t.n1) _ g) [
    | inl e ↦ inr (inl (eqb-true a t.n1 e))
    | inr f ↦ elim (either (eqb a t.n2) false f) [ inl e ↦ inr (inr (eqb-true a t.n2 e)) | inr e ↦ never false e refl ]
  ]
]

has_contains : (t : Tri) (a : ℕ) → Has t a → contains (tri_nodes t) a ≡ true
unfolding contains tri_nodes
has_contains t a h = in_any (eqb a) (tri_nodes t) (at h) where
  at : Has t a → (b : ℕ) × In b (tri_nodes t) × (eqb a b ≡ true)
  at (inl e) = (t.n0, inl refl, eq-eqb a t.n0 e)
  at (inr (inl e)) = (t.n1, inr (inl refl), eq-eqb a t.n1 e)
  at (inr (inr e)) = (t.n2, inr (inr (inl refl)), eq-eqb a t.n2 e)

two : Bool → Bool → Bool → Bool
two true true c = true
two true false c = c
two false true c = c
two false false c = false

two_of : (p : ℕ → Bool) (a b c : ℕ) → leb 2 (length (filter p (a ∷ b ∷ c ∷ []))) ≡ two (p a) (p b) (p c)
unfolding filter two
two_of p a b c = elim (which (p a)) [
  | inl x ↦ elim (which (p b)) [
    | inl y ↦ elim (which (p c)) [ inl z ↦ rw (x, y, z) refl | inr z ↦ rw (x, y, z) refl ]
    | inr y ↦ elim (which (p c)) [ inl z ↦ rw (x, y, z) refl | inr z ↦ rw (x, y, z) refl ]
  ]
  | inr x ↦ elim (which (p b)) [
    | inl y ↦ elim (which (p c)) [ inl z ↦ rw (x, y, z) refl | inr z ↦ rw (x, y, z) refl ]
    | inr y ↦ elim (which (p c)) [ inl z ↦ rw (x, y, z) refl | inr z ↦ rw (x, y, z) refl ]
  ]
]

share_is : (s t : Tri) → share_edge s t ≡ two (contains (tri_nodes t) s.n0) (contains (tri_nodes t) s.n1) (contains (tri_nodes t) s.n2)
unfolding share_edge tri_nodes
share_is s t = two_of (contains (tri_nodes t)) s.n0 s.n1 s.n2

-- the test for a shared edge
pub share_says : (s t : Tri) → Distinct s → share_edge s t ≡ true → Shares s t
unfolding two
share_says s t d h =
    let p : ℕ → Bool = contains (tri_nodes t) in
    let g : two (p s.n0) (p s.n1) (p s.n2) ≡ true = sym (share_is s t) ∙ h in
    elim (which (p s.n0)) [
      | inl x ↦ elim (which (p s.n1)) [
        | inl y ↦ record { a = s.n0; b = s.n1; differ = d.d01; sa = inl refl; sb = inr (inl refl); ta = contains_has t s.n0 x; tb = contains_has t s.n1 y }
        | inr y ↦ record { a = s.n2; b = s.n0; differ = d.d20; sa = inr (inr refl); sb = inl refl; ta = contains_has t s.n2 (rw (x, y) at g); tb = contains_has t s.n0 x }
      ]
      | inr x ↦ elim (which (p s.n1)) [
        | inl y ↦ record { a = s.n1; b = s.n2; differ = d.d12; sa = inr (inl refl); sb = inr (inr refl); ta = contains_has t s.n1 y; tb = contains_has t s.n2 (rw (x, y) at g) }
        | inr y ↦ never false (rw (x, y) at g) refl
      ]
    ]

two_any : (a b c : Bool) → ((a ≡ true) × (b ≡ true)) ⊎ ((b ≡ true) × (c ≡ true)) ⊎ ((c ≡ true) × (a ≡ true)) → two a b c ≡ true
unfolding two
two_any a b c (inl h) = rw (h.0, h.1) refl
two_any true b c (inr (inl h)) = rw h.0 refl
two_any false b c (inr (inl h)) = rw (h.0, h.1) refl
two_any a true c (inr (inr h)) = rw h.1 refl
two_any a false c (inr (inr h)) = rw (h.0, h.1) refl

pub shares_test : (s t : Tri) → Shares s t → share_edge s t ≡ true
shares_test s t h =
    let p : ℕ → Bool = contains (tri_nodes t) in
    let pa : p h.a ≡ true = has_contains t h.a h.ta in
    let pb : p h.b ≡ true = has_contains t h.b h.tb in
    let f : (a b : ℕ) → a ≡ b → p a ≡ true → p b ≡ true = λ a b e g. subst (λ x. p x ≡ true) e g in
    share_is s t ∙ two_any (p s.n0) (p s.n1) (p s.n2) (elim h.sa [
      | inl e ↦ elim h.sb [
        | inl g ↦ absurd (h.differ (e ∙ sym g))
        | inr (inl g) ↦ inl (f _ _ e pa, f _ _ g pb)
        | inr (inr g) ↦ inr (inr (f _ _ g pb, f _ _ e pa))
      ]
      | inr (inl e) ↦ elim h.sb [
        | inl g ↦ inl (f _ _ g pb, f _ _ e pa)
        | inr (inl g) ↦ absurd (h.differ (e ∙ sym g))
        | inr (inr g) ↦ inr (inl (f _ _ e pa, f _ _ g pb))
      ]
      | inr (inr e) ↦ elim h.sb [
        | inl g ↦ inr (inr (f _ _ e pa, f _ _ g pb))
        | inr (inl g) ↦ inr (inl (f _ _ g pb, f _ _ e pa))
        | inr (inr g) ↦ absurd (h.differ (e ∙ sym g))
      ]
    ])

-- a triangle shares an edge with itself
pub shares_self : (t : Tri) → Distinct t → Shares t t
shares_self t d = record { a = t.n0; b = t.n1; differ = d.d01; sa = inl refl; sb = inr (inl refl); ta = inl refl; tb = inr (inl refl) }

-- the test for a shared edge is symmetric
pub share_back : (s t : Tri) → Distinct s → share_edge s t ≡ true → share_edge t s ≡ true
share_back s t d h = shares_test t s (turned (share_says s t d h))
