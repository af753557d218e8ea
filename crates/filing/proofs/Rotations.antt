-- What the rotation to the smallest node keeps: it is one of the three,
use Rattle.std.specs.Prelude.{◌≡◌, ◌≢◌, ◌⊎◌, ◌&&◌, ◌||◌, ◌<◌, ◌≤◌}
use Rattle.laws.specs.Kit.{refl, sym, ◌∙◌, ap, subst, inl, inr, false, ℕ, arith, dec_lt, eqb, leb, eqb-false, lt-leb, le-leb}
use Rattle.definition.specs.Cells.{Tri, new_tri}
use Rattle.definition.specs.Call.{twice}
use Rattle.laws.specs.Bools.{which, or_none}
use Rattle.filing.specs.Filing.{rotated, turned}
use Rattle.filing.specs.Rotations.{Distinct, Rotation}

-- ---- by comparisons
module _ (a b c : ℕ) where
  pub from_first : a ≤ b → a ≤ c → rotated (new_tri a b c) ≡ new_tri a b c
  unfolding rotated new_tri
  from_first h k = rw (le-leb a b h, le-leb a c k)

  pub from_second : b < a → b ≤ c → rotated (new_tri a b c) ≡ new_tri b c a
  unfolding rotated new_tri
  from_second h k = rw (lt-leb a b h, le-leb b c k)

  -- the third node is less than the first, which is at most the second
  pub from_third : a ≤ b → c < a → rotated (new_tri a b c) ≡ new_tri c a b
  unfolding rotated new_tri
  from_third h k = rw (le-leb a b h, lt-leb a c k, lt-leb b c (omega arith))

  -- or than the second, which is less than the first
  pub from_third' : b < a → c < b → rotated (new_tri a b c) ≡ new_tri c a b
  unfolding rotated new_tri
  from_third' h k = rw (lt-leb a b h, lt-leb b c k)

pub is_rotation : (t : Tri) → Rotation t (rotated t)
unfolding rotated
is_rotation t = elim (which (leb t.n0 t.n1 && leb t.n0 t.n2)) [
  | inl e ↦ inl (rw e)
  | inr e ↦ elim (which (leb t.n1 t.n2)) [ inl f ↦ inr (inl (rw (e, f))) | inr f ↦ inr (inr (rw (e, f))) ]
]

three_turns : (t : Tri) → turned (turned (turned t)) ≡ t
unfolding new_tri
three_turns t = refl

onward : (s t : Tri) → Rotation s t → Rotation s (turned t)
onward s t (inl e) = inr (inl (ap turned e))
onward s t (inr (inl e)) = inr (inr (ap turned e))
onward s t (inr (inr e)) = inl (ap turned e ∙ three_turns s)

-- triangles with one rotation to the smallest node are rotations of each other
pub same_rotation : (s t : Tri) → rotated s ≡ rotated t → Rotation s t
same_rotation s t e = go (is_rotation s) (is_rotation t)
  where
    from : (u : Tri) → Rotation s (rotated s) → u ≡ rotated s → Rotation s u
    from u (inl q) p = inl (p ∙ q)
    from u (inr (inl q)) p = inr (inl (p ∙ q))
    from u (inr (inr q)) p = inr (inr (p ∙ q))

    back : (n : Rotation s (turned t)) → Rotation s t
    back n = subst (Rotation s) (three_turns t) (onward s (turned (turned t)) (onward s (turned t) n))

    go : Rotation s (rotated s) → Rotation t (rotated t) → Rotation s t
    go r (inl q) = from t r (sym (e ∙ q))
    go r (inr (inl q)) = back (from (turned t) r (sym (e ∙ q)))
    go r (inr (inr q)) = back (back' (from (turned (turned t)) r (sym (e ∙ q))))
      where
        back' : Rotation s (turned (turned t)) → Rotation s (turned t)
        back' n = subst (Rotation s) (three_turns (turned t)) (onward s (turned (turned (turned t))) (onward s (turned (turned t)) n))

distinct : (t : Tri) → twice t ≡ false → Distinct t
unfolding twice
distinct t h =
    let f = or_none (eqb t.n0 t.n1 || eqb t.n1 t.n2) (eqb t.n0 t.n2) h in
    let g = or_none (eqb t.n0 t.n1) (eqb t.n1 t.n2) f.0 in
    record { d01 = eqb-false _ _ g.0; d12 = eqb-false _ _ g.1; d02 = eqb-false _ _ f.1 }

differ : (a b : ℕ) → a ≢ b → (a < b) ⊎ (b < a)
differ a b d = elim (dec_lt a b) [ yes l ↦ inl l | no l ↦ elim (dec_lt b a) [ yes m ↦ inr m | no m ↦ absurd (d (omega arith)) ] ]

turn_same : (a b c : ℕ) → a ≢ b → b ≢ c → a ≢ c → rotated (new_tri b c a) ≡ rotated (new_tri a b c)
turn_same a b c d e f = go (differ a b d) (differ b c e) (differ a c f)
  where
    go : (a < b) ⊎ (b < a) → (b < c) ⊎ (c < b) → (a < c) ⊎ (c < a) → rotated (new_tri b c a) ≡ rotated (new_tri a b c)
    go (inl x) (inl y) (inl z) = from_third b c a (omega arith) x ∙ sym (from_first a b c (omega arith) (omega arith))
    go (inl x) (inl y) (inr z) = absurd (omega arith)
    go (inl x) (inr y) (inl z) = from_third' b c a y z ∙ sym (from_first a b c (omega arith) (omega arith))
    go (inl x) (inr y) (inr z) = from_second b c a y (omega arith) ∙ sym (from_third a b c (omega arith) z)
    go (inr x) (inl y) (inl z) = from_first b c a (omega arith) (omega arith) ∙ sym (from_second a b c x (omega arith))
    go (inr x) (inl y) (inr z) = from_first b c a (omega arith) (omega arith) ∙ sym (from_second a b c x (omega arith))
    go (inr x) (inr y) (inl z) = absurd (omega arith)
    go (inr x) (inr y) (inr z) = from_second b c a y (omega arith) ∙ sym (from_third' a b c x y)

turned_same : (t : Tri) → Distinct t → rotated (turned t) ≡ rotated t
unfolding new_tri
turned_same t d = turn_same t.n0 t.n1 t.n2 d.d01 d.d12 d.d02

-- rotations of a triangle with no node twice have one rotation to the smallest node
pub rotation_same : (s t : Tri) → twice s ≡ false → Rotation s t → rotated s ≡ rotated t
unfolding new_tri
rotation_same s t h r = go (distinct s h) r
  where
    next : Distinct s → Distinct (turned s)
    next d = record { d01 = d.d12; d12 = λ e. d.d02 (sym e); d02 = λ e. d.d01 (sym e) }

    go : Distinct s → Rotation s t → rotated s ≡ rotated t
    go d (inl e) = ap rotated (sym e)
    go d (inr (inl e)) = sym (turned_same s d) ∙ ap rotated (sym e)
    go d (inr (inr e)) = sym (turned_same s d) ∙ sym (turned_same (turned s) (next d)) ∙ ap rotated (sym e)
