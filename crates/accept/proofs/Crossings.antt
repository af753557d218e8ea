-- How often the sides of a triangle cross the ray to the right of a place, upward less downward:
use Rattle.laws.specs.Kit.{refl, sym, ◌∙◌, ap, subst, inl, inr, Bool, true, false, not, cond, ℕ, zero, suc, arith, ltb-true, ltb-false, ℤ, pos, negsuc}
use Rattle.std.specs.Prelude.{neg_ℤ, ◌-ℤ◌, ◌*ℤ◌, ◌≡◌, ◌&&◌, ◌+◌}
use Rattle.definition.specs.Exact.{Arrow, exact_cross, exact_dot, AboveZero, UpToZero}
use Rattle.exact.specs.Near.{Whole, ◌⊕◌, ◌⊖◌, ◌⊗◌}
use Rattle.exact.specs.Units.{ofℤ}
use Rattle.exact.proofs.Units.{add_same, mul_same}
use Rattle.laws.specs.Bools.{which, never, fails, holds}
use Rattle.accept.specs.Accept.{above}
use Rattle.accept.specs.Signs.{Up, Low, Same, minus, lace, along}
use Rattle.accept.proofs.Signs.{straddling}
use Rattle.accept.specs.Triangle as tri
use Rattle.accept.proofs.Triangle as tri_laws
use Rattle.accept.specs.Places.{left, Between}
use Rattle.accept.specs.Crossings.{Once, X, Y, high, laced, mark, three, upward}

-- ---- tests of integers
-- what the test says of the difference that stands for the integer
pub is_above : (z : ℤ) (w : Whole) → Same (ofℤ z) w → above z ≡ true → Up w
unfolding above
is_above (pos n) w h e = let k = ltb-true 0 n e in omega arith
is_above (negsuc n) w h e = never false e refl

pub not_above : (z : ℤ) (w : Whole) → Same (ofℤ z) w → above z ≡ false → Low w
unfolding above
not_above (pos n) w h e = let k = ltb-false 0 n e in omega arith
not_above (negsuc n) w h e = omega arith

pub signed_up : (z : ℤ) (w : Whole) → Same (ofℤ z) w → AboveZero z → Up w
signed_up z w h a = go a.0 (subst (λ k. Same (ofℤ k) w) a.1 h)
  where
    go : (n : ℕ) → Same (suc n, 0) w → Up w
    go n h = omega arith

pub itself : (w : Whole) → Same w w
itself w = omega arith

-- a difference
opposite : (z : ℤ) → Same (ofℤ (neg_ℤ z)) (minus (ofℤ z))
opposite (pos zero) = omega arith
opposite (pos (suc n)) = omega arith
opposite (negsuc n) = omega arith

pub sub_same : (a b : ℤ) (x y : Whole) → Same (ofℤ a) x → Same (ofℤ b) y → Same (ofℤ (a -ℤ b)) (x ⊖ y)
sub_same a b x y h k = let r = add_same a (neg_ℤ b) x (minus y) h (let o = opposite b in omega arith) in omega arith

pub cross_laced : (u v : Arrow) → Same (ofℤ (exact_cross u v)) (laced u v)
unfolding exact_cross
cross_laced u v =
    let r = sub_same (u.ax *ℤ v.ay) (u.ay *ℤ v.ax) (X u ⊗ Y v) (Y u ⊗ X v) (mul_same u.ax v.ay (X u) (Y v) (itself (X u)) (itself (Y v))) (mul_same u.ay v.ax (Y u) (X v) (itself (Y u)) (itself (X v))) in
    omega arith

dot_along : (u v : Arrow) → Same (ofℤ (exact_dot u v)) (along (X u) (Y u) (X v) (Y v))
unfolding exact_dot
dot_along u v = add_same (u.ax *ℤ v.ax) (u.ay *ℤ v.ay) (X u ⊗ X v) (Y u ⊗ Y v) (mul_same u.ax v.ax (X u) (X v) (itself (X u)) (itself (X v))) (mul_same u.ay v.ay (Y u) (Y v) (itself (Y u)) (itself (Y v)))

pub high_up : (u : Arrow) → high u ≡ true → Up (Y u)
unfolding high
high_up u = is_above u.ay (Y u) (itself (Y u))

pub high_low : (u : Arrow) → high u ≡ false → Low (Y u)
unfolding high
high_low u = not_above u.ay (Y u) (itself (Y u))

module _ (u v : Arrow) where
  pub left_up : left u v ≡ true → Up (laced u v)
  unfolding left
  left_up = is_above (exact_cross u v) (laced u v) (cross_laced u v)

  pub left_low : left u v ≡ false → Low (laced u v)
  unfolding left
  left_low = not_above (exact_cross u v) (laced u v) (cross_laced u v)

  pub off : (Between u v → ⊥) → tri.Off (X u) (Y u) (X v) (Y v)
  off h e = strict (along (X u) (Y u) (X v) (Y v)) (exact_dot u v) (dot_along u v) (λ l. h (zero_is (exact_cross u v) (laced u v) (cross_laced u v) e, l))
    where
      zero_is : (z : ℤ) (w : Whole) → Same (ofℤ z) w → Same w (0, 0) → z ≡ pos 0
      zero_is (pos n) w h e = ap pos (omega arith)
      zero_is (negsuc n) w h e = absurd (omega arith)

      strict : (w : Whole) (z : ℤ) → Same (ofℤ z) w → (UpToZero z → ⊥) → Up w
      strict w (pos zero) h k = absurd (k (0, refl))
      strict w (pos (suc n)) h k = omega arith
      strict w (negsuc n) h k = absurd (k (suc n, refl))

three_turned : (p q r : Bool) → three p q r ≡ three q r p
three_turned true true true = refl
three_turned true true false = refl
three_turned true false true = refl
three_turned true false false = refl
three_turned false true true = refl
three_turned false true false = refl
three_turned false false true = refl
three_turned false false false = refl

-- ---- one side
pub back : (x y x' y' : Whole) → Same (lace x' y' x y) (minus (lace x y x' y'))
back x y x' y' = omega arith

pub strict : (a : Whole) → Up a → Low a → ⊥
strict a h k = omega arith

pub is_left : (u v : Arrow) → Up (laced u v) → left u v ≡ true
is_left u v h = holds (left u v) (λ f. strict (laced u v) h (left_low u v f))

-- a place that is off a way is not between its ends
pub on_way : (u v : Arrow) → tri.Off (X u) (Y u) (X v) (Y v) → Between u v → ⊥
on_way u v o h = strict (along (X u) (Y u) (X v) (Y v)) (o (flat (exact_cross u v) (laced u v) (cross_laced u v) h.0)) (low (exact_dot u v) (along (X u) (Y u) (X v) (Y v)) (dot_along u v) h.1.0 h.1.1)
  where
    flat : (z : ℤ) (w : Whole) → Same (ofℤ z) w → z ≡ pos 0 → Same w (0, 0)
    flat z w h e = subst (λ k. Same (ofℤ k) w → Same w (0, 0)) (sym e) (λ k. omega arith) h

    low_of : (n : ℕ) (w : Whole) → Same (ofℤ (neg_ℤ (pos n))) w → Low w
    low_of n w h = let o = opposite (pos n) in omega arith

    low : (z : ℤ) (w : Whole) → Same (ofℤ z) w → (n : ℕ) → z ≡ neg_ℤ (pos n) → Low w
    low z w h n e = low_of n w (subst (λ k. Same (ofℤ k) w) e h)

module _ (u v : Arrow) (apart : Between u v → ⊥) where
  other_side : (Same (laced u v) (0, 0) → Low (along (X u) (Y u) (X v) (Y v))) → left v u ≡ not (left u v)
  other_side flat = elim (which (left u v)) [
    | inl e ↦ rw e (fails (left v u) (λ f. clash (laced u v) (laced v u) (back (X u) (Y u) (X v) (Y v)) (left_up u v e) (left_up v u f)))
    | inr e ↦ rw e (holds (left v u) (λ f.
        let z = level (laced u v) (laced v u) (back (X u) (Y u) (X v) (Y v)) (left_low u v e) (left_low v u f) in
        strict (along (X u) (Y u) (X v) (Y v)) (off u v apart z) (flat z)))
  ]
    where
      clash : (a b : Whole) → Same b (minus a) → Up a → Up b → ⊥
      clash a b e h k = omega arith

      level : (a b : Whole) → Same b (minus a) → Low a → Low b → Same a (0, 0)
      level a b e h k = omega arith

  -- a side with one end above the place and one not has it on its left one way, and on its right the other
  pub rising : high u ≡ false → high v ≡ true → left v u ≡ not (left u v)
  rising hu hv = other_side (straddling (X u) (Y u) (X v) (Y v) (high_low u hu) (high_up v hv))

  pub falling : high u ≡ true → high v ≡ false → left v u ≡ not (left u v)
  falling hu hv = other_side (λ z. turned (X v) (Y v) (X u) (Y u) (straddling (X v) (Y v) (X u) (Y u) (high_low v hv) (high_up u hu) (zero (laced u v) (laced v u) (back (X u) (Y u) (X v) (Y v)) z)))
    where
      zero : (a b : Whole) → Same b (minus a) → Same a (0, 0) → Same b (0, 0)
      zero a b e h = omega arith

      turned : (x y x' y' : Whole) → Low (along x y x' y') → Low (along x' y' x y)
      turned x y x' y' h = omega arith

pub crosses : (u v : Arrow) → high u ≡ false → high v ≡ true → upward u v ≡ mark (left u v)
unfolding upward
crosses u v h k = rw (h, k) refl

pub starts_high : (u v : Arrow) → high u ≡ true → upward u v ≡ 0
unfolding upward
starts_high u v h = rw h refl

pub ends_low : (u v : Arrow) → high v ≡ false → upward u v ≡ 0
unfolding upward
ends_low u v h = elim (which (high u)) [ inl e ↦ rw e refl | inr e ↦ rw (e, h) refl ]

pub on_right : (u v : Arrow) → left u v ≡ false → upward u v ≡ 0
unfolding upward
on_right u v h = rw h (go (not (high u) && high v))
  where
    go : (b : Bool) → mark (b && false) ≡ 0
    go true = refl
    go false = refl

-- the sides at a node apart from the others in height: q comes to it or leaves it, r the other way
one_apart : (p q r : Bool) → (q ≡ true → r ≡ true → p ≡ true) → (q ≡ false → r ≡ false → ⊥) → (mark q ≡ mark (three p q r) + mark (not r)) × (mark r ≡ mark (three p q r) + mark (not q))
one_apart p true true h k = rw (h refl refl) (refl, refl)
one_apart true true false h k = (refl, refl)
one_apart false true false h k = (refl, refl)
one_apart true false true h k = (refl, refl)
one_apart false false true h k = (refl, refl)
one_apart p false false h k = absurd (k refl refl)

module _ (a b c : Arrow) (ccw : Up (laced a b ⊕ laced b c ⊕ laced c a)) (ab : Between a b → ⊥) (bc : Between b c → ⊥) (ca : Between c a → ⊥) where
  turned_up : (u v : Arrow) → left v u ≡ not (left u v) → left u v ≡ false → Up (minus (laced u v))
  turned_up u v e f = moved (laced v u) (minus (laced u v)) (back (X u) (Y u) (X v) (Y v)) (left_up v u (e ∙ ap not f))
    where
      moved : (x y : Whole) → Same x y → Up x → Up y
      moved x y h k = omega arith

  c_high : high a ≡ false → high b ≡ false → high c ≡ true → Once a b c
  c_high ha hb hc =
      let bc' = rising b c bc hb hc in
      let ca' = falling c a ca hc ha in
      let n = one_apart (left a b) (left b c) (left c a)
      (λ q r. is_left a b (tri_laws.inside_low (X a) (Y a) (X b) (Y b) (X c) (Y c) (off a b ab) (high_low a ha) (high_low b hb) (high_up c hc) (left_up b c q) (left_up c a r)))
      (λ q r. tri_laws.outside_low (X a) (Y a) (X b) (Y b) (X c) (Y c) ccw (high_low a ha) (high_low b hb) (high_up c hc) (turned_up b c bc' q) (turned_up c a ca' r)) in
      omega (arith, n.0, crosses b c hb hc, crosses a c ha hc, ap mark ca', ends_low a b hb, starts_high c a hc, ends_low b a ha, starts_high c b hc)

  c_low : high a ≡ true → high b ≡ true → high c ≡ false → Once a b c
  c_low ha hb hc =
      let bc' = falling b c bc hb hc in
      let ca' = rising c a ca hc ha in
      let n = one_apart (left a b) (left b c) (left c a)
      (λ q r. is_left a b (tri_laws.inside_high (X a) (Y a) (X b) (Y b) (X c) (Y c) (high_up a ha) (high_up b hb) (high_low c hc) (left_up b c q) (left_up c a r)))
      (λ q r. tri_laws.outside_high (X a) (Y a) (X b) (Y b) (X c) (Y c) ccw (high_up a ha) (high_up b hb) (high_low c hc) (turned_up b c bc' q) (turned_up c a ca' r)) in
      omega (arith, n.1, crosses c a hc ha, crosses c b hc hb, ap mark bc', starts_high a b ha, starts_high b c hb, starts_high b a hb, starts_high a c ha)

  none_inside : (left a b ≡ true → left b c ≡ true → left c a ≡ true → ⊥) → three (left a b) (left b c) (left c a) ≡ false
  none_inside h = go (left a b) (left b c) (left c a) h
    where
      go : (p q r : Bool) → (p ≡ true → q ≡ true → r ≡ true → ⊥) → three p q r ≡ false
      go true true true h = absurd (h refl refl refl)
      go true true false h = refl
      go true false r h = refl
      go false q r h = refl

  all_high : high a ≡ true → high b ≡ true → high c ≡ true → Once a b c
  all_high ha hb hc =
      let n = ap mark (none_inside (λ p q r. tri_laws.none_above (X a) (Y a) (X b) (Y b) (X c) (Y c) (left_up a b p) (left_up b c q) (left_up c a r) (high_up a ha) (high_up b hb) (high_up c hc))) in
      omega (arith, n, starts_high a b ha, starts_high b c hb, starts_high c a hc, starts_high b a hb, starts_high c b hc, starts_high a c ha)

  all_low : high a ≡ false → high b ≡ false → high c ≡ false → Once a b c
  all_low ha hb hc =
      let n = ap mark (none_inside (λ p q r. tri_laws.none_below (X a) (Y a) (X b) (Y b) (X c) (Y c) (left_up a b p) (left_up b c q) (left_up c a r) (high_low a ha) (high_low b hb) (high_low c hc))) in
      omega (arith, n, ends_low a b hb, ends_low b c hc, ends_low c a ha, ends_low b a ha, ends_low c b hb, ends_low a c hc)

once_turned : (a b c : Arrow) → Once b c a → Once a b c
once_turned a b c h = omega (arith, h, ap mark (three_turned (left a b) (left b c) (left c a)))

pub once : (a b c : Arrow) → Up (laced a b ⊕ laced b c ⊕ laced c a) → (Between a b → ⊥) → (Between b c → ⊥) → (Between c a → ⊥) → Once a b c
once a b c ccw ab bc ca = elim (which (high a)) [
  | inl ha ↦ elim (which (high b)) [
    | inl hb ↦ elim (which (high c)) [
      | inl hc ↦ all_high a b c ccw ab bc ca ha hb hc
      | inr hc ↦ c_low a b c ccw ab bc ca ha hb hc
    ]
    | inr hb ↦ elim (which (high c)) [
      | inl hc ↦ once_turned a b c (once_turned b c a (c_low c a b (turn_again ccw) ca ab bc hc ha hb))
      | inr hc ↦ once_turned a b c (c_high b c a (turn ccw) bc ca ab hb hc ha)
    ]
  ]
  | inr ha ↦ elim (which (high b)) [
    | inl hb ↦ elim (which (high c)) [
      | inl hc ↦ once_turned a b c (c_low b c a (turn ccw) bc ca ab hb hc ha)
      | inr hc ↦ once_turned a b c (once_turned b c a (c_high c a b (turn_again ccw) ca ab bc hc ha hb))
    ]
    | inr hb ↦ elim (which (high c)) [
      | inl hc ↦ c_high a b c ccw ab bc ca ha hb hc
      | inr hc ↦ all_low a b c ccw ab bc ca ha hb hc
    ]
  ]
]
  where
    sums : (x y z : Whole) → Up (x ⊕ y ⊕ z) → Up (y ⊕ z ⊕ x)
    sums x y z h = omega arith

    turn : Up (laced a b ⊕ laced b c ⊕ laced c a) → Up (laced b c ⊕ laced c a ⊕ laced a b)
    turn = sums (laced a b) (laced b c) (laced c a)

    turn_again : Up (laced a b ⊕ laced b c ⊕ laced c a) → Up (laced c a ⊕ laced a b ⊕ laced b c)
    turn_again h = sums (laced b c) (laced c a) (laced a b) (turn h)
