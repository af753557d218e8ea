-- The sides of a convex quad that runs counterclockwise cross the ray as those of its halves a b c and a c d do,
use Rattle.std.specs.Prelude.{◌≡◌, ◌&&◌, ◌+◌}
use Rattle.laws.specs.Kit.{refl, ap, inl, inr, Bool, true, false, arith, dec_le}
use Rattle.definition.specs.Exact.{Arrow}
use Rattle.exact.specs.Near.{Whole, ◌⊕◌}
use Rattle.laws.specs.Bools.{which, never, fails, holds}
use Rattle.accept.specs.Signs.{Up, Low, Same, minus, along}
use Rattle.accept.specs.Triangle.{Off}
use Rattle.accept.specs.Quadrangle.{Lean}
use Rattle.accept.proofs.Quadrangle.{plucker, first_half, leans, between, strictly, not_at_first, off_back, not_both_above, at_height, one_above}
use Rattle.accept.specs.Places.{left, Between}
use Rattle.accept.specs.Crossings.{X, Y, laced, high, upward, mark, three}
use Rattle.accept.proofs.Crossings.{high_up, high_low, left_up, left_low, is_left, off, on_way, crosses, starts_high, ends_low, on_right, once, back, strict}
use Rattle.accept.specs.QuadCrossings.{OffSides, OnceAround, Turning, four}

-- ---- off the diagonal
-- strictly inside the quad is strictly inside one of its halves; m and m' say on which side of the diagonal
halves : (p q r s m m' : Bool) → (p ≡ true → q ≡ true → m' ≡ true → (r ≡ true) × (s ≡ true)) → (r ≡ true → s ≡ true → m ≡ true → (p ≡ true) × (q ≡ true))
    → (m ≡ true → m' ≡ true → ⊥) → (p ≡ true → q ≡ true → m ≡ false → m' ≡ false → ⊥)
    → mark (three p q m') + mark (three m r s) ≡ mark (four p q r s)
halves true true true true true true f g h k = absurd (h refl refl)
halves true true true true true false f g h k = refl
halves true true true true false true f g h k = refl
halves true true true true false false f g h k = absurd (k refl refl refl refl)
halves true true true false true true f g h k = absurd (h refl refl)
halves true true true false true false f g h k = refl
halves true true true false false true f g h k = never false (f refl refl refl).1 refl
halves true true true false false false f g h k = refl
halves true true false s true true f g h k = absurd (h refl refl)
halves true true false s true false f g h k = refl
halves true true false s false true f g h k = never false (f refl refl refl).0 refl
halves true true false s false false f g h k = refl
halves true false true true true m' f g h k = never false (g refl refl refl).1 refl
halves true false true true false m' f g h k = refl
halves true false true false true m' f g h k = refl
halves true false true false false m' f g h k = refl
halves true false false s true m' f g h k = refl
halves true false false s false m' f g h k = refl
halves false q true true true m' f g h k = never false (g refl refl refl).0 refl
halves false q true true false m' f g h k = refl
halves false q true false true m' f g h k = refl
halves false q true false false m' f g h k = refl
halves false q false s true m' f g h k = refl
halves false q false s false m' f g h k = refl

-- ---- a side from its other end
turned_up : (u v : Arrow) → Up (laced v u) → Up (minus (laced u v))
turned_up u v h = moved (laced v u) (minus (laced u v)) (back (X u) (Y u) (X v) (Y v)) h
  where
    moved : (x y : Whole) → Same x y → Up x → Up y
    moved x y e h = omega arith

not_back : (u v : Arrow) → left u v ≡ true → left v u ≡ false
not_back u v e = fails (left v u) (λ f. clash (laced u v) (left_up u v e) (turned_up u v (left_up v u f)))
  where
    clash : (x : Whole) → Up x → Up (minus x) → ⊥
    clash x h k = omega arith

-- on the left of neither way
on_line : (u v : Arrow) → left u v ≡ false → left v u ≡ false → Same (laced u v) (0, 0)
on_line u v e f = level (laced u v) (laced v u) (back (X u) (Y u) (X v) (Y v)) (left_low u v e) (left_low v u f)
  where
    level : (x y : Whole) → Same y (minus x) → Low x → Low y → Same x (0, 0)
    level x y e h k = omega arith

line_back : (u v : Arrow) → Same (laced u v) (0, 0) → Same (laced v u) (0, 0)
line_back u v h = level (laced u v) (laced v u) (back (X u) (Y u) (X v) (Y v)) h
  where
    level : (x y : Whole) → Same y (minus x) → Same x (0, 0) → Same y (0, 0)
    level x y e h = omega arith

-- from its third node on
turning_again : (a b c d : Arrow) → Turning a b c d → Turning c d a b
turning_again a b c d t =
    record {
      abc = once_on (laced a c) (laced c d) (laced d a) t.acd;
      acd = twice_on (laced a b) (laced b c) (laced c a) t.abc;
      abd = once_on (laced b c) (laced c d) (laced d b) t.bcd;
      bcd = twice_on (laced a b) (laced b d) (laced d a) t.abd;
    }
  where
    once_on : (u v w : Whole) → Up (u ⊕ v ⊕ w) → Up (v ⊕ w ⊕ u)
    once_on u v w h = omega arith

    twice_on : (u v w : Whole) → Up (u ⊕ v ⊕ w) → Up (w ⊕ u ⊕ v)
    twice_on u v w h = omega arith

-- in the half a b c it is on the left of c d and d a
in_half : (a b c d : Arrow) → Turning a b c d → left a b ≡ true → left b c ≡ true → left c a ≡ true → (left c d ≡ true) × (left d a ≡ true)
in_half a b c d t p q m =
    let r = first_half (laced a b) (laced b c) (laced c d) (laced d a) (laced a c) (laced b d) (plucker (X a) (Y a) (X b) (Y b) (X c) (Y c) (X d) (Y d))
    (sum (laced a b) (laced b c) (laced c a) (laced a c) (back (X a) (Y a) (X c) (Y c)) t.abc) t.acd t.abd
    (sum (laced b c) (laced c d) (laced d b) (laced b d) (back (X b) (Y b) (X d) (Y d)) t.bcd) (left_up a b p) (left_up b c q) (turned_up a c (left_up c a m)) in
    (is_left c d r.0, is_left d a r.1)
  where
    sum : (u v w z : Whole) → Same w (minus z) → Up (u ⊕ v ⊕ w) → Up (u ⊕ v ⊕ minus z)
    sum u v w z e h = omega arith

module _ (a b c d : Arrow) (t : Turning a b c d) (o : OffSides a b c d) where
  -- the two halves together
  off_diagonal : Off (X a) (Y a) (X c) (Y c) → OnceAround a b c d
  off_diagonal e =
      let first = once a b c t.abc o.ab o.bc (on_way c a (off_back (X a) (Y a) (X c) (Y c) e)) in
      let second = once a c d t.acd (on_way a c e) o.cd o.da in
      let n = halves (left a b) (left b c) (left c d) (left d a) (left a c) (left c a) (in_half a b c d t) (in_half c d a b (turning_again a b c d t)) (λ m m'. never (left c a) m' (not_back a c m))
      (λ p q m m'.
      let z = on_line a c m m' in
      strict (along (X a) (Y a) (X c) (Y c)) (e z) (between (laced a b) (laced b c) (X a) (Y a) (X c) (Y c) (leans (X a) (Y a) (X b) (Y b) (X c) (Y c) (line_back a c z)) (left_up a b p) (left_up b c q))) in
      omega arith

  -- on the diagonal: the sides at b and at d have the place on their left
  module _ (z : Same (laced a c) (0, 0)) (low : Low (along (X a) (Y a) (X c) (Y c))) where
    at_b : Up (laced a b) × Up (laced b c)
    at_b =
        strictly (laced a b) (laced b c) (X a) (Y a) (X c) (Y c) (leans (X a) (Y a) (X b) (Y b) (X c) (Y c) (line_back a c z)) (less (laced a b) (laced b c) (laced c a) (line_back a c z) t.abc) low
        (not_at_first (X a) (Y a) (X b) (Y b) (off a b o.ab)) (not_at_first (X c) (Y c) (X b) (Y b) (off_back (X b) (Y b) (X c) (Y c) (off b c o.bc)))
      where
        less : (u v w : Whole) → Same w (0, 0) → Up (u ⊕ v ⊕ w) → Up (u ⊕ v)
        less u v w e h = omega arith

    at_d : Up (laced c d) × Up (laced d a)
    at_d =
        strictly (laced c d) (laced d a) (X c) (Y c) (X a) (Y a) (leans (X c) (Y c) (X d) (Y d) (X a) (Y a) z) (less (laced a c) (laced c d) (laced d a) z t.acd) (turned (X a) (Y a) (X c) (Y c) low)
        (not_at_first (X c) (Y c) (X d) (Y d) (off c d o.cd)) (not_at_first (X a) (Y a) (X d) (Y d) (off_back (X d) (Y d) (X a) (Y a) (off d a o.da)))
      where
        less : (u v w : Whole) → Same u (0, 0) → Up (u ⊕ v ⊕ w) → Up (v ⊕ w)
        less u v w e h = omega arith

        turned : (x y x' y' : Whole) → Low (along x y x' y') → Low (along x' y' x y)
        turned x y x' y' h = omega arith

    -- no side is crossed downward, and one upward
    up_once : upward a b + upward b c + upward c d + upward d a ≡ 1
    up_once = elim (which (high a)) [
      | inl ha ↦ elim (which (high c)) [
        | inl hc ↦ absurd (not_both_above (laced a b) (laced b c) (X a) (Y a) (X c) (Y c) lean at_b.0 at_b.1 (high_up a ha) (high_up c hc))
        | inr hc ↦ elim (which (high d)) [
          | inl hd ↦ omega (arith, starts_high a b ha, ends_low b c hc, crosses c d hc hd, ap mark (is_left c d at_d.0), starts_high d a hd)
          | inr hd ↦ omega (arith, starts_high a b ha, ends_low b c hc, ends_low c d hd, crosses d a hd ha, ap mark (is_left d a at_d.1))
        ]
      ]
      | inr ha ↦ elim (which (high c)) [
        | inl hc ↦ elim (which (high b)) [
          | inl hb ↦ omega (arith, crosses a b ha hb, ap mark (is_left a b at_b.0), starts_high b c hb, starts_high c d hc, ends_low d a ha)
          | inr hb ↦ omega (arith, ends_low a b hb, crosses b c hb hc, ap mark (is_left b c at_b.1), starts_high c d hc, ends_low d a ha)
        ]
        | inr hc ↦
            let w = one_above (X a) (Y a) (X b) (Y b) (X d) (Y d) (at_height (laced a b) (laced b c) (X a) (Y a) (X c) (Y c) lean at_b.0 at_b.1 (high_low a ha) (high_low c hc)) at_b.0 at_d.1 in
            elim (which (high b)) [
              | inl hb ↦
                  let hd = fails (high d) (λ e. strict (Y d) (high_up d e) (w.0 (high_up b hb))) in
                  omega (arith, crosses a b ha hb, ap mark (is_left a b at_b.0), starts_high b c hb, ends_low c d hd, ends_low d a ha)
              | inr hb ↦
                  let hd = holds (high d) (λ e. strict (Y d) (w.1 (high_low b hb)) (high_low d e)) in
                  omega (arith, ends_low a b hb, ends_low b c hc, crosses c d hc hd, ap mark (is_left c d at_d.0), starts_high d a hd)
            ]
      ]
    ]
      where
        lean : Lean (laced a b) (laced b c) (X a) (Y a) (X c) (Y c)
        lean = leans (X a) (Y a) (X b) (Y b) (X c) (Y c) (line_back a c z)

    on_diagonal : OnceAround a b c d
    on_diagonal =
        let p = is_left a b at_b.0 in
        let q = is_left b c at_b.1 in
        let r = is_left c d at_d.0 in
        let s = is_left d a at_d.1 in
        rw (p, q, r, s) (omega (arith, up_once, on_right b a (not_back a b p), on_right c b (not_back b c q), on_right d c (not_back c d r), on_right a d (not_back d a s)))

  pub once_around : OnceAround a b c d
  once_around = elim (which (left a c)) [
    | inl m ↦ off_diagonal (λ z. absurd (strictly_off (laced a c) (left_up a c m) z))
    | inr m ↦ elim (which (left c a)) [
      | inl m' ↦ off_diagonal (λ z. absurd (strictly_off (laced c a) (left_up c a m') (line_back a c z)))
      | inr m' ↦ elim (dec_le (along (X a) (Y a) (X c) (Y c)).0 (along (X a) (Y a) (X c) (Y c)).1) [
        | yes l ↦ on_diagonal (on_line a c m m') l
        | no l ↦ off_diagonal (λ z. above (along (X a) (Y a) (X c) (Y c)) l)
      ]
    ]
  ]
    where
      strictly_off : (u : Whole) → Up u → Same u (0, 0) → ⊥
      strictly_off u h e = omega arith

      above : (u : Whole) → (Low u → ⊥) → Up u
      above u h = omega arith
