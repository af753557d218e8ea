-- A point on one side of all three sides of a triangle lies in every square that holds the triangle.
use Rattle.std.specs.Prelude.{◌+◌, ◌-◌, ◌*◌, ◌<◌, ◌≤◌}
use Rattle.laws.specs.Kit.{ℕ, arith, dec_le, mul-lt-mul_of_pos_right}
use Rattle.exact.specs.Near.{Whole, Near, Within, Above, ◌⊖◌, ◌⊗◌}
use Rattle.exact.proofs.Near.{same_scale}
use Rattle.exact.specs.Cross.{crossW}
use Rattle.exact.specs.Hull.{seen, turn}

swap_near : (x y : Whole) (u : ℕ) → Near (x ⊗ y) ((u, 0) ⊗ y) 0 → Near (y ⊗ x) (y.0 * u, y.1 * u) 0
swap_near x y u h = omega arith

combine : (t s t' s' : Whole) → Near t s 0 → Near t' s' 0 → Above (t ⊖ t') → Above (s ⊖ s')
combine t s t' s' h k l = omega arith

expand : (u v : ℕ) (ay by py : Whole) → Above ((u, v) ⊗ (py ⊖ ay) ⊖ ((by ⊖ ay).0 * u, (by ⊖ ay).1 * u)) → Above (seen u v (ay ⊖ py) (by ⊖ py))
expand u v ay by py h = omega arith

seen_is : (ax ay bx by px py : Whole) (u v : ℕ) → Near (px ⊖ ax) (u, 0) 0 → Near (px ⊖ bx) (v, 0) 0 → Above (crossW ax ay bx by px py) → Above (seen u v (ay ⊖ py) (by ⊖ py))
seen_is ax ay bx by px py u v h k c =
    let d : Near (bx ⊖ ax) (u, v) 0 = omega (arith, h, k) in
    expand u v ay by py
    (combine ((bx ⊖ ax) ⊗ (py ⊖ ay)) ((u, v) ⊗ (py ⊖ ay)) ((by ⊖ ay) ⊗ (px ⊖ ax)) ((by ⊖ ay).0 * u, (by ⊖ ay).1 * u)
    (same_scale (bx ⊖ ax) (u, v) (py ⊖ ay) d)
    (swap_near (px ⊖ ax) (by ⊖ ay) u (same_scale (px ⊖ ax) (u, 0) (by ⊖ ay) h)) c)

-- multiplied by w
times : (u v w : ℕ) (A B : Whole) → 0 < w → Above (seen u v A B) → v * A.1 * w + u * B.0 * w < v * A.0 * w + u * B.1 * w
times u v w A B h k = go (v * A.0) (u * B.1) (v * A.1) (u * B.0) k
  where
    go : (a b c d : ℕ) → c + d < a + b → c * w + d * w < a * w + b * w
    go a b c d l = omega (arith, mul-lt-mul_of_pos_right l h)

around : (u v w : ℕ) (A B C : Whole) → 0 < u → 0 < v → 0 < w → Above (seen u v A B) → Above (seen v w B C) → Above (seen w u C A) → ⊥
around u v w A B C pu pv pw a b c = round_trip A.0 A.1 B.0 B.1 C.0 C.1 (times u v w A B pw a) (times v w u B C pu b) (times w u v C A pv c)
  where
    round_trip : (a a' b b' c c' : ℕ) → v * a' * w + u * b * w < v * a * w + u * b' * w → w * b' * u + v * c * u < w * b * u + v * c' * u → u * c' * v + w * a * v < u * c * v + w * a' * v → ⊥
    round_trip a a' b b' c c' h k l = omega arith

left_of : (px ax : Whole) (K : ℕ) → K + px.1 < px.0 → ax.0 ≤ K + ax.1 → (u : ℕ) × (0 < u) × Near (px ⊖ ax) (u, 0) 0
left_of px ax K h k = (px.0 + ax.1 - (px.1 + ax.0), omega arith, omega arith)

module _ (ax ay bx by cx cy px py : Whole) (K : ℕ) where
  -- the three cross products are above zero, or all are below
  abbrev pub AllLeft : Type 0
  AllLeft = Above (crossW ax ay bx by px py) × Above (crossW bx by cx cy px py) × Above (crossW cx cy ax ay px py)

  abbrev pub AllRight : Type 0
  AllRight = ((crossW ax ay bx by px py).0 < (crossW ax ay bx by px py).1) × ((crossW bx by cx cy px py).0 < (crossW bx by cx cy px py).1) × ((crossW cx cy ax ay px py).0 < (crossW cx cy ax ay px py).1)

  -- not to the right of all three nodes
  edge : ax.0 ≤ K + ax.1 → bx.0 ≤ K + bx.1 → cx.0 ≤ K + cx.1 → AllLeft → px.0 ≤ K + px.1
  edge a b c l = elim (dec_le px.0 (K + px.1)) [
    | yes h ↦ h
    | no h ↦
        let u = left_of px ax K (omega arith) a in
        let v = left_of px bx K (omega arith) b in
        let w = left_of px cx K (omega arith) c in
        absurd
        (around u.0 v.0 w.0 (ay ⊖ py) (by ⊖ py) (cy ⊖ py) u.1 v.1 w.1 (seen_is ax ay bx by px py u.0 v.0 u.2 v.2 l.0) (seen_is bx by cx cy px py v.0 w.0 v.2 w.2 l.1)
        (seen_is cx cy ax ay px py w.0 u.0 w.2 u.2 l.2))
  ]

-- a reflection swaps left and right
mirror_y : (ax ay bx by cx cy px py : Whole) (K : ℕ) → AllRight ax ay bx by cx cy px py K → AllLeft ax (turn ay) bx (turn by) cx (turn cy) px (turn py) K
mirror_y ax ay bx by cx cy px py K r = omega arith

mirror_xy : (ax ay bx by cx cy px py : Whole) (K : ℕ) → AllLeft ax ay bx by cx cy px py K → AllLeft (turn ax) (turn ay) (turn bx) (turn by) (turn cx) (turn cy) (turn px) (turn py) K
mirror_xy ax ay bx by cx cy px py K r = omega arith

diagonal : (ax ay bx by cx cy px py : Whole) (K : ℕ) → AllLeft ax ay bx by cx cy px py K → AllRight ay ax by bx cy cx py px K
diagonal ax ay bx by cx cy px py K r = omega arith

diagonal' : (ax ay bx by cx cy px py : Whole) (K : ℕ) → AllRight ax ay bx by cx cy px py K → AllLeft ay ax by bx cy cx py px K
diagonal' ax ay bx by cx cy px py K r = omega arith

-- between -K and K
strip : (ax ay bx by cx cy px py : Whole) (K : ℕ) → Within ax K → Within bx K → Within cx K → AllLeft ax ay bx by cx cy px py K → Within px K
strip ax ay bx by cx cy px py K a b c l =
    let hi = edge ax ay bx by cx cy px py K (omega arith) (omega arith) (omega arith) l in
    let lo = edge (turn ax) (turn ay) (turn bx) (turn by) (turn cx) (turn cy) (turn px) (turn py) K (omega arith) (omega arith) (omega arith) (mirror_xy ax ay bx by cx cy px py K l) in
    omega arith

strip_right : (ax ay bx by cx cy px py : Whole) (K : ℕ) → Within ax K → Within bx K → Within cx K → AllRight ax ay bx by cx cy px py K → Within px K
strip_right ax ay bx by cx cy px py K a b c r = strip ax (turn ay) bx (turn by) cx (turn cy) px (turn py) K a b c (mirror_y ax ay bx by cx cy px py K r)

module _ (ax ay bx by cx cy px py : Whole) (K : ℕ) (a : Within ax K) (a' : Within ay K) (b : Within bx K) (b' : Within by K) (c : Within cx K) (c' : Within cy K) where
  pub inside_left : AllLeft ax ay bx by cx cy px py K → Within px K × Within py K
  inside_left l = (strip ax ay bx by cx cy px py K a b c l, strip_right ay ax by bx cy cx py px K a' b' c' (diagonal ax ay bx by cx cy px py K l))

  pub inside_right : AllRight ax ay bx by cx cy px py K → Within px K × Within py K
  inside_right r = (strip_right ax ay bx by cx cy px py K a b c r, strip ay ax by bx cy cx py px K a' b' c' (diagonal' ax ay bx by cx cy px py K r))
