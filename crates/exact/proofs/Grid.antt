-- On coordinates that are whole multiples of 1 / 1024 the float cross product is the exact one. Assumes nothing.
use Rattle.laws.specs.Kit.{refl, sym, ap, Bool, true, false, ℕ, arith, mul-le-mul_right, lit<, lit≤, pow_pos, ℤ, pos, negsuc, Float, binary64, nan, fin, inf, down, up, of_bits, sub, mul}
use Rattle.std.proofs.Common.{div-add-mod', eqb→eq}
use Rattle.std.specs.Prelude.{◌*ℤ◌, ◌≡◌, ◌*◌, ◌/◌, ◌%◌, ◌^◌, ◌<◌}
use Rattle.std.specs.Float.Ieee.Exact.{HasValue}
use Rattle.definition.specs.Floats.{on_grid, f64, 0·0}
use Rattle.definition.specs.Floats as floats
use Rattle.definition.specs.Plane.{Node}
use Rattle.definition.specs.Plane as plane
use Rattle.definition.specs.Exact.{units, arrow, exact_cross}
use Rattle.definition.specs.Call.{grid_node}
use Rattle.laws.specs.Bools.{to_T, both}
use Rattle.exact.specs.Near.{Whole, Near, Within, ◌⊖◌, ◌⊗◌, ◌⊙◌}
use Rattle.exact.proofs.Near.{near_same, same_times, within_mul, within_cut}
use Rattle.exact.specs.Values.{signed}
use Rattle.exact.proofs.Order.{is_not}
use Rattle.exact.specs.Cross.{crossW}
use Rattle.exact.specs.Units.{ofℤ, W}
use Rattle.exact.proofs.Units.{units_is, mul_same, cross_is}
use Rattle.exact.specs.Exactly.{Is}
use Rattle.exact.proofs.Exactly.{sub_is, mul_is, in_units}
use Rattle.exact.specs.Points.{At, exactly}
use Rattle.exact.specs.Grid.{GridPoint, OnGrid, parts_of}

-- the definition's test says so
pub grid_says : (x : Float) → on_grid x ≡ true → OnGrid x
unfolding on_grid
grid_says nan h = absurd (is_not (sym h) tt)
grid_says (inf s) h = absurd (is_not (sym h) tt)
grid_says (fin s m e) h = (s, m * up e * 1024 / down e, (refl, whole_part (m * up e * 1024) (down e) (eqb→eq (m * up e * 1024 % down e) 0 (to_T h))))
  where
    whole_part : (n d : ℕ) → n % d ≡ 0 → n ≡ n / d * d
    whole_part n d h = let e = div-add-mod' n d in omega arith

pub grid_node_says : (p : Node) → grid_node p ≡ true → GridPoint p
unfolding grid_node
grid_node_says p h = let g = both (on_grid p.x) (on_grid p.y) h in (grid_says p.x g.0, grid_says p.y g.1)

pub zero_on : OnGrid 0·0
unfolding 0·0 f64 of_bits
zero_on = (false, 0, (refl, refl))

itself : (z : Whole) → Near z z 0
itself z = omega arith

pub is_parts : (x : Float) (g : OnGrid x) → Is x (parts_of x g) 1024
is_parts x g = (g.0, g.1, g.2, itself (parts_of x g))

few : (w z : Whole) (L J : ℕ) → 0 < J → L ≡ 1024 * J → Near w (z.0 * J, z.1 * J) 0 → Within w (8 * L) → Within z 8192
few w z L J P e n h = within_cut z 8192 J P (omega arith)

module _ (x : Float) (g : OnGrid x) (h : Within (W x) (8 * 2 ^ 1074)) where
  scaled : Near (W x) (parts_of x g ⊙ 2 ^ 1064) 0
  scaled = in_units binary64 1024 1064 refl 16384 (lit< tt) (lit< tt) x (parts_of x g) (is_parts x g)

  pub small : Within (parts_of x g) 8192
  small = few (W x) (parts_of x g) (2 ^ 1074) (2 ^ 1064) (pow_pos 1064) refl scaled h

-- ---- the float is exact
pub within_difference : (x y : Whole) → Within x 8192 → Within y 8192 → Within (x ⊖ y) 16384
within_difference x y h k = omega arith

apart : (x y z w : Whole) (J : ℕ) → Near x (z ⊙ J) 0 → Near y (w ⊙ J) 0 → Near (x ⊖ y) ((z ⊖ w) ⊙ J) 0
apart x y z w J h k = omega arith

times_scaled : (x y z w : Whole) (J : ℕ) → Near x (z ⊙ J) 0 → Near y (w ⊙ J) 0 → Near (x ⊗ y) (z ⊗ w ⊙ J ⊙ J) 0
times_scaled x y z w J h k = near_same (x ⊗ y) ((z ⊙ J) ⊗ (w ⊙ J)) (z ⊗ w ⊙ J ⊙ J) 0 (same_times x (z ⊙ J) y (w ⊙ J) h k) (out z w)
  where
    out : (z w : Whole) → Near ((z ⊙ J) ⊗ (w ⊙ J)) (z ⊗ w ⊙ J ⊙ J) 0
    out z w = omega arith

crossed : (x y x' y' z w z' w' : Whole) (J : ℕ) → Near x (z ⊙ J) 0 → Near y (w ⊙ J) 0 → Near x' (z' ⊙ J) 0 → Near y' (w' ⊙ J) 0 → Near (x ⊗ y ⊖ x' ⊗ y') ((z ⊗ w ⊖ z' ⊗ w') ⊙ J ⊙ J) 0
crossed x y x' y' z w z' w' J h k h' k' = go (x ⊗ y) (x' ⊗ y') (z ⊗ w) (z' ⊗ w') (times_scaled x y z w J h k) (times_scaled x' y' z' w' J h' k')
  where
    go : (p q r s : Whole) → Near p (r ⊙ J ⊙ J) 0 → Near q (s ⊙ J ⊙ J) 0 → Near (p ⊖ q) ((r ⊖ s) ⊙ J ⊙ J) 0
    go p q r s h k = omega arith

raised : (t r k : Whole) (L I J : ℕ) → J * J ≡ I * L → Near t (r ⊗ (L, 0)) 0 → Near r (k ⊙ I) 0 → Near t (k ⊙ J ⊙ J) 0
raised t r k L I J e h n = omega (arith, mul-le-mul_right L n.0, mul-le-mul_right L n.1, ap (λ (z : ℕ). k.0 * z) e, ap (λ (z : ℕ). k.1 * z) e)

pub equal : (x y : ℤ) (z : Whole) → Near (ofℤ x) z 0 → Near (ofℤ y) z 0 → x ≡ y
equal (pos m) (pos n) z h k = ap pos (omega arith)
equal (pos m) (negsuc n) z h k = absurd (omega arith)
equal (negsuc m) (pos n) z h k = absurd (omega arith)
equal (negsuc m) (negsuc n) z h k = ap negsuc (omega arith)

module _ (a b c : Node) (A : At 8 a) (B : At 8 b) (C : At 8 c) (ga : GridPoint a) (gb : GridPoint b) (gc : GridPoint c) where
  abbrev pub ax : Whole
  ax = parts_of a.x ga.0

  abbrev pub ay : Whole
  ay = parts_of a.y ga.1

  abbrev pub bx : Whole
  bx = parts_of b.x gb.0

  abbrev pub by : Whole
  by = parts_of b.y gb.1

  abbrev pub cx : Whole
  cx = parts_of c.x gc.0

  abbrev pub cy : Whole
  cy = parts_of c.y gc.1

  difference : (x y : Float) (g : OnGrid x) (k : OnGrid y) → Within (parts_of x g) 8192 → Within (parts_of y k) 8192 → Is (sub binary64 x y) (parts_of x g ⊖ parts_of y k) 1024
  difference x y g k h i = sub_is binary64 1024 1064 refl 16384 (lit< tt) (lit< tt) x y (parts_of x g) (parts_of y k) 8192 8192 (is_parts x g) (is_parts y k) h i (lit≤ tt)

  product : (x y : Float) (z w : Whole) → Is x z 1024 → Is y w 1024 → Within z 16384 → Within w 16384 → Is (mul binary64 x y) (z ⊗ w) (1024 * 1024)
  product x y z w h k i j = mul_is binary64 1024 1024 1054 refl 268435456 (lit< tt) (lit< tt) x y z w 16384 16384 h k i j (lit≤ tt)

  pub cross_parts : Is (plane.cross a b c) (crossW ax ay bx by cx cy) (1024 * 1024)
  unfolding plane.cross floats.◌⊖◌ floats.◌⊗◌
  cross_parts =
      let sax = small a.x ga.0 A.0.1 in
      let say = small a.y ga.1 A.1.1 in
      let sbx = small b.x gb.0 B.0.1 in
      let sby = small b.y gb.1 B.1.1 in
      let scx = small c.x gc.0 C.0.1 in
      let scy = small c.y gc.1 C.1.1 in
      let wbx = within_difference bx ax sbx sax in
      let wby = within_difference by ay sby say in
      let wcx = within_difference cx ax scx sax in
      let wcy = within_difference cy ay scy say in
      let u = product (sub binary64 b.x a.x) (sub binary64 c.y a.y) (bx ⊖ ax) (cy ⊖ ay) (difference b.x a.x gb.0 ga.0 sbx sax) (difference c.y a.y gc.1 ga.1 scy say) wbx wcy in
      let v = product (sub binary64 b.y a.y) (sub binary64 c.x a.x) (by ⊖ ay) (cx ⊖ ax) (difference b.y a.y gb.1 ga.1 sby say) (difference c.x a.x gc.0 ga.0 scx sax) wby wcx in
      sub_is binary64 (1024 * 1024) 1054 refl 536870912 (lit< tt) (lit< tt) (mul binary64 (sub binary64 b.x a.x) (sub binary64 c.y a.y)) (mul binary64 (sub binary64 b.y a.y) (sub binary64 c.x a.x))
      ((bx ⊖ ax) ⊗ (cy ⊖ ay)) ((by ⊖ ay) ⊗ (cx ⊖ ax)) 268435456 268435456 u v (within_mul (bx ⊖ ax) (cy ⊖ ay) 16384 16384 wbx wcy) (within_mul (by ⊖ ay) (cx ⊖ ax) 16384 16384 wby wcx) (lit≤ tt)

  -- ---- and so are the units

  step : (x y : Float) (g : OnGrid x) (k : OnGrid y) → Within (W x) (8 * 2 ^ 1074) → Within (W y) (8 * 2 ^ 1074) → Near (W x ⊖ W y) ((parts_of x g ⊖ parts_of y k) ⊙ 2 ^ 1064) 0
  step x y g k h i = apart (W x) (W y) (parts_of x g) (parts_of y k) (2 ^ 1064) (scaled x g h) (scaled y k i)

  pub exactly_parts : Near (exactly a b c) (crossW ax ay bx by cx cy ⊙ 2 ^ 1064 ⊙ 2 ^ 1064) 0
  exactly_parts =
      crossed (W b.x ⊖ W a.x) (W c.y ⊖ W a.y) (W b.y ⊖ W a.y) (W c.x ⊖ W a.x) (bx ⊖ ax) (cy ⊖ ay) (by ⊖ ay) (cx ⊖ ax) (2 ^ 1064)
      (step b.x a.x gb.0 ga.0 B.0.1 A.0.1) (step c.y a.y gc.1 ga.1 C.1.1 A.1.1)
      (step b.y a.y gb.1 ga.1 B.1.1 A.1.1) (step c.x a.x gc.0 ga.0 C.0.1 A.0.1)

  -- the float is k parts of 2 ^ -20, and the exact cross product the same k
  pub cross_units : (k : Whole) × Near (W (plane.cross a b c)) (k ⊙ 2 ^ 1054) 0 × Near (exactly a b c) (k ⊙ 2 ^ 1064 ⊙ 2 ^ 1064) 0
  cross_units = (crossW ax ay bx by cx cy, in_units binary64 (1024 * 1024) 1054 refl 536870912 (lit< tt) (lit< tt) (plane.cross a b c) (crossW ax ay bx by cx cy) cross_parts, exactly_parts)

  -- the float's units, times 2 ^ 1074, are the exact cross product
  pub cross_exact : exact_cross (arrow a b) (arrow a c) ≡ units (plane.cross a b c) *ℤ pos (2 ^ 1074)
  cross_exact =
      let k = cross_units.0 in
      let r = plane.cross a b c in
      equal (exact_cross (arrow a b) (arrow a c)) (units r *ℤ pos (2 ^ 1074)) (k ⊙ 2 ^ 1064 ⊙ 2 ^ 1064)
      (near_same (ofℤ (exact_cross (arrow a b) (arrow a c))) (exactly a b c) (k ⊙ 2 ^ 1064 ⊙ 2 ^ 1064) 0 (cross_is a b a c) cross_units.2)
      (raised (ofℤ (units r *ℤ pos (2 ^ 1074))) (W r) k (2 ^ 1074) (2 ^ 1054) (2 ^ 1064) refl (mul_same (units r) (pos (2 ^ 1074)) (W r) (2 ^ 1074, 0) (units_is r) (itself (2 ^ 1074, 0))) cross_units.1)
