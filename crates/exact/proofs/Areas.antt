-- On the grid of 1 / 1024 the float areas of triangles and quads are exact:
use Rattle.laws.specs.Kit.{refl, sym, ◌∙◌, ap, inl, inr, false, ℕ, arith, lit<, lit≤, ℤ, pos, negsuc, Float, binary64, of_bits, add, mul}
use Rattle.std.specs.Prelude.{nat_abs, ◌+ℤ◌, ◌≡◌, ◌+◌, ◌*◌, ◌^◌, ◌≤◌}
use Rattle.definition.specs.Floats.{f64, 0·0, 2·0}
use Rattle.definition.specs.Floats as floats
use Rattle.definition.specs.Plane.{Node}
use Rattle.definition.specs.Plane as plane
use Rattle.definition.specs.Exact.{arrow, exact_cross, twice_tri, twice_quad}
use Rattle.exact.specs.Near.{Whole, Near, Within, abs, ◌⊕◌, ◌⊖◌, ◌⊗◌, ◌⊙◌}
use Rattle.exact.proofs.Near.{within_mul, abs_le, abs_cases}
use Rattle.exact.specs.Units.{ofℤ, W}
use Rattle.exact.proofs.Units.{add_same, cross_is}
use Rattle.exact.specs.Cross.{crossW}
use Rattle.exact.specs.Exactly.{Is}
use Rattle.exact.proofs.Exactly.{same, add_is, sub_is, mul_is, half_is, abs_is}
use Rattle.exact.specs.Points.{At, exactly}
use Rattle.exact.specs.Grid.{GridPoint, parts_of}
use Rattle.exact.proofs.Grid.{is_parts, small, cross_parts, exactly_parts, within_difference}
use Rattle.exact.specs.Areas.{Placed, X, Y}

-- ---- any points: the unsigned area by differences, whatever the triangle's winding
natAbs_is : (z : ℤ) (w : Whole) → Near (ofℤ z) w 0 → nat_abs z ≡ abs w
unfolding abs
natAbs_is (pos n) w h = omega arith
natAbs_is (negsuc n) w h = omega arith

abs_same : (x y : Whole) → Near x y 0 → abs x ≡ abs y
unfolding abs
abs_same x y h = omega arith

pub abs_other : (x y : Whole) → Near x (y.1, y.0) 0 → abs x ≡ abs y
unfolding abs
abs_other x y h = omega arith

abs_known : (x : Whole) (n : ℕ) → x.0 ≡ x.1 + n → abs x ≡ n
unfolding abs
abs_known x n e = omega arith

abs_known' : (x : Whole) (n : ℕ) → x.1 ≡ x.0 + n → abs x ≡ n
unfolding abs
abs_known' x n e = omega arith

tri_is : (a b c : Node) → twice_tri a b c ≡ abs (exactly a b c)
unfolding twice_tri
tri_is a b c = natAbs_is (exact_cross (arrow a b) (arrow a c)) (exactly a b c) (cross_is a b a c)

quad_is : (a b c d : Node) → twice_quad a b c d ≡ abs (exactly a b c ⊕ exactly a c d)
unfolding twice_quad
quad_is a b c d =
    natAbs_is (exact_cross (arrow a b) (arrow a c) +ℤ exact_cross (arrow a c) (arrow a d)) (exactly a b c ⊕ exactly a c d)
    (add_same (exact_cross (arrow a b) (arrow a c)) (exact_cross (arrow a c) (arrow a d)) (exactly a b c) (exactly a c d) (cross_is a b a c) (cross_is a c a d))

turn_cross : (ax ay bx by cx cy : Whole) → Near (crossW ax ay bx by cx cy) (crossW bx by cx cy ax ay) 0
turn_cross ax ay bx by cx cy = omega arith

swap_cross : (ax ay bx by cx cy : Whole) → Near (crossW ax ay bx by cx cy) ((crossW bx by ax ay cx cy).1, (crossW bx by ax ay cx cy).0) 0
swap_cross ax ay bx by cx cy = omega arith

-- a triangle from another of its nodes has its area
pub tri_turned : (a b c : Node) → twice_tri a b c ≡ twice_tri b c a
tri_turned a b c = tri_is a b c ∙ abs_same (exactly a b c) (exactly b c a) (turn_cross (W a.x) (W a.y) (W b.x) (W b.y) (W c.x) (W c.y)) ∙ sym (tri_is b c a)

-- wound the other way
pub tri_swapped : (a b c : Node) → twice_tri a b c ≡ twice_tri b a c
tri_swapped a b c = tri_is a b c ∙ abs_other (exactly a b c) (exactly b a c) (swap_cross (W a.x) (W a.y) (W b.x) (W b.y) (W c.x) (W c.y)) ∙ sym (tri_is b a c)

x_small : (p : Node) (g : Placed p) → Within (X p g) 8192
x_small p g = small p.x g.on.0 g.at.0.1

y_small : (p : Node) (g : Placed p) → Within (Y p g) 8192
y_small p g = small p.y g.on.1 g.at.1.1

scaled : (x k : Whole) (J : ℕ) → Near x (k ⊙ J ⊙ J) 0 → abs x ≡ abs k * (J * J)
scaled x k J h = elim (abs_cases k) [
  | inl e ↦ up x k (abs k) e h
  | inr e ↦ down x k (abs k) e h
]
  where
    up : (x k : Whole) (n : ℕ) → k.0 ≡ k.1 + n → Near x (k ⊙ J ⊙ J) 0 → abs x ≡ n * (J * J)
    up x k n e h = abs_known x (n * (J * J)) (omega (arith, ap (λ (z : ℕ). z * (J * J)) e))

    down : (x k : Whole) (n : ℕ) → k.1 ≡ k.0 + n → Near x (k ⊙ J ⊙ J) 0 → abs x ≡ n * (J * J)
    down x k n e h = abs_known' x (n * (J * J)) (omega (arith, ap (λ (z : ℕ). z * (J * J)) e))

both : (x y : Whole) → Within x 268435456 → Within y 268435456 → Within (x ⊖ y) 536870912
both x y h k = omega arith

pub upward : (n N : ℕ) → n ≤ N → Within (n, 0) N
upward n N h = omega arith

module _ (a b c : Node) (ga : Placed a) (gb : Placed b) (gc : Placed c) where
  -- the cross product, in parts of 2 ^ -20
  abbrev pub turn : Whole
  turn = crossW (X a ga) (Y a ga) (X b gb) (Y b gb) (X c gc) (Y c gc)

  pub cross_is_turn : Is (plane.cross a b c) turn 1048576
  cross_is_turn = cross_parts a b c ga.at gb.at gc.at ga.on gb.on gc.on

  pub tri_parts : twice_tri a b c ≡ abs turn * (2 ^ 1064 * 2 ^ 1064)
  tri_parts = tri_is a b c ∙ scaled (exactly a b c) turn (2 ^ 1064) (exactly_parts a b c ga.at gb.at gc.at ga.on gb.on gc.on)

  pub turn_most : abs turn ≤ 536870912
  turn_most =
      let xa = x_small a ga in
      let ya = y_small a ga in
      let bx = within_difference (X b gb) (X a ga) (x_small b gb) xa in
      let by = within_difference (Y b gb) (Y a ga) (y_small b gb) ya in
      let cx = within_difference (X c gc) (X a ga) (x_small c gc) xa in
      let cy = within_difference (Y c gc) (Y a ga) (y_small c gc) ya in
      abs_le turn 536870912 (both ((X b gb ⊖ X a ga) ⊗ (Y c gc ⊖ Y a ga)) ((Y b gb ⊖ Y a ga) ⊗ (X c gc ⊖ X a ga)) (within_mul (X b gb ⊖ X a ga) (Y c gc ⊖ Y a ga) 16384 16384 bx cy) (within_mul (Y b gb ⊖ Y a ga) (X c gc ⊖ X a ga) 16384 16384 by cx))

  -- the float area
  pub area_parts : Is (floats.◌⊘◌ (floats.abs (plane.cross a b c)) 2·0) (abs turn, 0) 2097152
  unfolding floats.◌⊘◌ 2·0 f64 of_bits
  area_parts = half_is binary64 1048576 1053 refl 536870912 (lit< tt) (lit< tt) (floats.abs (plane.cross a b c)) (abs turn, 0) (abs_is (plane.cross a b c) turn 1048576 cross_is_turn) (upward (abs turn) 536870912 turn_most)

-- ---- a quad
fourth : (a b c d : Whole) → Within a 134217728 → Within b 134217728 → Within c 134217728 → Within d 134217728 → Within ((0, 0) ⊕ a ⊕ b ⊕ c ⊕ d) 536870912
fourth a b c d h i j k = omega arith

term : (x y : Whole) → Within x 67108864 → Within y 67108864 → Within (x ⊖ y) 134217728
term x y h k = omega arith

add_within : (x y : Whole) (A B : ℕ) → Within x A → Within y B → Within (x ⊕ y) (A + B)
add_within x y A B h k = omega arith

-- the term of one side, in parts of 2 ^ -20
abbrev lace : (ax ay bx by : Whole) → Whole
lace ax ay bx by = ax ⊗ by ⊖ bx ⊗ ay

-- around a triangle, and there and back
around : (ax ay bx by cx cy : Whole) → Near (lace ax ay bx by ⊕ lace bx by cx cy ⊕ lace cx cy ax ay) (crossW ax ay bx by cx cy) 0
around ax ay bx by cx cy =
    joined (ax ⊗ by) (bx ⊗ ay) (bx ⊗ cy) (cx ⊗ by) (cx ⊗ ay) (ax ⊗ cy) (ax ⊗ ay) ((bx ⊖ ax) ⊗ (cy ⊖ ay)) ((cx ⊖ ax) ⊗ (by ⊖ ay)) ((by ⊖ ay) ⊗ (cx ⊖ ax))
    (expand bx ax cy ay) (expand cx ax by ay) (turned (by ⊖ ay) (cx ⊖ ax))
  where
    expand : (b a c d : Whole) → Near ((b ⊖ a) ⊗ (c ⊖ d)) (b ⊗ c ⊕ a ⊗ d ⊖ b ⊗ d ⊖ a ⊗ c) 0
    expand b a c d = omega arith

    turned : (x y : Whole) → Near (x ⊗ y) (y ⊗ x) 0
    turned x y = omega arith

    joined : (k l m n o p q s t u : Whole) → Near s (m ⊕ q ⊖ l ⊖ p) 0 → Near t (n ⊕ q ⊖ o ⊖ k) 0 → Near u t 0 → Near ((k ⊖ l) ⊕ (m ⊖ n) ⊕ (o ⊖ p)) (s ⊖ u) 0
    joined k l m n o p q s t u h i j = omega arith

back : (ax ay bx by : Whole) → Near (lace ax ay bx by ⊕ lace bx by ax ay) (0, 0) 0
back ax ay bx by = omega arith

halves : (ax ay bx by cx cy dx dy : Whole) → Near ((0, 0) ⊕ lace ax ay bx by ⊕ lace bx by cx cy ⊕ lace cx cy dx dy ⊕ lace dx dy ax ay) (crossW ax ay bx by cx cy ⊕ crossW ax ay cx cy dx dy) 0
halves ax ay bx by cx cy dx dy =
    joined (lace ax ay bx by) (lace bx by cx cy) (lace cx cy dx dy) (lace dx dy ax ay) (lace cx cy ax ay) (lace ax ay cx cy) (crossW ax ay bx by cx cy) (crossW ax ay cx cy dx dy)
    (around ax ay bx by cx cy) (around ax ay cx cy dx dy) (back cx cy ax ay)
  where
    joined : (l m n o p q s t : Whole) → Near (l ⊕ m ⊕ p) s 0 → Near (q ⊕ n ⊕ o) t 0 → Near (p ⊕ q) (0, 0) 0 → Near ((0, 0) ⊕ l ⊕ m ⊕ n ⊕ o) (s ⊕ t) 0
    joined l m n o p q s t h k e = omega arith

module _ (a b : Node) (ga : Placed a) (gb : Placed b) where
  lace_within : Within (lace (X a ga) (Y a ga) (X b gb) (Y b gb)) 134217728
  lace_within =
      term (X a ga ⊗ Y b gb) (X b gb ⊗ Y a ga) (within_mul (X a ga) (Y b gb) 8192 8192 (x_small a ga) (y_small b gb)) (within_mul (X b gb) (Y a ga) 8192 8192 (x_small b gb) (y_small a ga))

  lace_is : Is (plane.shoelace a b) (lace (X a ga) (Y a ga) (X b gb) (Y b gb)) 1048576
  unfolding plane.shoelace floats.◌⊗◌ floats.◌⊖◌
  lace_is =
      let u = mul_is binary64 1024 1024 1054 refl 67108864 (lit< tt) (lit< tt) a.x b.y (X a ga) (Y b gb) 8192 8192 (is_parts a.x ga.on.0) (is_parts b.y gb.on.1) (x_small a ga) (y_small b gb) (lit≤ tt) in
      let v = mul_is binary64 1024 1024 1054 refl 67108864 (lit< tt) (lit< tt) b.x a.y (X b gb) (Y a ga) 8192 8192 (is_parts b.x gb.on.0) (is_parts a.y ga.on.1) (x_small b gb) (y_small a ga) (lit≤ tt) in
      sub_is binary64 1048576 1054 refl 536870912 (lit< tt) (lit< tt) (mul binary64 a.x b.y) (mul binary64 b.x a.y) (X a ga ⊗ Y b gb) (X b gb ⊗ Y a ga) 67108864 67108864 u v
      (within_mul (X a ga) (Y b gb) 8192 8192 (x_small a ga) (y_small b gb)) (within_mul (X b gb) (Y a ga) 8192 8192 (x_small b gb) (y_small a ga)) (lit≤ tt)

nought_is : Is 0·0 (0, 0) 1048576
unfolding 0·0 f64 of_bits
nought_is = (false, 0, (refl, refl), omega arith)

module _ (a b c d : Node) (ga : Placed a) (gb : Placed b) (gc : Placed c) (gd : Placed d) where
  -- the halves' cross products, in parts of 2 ^ -20
  abbrev pub both_turns : Whole
  both_turns = turn a b c ga gb gc ⊕ turn a c d ga gc gd

  abbrev laces : Whole
  laces = (0, 0) ⊕ lace (X a ga) (Y a ga) (X b gb) (Y b gb) ⊕ lace (X b gb) (Y b gb) (X c gc) (Y c gc) ⊕ lace (X c gc) (Y c gc) (X d gd) (Y d gd) ⊕ lace (X d gd) (Y d gd) (X a ga) (Y a ga)

  laces_same : Near laces both_turns 0
  laces_same = halves (X a ga) (Y a ga) (X b gb) (Y b gb) (X c gc) (Y c gc) (X d gd) (Y d gd)

  laces_within : Within laces 536870912
  laces_within = fourth (lace (X a ga) (Y a ga) (X b gb) (Y b gb)) (lace (X b gb) (Y b gb) (X c gc) (Y c gc)) (lace (X c gc) (Y c gc) (X d gd) (Y d gd)) (lace (X d gd) (Y d gd) (X a ga) (Y a ga)) (lace_within a b ga gb) (lace_within b c gb gc) (lace_within c d gc gd) (lace_within d a gd ga)

  twice_area_is : Is (plane.twice_area a b c d) laces 1048576
  unfolding plane.twice_area floats.◌⊕◌
  twice_area_is =
      let N : ℕ = 134217728 in
      let l0 = lace (X a ga) (Y a ga) (X b gb) (Y b gb) in
      let l1 = lace (X b gb) (Y b gb) (X c gc) (Y c gc) in
      let l2 = lace (X c gc) (Y c gc) (X d gd) (Y d gd) in
      let l3 = lace (X d gd) (Y d gd) (X a ga) (Y a ga) in
      let more : (x y : Float) (z w : Whole) (A : ℕ) → Is x z 1048576 → Is y w 1048576 → Within z A → Within w 134217728 → A + 134217728 ≤ 536870912 → Is (add binary64 x y) (z ⊕ w) 1048576 =
      λ x y z w A h k i j e. add_is binary64 1048576 1054 refl 536870912 (lit< tt) (lit< tt) x y z w A 134217728 h k i j e in
      let w0 = add_within (0, 0) l0 0 N (upward 0 0 (lit≤ tt)) (lace_within a b ga gb) in
      let w1 = add_within ((0, 0) ⊕ l0) l1 N N w0 (lace_within b c gb gc) in
      let w2 = add_within ((0, 0) ⊕ l0 ⊕ l1) l2 268435456 N w1 (lace_within c d gc gd) in
      let s0 = more 0·0 (plane.shoelace a b) (0, 0) l0 0 nought_is (lace_is a b ga gb) (upward 0 0 (lit≤ tt)) (lace_within a b ga gb) (lit≤ tt) in
      let s1 = more _ (plane.shoelace b c) ((0, 0) ⊕ l0) l1 N s0 (lace_is b c gb gc) w0 (lace_within b c gb gc) (lit≤ tt) in
      let s2 = more _ (plane.shoelace c d) ((0, 0) ⊕ l0 ⊕ l1) l2 268435456 s1 (lace_is c d gc gd) w1 (lace_within c d gc gd) (lit≤ tt) in
      more _ (plane.shoelace d a) ((0, 0) ⊕ l0 ⊕ l1 ⊕ l2) l3 402653184 s2 (lace_is d a gd ga) w2 (lace_within d a gd ga) (lit≤ tt)

  -- the float area
  pub quad_area_is : Is (floats.abs (plane.quad_area a b c d)) (abs both_turns, 0) 2097152
  unfolding plane.quad_area floats.◌⊘◌ 2·0 f64 of_bits
  quad_area_is =
      abs_is (plane.quad_area a b c d) both_turns 2097152
      (same (plane.quad_area a b c d) laces both_turns 2097152 laces_same
      (half_is binary64 1048576 1053 refl 536870912 (lit< tt) (lit< tt) (plane.twice_area a b c d) laces twice_area_is laces_within))

  pub quad_most : abs both_turns ≤ 536870912
  quad_most = abs_le both_turns 536870912 (moved laces both_turns laces_same laces_within)
    where
      moved : (x y : Whole) → Near x y 0 → Within x 536870912 → Within y 536870912
      moved x y h k = omega arith

  pub quad_parts : twice_quad a b c d ≡ abs both_turns * (2 ^ 1064 * 2 ^ 1064)
  quad_parts = quad_is a b c d ∙ scaled (exactly a b c ⊕ exactly a c d) both_turns (2 ^ 1064)
      (added (exactly a b c) (exactly a c d) (turn a b c ga gb gc) (turn a c d ga gc gd) (2 ^ 1064)
      (exactly_parts a b c ga.at gb.at gc.at ga.on gb.on gc.on) (exactly_parts a c d ga.at gc.at gd.at ga.on gc.on gd.on))
    where
      added : (x y j k : Whole) (J : ℕ) → Near x (j ⊙ J ⊙ J) 0 → Near y (k ⊙ J ⊙ J) 0 → Near (x ⊕ y) ((j ⊕ k) ⊙ J ⊙ J) 0
      added x y j k J h i = omega arith
