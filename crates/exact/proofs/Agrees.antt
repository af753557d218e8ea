-- On the grid of 1 / 1024 a region whose float area agrees with the quad's has exactly the quad's area:
use Rattle.laws.specs.Kit.{refl, sym, ◌∙◌, ap, Bool, true, false, not, cond, ℕ, zero, suc, arith, dec_le, mul-le-mul_right, lit<, lit≤, T, not-true, pow_pos, pos, List, [], map, foldl, length, Float, binary64, nan, fin, inf, of_bits, fits, lt, add, sub, mul}
use Rattle.std.specs.Prelude.{◌*ℤ◌, ◌≡◌, ◌+◌, ◌*◌, ◌^◌, ◌<◌, ◌≤◌, ◌∷◌, ◌++◌}
use Rattle.std.specs.Float.{Format}
use Rattle.std.specs.Float.Ieee.Fits.{sub-fits, div-fits}
use Rattle.definition.specs.Floats.{◌≺◌, f64, greater, 0·0, 1·0, 1e-9}
use Rattle.definition.specs.Floats as floats
use Rattle.definition.specs.Lists.{flat_map}
use Rattle.definition.specs.Numbers.{area_slack}
use Rattle.definition.specs.Plane as plane
use Rattle.definition.specs.Cells.{Tri, Quad, Cell, tri, quad, Live, Mesh, node_at, tri_of, tris_of}
use Rattle.definition.specs.Region.{area_of, region_area, area_agrees}
use Rattle.definition.specs.Exact.{units}
use Rattle.definition.specs.Account.{sum, tri_area, quad_area, tris_area}
use Rattle.exact.specs.Near.{Whole, Near, Within, abs, ◌⊗◌, ◌⊙◌}
use Rattle.exact.proofs.Near.{within_mul}
use Rattle.exact.specs.Values.{whole, Ok}
use Rattle.exact.proofs.Values.{mul_rel}
use Rattle.exact.specs.Order.{◌⊑◌}
use Rattle.exact.proofs.Order.{not_lt}
use Rattle.exact.proofs.Passing.{one_ok, one_is}
use Rattle.exact.specs.Units.{ofℤ, W}
use Rattle.exact.proofs.Units.{units_is, mul_same}
use Rattle.exact.proofs.Grid.{equal}
use Rattle.exact.specs.Exactly.{Is}
use Rattle.exact.proofs.Exactly.{same, add_is, sub_is, abs_is, in_units}
use Rattle.exact.specs.Areas.{Placed}
use Rattle.exact.proofs.Areas.{turn, both_turns, tri_parts, turn_most, area_parts, quad_area_is, quad_most, quad_parts, upward}
use Rattle.exact.specs.Agrees.{most, slack_units}

slack_ok : Ok binary64 1e-9
unfolding 1e-9 f64 of_bits fits
slack_ok = tt

slack_is : whole binary64 1e-9 ≡ (slack_units, 0)
unfolding 1e-9 f64 of_bits whole
slack_is = refl

abs_fits : (f : Format) (x : Float) → T (fits f x) → T (fits f (floats.abs x))
unfolding floats.abs fits
abs_fits f nan h = tt
abs_fits f (inf s) h = tt
abs_fits f (fin s zero e) h = h
abs_fits f (fin s (suc m) e) h = h

is_ok : (f : Format) (x : Float) (z : Whole) (C : ℕ) → T (fits f x) → Is x z C → Ok f x
is_ok f nan z C h (s, k, v, n) = absurd v
is_ok f (inf t) z C h (s, k, v, n) = absurd v
is_ok f (fin t m e) z C h v = h

nothing : (S E : ℕ) → abs (S + 0, 0 + E) ≡ 0 → S ≡ E
unfolding abs
nothing S E e = omega arith

-- d I units are at most the rounded r of z, which is at most B = t L; and t is too small for one I
no_room : (d I L Q B H t : ℕ) (D r z : Whole) → 0 < L → B ≡ t * L → t * Q + t + H < I * Q → Within z B → Near (r ⊙ L ⊙ Q) (z ⊙ Q) (B + H * L) → Near D (d * I, 0 * I) 0 → D ⊑ r → d ≡ 0
no_room d I L Q B H t D r z P e small w n k l = elim (dec_le d 0) [
  | yes h ↦ omega arith
  | no h ↦
      let one : 1 * I ≤ d * I = mul-le-mul_right I (omega arith) in
      let i : I + r.1 ≤ r.0 = omega arith in
      let j : (I + r.1) * (L * Q) ≤ r.0 * (L * Q) = mul-le-mul_right (L * Q) i in
      let s : suc (t * Q + t + H) * L ≤ I * Q * L = mul-le-mul_right L small in
      let z' : z.0 * Q ≤ (z.1 + B) * Q = mul-le-mul_right Q w.0 in
      let b = ap (λ (x : ℕ). x * Q) e in
      absurd (omega arith)
]

module _ (m : Mesh) (g : (v : ℕ) → Placed (node_at m v)) where
  -- twice a cell's area, in parts of 2 ^ -20; a region has no quads
  abbrev cell_turn : Cell → ℕ
  cell_turn (tri t) = abs (turn (node_at m t.n0) (node_at m t.n1) (node_at m t.n2) (g t.n0) (g t.n1) (g t.n2))
  cell_turn (quad q) = 0

  abbrev region_turn : List Live → ℕ
  region_turn [] = 0
  region_turn (x ∷ xs) = cell_turn x.cell + region_turn xs

  cell_most : (c : Cell) → cell_turn c ≤ 536870912
  cell_most (tri t) = turn_most (node_at m t.n0) (node_at m t.n1) (node_at m t.n2) (g t.n0) (g t.n1) (g t.n2)
  cell_most (quad q) = lit≤ tt

  cell_is : (c : Cell) → Is (area_of m c) (cell_turn c, 0) 2097152
  unfolding area_of 0·0 f64 of_bits
  cell_is (tri t) = area_parts (node_at m t.n0) (node_at m t.n1) (node_at m t.n2) (g t.n0) (g t.n1) (g t.n2)
  cell_is (quad q) = (false, 0, (refl, refl), omega arith)

  region_most : (cells : List Live) → region_turn cells ≤ 536870912 * length cells
  region_most [] = lit≤ tt
  region_most (x ∷ xs) = let h = cell_most x.cell in let k = region_most xs in omega arith

  sums : (cells : List Live) (acc : Float) (z : ℕ) → Is acc (z, 0) 2097152 → z + 536870912 * length cells ≤ most
      → Is (foldl (λ sum x. floats.◌⊕◌ sum (area_of m x.cell)) acc cells) (z + region_turn cells, 0) 2097152
  unfolding floats.◌⊕◌
  sums [] acc z h l = same acc (z, 0) (z + 0, 0) 2097152 (omega arith) h
  sums (x ∷ xs) acc z h l =
      let k = cell_turn x.cell in
      let b = cell_most x.cell in
      let next = foldl (λ sum x. add binary64 sum (area_of m x.cell)) (add binary64 acc (area_of m x.cell)) xs in
      let s = add_is binary64 2097152 1053 refl most (lit< tt) (lit< tt) acc (area_of m x.cell) (z, 0) (k, 0) z 536870912 h (cell_is x.cell) (upward z z (omega arith)) (upward k 536870912 b) (omega arith) in
      same next (z + k + region_turn xs, 0) (z + (k + region_turn xs), 0) 2097152 (regroup z k (region_turn xs))
      (sums xs (add binary64 acc (area_of m x.cell)) (z + k) (same (add binary64 acc (area_of m x.cell)) (z + k, 0 + 0) (z + k, 0) 2097152 (omega arith) s) (omega arith))
    where
      regroup : (a b c : ℕ) → Near (a + b + c, 0) (a + (b + c), 0) 0
      regroup a b c = omega arith

  region_is : (cells : List Live) → length cells ≤ 1048576 → Is (region_area m cells) (region_turn cells, 0) 2097152
  unfolding region_area 0·0 f64 of_bits
  region_is cells l = same (region_area m cells) (0 + region_turn cells, 0) (region_turn cells, 0) 2097152 (omega arith) (sums cells 0·0 0 (false, 0, (refl, refl), omega arith) (omega arith))

  -- ---- the test

  module _ (q : Quad) where
    -- twice the quad's area, in parts of 2 ^ -20
    abbrev quad_turn : ℕ
    quad_turn = abs (both_turns (node_at m q.n0) (node_at m q.n1) (node_at m q.n2) (node_at m q.n3) (g q.n0) (g q.n1) (g q.n2) (g q.n3))

    -- the float of the quad's area
    abbrev expected : Float
    expected = floats.abs (plane.quad_area (node_at m q.n0) (node_at m q.n1) (node_at m q.n2) (node_at m q.n3))

    expected_is : Is expected (quad_turn, 0) 2097152
    expected_is = quad_area_is (node_at m q.n0) (node_at m q.n1) (node_at m q.n2) (node_at m q.n3) (g q.n0) (g q.n1) (g q.n2) (g q.n3)

    quad_small : quad_turn ≤ 536870912
    quad_small = quad_most (node_at m q.n0) (node_at m q.n1) (node_at m q.n2) (node_at m q.n3) (g q.n0) (g q.n1) (g q.n2) (g q.n3)

    expected_ok : Ok binary64 expected × Within (whole binary64 expected) (256 * 2 ^ 1074)
    unfolding plane.quad_area floats.◌⊘◌
    expected_ok = (
      is_ok binary64 expected (quad_turn, 0) 2097152 (abs_fits binary64 (plane.quad_area (node_at m q.n0) (node_at m q.n1) (node_at m q.n2) (node_at m q.n3)) (div-fits binary64 _ _)) expected_is,
      bound (whole binary64 expected) quad_turn (2 ^ 1053) (256 * 2 ^ 1074) refl quad_small (in_units binary64 2097152 1053 refl most (lit< tt) (lit< tt) expected (quad_turn, 0) expected_is),
    )
      where
        bound : (w : Whole) (k I N : ℕ) → N ≡ 536870912 * I → k ≤ 536870912 → Near w (k * I, 0 * I) 0 → Within w N
        bound w k I N e h n = omega (arith, mul-le-mul_right I h)

    greater_ok : Ok binary64 (greater expected 1·0) × Within (whole binary64 (greater expected 1·0)) (256 * 2 ^ 1074)
    unfolding greater
    greater_ok = go (expected ≺ 1·0)
      where
        some : (L : ℕ) → Within (L, 0) (256 * L)
        some L = omega arith

        go : (b : Bool) → Ok binary64 (cond b 1·0 expected) × Within (whole binary64 (cond b 1·0 expected)) (256 * 2 ^ 1074)
        go true = (one_ok, rw one_is (some (2 ^ 1074)))
        go false = expected_ok

    agreeing : (cells : List Live) → length cells ≤ 1048576 → not (floats.◌⊗◌ 1e-9 (greater expected 1·0) ≺ floats.abs (floats.◌⊖◌ (region_area m cells) expected)) ≡ true
        → region_turn cells ≡ quad_turn
    unfolding floats.◌⊗◌ floats.◌⊖◌ ◌≺◌
    agreeing cells l h =
        let S = region_turn cells in
        let x = mul binary64 1e-9 (greater expected 1·0) in
        let r = sub binary64 (region_area m cells) expected in
        let B = slack_units * (256 * 2 ^ 1074) in
        let z = whole binary64 1e-9 ⊗ whole binary64 (greater expected 1·0) in
        let Z : Within z B = within_mul (whole binary64 1e-9) (whole binary64 (greater expected 1·0)) slack_units (256 * 2 ^ 1074) (rw slack_is (upward slack_units slack_units (lit≤ tt))) greater_ok.1 in
        let p = mul_rel binary64 1e-9 (greater expected 1·0) B slack_ok greater_ok.0 Z (lit< tt) in
        let sm = region_most cells in
        let d = sub_is binary64 2097152 1053 refl most (lit< tt) (lit< tt) (region_area m cells) expected (S, 0) (quad_turn, 0) 562949953421312 536870912 (region_is cells l) expected_is (upward S 562949953421312 (omega arith)) (upward quad_turn 536870912 quad_small) (lit≤ tt) in
        let a = abs_is r (S + 0, 0 + quad_turn) 2097152 d in
        let o = is_ok binary64 (floats.abs r) (abs (S + 0, 0 + quad_turn), 0) 2097152 (abs_fits binary64 r (sub-fits binary64 (region_area m cells) expected)) a in
        let u = in_units binary64 2097152 1053 refl most (lit< tt) (lit< tt) (floats.abs r) (abs (S + 0, 0 + quad_turn), 0) a in
        nothing S quad_turn
        (no_room (abs (S + 0, 0 + quad_turn)) (2 ^ 1053) (2 ^ 1074) (2 ^ 53) B (2 ^ 52) (256 * slack_units) (whole binary64 (floats.abs r)) (whole binary64 x) z (pow_pos 1074) refl (lit< tt) Z p.1 u
        (not_lt binary64 x (floats.abs r) p.0 o (not-true (lt x (floats.abs r)) h)))

  -- ---- in units

  cell_area : (c : Cell) (ts : List Tri) → sum (map (tri_area m.points) (tri_of c ++ ts)) ≡ cell_turn c * (2 ^ 1064 * 2 ^ 1064) + sum (map (tri_area m.points) ts)
  unfolding tri_of tri_area sum node_at
  cell_area (tri t) ts = ap (λ (n : ℕ). n + sum (map (tri_area m.points) ts)) (tri_parts (node_at m t.n0) (node_at m t.n1) (node_at m t.n2) (g t.n0) (g t.n1) (g t.n2))
  cell_area (quad q) ts = none (2 ^ 1064 * 2 ^ 1064) (sum (map (tri_area m.points) ts))
    where
      none : (J n : ℕ) → n ≡ 0 * J + n
      none J n = omega arith

  region_exactly : (cells : List Live) → tris_area m.points (tris_of cells) ≡ region_turn cells * (2 ^ 1064 * 2 ^ 1064)
  unfolding tris_area tris_of flat_map sum
  region_exactly [] = none (2 ^ 1064 * 2 ^ 1064)
    where
      none : (J : ℕ) → 0 ≡ 0 * J
      none J = omega arith
  region_exactly (x ∷ xs) =
      cell_area x.cell (tris_of xs) ∙ joined (cell_turn x.cell) (region_turn xs) (2 ^ 1064 * 2 ^ 1064) (sum (map (tri_area m.points) (tris_of xs))) (region_exactly xs)
    where
      joined : (a b J n : ℕ) → n ≡ b * J → a * J + n ≡ (a + b) * J
      joined a b J n e = omega arith

  quad_exactly : (q : Quad) → quad_area m.points q ≡ quad_turn q * (2 ^ 1064 * 2 ^ 1064)
  unfolding quad_area node_at
  quad_exactly q = quad_parts (node_at m q.n0) (node_at m q.n1) (node_at m q.n2) (node_at m q.n3) (g q.n0) (g q.n1) (g q.n2) (g q.n3)

-- ---- the floats are the exact areas
scaled_up : (t r : Whole) (S I M N : ℕ) → N ≡ I * M → Near t (r ⊗ (M, 0)) 0 → Near r (S * I, 0 * I) 0 → Near t (S * N, 0) 0
scaled_up t r S I M N e h n = omega (arith, mul-le-mul_right M n.0, mul-le-mul_right M n.1, ap (λ (z : ℕ). S * z) e)

-- S parts of 2 ^ -21
as_units : (x : Float) (S : ℕ) → Is x (S, 0) 2097152 → pos (S * (2 ^ 1064 * 2 ^ 1064)) ≡ units x *ℤ pos (2 ^ 1075)
as_units x S h =
    let n = in_units binary64 2097152 1053 refl most (lit< tt) (lit< tt) x (S, 0) h in
    equal (pos (S * (2 ^ 1064 * 2 ^ 1064))) (units x *ℤ pos (2 ^ 1075)) (S * (2 ^ 1064 * 2 ^ 1064), 0) (itself (S * (2 ^ 1064 * 2 ^ 1064)))
    (scaled_up (ofℤ (units x *ℤ pos (2 ^ 1075))) (W x) S (2 ^ 1053) (2 ^ 1075) (2 ^ 1064 * 2 ^ 1064) refl (mul_same (units x) (pos (2 ^ 1075)) (W x) (2 ^ 1075, 0) (units_is x) (itself (2 ^ 1075))) n)
  where
    itself : (k : ℕ) → Near (k, 0) (k, 0) 0
    itself k = omega arith

module _ (m : Mesh) (g : (v : ℕ) → Placed (node_at m v)) where
  -- The float sum of the triangles' areas has no rounding error: its units, times 2 ^ 1075, are twice the exact sum.
  pub region_exact : (cells : List Live) → length cells ≤ 1048576 → pos (tris_area m.points (tris_of cells)) ≡ units (region_area m cells) *ℤ pos (2 ^ 1075)
  region_exact cells l = ap pos (region_exactly m g cells) ∙ as_units (region_area m cells) (region_turn m g cells) (region_is m g cells l)

  -- Nor has the float of the quad's area.
  pub quad_exact : (q : Quad) → pos (quad_area m.points q) ≡ units (floats.abs (plane.quad_area (node_at m q.n0) (node_at m q.n1) (node_at m q.n2) (node_at m q.n3))) *ℤ pos (2 ^ 1075)
  quad_exact q = ap pos (quad_exactly m g q) ∙ as_units (expected m g q) (quad_turn m g q) (expected_is m g q)

-- Where the areas agree by the float test, the triangles' exact areas add up to the quad's.
pub agrees_exactly : (m : Mesh) → ((v : ℕ) → Placed (node_at m v)) → (q : Quad) (cells : List Live) → length cells ≤ 1048576
    → area_agrees m q cells ≡ true → tris_area m.points (tris_of cells) ≡ quad_area m.points q
unfolding area_agrees area_slack
agrees_exactly m g q cells l h =
    region_exactly m g cells ∙ ap (λ (n : ℕ). n * (2 ^ 1064 * 2 ^ 1064)) (agreeing m g q cells l h) ∙ sym (quad_exactly m g q)
