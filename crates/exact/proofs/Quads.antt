-- A quad whose float metrics pass: each corner turns left, and its exact cosine is at most the limit plus 1e-9.
use Rattle.std.specs.Prelude.{◌≡◌, ◌+◌, ◌-◌, ◌*◌, ◌^◌, ◌<◌, ◌≤◌}
use Rattle.laws.specs.Kit.{refl, false, ℕ, arith, lit≤, T, Float, binary64, sub}
use Rattle.definition.specs.Root.{sqrt}
use Rattle.definition.specs.Floats.{◌⊘◌, ◌≼◌, 1e-12}
use Rattle.definition.specs.Floats as floats
use Rattle.definition.specs.Numbers.{tiny_cross}
use Rattle.definition.specs.Plane.{from_to}
use Rattle.definition.specs.Plane as plane
use Rattle.definition.specs.Metrics.{Corner, not_convex, angle_of}
use Rattle.definition.specs.Exact.{exact_cross, exact_dot, squared_length, arrow, next_side, last_side, TurnsLeft, CosineAtMost}
use Rattle.exact.specs.Near.{Whole, Near, abs, ◌⊖◌, ◌⊗◌}
use Rattle.exact.proofs.Near.{near_same, abs_ge'}
use Rattle.exact.specs.Parts.{billion}
use Rattle.exact.specs.Values.{whole, Ok}
use Rattle.exact.proofs.Order.{not_le}
use Rattle.exact.proofs.Room.{room64}
use Rattle.exact.specs.Dot.{dot, dotW}
use Rattle.exact.proofs.Dot.{comp}
use Rattle.exact.specs.Corner.{norm}
use Rattle.exact.proofs.Corner.{corner}
use Rattle.exact.specs.Units.{ofℤ, W, wx, wy}
use Rattle.exact.proofs.Units.{cross_is, dot_is, length_is, above_zero}
use Rattle.exact.proofs.Cosine.{from_whole}
use Rattle.exact.proofs.Lengths.{length_root}
use Rattle.exact.specs.Points.{At, exactly}
use Rattle.exact.proofs.Points.{further, cross_ok, cross_above, tiny_ok}
use Rattle.exact.specs.Quads.{NearCorner}

-- ---- a corner turns left
-- (h - p) x (n - p) is (n - h) x (p - h)
turned : (px py hx hy nx ny : Whole) → Near ((nx ⊖ hx) ⊗ (py ⊖ hy) ⊖ (ny ⊖ hy) ⊗ (px ⊖ hx)) ((hx ⊖ px) ⊗ (ny ⊖ py) ⊖ (hy ⊖ py) ⊗ (nx ⊖ px)) 0
turned px py hx hy nx ny = omega arith

-- and -((p - h) x (n - h))
far : (px py hx hy nx ny : Whole) (B : ℕ) → ((hx ⊖ px) ⊗ (ny ⊖ py) ⊖ (hy ⊖ py) ⊗ (nx ⊖ px)).1 + B < ((hx ⊖ px) ⊗ (ny ⊖ py) ⊖ (hy ⊖ py) ⊗ (nx ⊖ px)).0 → B ≤ abs ((px ⊖ hx) ⊗ (ny ⊖ hy) ⊖ (py ⊖ hy) ⊗ (nx ⊖ hx))
far px py hx hy nx ny B h = abs_ge' ((px ⊖ hx) ⊗ (ny ⊖ hy) ⊖ (py ⊖ hy) ⊗ (nx ⊖ hx)) B (omega arith)

pub tiny : tiny_cross ≡ 1e-12
unfolding tiny_cross
tiny = refl

module _ (k : Corner) (n : NearCorner k) (h : not_convex k ≡ false) where
  by_far : (exactly k.before k.here k.after).1 + 2 ^ 1021 * 2 ^ 1074 < (exactly k.before k.here k.after).0
  unfolding not_convex ◌≼◌
  by_far =
      let c = plane.cross k.before k.here k.after in
      let o = (cross_ok k.before k.here k.after n.0 n.1 (further k.after 8 40 (lit≤ tt) n.2)).0 in
      cross_above k.before k.here k.after n.0 n.1 (further k.after 8 40 (lit≤ tt) n.2) (not_le binary64 c 1e-12 o tiny_ok (rw tiny at h))

  pub turns_left : TurnsLeft k
  unfolding next_side last_side
  turns_left =
      let p = k.before in
      let e = k.here in
      let q = k.after in
      above_zero (exact_cross (arrow e q) (arrow e p)) (exactly p e q)
      (near_same (ofℤ (exact_cross (arrow e q) (arrow e p))) (wx e q ⊗ wy e p ⊖ wy e q ⊗ wx e p) (exactly p e q) 0 (cross_is e q e p) (turned (W p.x) (W p.y) (W e.x) (W e.y) (W q.x) (W q.y)))
      (less (exactly p e q) (2 ^ 1021 * 2 ^ 1074) by_far)
    where
      less : (C : Whole) (B : ℕ) → C.1 + B < C.0 → C.1 < C.0
      less C B l = omega arith

  -- ---- its cosine

  abbrev quotient : Float
  quotient = (angle_of k).product ⊘ (angle_of k).sides

  -- what `corner` gives of this corner
  pub measured_corner : Ok binary64 quotient
      × ((t : Float) → Ok binary64 t → (whole binary64 t).0 ≤ 2 ^ 1074 → T (quotient ≼ t)
      → CosineAtMost (billion * (whole binary64 t).0 + 2 ^ 1074) (billion * 2 ^ 1074) k)
  unfolding angle_of from_to plane.dot plane.norm dot floats.◌⊕◌ floats.◌⊖◌ floats.◌⊗◌ ◌⊘◌ ◌≼◌ next_side last_side
  measured_corner =
      let p = k.before in
      let e = k.here in
      let q = k.after in
      let R = room64 in
      let b = 2 ^ 1021 in
      let x0 = comp binary64 b R p.x e.x n.0.0 n.1.0 in
      let x1 = comp binary64 b R p.y e.y n.0.1 n.1.1 in
      let y0 = comp binary64 b R q.x e.x n.2.0 n.1.0 in
      let y1 = comp binary64 b R q.y e.y n.2.1 n.1.1 in
      let ux = sub binary64 p.x e.x in
      let uy = sub binary64 p.y e.y in
      let vx = sub binary64 q.x e.x in
      let vy = sub binary64 q.y e.y in
      let c = corner binary64 b R ux uy vx vy (sqrt (dot binary64 ux uy ux uy)) (sqrt (dot binary64 vx vy vx vy)) (wx e p) (wy e p) (wx e q) (wy e q) x0 x1 y0 y1
      (length_root ux uy (wx e p) (wy e p) x0 x1) (length_root vx vy (wx e q) (wy e q) y0 y1)
      (far (W p.x) (W p.y) (W e.x) (W e.y) (W q.x) (W q.y) (2 ^ 1021 * 2 ^ 1074) by_far) in (
        c.0,
        λ t o l test.
            let m = dotW (wx e p) (wy e p) (wx e q) (wy e q) in
            from_whole (billion * (whole binary64 t).0 + 2 ^ 1074) (billion * 2 ^ 1074) k m
            (near_same (ofℤ (exact_dot (arrow e q) (arrow e p))) (dotW (wx e q) (wy e q) (wx e p) (wy e p)) m 0 (dot_is e q e p) (commutes (wx e q) (wy e q) (wx e p) (wy e p)))
            (arranged billion (2 ^ 1074) (m.0 - m.1) (billion * (whole binary64 t).0 + 2 ^ 1074) (norm (wx e p) (wy e p)) (norm (wx e q) (wy e q)) (squared_length (arrow e p)) (squared_length (arrow e q)) (length_is e p) (length_is e q) (c.1 t o l test)),
      )
    where
      commutes : (a b c d : Whole) → Near (dotW a b c d) (dotW c d a b) 0
      commutes a b c d = omega arith

      arranged : (B L D n A N a b : ℕ) → a ≡ A → b ≡ N → B * B * (L * L) * (D * D) ≤ n * n * (A * N) → B * L * (B * L) * (D * D) ≤ n * n * (b * a)
      arranged B L D n A N a b e e' h = rw (e, e') (omega arith)
