-- The root of a sum of two squares, as the definition takes a vector's length:
use Rattle.std.specs.Prelude.{◌≡◌, ◌+◌, ◌*◌, ◌^◌, ◌≤◌}
use Rattle.laws.specs.Kit.{refl, ◌∙◌, ap, Bool, true, false, cond, ℕ, zero, suc, arith, ltb, Float, binary64, nan, fin, inf, down, up, round, add, mul}
use Rattle.std.specs.Float.{Format}
use Rattle.std.specs.Float.Ieee.{prec, low, emax, units, odd, sum}
use Rattle.std.specs.Float.Ieee.Fits.{round_is}
use Rattle.std.specs.Float.Ieee.Order.{drop, kept}
use Rattle.definition.specs.Root.{sqrt}
use Rattle.exact.specs.Near.{Whole, Within}
use Rattle.exact.specs.Values.{whole, sign, mag, signed, Ok}
use Rattle.exact.proofs.Order.{is_not}
use Rattle.exact.proofs.Room.{room64}
use Rattle.exact.specs.Root.{Root}
use Rattle.exact.proofs.Root.{root}
use Rattle.exact.specs.Dot.{dot}
use Rattle.exact.proofs.Dot.{Comp, product, dot_near, dot_bound}
use Rattle.exact.specs.Lengths.{Plain}

-- ---- the sign of a result
odd_sign : (d : ℕ) (s : Bool) (q k l : ℕ) → sign (odd d s q k l) ≡ s
unfolding odd
odd_sign d s zero k l = refl
odd_sign d s (suc q) k l = refl

units_sign : (f : Format) (s : Bool) (q k : ℕ) → sign (units f s q k) ≡ s
unfolding units
units_sign f s q k = go (ltb (q * 2 ^ k) (2 ^ (low f + suc (emax f))))
  where
    go : (b : Bool) → sign (cond b (odd (suc (prec f)) s q k (low f)) (inf s)) ≡ s
    go true = odd_sign (suc (prec f)) s q k (low f)
    go false = refl

pub round_sign : (f : Format) (s : Bool) (a c : ℕ) → sign (round f s a c) ≡ s
round_sign f s a c = ap sign (round_is f s a c) ∙ units_sign f s (kept (prec f) (a * 2 ^ low f) c) (drop (prec f) (a * 2 ^ low f) c)

square_plain : (f : Format) (x : Float) → Ok f x → Ok f (mul f x x) → Plain f (mul f x x)
unfolding mul
square_plain f (inf _) o u = elim o [ ]
square_plain f nan o u = elim o [ ]
square_plain f (fin false m e) o u = (u, round_sign f false (m * up e * (m * up e)) (down e * down e))
square_plain f (fin true m e) o u = (u, round_sign f false (m * up e * (m * up e)) (down e * down e))

pub sum_plain : (f : Format) (x y : Float) → Plain f x → Plain f y → Ok f (add f x y) → Plain f (add f x y)
unfolding add sum
sum_plain f nan y p q u = absurd p.0
sum_plain f (inf s) y p q u = absurd p.0
sum_plain f (fin true m e) y p q u = absurd (is_not p.1 tt)
sum_plain f (fin false m e) nan p q u = absurd q.0
sum_plain f (fin false m e) (inf s) p q u = absurd q.0
sum_plain f (fin false m e) (fin true n d) p q u = absurd (is_not q.1 tt)
sum_plain f (fin false m e) (fin false n d) p q u = (u, round_sign f false (m * up e * down d + n * up d * down e) (down e * down d))

pub plain_whole : (f : Format) (x : Float) → sign x ≡ false → (whole f x).1 ≡ 0
unfolding whole
plain_whole f x e = ap (λ (s : Bool). (signed s (mag f x)).1) e

-- ---- the length
plain_bound : (d : Whole) (L : ℕ) → d.1 ≡ 0 → Within d (2048 * L) → d.0 ≤ 1048576 * L
plain_bound d L e h = omega arith

abbrev Component : Float → Whole → Type 0
Component x z = Comp binary64 (2 ^ 1021) room64 x z

pub length_root : (x0 x1 : Float) (z0 z1 : Whole) → Component x0 z0 → Component x1 z1 → Root binary64 (dot binary64 x0 x1 x0 x1) (sqrt (dot binary64 x0 x1 x0 x1))
unfolding dot
length_root x0 x1 z0 z1 h k =
    let q = 2 ^ 1021 in
    let d = dot binary64 x0 x1 x0 x1 in
    let o : Ok binary64 d = (dot_near binary64 q room64 x0 x1 x0 x1 z0 z1 z0 z1 h k h k).0 in
    let p = plain_dot o in
    root d o (plain_whole binary64 d p) (plain_bound (whole binary64 d) (2 ^ 1074) (plain_whole binary64 d p) (dot_bound binary64 q room64 x0 x1 x0 x1 z0 z1 z0 z1 h k h k))
  where
    plain_dot : Ok binary64 (dot binary64 x0 x1 x0 x1) → sign (dot binary64 x0 x1 x0 x1) ≡ false
    plain_dot o =
        (sum_plain binary64 (mul binary64 x0 x0) (mul binary64 x1 x1) (square_plain binary64 x0 h.0 (product binary64 (2 ^ 1021) room64 x0 x0 z0 z0 h h).0) (square_plain binary64 x1 k.0 (product binary64 (2 ^ 1021) room64 x1 x1 z1 z1 k k).0) o).1
