-- Whole numbers of either sign as a difference p - n of two naturals, (p, n), and how far two of them lie apart.
use Rattle.std.specs.Prelude.{◌≡◌, ◌⊎◌, ◌+◌, ◌-◌, ◌*◌, ◌<◌, ◌≤◌}
use Rattle.laws.specs.Kit.{ap, subst, inl, inr, ℕ, suc, arith, dec_le, mul-le-mul, mul-le-mul_left, mul-le-mul_right, le_of_mul-le-mul_right}
use Rattle.std.proofs.Common.{subst₂, add-sub_of_le}
use Rattle.exact.specs.Near.{Near, Whole, Within, abs, ◌⊖◌, ◌⊗◌, ◌⊙◌}

pub near_trans : (x y z : Whole) (E F : ℕ) → Near x y E → Near y z F → Near x z (E + F)
near_trans x y z E F h k = omega arith

pub near_same : (x y z : Whole) (E : ℕ) → Near x y E → Near y z 0 → Near x z E
near_same x y z E h k = omega arith

pub near_weaken : (x y : Whole) (E F : ℕ) → E ≤ F → Near x y E → Near x y F
near_weaken x y E F h k = omega arith

pub near_sub : (x x' y y' : Whole) (E F : ℕ) → Near x x' E → Near y y' F → Near (x ⊖ y) (x' ⊖ y') (E + F)
near_sub x x' y y' E F h k = omega arith

pub near_within : (x y : Whole) (E B : ℕ) → Near x y E → Within y B → Within x (B + E)
near_within x y E B h k = omega arith

-- |x - y| |z| ≤ E B, with z = r and with z = -r
scale_up : (x y : Whole) (E B n r : ℕ) → Near x y E → r ≤ B → Near (x ⊗ (n + r, n)) (y ⊗ (n + r, n)) (E * B)
scale_up x y E B n r h k = omega (arith, mul-le-mul_right r h.0, mul-le-mul_right r h.1, mul-le-mul_left E k)

scale_down : (x y : Whole) (E B n r : ℕ) → Near x y E → r ≤ B → Near (x ⊗ (n, n + r)) (y ⊗ (n, n + r)) (E * B)
scale_down x y E B n r h k = omega (arith, mul-le-mul_right r h.0, mul-le-mul_right r h.1, mul-le-mul_left E k)

pub near_scale : (x y z : Whole) (E B : ℕ) → Near x y E → Within z B → Near (x ⊗ z) (y ⊗ z) (E * B)
near_scale x y z E B h k = elim (dec_le z.1 z.0) [
  | yes l ↦ subst (λ (w : ℕ). Near (x ⊗ (w, z.1)) (y ⊗ (w, z.1)) (E * B)) (add-sub_of_le l) (scale_up x y E B z.1 (z.0 - z.1) h (omega arith))
  | no l ↦ subst (λ (w : ℕ). Near (x ⊗ (z.0, w)) (y ⊗ (z.0, w)) (E * B)) (add-sub_of_le (omega arith)) (scale_down x y E B z.0 (z.1 - z.0) h (omega arith))
]

-- |x z - y w| ≤ |x - y| |z| + |y| |z - w|
pub near_mul : (x y z w : Whole) (E F A B : ℕ) → Near x y E → Near z w F → Within y A → Within z B → Near (x ⊗ z) (y ⊗ w) (E * B + F * A)
near_mul x y z w E F A B h k a b = let p = near_scale x y z E B h b in let q = near_scale z w y F A k a in omega arith

-- |x| |y| ≤ A B
pub within_mul : (x y : Whole) (A B : ℕ) → Within x A → Within y B → Within (x ⊗ y) (A * B)
within_mul x y A B a b = let p = near_scale x (0, 0) y A B (omega arith) b in omega arith

-- a factor above zero is taken off, and put on
pub near_cut : (x y : Whole) (E k : ℕ) → 0 < k → Near (x ⊙ k) (y ⊙ k) (E * k) → Near x y E
near_cut x y E k K h = (le_of_mul-le-mul_right (omega arith) K, le_of_mul-le-mul_right (omega arith) K)

pub near_put : (x y : Whole) (E k : ℕ) → Near x y E → Near (x ⊙ k) (y ⊙ k) (E * k)
near_put x y E k h = omega (arith, mul-le-mul_right k h.0, mul-le-mul_right k h.1)

pub within_cut : (x : Whole) (B k : ℕ) → 0 < k → Within (x ⊙ k) (B * k) → Within x B
within_cut x B k K h = (le_of_mul-le-mul_right (omega arith) K, le_of_mul-le-mul_right (omega arith) K)

pub within_put : (x : Whole) (B k : ℕ) → Within x B → Within (x ⊙ k) (B * k)
within_put x B k h = omega (arith, mul-le-mul_right k h.0, mul-le-mul_right k h.1)

pub abs_within : (x : Whole) → Within x (abs x)
unfolding abs
abs_within x = omega arith

pub abs_le : (x : Whole) (B : ℕ) → Within x B → abs x ≤ B
unfolding abs
abs_le x B h = omega arith

pub abs_ge' : (x : Whole) (B : ℕ) → x.0 + B ≤ x.1 → B ≤ abs x
unfolding abs
abs_ge' x B h = omega arith

pub abs_turned : (x : Whole) → abs (x.1, x.0) ≡ abs x
unfolding abs
abs_turned x = omega arith

pub abs_cases : (x : Whole) → (x.0 ≡ x.1 + abs x) ⊎ (x.1 ≡ x.0 + abs x)
unfolding abs
abs_cases x = elim (dec_le x.0 x.1) [ yes l ↦ inr (omega arith) | no l ↦ inl (omega arith) ]

-- |x| k ≤ B
pub abs_scale : (x : Whole) (k B : ℕ) → Within (x ⊙ k) B → abs x * k ≤ B
abs_scale x k B h = elim (abs_cases x) [
  | inl e ↦ omega (arith, ap (λ (z : ℕ). z * k) e)
  | inr e ↦ omega (arith, ap (λ (z : ℕ). z * k) e)
]

-- x x is |x| |x|
square_of : (p n a : ℕ) → p ≡ n + a → p * p + n * n ≡ a * a + (p * n + n * p)
square_of p n a e = omega (arith, ap (λ (z : ℕ). p * z) e, ap (λ (z : ℕ). n * z) e, ap (λ (z : ℕ). a * z) e)

pub abs_square : (x : Whole) → Near (x ⊗ x) (abs x * abs x, 0) 0
abs_square x = elim (abs_cases x) [
  | inl e ↦ omega (arith, square_of x.0 x.1 (abs x) e)
  | inr e ↦ omega (arith, square_of x.1 x.0 (abs x) e)
]

-- equal factors have equal products
pub same_scale : (x y z : Whole) → Near x y 0 → Near (x ⊗ z) (y ⊗ z) 0
same_scale x y z h = omega (arith, near_scale x y z 0 (abs z) h (abs_within z))

pub same_times : (x x' y y' : Whole) → Near x x' 0 → Near y y' 0 → Near (x ⊗ y) (x' ⊗ y') 0
same_times x x' y y' h k = omega (arith, same_scale x x' y h, same_scale y y' x' k)

-- ---- relative errors: x and y lie within E / Q and F / Q of z and w
scale_out : (x y : Whole) (Q : ℕ) → (x ⊙ Q) ⊗ (y ⊙ Q) ≡ x ⊗ y ⊙ Q ⊙ Q
scale_out x y Q =
    let e : (x ⊙ Q).0 * (y ⊙ Q).0 + (x ⊙ Q).1 * (y ⊙ Q).1 ≡ (x ⊗ y ⊙ Q ⊙ Q).0 = omega arith in
    let e' : (x ⊙ Q).0 * (y ⊙ Q).1 + (x ⊙ Q).1 * (y ⊙ Q).0 ≡ (x ⊗ y ⊙ Q ⊙ Q).1 = omega arith in
    λ i. (e i, e' i)

pub near_mul_rel : (x y z w : Whole) (Q a b E F G : ℕ) → 0 < Q → Near (x ⊙ Q) (z ⊙ Q) E → Near (y ⊙ Q) (w ⊙ Q) F → Within z a → Within w b → E * (b * Q + F) + F * (a * Q) ≤ G * Q → Near (x ⊗ y ⊙ Q) (z ⊗ w ⊙ Q) G
near_mul_rel x y z w Q a b E F G P h k c d l =
    let n = near_mul (x ⊙ Q) (z ⊙ Q) (y ⊙ Q) (w ⊙ Q) E F (a * Q) (b * Q + F) h k (within_put z a Q c) (near_within (y ⊙ Q) (w ⊙ Q) F (b * Q) k (within_put w b Q d)) in
    near_cut (x ⊗ y ⊙ Q) (z ⊗ w ⊙ Q) G Q P
    (near_weaken (x ⊗ y ⊙ Q ⊙ Q) (z ⊗ w ⊙ Q ⊙ Q) (E * (b * Q + F) + F * (a * Q)) (G * Q) l
    (subst₂ (λ (u v : Whole). Near u v (E * (b * Q + F) + F * (a * Q))) (scale_out x y Q) (scale_out z w Q) n))

-- ---- squares of naturals
twice_product : (n r : ℕ) → 2 * (n * (n + r)) ≤ n * n + (n + r) * (n + r)
twice_product n r = omega arith

pub amgm : (x y : ℕ) → 2 * (x * y) ≤ x * x + y * y
amgm x y = elim (dec_le x y) [
  | yes l ↦ subst (λ (z : ℕ). 2 * (x * z) ≤ x * x + z * z) (add-sub_of_le l) (twice_product x (y - x))
  | no l ↦ omega (arith, subst (λ (z : ℕ). 2 * (y * z) ≤ y * y + z * z) (add-sub_of_le {n = x} {m = y} (omega arith)) (twice_product y (x - y)))
]

-- Cauchy and Schwarz
pub cauchy : (a b c d : ℕ) → (a * c + b * d) * (a * c + b * d) ≤ (a * a + b * b) * (c * c + d * d)
cauchy a b c d = omega (arith, amgm (a * d) (b * c))

pub root_le : (a b : ℕ) → a * a ≤ b * b → a ≤ b
root_le a b h = elim (dec_le a b) [ yes l ↦ l | no l ↦ let k : suc b ≤ a = omega arith in absurd (omega (arith, mul-le-mul k k)) ]
