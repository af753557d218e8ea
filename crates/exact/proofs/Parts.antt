-- Relative errors, in parts of 10 ^ 12.
use Rattle.std.specs.Prelude.{◌≡◌, ◌+◌, ◌*◌, ◌^◌, ◌<◌, ◌≤◌}
use Rattle.laws.specs.Kit.{refl, ℕ, arith, mul-le-mul, mul-le-mul_left, mul-le-mul_right, le_of_mul-le-mul_right, lit≤}
use Rattle.std.proofs.Math.Nat.{le_of_mul-le-mul_left}
use Rattle.exact.specs.Parts.{M, Parts, billion}

pub MIs : M ≡ 1000 * billion
unfolding M billion
MIs = refl

pub billion_many : 1000 ≤ billion
unfolding billion
billion_many = lit≤ tt

pub MMany : 1000000 ≤ M
unfolding M billion
MMany = lit≤ tt

-- a double has 9,000 times as many
pub MDeep : 1000 * M ≤ 2 ^ 53
unfolding M billion
MDeep = lit≤ tt

pub parts_put : (k a b c : ℕ) → Parts k a b → Parts k (a * c) (b * c)
parts_put k a b c h = omega (arith, mul-le-mul_right c h.0, mul-le-mul_right c h.1)

pub parts_cut : (k a b c : ℕ) → 0 < c → Parts k (a * c) (b * c) → Parts k a b
parts_cut k a b c P h = (le_of_mul-le-mul_right (omega arith) P, le_of_mul-le-mul_right (omega arith) P)

-- the law for a product of j parts and k parts, for a bound n on both numbers
pub parts_mul : (j k n a b c d : ℕ) → j ≤ n → k ≤ n → 4 * (n * n) ≤ M → Parts j a b → Parts k c d → Parts (j + k + 1) (a * c) (b * d)
parts_mul j k n a b c d J K N h g =
    let x = mul-le-mul h.0 g.0 in
    let y = mul-le-mul h.1 g.1 in
    let jk : j * k ≤ n * n = mul-le-mul J K in
    let s : 4 * (j * k) * (b * d) ≤ M * (b * d) = mul-le-mul_right (b * d) (omega arith) in
    let u = mul-le-mul_right (k * d) h.0 in
    let u' = mul-le-mul_right (j * b) g.0 in
    (le_of_mul-le-mul_left {k = M} (omega arith) (omega (arith, MMany)), le_of_mul-le-mul_left {k = M} (omega arith) (omega (arith, MMany)))

-- a is b, and b is c
pub parts_trans : (j k n a b c : ℕ) → j ≤ n → k ≤ n → 4 * (n * n) ≤ M → Parts j a b → Parts k b c → Parts (j + k + 1) a c
parts_trans j k n a b c J K N h g =
    let jk : j * k ≤ n * n = mul-le-mul J K in
    let s : j * k * c ≤ M * c = mul-le-mul_right c (omega arith) in
    let x = mul-le-mul_left (M + j) g.0 in
    let x' = mul-le-mul_left M h.0 in
    let y = mul-le-mul_left M g.1 in
    let y' = mul-le-mul_left M h.1 in
    let z = mul-le-mul_left j g.0 in
    (le_of_mul-le-mul_left {k = M} (omega arith) (omega (arith, MMany)), le_of_mul-le-mul_left {k = M} (omega arith) (omega (arith, MMany)))
