-- What the square of a guess leaves over, by halves of 27 digits, from differences modulo 2 ^ 64. Assumes nothing.
use Rattle.std.specs.Prelude.{◌≡◌, ◌+◌, ◌*◌, ◌/◌, ◌%◌, ◌^◌, ◌<◌, ◌≤◌}
use Rattle.laws.specs.Kit.{sym, subst, ℕ, arith}
use Rattle.root.specs.Exact.{WholeRoot}

square_of : (t a b : ℕ) → t ≡ a * 2 ^ 27 + b → t * t ≡ a * a * 2 ^ 54 + a * b * 2 * 2 ^ 27 + b * b
square_of t a b e = subst (λ (x : ℕ). x * x ≡ a * a * 2 ^ 54 + a * b * 2 * 2 ^ 27 + b * b) (sym e) (omega arith)

-- a difference that wrapped is too large for the test that follows it
pub whole : (r t hh hl ll over left d : ℕ)
    → hh ≡ t / 2 ^ 27 * (t / 2 ^ 27) → hl ≡ t / 2 ^ 27 * (t % 2 ^ 27) → ll ≡ t % 2 ^ 27 * (t % 2 ^ 27)
    → hh < 2 ^ 58 → hl < 2 ^ 58 → ll < 2 ^ 58 → t < 2 ^ 56
    → (over + hh) % 2 ^ 64 ≡ r → over < 2 ^ 30
    → (left + hl * 2) % 2 ^ 64 ≡ over * 2 ^ 27 → left < 2 ^ 30
    → (d + ll) % 2 ^ 64 ≡ left * 2 ^ 27
    → d ≤ 2 * t → WholeRoot (r * 2 ^ 54) t d
whole r t hh hl ll over left d p q s hhb hlb llb tb f fo g gl k kd =
    let a : over + hh ≡ r = omega arith in
    let b : left + hl * 2 ≡ over * 2 ^ 27 = omega arith in
    let c : d + ll ≡ left * 2 ^ 27 = omega arith in
    let e : t ≡ t / 2 ^ 27 * 2 ^ 27 + t % 2 ^ 27 = omega arith in
    let u : t * t ≡ hh * 2 ^ 54 + hl * 2 * 2 ^ 27 + ll = omega (arith, p, q, s, square_of t (t / 2 ^ 27) (t % 2 ^ 27) e) in
    record { sum = omega (arith, a, b, c, u); least = kd }
