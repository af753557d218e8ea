-- `hashing::times_prime`: the product in three parts, each below 2^64 once its multiples of 2^64 are taken off.
use Rattle.std.proofs.Common.{◌≡◌, ℕ, ◌+◌, ◌*◌, ◌/◌, ◌%◌, ◌^◌, sym, ap, ◌∙◌, div-add-mod', arith}
use native.Mathlib.Nat.{mod-add-mod, add-mul-mod_self_right}
use Rattle.hashing.proofs.times_prime.Goals as goal

-- the product, of the quotients and remainders of x by 2^24 and by 2^32, and of the greater part's product by 2^32
split : (x a b q l e f : ℕ) → a * 16777216 + b ≡ x → q * 4294967296 + l ≡ x → e * 4294967296 + f ≡ q * 435 →
    x * 1099511628211 ≡ b * 1099511627776 + l * 435 + f * 4294967296 + (a + e) * 18446744073709551616
split x a b q l e f h i j = omega (arith, h, i, j)

-- the three parts, added and wrapped
parts : (x r s : ℕ) → s ≡ (x % 16777216 * 1099511627776 + x % 4294967296 * 435) % 2 ^ 64 →
    r ≡ (s + x / 4294967296 * 435 % 4294967296 * 4294967296) % 2 ^ 64 → r ≡ (x * 1099511628211) % 2 ^ 64
parts x r s h i =
    let top = x % 16777216 * 1099511627776 + x % 4294967296 * 435 in
    let high = x / 4294967296 * 435 % 4294967296 * 4294967296 in
    let over = x / 16777216 + x / 4294967296 * 435 / 4294967296 in
    i
    ∙ ap (λ z. (z + high) % 2 ^ 64) h
    ∙ mod-add-mod top (2 ^ 64) high
    ∙ sym (add-mul-mod_self_right (top + high) over (2 ^ 64))
    ∙ sym (ap (λ z. z % 2 ^ 64) (split x (x / 16777216) (x % 16777216) (x / 4294967296) (x % 4294967296) (x / 4294967296 * 435 / 4294967296) (x / 4294967296 * 435 % 4294967296)
    (div-add-mod' x 16777216) (div-add-mod' x 4294967296) (div-add-mod' (x / 4294967296 * 435) 4294967296)))

pub returns : goal.returns
returns c = parts c.args.x c.wrapping_add_u64-2.result c.wrapping_add_u64.result c.wrapping_add_u64.ensures.value c.wrapping_add_u64-2.ensures.value
