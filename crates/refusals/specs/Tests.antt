-- Laws on lengths, and on three entries at a time.
use Rattle.std.specs.Prelude.{◌≡◌, ◌+◌, ◌*◌, ◌/◌, ◌<◌, ◌≤◌}
use Rattle.laws.specs.Kit.{sym, subst, ℕ, arith, ℕ_discrete}

-- a length that is measured as b: too small, and large enough
pub too_small : {a b c : ℕ} → a ≤ c → c ≡ b → b < a → ⊥
too_small h e l = omega arith

pub enough : {a b c : ℕ} → c ≡ b → a ≤ b → a ≤ c
enough e h = omega arith

-- what holds of three entries for each of n holds of all entries below 3 n
pub by_thirds : (P : ℕ → Type 0) (n : ℕ) → ((j : ℕ) → j < n → P (3 * j) × P (3 * j + 1) × P (3 * j + 2)) → (i : ℕ) → i < 3 * n → P i
by_thirds P n h i l =
    let k = h (i / 3) (omega arith) in
    elim (ℕ_discrete i (3 * (i / 3))) [
      | yes e ↦ subst P (sym e) k.0
      | no d ↦ elim (ℕ_discrete i (3 * (i / 3) + 1)) [
        | yes e ↦ subst P (sym e) k.1
        | no e ↦ subst P (omega arith) k.2
      ]
    ]
