-- The magnitude by two comparisons, and a point as the code reads it.
use Rattle.std.specs.Prelude.{◌≡◌, ◌&&◌, ◌||◌, ◌+◌, ◌*◌, ◌<◌}
use Rattle.laws.specs.Kit.{refl, true, false, ℕ, arith, ℕ_discrete, eqb, ltb, eq-eqb, lt-ltb, le-ltb, ℤ, List, length, get_or, Float, binary64, nan, fin, inf, down, up, of_bits, eq, lt, le, neg}
use mathlib.Core.Bool.{and-true}
use Rattle.definition.specs.Floats.{abs, 0·0}
use Rattle.definition.specs.Call.{point_at}
use Rattle.laws.specs.Numbers.{eqb_swap}
use Rattle.laws.specs.Lists.{get_d_any}
use Rattle.refusals.specs.Stated.{spot}

ltb_zero : (a : ℕ) → a ≡ 0 → ltb 0 a ≡ false
ltb_zero a e = le-ltb 0 a (omega arith)

-- -a ≤ b, as `le` computes it
opposite : (a b : ℕ) → (ltb 0 (a + b) || (eqb a b && (false || eqb a 0))) ≡ true
opposite a b = elim (ℕ_discrete (a + b) 0) [
  | yes e ↦ let f : a ≡ 0 = omega arith in let g : a ≡ b = omega arith in rw (ltb_zero (a + b) e, eq-eqb a b g, eq-eqb a 0 f)
  | no d ↦ rw (lt-ltb 0 (a + b) (omega arith))
]

between_fin : (x : Float) (n : ℕ) (d : ℤ) → (le (fin true n d) x && le x (fin false n d)) ≡ le (abs x) (fin false n d)
unfolding le lt eq abs
between_fin nan n d = refl
between_fin (inf true) n d = refl
between_fin (inf false) n d = refl
between_fin (fin true m e) n d =
    rw (opposite (m * up e * down d) (n * up d * down e), eqb_swap (n * up d * down e) (m * up e * down d)) (and-true _)
between_fin (fin false m e) n d = rw (opposite (n * up d * down e) (m * up e * down d))

-- a float lies between -8 and 8 where its magnitude is at most 8
pub between : (x : Float) → (le (neg (of_bits binary64 0x4020000000000000)) x && le x (of_bits binary64 0x4020000000000000)) ≡ le (abs x) (of_bits binary64 0x4020000000000000)
unfolding neg of_bits
between x = between_fin x _ _

-- point i as the code reads its x and y
pub read_point : (ps : List Float) (i : ℕ) → 3 * i + 1 < length ps
    → spot (get_or ps (3 * i) nan) (get_or ps (3 * i + 1) nan) (get_or ps (3 * i + 2) 0·0) ≡ point_at ps i
unfolding point_at
read_point ps i h = rw (get_d_any ps (3 * i) nan 0·0 (omega arith), get_d_any ps (3 * i + 1) nan 0·0 h)
