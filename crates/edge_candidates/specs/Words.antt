-- A double in two words, the lower half of its bits first.
use Rattle.std.specs.Prelude.{◌≡◌, ◌≢◌, ◌+◌, ◌*◌, ◌^◌}
use Rattle.laws.specs.Kit.{false, ℕ, List, length, get_or, Float}
use Rattle.std.specs.Float.Ieee.{is_nan}
use Rattle.definition.specs.Floats.{f64}
use Rattle.definition.specs.Plane.{Vec}

-- the float that stands at `at`
unfoldable pub float_at : List ℕ → ℕ → Float
float_at w at = f64 (get_or w at 0 + get_or w (at + 1) 0 * 2 ^ 32)

-- the vector that stands there
abbrev pub vec_at : List ℕ → ℕ → Vec
vec_at w at = record { dx = float_at w at; dy = float_at w (at + 2) }

-- neither of its parts is a NaN
pub record Numbers (w : List ℕ) (at : ℕ) : Type 0 where
  pub dx : is_nan (float_at w at) ≡ false
  pub dy : is_nan (float_at w (at + 2)) ≡ false

-- x stands at `at`, and nothing else changed
pub record PutTo (w w' : List ℕ) (at : ℕ) (x : Float) : Type 0 where
  pub len : length w' ≡ length w
  pub is : float_at w' at ≡ x
  pub rest : (i : ℕ) → i ≢ at → i ≢ at + 1 → get_or w' i 0 ≡ get_or w i 0
