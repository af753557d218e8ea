-- The worst so far in the definition's words, and the quad that has it.
use Rattle.std.specs.Prelude as code
use Rattle.laws.specs.Kit.{Option, none, some, ℕ}
use Rattle.definition.specs.Sheet.{Value}

-- the worst as the code has it
unfoldable pub worst_in : code.Option Value → Option Value
worst_in code.None = none
worst_in (code.Some v) = some v

-- the quad that has the worst, and n where there is none
unfoldable pub quad_of : ℕ → Option Value → ℕ
quad_of n none = n
quad_of n (some v) = v.0
