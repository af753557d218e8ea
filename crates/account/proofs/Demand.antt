-- Account: every finished call keeps its account, with what `exact` proves of the floats.
use Rattle.laws.specs.Kit.{ℕ}
use Rattle.definition.specs.Call.{Asked, Lent}
use Rattle.definition.specs.Account.{KeepsAccount}
use Rattle.exact.proofs.Theorems.{passing_quad, wide, inside, permitted_limit}
use Rattle.account.specs.Geometry.{Geometry}
use Rattle.account.proofs.Kept as Kept

geometry : Geometry
geometry = record { passing = passing_quad; limit = permitted_limit; wide = wide; inside = inside }

-- every finished call keeps its account, for whatever the caller hands in, and whatever the lent memory holds
pub keeps_account : (most : ℕ) (a : Asked) (l : Lent) → KeepsAccount most a l
keeps_account most a l = Kept.keeps_account geometry most a l
