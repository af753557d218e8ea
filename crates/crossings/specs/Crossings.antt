-- What is said of a crossing edge.
use Rattle.std.specs.Prelude.{◌≡◌, Option, Some, None}
use Rattle.laws.specs.Kit.{none, ℕ}
use Rattle.definition.specs.Cells.{Mesh}
use Rattle.definition.specs.Flips.{first_crossing}
use Rattle.crossings.specs.Cross.{FirstAt}

-- it is the definition's, the smaller node first
abbrev pub IsFirst : Mesh → ℕ → ℕ → ℕ → Option (ℕ × ℕ) → Type 0
IsFirst m n u v (Some e) = FirstAt m n u v e.0 e.1
IsFirst m n u v None = first_crossing m u v ≡ none
