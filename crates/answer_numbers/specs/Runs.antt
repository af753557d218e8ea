-- The numbers of a run.
use Rattle.std.specs.Prelude.{cond, List, [], ◌∷◌, ℕ, eqb}
use Rattle.mesher.specs.Promise.{Reply}

-- the numbers of a finished run in their order
abbrev pub numbers : Reply → List ℕ
numbers r =
    r.front_empty
    ∷ r.attempts
    ∷ r.placement
    ∷ r.invalid_quad
    ∷ r.recovery
    ∷ r.region
    ∷ r.odd_region
    ∷ r.mismatch_insertions
    ∷ r.limit
    ∷ r.quads
    ∷ r.triangles
    ∷ r.points
    ∷ r.components
    ∷ r.trials
    ∷ r.words
    ∷ []

-- the number of a call whose answer is too short: 1 to 3 and 14 come before 4
abbrev pub up_to_4 : ℕ → ℕ
up_to_4 k = cond (eqb k 1) 1 (cond (eqb k 2) 2 (cond (eqb k 3) 3 (cond (eqb k 14) 14 4)))
