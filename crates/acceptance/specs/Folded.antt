-- What is folded of a call: the refusal's number, the counts, the lengths and the trials, then the lists,
-- the sizes and the points as the whole slices hold them at exit.
use Rattle.std.specs.Prelude.{List, [], ◌∷◌, ℕ, Float}
use Rattle.std.specs.Float.{binary64}
use Rattle.std.specs.Float.Ieee.{to_bits}
use Rattle.definition.specs.Counts.{Counts}
use Rattle.definition.specs.Call.{Answer, Lengths, Returned, counts_of, lengths_of}
use Rattle.hashing.specs.Hash.{hash, word}
use Rattle.mesher.specs.Promise.{number_of}

-- the nine counts that are written, the lengths and the trials
unfoldable pub counted : Counts → Lengths → List ℕ
counted c n =
    c.front_empty
    ∷ c.attempts
    ∷ c.placement
    ∷ c.invalid_quad
    ∷ c.recovery
    ∷ c.region
    ∷ c.odd_region
    ∷ c.mismatch_insertions
    ∷ c.limit
    ∷ n.quads
    ∷ n.triangles
    ∷ n.points
    ∷ n.components
    ∷ c.trials
    ∷ []

-- the numbers of an answer; all but the first are 0 in a refusal
unfoldable pub numbers : Answer → List ℕ
numbers a = number_of a ∷ counted (counts_of a) (lengths_of a)

-- the hash h with the quads, the triangles left, the sizes of their components and the points
unfoldable pub with_slices : ℕ → List ℕ → List ℕ → List ℕ → List Float → ℕ
with_slices h quads out components points =
    let placed = hash word h quads in
    let left = hash word placed out in
    let sizes = hash word left components in
    hash (to_bits binary64) sizes points

-- the hash h with what a call returned
unfoldable pub folded : ℕ → Returned → ℕ
folded h x =
    let l = x.lent in
    with_slices (hash word h (numbers x.answer)) l.quads l.triangles_out l.components l.points
