-- What a replay is told, and the lengths of its lists.
use Rattle.std.specs.Prelude.{cond, List, [], ◌∷◌, ℕ, eqb}
use Rattle.definition.specs.Call.{onto}
use Rattle.definition.specs.Replay.{Told}
use Rattle.retrace.specs.Replaying.{Reply}

-- the numbers that the caller states
abbrev pub told_for : ℕ → ℕ → ℕ → ℕ → ℕ → Told
told_for given capacity count slots words = record { given = given; capacity = capacity; count = count; slots = slots; words = words }

-- the lengths in their order
abbrev pub lengths_listed : Reply → List ℕ
lengths_listed r = r.quads ∷ r.triangles ∷ r.points ∷ r.components ∷ []

-- what the slice holds: the lengths before what was there, and after a refusal what was there
abbrev pub lengths_put : Reply → List ℕ → List ℕ
lengths_put r old = cond (eqb r.refusal 0) (onto (lengths_listed r) old) old
