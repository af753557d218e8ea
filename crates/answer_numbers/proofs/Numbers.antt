-- The numbers of a finished run as fifteen stores, and the number of a call whose answer is too short.
use mathlib.Core.Path.{◌≡◌}
use mathlib.Core.Logic.{◌≢◌}
use mathlib.Core.List.{List}
use Prim.Native.Nat.{ℕ, ◌≤◌}
use native.Mathlib.Omega.{arith}
use lib.ListN.{length, set}
use lib.Seq.{sets-eq}
use borrow.Author.Tests.{ne_eqb}
use Rattle.definition.specs.Call.{onto}
use Rattle.std.specs.Prelude.{Ok}
use Rattle.mesher.specs.declared.Answer.{Answer}
use Rattle.mesher.specs.Promise.{answered}
use Rattle.answer_numbers.specs.Runs.{numbers, up_to_4}

-- the stores, first to last
abbrev stored : List ℕ → Answer → List ℕ
stored xs r =
    set (set (set (set (set (set (set (set (set (set (set (set (set (set (set xs
    0 r.front_empty) 1 r.attempts) 2 r.placement) 3 r.invalid_quad) 4 r.recovery) 5 r.region) 6 r.odd_region) 7 r.mismatch_insertions) 8 r.limit)
    9 r.quads) 10 r.triangles) 11 r.points) 12 r.components) 13 r.trials) 14 r.words

pub written : (xs : List ℕ) (r : Answer) → 15 ≤ length xs → stored xs r ≡ onto (numbers (answered (Ok r))) xs
unfolding onto
written xs r h = sets-eq (numbers (answered (Ok r))) xs 0 (omega (arith, h))

-- none of 1 to 3 and 14 comes before it
pub is_4 : (k : ℕ) → k ≢ 1 → k ≢ 2 → k ≢ 3 → k ≢ 14 → up_to_4 k ≡ 4
is_4 k a b c d = rw (ne_eqb k 1 a, ne_eqb k 2 b, ne_eqb k 3 c, ne_eqb k 14 d)
