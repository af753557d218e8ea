-- The promise of the exported replay: the replay of the definition,
-- with the lengths of its four lists in a slice of their own.
use Rattle.std.specs.Prelude.{◌≡◌, cond, List, [], ◌∷◌, ℕ, ◌<◌, ◌≤◌, length}
use Rattle.definition.specs.Call.{Lent, onto, over_limit}
use Rattle.definition.specs.Replay.{Told, as_asked, ReplayAnswer, rebuilt, unplayed, ReplayReturned, replay}
use Rattle.retrace.specs.Replaying.{answer_number}

-- the lengths in their order; a refusal has none
abbrev pub replay_numbers : ReplayAnswer → List ℕ
replay_numbers (rebuilt n) = n.quads ∷ n.triangles ∷ n.points ∷ n.components ∷ []
replay_numbers (unplayed k) = []

-- With room for the lengths: k is the number of x, 0 where the whole trace was replayed;
-- its lengths come to the front of the slice, a refusal leaves it as it was, and all that is lent is as x leaves it.
pub record Replays (x : ReplayReturned) (old : List ℕ) (k : ℕ) (new : List ℕ) (exit : Lent) : Type 0 where
  pub number : k ≡ answer_number x.answer
  pub answer : new ≡ onto (replay_numbers x.answer) old
  pub lent : exit ≡ x.lent

-- Without: refused, 1 before 4, and nothing is touched.
pub record Unplayed (t : Told) (l : Lent) (old : List ℕ) (k : ℕ) (new : List ℕ) (exit : Lent) : Type 0 where
  pub number : k ≡ cond (over_limit (as_asked t)) 1 4
  pub answer : new ≡ old
  pub lent : exit ≡ l

-- k is returned of a replay that states t and lends l,
-- with `old` in the answer's slice; `new` and `exit` are there then
pub record ExportedReplay (t : Told) (l : Lent) (old : List ℕ) (k : ℕ) (new : List ℕ) (exit : Lent) : Type 0 where
  pub roomy : 4 ≤ length old → Replays (replay t l) old k new exit
  pub short : length old < 4 → Unplayed t l old k new exit
