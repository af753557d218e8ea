-- What a replay promises: all that the definition's gives.
use Rattle.std.specs.Prelude.{◌≡◌, Result, Ok, Err}
use Rattle.laws.specs.Kit.{ℕ, List, [], Float}
use Rattle.definition.specs.Call.{Lent, Lengths}
use Rattle.definition.specs.Replay as defined
use Rattle.definition.specs.Replay.{ReplayAnswer, rebuilt, unplayed, ReplayReturned}
use Rattle.refusals.specs.declared.named.Refusal.{Refusal}
use Rattle.refusals.specs.Numbers.{number}
use Rattle.retrace.specs.declared.Told.{Told}
use Rattle.retrace.specs.declared.ending.Replayed.{Replayed}

-- ---- the arguments

-- the numbers that the caller states
abbrev pub told_of : Told → defined.Told
told_of t = record { given = t.given; capacity = t.capacity; count = t.count; slots = t.slots; words = t.words }

-- the contents of the eight lent slices; no joints are lent
abbrev pub lent_of : List Float → List ℕ → List ℕ → List ℕ → List ℕ → List ℕ → List ℕ → List Float → Lent
lent_of points triangles trace quads out components work floats =
    record {
      points = points;
      triangles = triangles;
      joints = [];
      quads = quads;
      triangles_out = out;
      components = components;
      work = work;
      float_work = floats;
      trace = trace;
    }

-- ---- the answer

-- 0 where the whole trace was replayed, otherwise the refusal's number
unfoldable pub answer_number : ReplayAnswer → ℕ
answer_number (rebuilt n) = 0
answer_number (unplayed k) = k

-- a refusal has no lists
unfoldable pub answer_lengths : ReplayAnswer → Lengths
answer_lengths (rebuilt n) = n
answer_lengths (unplayed k) = record { quads = 0; triangles = 0; points = 0; components = 0; words = 0 }

-- what came back as numbers: a refusal's, 0 where the whole trace was replayed, then the lengths of its lists
pub record Reply : Type 0 where
  pub refusal : ℕ
  pub quads : ℕ
  pub triangles : ℕ
  pub points : ℕ
  pub components : ℕ

-- what a replay answers; the lengths are 0 in a refusal
abbrev pub answered : Result Replayed Refusal → Reply
answered (Ok r) = record { refusal = 0; quads = r.quads; triangles = r.triangles; points = r.points; components = r.components }
answered (Err k) = record { refusal = number k; quads = 0; triangles = 0; points = 0; components = 0 }

-- the lengths of the four lists that came back; no trace is written
abbrev pub lengths_in : Reply → Lengths
lengths_in r = record { quads = r.quads; triangles = r.triangles; points = r.points; components = r.components; words = 0 }

-- ---- the promise

-- What the definition's replay returned is what came back: r, and the slices as they are at exit.
pub record Replays (x : ReplayReturned) (r : Reply) (exit : Lent) : Type 0 where
  pub lent : x.lent ≡ exit
  pub number : r.refusal ≡ answer_number x.answer
  pub lengths : lengths_in r ≡ answer_lengths x.answer
