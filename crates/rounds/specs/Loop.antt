-- The whole run of the front: what it asks and what it leaves.
use Rattle.std.specs.Prelude.{◌≡◌, Result, Ok, Err, Bool, true, false, List, ℕ, ◌*◌, ◌≤◌, length, Float}
use Rattle.definition.specs.Lists.{flat_map}
use Rattle.definition.specs.Numbers.{max_attempts}
use Rattle.definition.specs.Counts.{Want}
use Rattle.definition.specs.Plane.{Node, Edge}
use Rattle.definition.specs.Cells.{Tri}
use Rattle.definition.specs.Front.{State, Progress, stuck, progressed, limited, stopped, start}
use Rattle.definition.specs.Call.{onto, quad_words}
use Rattle.definition.specs.Account.{All}
use Rattle.rules.specs.declared.Rules.{Rules}
use Rattle.rules.specs.Settings.{settings_of}
use Rattle.account.specs.Start.{Proper}
use Rattle.exact.specs.Theorems.{Within}
use Rattle.traces.specs.Log.{Logged}
use Rattle.cells.specs.declared.counters.Counters.{Counters}
use Rattle.outcomes.specs.Ready.{Ready, Behind}
use Rattle.outcomes.specs.Ends.{shortage_of}
use Rattle.outcomes.specs.declared.Shortage.{Shortage}
use Rattle.settling.specs.declared.standing.Standing.{Standing}
use Rattle.settling.specs.declared.standing.Going.{Going}
use Rattle.settling.specs.declared.standing.Going.TheVariants as goings
use Rattle.settling.specs.declared.standing.Run.{Run}
use Rattle.settling.specs.Standings.{counts_of}
use Rattle.attempts.specs.Runs.{Setup, Sized, Leaves}

-- ---- how it ends

-- done, or what there was too little of
abbrev pub Finish : Type 0
Finish = Result (Unit {0}) Shortage

-- a quad was placed
abbrev pub is_progressed : Going → Bool
is_progressed goings.Stuck = false
is_progressed goings.Progressed = true
is_progressed goings.Limited = false
is_progressed (goings.Short short) = false

-- how a run ends whose last step ended so
abbrev pub finish_of : Going → Finish
finish_of goings.Stuck = Ok tt
finish_of goings.Progressed = Ok tt
finish_of goings.Limited = Ok tt
finish_of (goings.Short short) = Err short

-- for want of lent memory
abbrev pub want_finish : Want → Finish
want_finish wt = Err (shortage_of wt)

-- the memory stands for the last state, by cases
abbrev pub Finished : List ℕ → List Float → List ℕ → List ℕ → Setup → Progress → Run → Type 0
Finished w q quads t x (stuck st) r = (r.finish ≡ Ok tt) × Leaves w q quads t x r.standing st
Finished w q quads t x (progressed st) r = (r.finish ≡ Ok tt) × Leaves w q quads t x r.standing st
Finished w q quads t x (limited st) r = (r.finish ≡ Ok tt) × Leaves w q quads t x r.standing st
Finished w q quads t x (stopped wt st) r = (r.finish ≡ want_finish wt) × Leaves w q quads t x r.standing st

-- ---- the start

-- nothing counted but what the counters c have
pub record Begins (c : Counters) (g : Standing) : Type 0 where
  pub counters : g.counters ≡ c
  pub front : g.tally.front_empty ≡ 0
  pub placement : g.tally.placement ≡ 0
  pub invalid : g.tally.invalid_quad ≡ 0
  pub recovery : g.tally.recovery ≡ 0
  pub region : g.tally.region ≡ 0
  pub odd : g.tally.odd_region ≡ 0
  pub insertions : g.tally.mismatch_insertions ≡ 0
  pub limit : g.tally.limit ≡ 0
  pub trials : g.tally.trials ≡ 0
  pub quads : g.quads ≡ 0
  pub records : g.records ≡ 0
  pub words : g.words ≡ 0

-- the slices stand for the given triangles ts and points ps, with the locked edges lk, and have the room
-- that the lent slices must have; refusals 1 to 7 were tested
pub record CanRun (w : List ℕ) (q f : List Float) (quads t : List ℕ) (rules : Rules) (c : Counters) (lk : Edge → Bool) (ts : List Tri) (ps : List Node) : Type 0 where
  pub ready : Ready w q rules c (start (settings_of rules) lk ts ps).mesh
  pub proper : Proper ps ts
  pub is_given : rules.given ≡ length ts
  pub few : rules.given ≤ 4096
  pub attempts : rules.attempts ≤ max_attempts rules.given
  pub points : length ps ≤ rules.lay.points
  pub slots : length ts ≤ rules.lay.slots
  pub fresh : c.attempts ≡ 0
  pub within : All Within ps
  pub sized : Sized rules.size
  pub floats : 3 * rules.lay.slots ≤ length f
  pub room : 8 * rules.lay.slots ≤ length quads
  pub trace : rules.room ≡ length t

-- ---- the end

-- the slices, the counters and the tally stand for the last state, and the trace for what happened to its mesh
pub record LeftRun (w w' : List ℕ) (q q' f f' : List Float) (quads quads' t t' : List ℕ) (rules : Rules) (st : State) (r : Run) : Type 0 where
  pub ready : Ready w' q' rules r.standing.counters st.mesh
  pub counts : counts_of r.standing ≡ st.counts
  pub number : r.standing.quads ≡ length st.quads
  pub text : quads' ≡ onto (flat_map quad_words st.quads) quads
  pub behind : Behind q q' (length st.mesh.points)
  pub words : length w' ≡ length w
  pub reals : length f' ≡ length f
  pub log : Logged t t' r.standing.words st.mesh

-- by cases
abbrev pub RunTo : List ℕ → List ℕ → List Float → List Float → List Float → List Float → List ℕ → List ℕ → List ℕ → List ℕ → Rules → Progress → Run → Type 0
RunTo w w' q q' f f' quads quads' t t' rules (stuck st) r = (r.finish ≡ Ok tt) × LeftRun w w' q q' f f' quads quads' t t' rules st r
RunTo w w' q q' f f' quads quads' t t' rules (progressed st) r = (r.finish ≡ Ok tt) × LeftRun w w' q q' f f' quads quads' t t' rules st r
RunTo w w' q q' f f' quads quads' t t' rules (limited st) r = (r.finish ≡ Ok tt) × LeftRun w w' q q' f f' quads quads' t t' rules st r
RunTo w w' q q' f f' quads quads' t t' rules (stopped wt st) r = (r.finish ≡ want_finish wt) × LeftRun w w' q q' f f' quads quads' t t' rules st r
