-- The lent memory and the standing stand for a state of a run.
use Rattle.std.specs.Prelude.{◌≡◌, Bool, false, not, ◌&&◌, ◌||◌, List, [], ◌∷◌, ℕ, ◌*◌, ◌≤◌, length, Float}
use Rattle.std.specs.Float.Ieee.{eq}
use Rattle.definition.specs.Lists.{flat_map}
use Rattle.definition.specs.Floats.{◌≼◌, 0·0}
use Rattle.definition.specs.Numbers.{max_attempts}
use Rattle.definition.specs.Counts.{one_attempt}
use Rattle.definition.specs.Plane.{Node, Edge}
use Rattle.definition.specs.Cells.{Tri}
use Rattle.definition.specs.Front.{State, Progress, stuck, progressed, limited, stopped, counting, past_limit}
use Rattle.definition.specs.Call.{onto, quad_words, least_size, most_size}
use Rattle.definition.specs.Account.{All}
use Rattle.laws.specs.Lists.{In}
use Rattle.laws.specs.Frames.{Stays}
use Rattle.rules.specs.declared.Rules.{Rules}
use Rattle.rules.specs.Settings.{settings_of}
use Rattle.account.specs.Start.{Proper}
use Rattle.account.specs.Reach.{Reach}
use Rattle.exact.specs.Theorems.{Within}
use Rattle.traces.specs.Log.{Logged}
use Rattle.cells.specs.Layout.{front_u_at, near_at}
use Rattle.outcomes.specs.Ready.{Ready, Behind}
use Rattle.settling.specs.declared.standing.Standing.{Standing}
use Rattle.settling.specs.declared.standing.Step.{Step}
use Rattle.settling.specs.declared.standing.Going.TheVariants as goings
use Rattle.settling.specs.Standings.{counts_of}
use Rattle.settling.specs.Settles.{KeptSoFar, want_kind}

-- what a run was given, beside the numbers: the locked edges, triangles, points,
-- and the slices of points, quads and trace as they were
pub record Begun : Type 0 where
  pub locked : Edge → Bool
  pub ts : List Tri
  pub ps : List Node
  pub floats : List Float
  pub old : List ℕ
  pub log : List ℕ

-- all that stays for a run
pub record Setup : Type 0 where
  pub rules : Rules
  pub begun : Begun

-- from the rules and what was given
abbrev pub setup : Rules → Begun → Setup
setup rules k = record { rules = rules; begun = k }

-- refusal 2 passes the size
abbrev pub Sized : Float → Type 0
Sized size = not (eq size 0·0 || least_size ≼ size && size ≼ most_size) ≡ false

-- what every run has
pub record Fixed (x : Setup) : Type 0 where
  pub proper : Proper x.begun.ps x.begun.ts
  pub given : x.rules.given ≡ length x.begun.ts
  pub few : x.rules.given ≤ 4096
  pub attempts : x.rules.attempts ≤ max_attempts x.rules.given
  pub points : length x.begun.ps ≤ x.rules.lay.points
  pub slots : length x.begun.ts ≤ x.rules.lay.slots
  pub within : All Within x.begun.ps
  pub sized : Sized x.rules.size
  pub room : 8 * x.rules.lay.slots ≤ length x.begun.old

-- the memory stands for the state; no record of refusals
pub record Leaves (w : List ℕ) (q : List Float) (quads t : List ℕ) (x : Setup) (g : Standing) (st : State) : Type 0 where
  pub ready : Ready w q x.rules g.counters st.mesh
  pub counts : counts_of g ≡ st.counts
  pub number : g.quads ≡ length st.quads
  pub text : quads ≡ onto (flat_map quad_words st.quads) x.begun.old
  pub behind : Behind x.begun.floats q (length st.mesh.points)
  pub log : Logged x.begun.log t g.words st.mesh

-- the memory stands for the state, ever are the edges that have a record
pub record Holds (w : List ℕ) (q : List Float) (quads t : List ℕ) (x : Setup) (g : Standing) (st : State) (ever : List Edge) : Type 0 where
  pub ready : Ready w q x.rules g.counters st.mesh
  pub counts : counts_of g ≡ st.counts
  pub behind : Behind x.begun.floats q (length st.mesh.points)
  pub log : Logged x.begun.log t g.words st.mesh
  pub so_far : KeptSoFar w quads x.rules.lay.slots x.rules.lay.points g ever st.blocked st.quads x.begun.old

-- a run reaches the state, with the edges es waiting
pub record Reaches (x : Setup) (st : State) (ever es : List Edge) : Type 0 where
  pub fixed : Fixed x
  pub old : List Edge
  pub reach : Reach (settings_of x.rules) x.begun.locked x.begun.ts x.begun.ps st old es
  pub sub : (e : Edge) → In e ever → In e old

-- the run goes on from the state that the memory stands for
pub record Goes (w : List ℕ) (q : List Float) (quads t : List ℕ) (x : Setup) (g : Standing) (st : State) (es : List Edge) : Type 0 where
  pub ever : List Edge
  pub holds : Holds w q quads t x g st ever
  pub reaches : Reaches x st ever es

-- the front's edges, its loops and their marks are as they were
abbrev pub FrontKept : List ℕ → List ℕ → ℕ → ℕ → Type 0
FrontKept w w' s p = Stays w w' (front_u_at s p) (near_at s p)

-- after a step, by cases; es still wait where no quad was placed
abbrev pub Stepped : List ℕ → List Float → List ℕ → List ℕ → Setup → List Edge → Progress → Step → Type 0
Stepped w q quads t x es (stuck st) r = (r.kind ≡ goings.Stuck) × Goes w q quads t x r.standing st es
Stepped w q quads t x es (progressed st) r = (r.kind ≡ goings.Progressed) × Goes w q quads t x r.standing st []
Stepped w q quads t x es (limited st) r = (r.kind ≡ goings.Limited) × Leaves w q quads t x r.standing st
Stepped w q quads t x es (stopped wt st) r = (r.kind ≡ want_kind wt) × Leaves w q quads t x r.standing st

-- the attempt on e is counted, and no limit is passed
pub record Makes (w : List ℕ) (q : List Float) (quads t : List ℕ) (x : Setup) (g : Standing) (st : State) (e : Edge) (es : List Edge) : Type 0 where
  pub ever : List Edge
  pub holds : Holds w q quads t x g (counting st one_attempt) ever
  pub reaches : Reaches x st ever (e ∷ es)
  pub below : past_limit (settings_of x.rules) x.rules.given (counting st one_attempt) ≡ false

-- what an attempt leaves, and that the front's areas are as they were
pub record StepTo (w w' : List ℕ) (q' : List Float) (quads' t' : List ℕ) (x : Setup) (es : List Edge) (p : Progress) (r : Step) : Type 0 where
  pub is : Stepped w' q' quads' t' x es p r
  pub front : FrontKept w w' x.rules.lay.slots x.rules.lay.points
