-- Whatever the ends of an attempt keep, the run keeps. That every mesh is valid is part of the walk.
use Rattle.std.specs.Prelude.{◌≡◌, ◌+◌, ◌<◌, ◌∷◌, ◌++◌}
use Rattle.laws.specs.Kit.{refl, sym, subst, inl, inr, Bool, true, some, ℕ, zero, suc, arith, List, [], length}
use Rattle.definition.specs.Numbers.{Settings}
use Rattle.definition.specs.Counts.{◌⊞◌, emptied, one_attempt, Spent, nothing_spent, spending, at_limit, Refusal, Placement, refused_by, Want}
use Rattle.definition.specs.Plane.{Node, Edge}
use Rattle.definition.specs.Cells.{Tri, Quad, Live, Mesh, all_edges, is_front, front}
use Rattle.definition.specs.Flips.{flip}
use Rattle.definition.specs.Insertion.{split_triangle}
use Rattle.definition.specs.Loops.{front_loops}
use Rattle.definition.specs.Attempt.{Attempt, placed, refused, ended, try_quad}
use Rattle.definition.specs.Front.{State, Progress, stuck, progressed, limited, stopped, counting, freed, after, make_attempt, past_limit, attempt, try_edges, open_edges, try_loops, round, front_loop, Result, ran, wanting, start, result, outcome, run_front}
use Rattle.laws.specs.Lists.{In}
use Rattle.laws.specs.Bools.{cond_ok}
use Rattle.account.specs.Valid.{Valid}
use Rattle.account.specs.Steps.{Splitting, Made, AttemptOk}

-- ---- the states after an attempt that was counted
-- the edge is blocked
abbrev pub after_refused : State → Edge → Refusal → Spent → Mesh → State
after_refused st e why n m = record { mesh = m; quads = st.quads; blocked = e ∷ st.blocked; counts = st.counts ⊞ one_attempt ⊞ spending n ⊞ refused_by why }

-- the quad is there
abbrev pub after_placed : State → Spent → Mesh → Quad → State
after_placed st n m q = record { mesh = m; quads = st.quads ++ (q ∷ []); blocked = freed q st.blocked; counts = st.counts ⊞ one_attempt ⊞ spending n }

-- the run ends for want of lent memory
abbrev pub after_ended : State → Spent → Mesh → State
after_ended st n m = record { mesh = m; quads = st.quads; blocked = st.blocked; counts = st.counts ⊞ one_attempt ⊞ spending n }

-- a limit ends the run
abbrev pub after_limit : State → State
after_limit st = counting (counting st one_attempt) at_limit

-- ---- the rule
-- an edge on the front, its smaller node first
pub record OnFront (m : Mesh) (e : Edge) : Type 0 where
  pub order : e.0 < e.1
  pub front : is_front m e ≡ true

-- Q holds between attempts, with the edges that wait.
-- P holds, from the state before, of the meshes in an attempt, with the number of its insertions so far.
-- R holds of the state in which want of lent memory ends the run.
pub record Rule (s : Settings) (Q : State → List Edge → Type 0) (P : State → List Edge → ℕ → Mesh → Type 0) (R : State → Type 0) : Type 0 where
  pub opens : (st : State) (es : List Edge) → Valid st.mesh → Q st [] → ((e : Edge) → In e es → OnFront st.mesh e) → Q st es
  pub begins : (st : State) (es : List Edge) → Q st es → P st es 0 st.mesh
  pub flips : (st : State) (es : List Edge) (n : ℕ) (m m' : Mesh) (e : Edge) → Valid m → P st es n m → In e (all_edges m) → flip m e ≡ some m' → P st es n m'
  pub splits : (st : State) (es : List Edge) (n : ℕ) (m : Mesh) (x : Live) (t : Tri) (p : Node) → Valid m → P st es n m → Splitting s st.mesh m x t p
      → P st es (suc n) (split_triangle m x.slot t p)
  pub refuses : (st : State) (e : Edge) (es : List Edge) (why : Refusal) (n : Spent) (m : Mesh) → Q st (e ∷ es) → Valid m → P st (e ∷ es) n.insertions m
      → Q (after_refused st e why n m) es
  pub places : (st : State) (e : Edge) (es : List Edge) (n : Spent) (m : Mesh) (q : Quad) → Q st (e ∷ es) → Made s (λ n m. Valid m × P st (e ∷ es) n m) n.insertions m q
      → Q (after_placed st n m q) []
  pub ends : (st : State) (e : Edge) (es : List Edge) (n : Spent) (m : Mesh) → Q st (e ∷ es) → Valid m → P st (e ∷ es) n.insertions m → R (after_ended st n m)
  pub limits : (st : State) (es : List Edge) → Q st es → Q (after_limit st) []
  pub empties : (st : State) → Q st [] → Q (counting st emptied) []

-- a state with a valid mesh and Q
abbrev pub Sound : (State → List Edge → Type 0) → State → List Edge → Type 0
Sound Q st es = Valid st.mesh × Q st es

-- what an attempt, a loop or a round leaves; es are the edges that still wait where it is stuck
abbrev pub ProgressOk : (State → List Edge → Type 0) → (State → Type 0) → List Edge → Progress → Type 0
ProgressOk Q R es (stuck st) = Sound Q st es
ProgressOk Q R es (progressed st) = Sound Q st []
ProgressOk Q R es (limited st) = Sound Q st []
ProgressOk Q R es (stopped w st) = Valid st.mesh × R st

-- the smaller node comes first
abbrev pub Ordered : List Edge → Type 0
Ordered es = (e : Edge) → In e es → e.0 < e.1
