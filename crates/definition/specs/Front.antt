-- The front: steps, rounds and the run. `front_loop` and `run_front` of the Rust.
use Rattle.std.specs.Prelude.{Bool, not, ◌&&◌, ◌||◌, cond, List, [], ◌∷◌, ◌++◌, ℕ, zero, suc, ◌+◌, ltb, length}
use Rattle.definition.specs.Lists.{filter, contains}
use Rattle.definition.specs.Floats.{◌≺◌, 1·0}
use Rattle.definition.specs.Numbers.{Settings, max_triangles, tiny_size}
use Rattle.definition.specs.Counts.{Counts, ◌⊞◌, no_counts, emptied, one_attempt, nothing_spent, spending, at_limit, Placement, refused_by, Want}
use Rattle.definition.specs.Plane.{Node, Edge}
use Rattle.definition.specs.Cells.{Tri, Quad, tri, Live, Mesh, new_live, quad_nodes, has_edge_in, is_front, live_tris, triangles, front}
use Rattle.definition.specs.Trace.{traced}
use Rattle.definition.specs.Components.{component_sizes}
use Rattle.definition.specs.Loops.{front_loops, by_length}
use Rattle.definition.specs.Attempt.{Attempt, placed, refused, ended, try_quad}

-- ---- a step

-- what a run has so far
pub record State : Type 0 where
  pub mesh : Mesh
  pub quads : List Quad
  pub blocked : List Edge
  pub counts : Counts

-- after an attempt or a round: no quad; a quad placed; a limit ended the run; want of lent memory ended it
pub data Progress : Type 0 where
  stuck : State → Progress
  progressed : State → Progress
  limited : State → Progress
  stopped : Want → State → Progress

-- the state of a run with so much more counted
unfoldable pub counting : State → Counts → State
counting st c = record { mesh = st.mesh; quads = st.quads; blocked = st.blocked; counts = st.counts ⊞ c }

-- neither end of the edge is a node of the quad
unfoldable pub clear_of : Quad → Edge → Bool
clear_of q e = not (contains (quad_nodes q) e.0) && not (contains (quad_nodes q) e.1)

-- a quad frees the blocked edges that touch its nodes
unfoldable pub freed : Quad → List Edge → List Edge
freed q es = filter (clear_of q) es

-- a quad is written after those already there; a refused edge is blocked
unfoldable pub after : State → Edge → Attempt → Progress
after st e (placed n m q) =
    progressed (record { mesh = m; quads = st.quads ++ (q ∷ []); blocked = freed q st.blocked; counts = st.counts ⊞ spending n })
after st e (refused why n m) =
    stuck (record { mesh = m; quads = st.quads; blocked = e ∷ st.blocked; counts = st.counts ⊞ spending n ⊞ refused_by why })
after st e (ended w n m) =
    stopped w (record { mesh = m; quads = st.quads; blocked = st.blocked; counts = st.counts ⊞ spending n })

-- an edge that a flip of its round took off the front is refused under placement
unfoldable pub make_attempt : Settings → State → Edge → Progress
make_attempt s st e =
    let tried = try_quad s st.mesh e in
    after st e (cond (is_front st.mesh e) tried (refused Placement nothing_spent st.mesh))

-- A limit is passed, where `given` triangles were given.
-- The stopping attempt is counted and not made.
unfoldable pub past_limit : Settings → ℕ → State → Bool
past_limit s given st = ltb s.attempts st.counts.attempts || ltb (max_triangles given) (live_tris st.mesh)

-- every candidate counts an attempt
unfoldable pub attempt : Settings → ℕ → State → Edge → Progress
attempt s given st e =
    let counted = counting st one_attempt in
    let made = make_attempt s counted e in
    cond (past_limit s given counted) (limited (counting counted at_limit)) made

-- ---- edges, loops, rounds

-- the edges one after the other, until one gives a quad
unfoldable pub try_edges : Settings → ℕ → State → List Edge → Progress
try_edges s given st [] = stuck st
try_edges s given st (e ∷ es) =
    elim (attempt s given st e) [
      | stuck st' ↦ try_edges s given st' es
      | progressed st' ↦ progressed st'
      | limited st' ↦ limited st'
      | stopped w st' ↦ stopped w st'
    ]

-- the edge was refused, and no quad that touches it was placed since
unfoldable pub is_blocked : State → Edge → Bool
is_blocked st e = has_edge_in st.blocked e

-- the edge is on the front and not blocked
unfoldable pub is_open : State → Edge → Bool
is_open st e = is_front st.mesh e && not (is_blocked st e)

-- a loop's open edges when its turn comes, by length
unfoldable pub open_edges : State → List Edge → List Edge
open_edges st es = by_length st.mesh.points (filter (is_open st) es)

-- the loops one after the other, until one gives a quad
unfoldable pub try_loops : Settings → ℕ → State → List (List Edge) → Progress
try_loops s given st [] = stuck st
try_loops s given st (l ∷ ls) =
    elim (try_edges s given st (open_edges st l)) [
      | stuck st' ↦ try_loops s given st' ls
      | progressed st' ↦ progressed st'
      | limited st' ↦ limited st'
      | stopped w st' ↦ stopped w st'
    ]

-- the loops are those of the front as the round finds it
unfoldable pub round : Settings → ℕ → State → List Edge → Progress
round s given st [] = stuck (counting st emptied)
round s given st (e ∷ es) = try_loops s given st (front_loops st.mesh.points (e ∷ es))

-- rounds, until one places no quad; each that does makes an attempt, so the limit on attempts ends them in time
unfoldable pub front_loop : ℕ → Settings → ℕ → State → Progress
front_loop zero s given st = stuck st
front_loop (suc n) s given st =
    elim (round s given st (front st.mesh)) [
      | stuck st' ↦ stuck st'
      | progressed st' ↦ front_loop n s given st'
      | limited st' ↦ stuck st'
      | stopped w st' ↦ stopped w st'
    ]

-- ---- the run

-- what a run returns
pub record Result : Type 0 where
  pub counts : Counts
  pub quads : List Quad
  pub triangles : List Tri
  pub points : List Node
  pub sizes : List ℕ
  pub trace : List ℕ

-- ran to its end, also where a limit ended the run;
-- or ended for want of lent memory, with the points, the quads and the entries so far
pub data Outcome : Type 0 where
  ran : Result → Outcome
  wanting : Want → List Node → List Quad → List ℕ → Outcome

-- each given triangle in the slot of its place
unfoldable pub in_slots : ℕ → List Tri → List Live
in_slots n [] = []
in_slots n (t ∷ ts) = new_live n (tri t) ∷ in_slots (suc n) ts

-- `CellMesh::new`: every given triangle live; without a size the bucket is 1.0;
-- these edges are locked; nothing happened
unfoldable pub new_mesh : Settings → (Edge → Bool) → List Tri → List Node → Mesh
new_mesh s locked ts ps =
    record {
      points = ps;
      used = length ts;
      live = in_slots 0 ts;
      bucket = cond (tiny_size ≺ s.size) s.size 1·0;
      locked = locked;
      room = s.room;
      history = [];
    }

-- the given mesh, nothing made, blocked or counted
unfoldable pub start : Settings → (Edge → Bool) → List Tri → List Node → State
start s locked ts ps =
    record {
      mesh = new_mesh s locked ts ps;
      quads = [];
      blocked = [];
      counts = no_counts;
    }

-- the leftover triangles by ascending slot, the sizes of their components, and the trace
unfoldable pub result : State → Result
result st =
    let left = triangles st.mesh in
    record { counts = st.counts; quads = st.quads; triangles = left; points = st.mesh.points; sizes = component_sizes left; trace = traced st.mesh }

-- the end of a run
unfoldable pub outcome : Progress → Outcome
outcome (stuck st) = ran (result st)
outcome (progressed st) = ran (result st)
outcome (limited st) = ran (result st)
outcome (stopped w st) = wanting w st.mesh.points st.quads (traced st.mesh)

-- rounds enough: each that places a quad makes an attempt, and at most `attempts` are made
unfoldable pub run_front : Settings → (Edge → Bool) → List Tri → List Node → Outcome
run_front s locked ts ps = outcome (front_loop (s.attempts + 2) s (length ts) (start s locked ts ps))
