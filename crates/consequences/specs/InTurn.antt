-- Trials over a run: its attempts one after the other, each made on the mesh that the one before left.
-- Each tried exactly as many pairs as an attempt on its mesh does, and the trials add up to those counted.
use Rattle.std.specs.Prelude.{◌≡◌, ◌⊎◌, ◌+◌, ◌<◌, ◌∷◌, ◌++◌}
use Rattle.laws.specs.Kit.{refl, sym, ◌∙◌, ap, subst, inl, inr, Bool, true, false, cond, ℕ, arith, List, [], map, append-nil, length, length-append}
use Rattle.definition.specs.Lists.{flat_map}
use Rattle.definition.specs.Numbers.{Settings}
use Rattle.definition.specs.Counts.{Counts, tally, ◌⊞◌, no_counts, emptied, one_attempt, Spent, nothing_spent, spending, at_limit, Refusal, Placement, Shape, Recovery, Region, OddRegion, refused_by, Want}
use Rattle.definition.specs.Plane.{Node, Edge}
use Rattle.definition.specs.Cells.{Tri, Quad, Mesh, is_front, triangles}
use Rattle.definition.specs.Attempt.{Attempt, placed, refused, ended, try_quad}
use Rattle.definition.specs.Front.{State, Progress, stuck, progressed, limited, stopped, counting, after, make_attempt, past_limit, attempt, front_loop, Result, ran, wanting, new_mesh, start, result, outcome, run_front}
use Rattle.definition.specs.Call.{Asked, Lent, Lengths, finished, given_points, given_tris, given_locks, first_points, first_quads, first_tris, settings_within, call_within}
use Rattle.definition.specs.Account.{sum}
use Rattle.laws.specs.Bools.{which, cond_ok}
use Rattle.laws.specs.Lists.{flat_map_append}
use Rattle.account.specs.Valid.{Valid}
use Rattle.account.specs.Start.{Proper}
use Rattle.account.proofs.Start.{start_valid}
use Rattle.account.proofs.Weights.{total_append}
use Rattle.account.specs.Pairs.{pairs_of}
use Rattle.account.specs.Trials.{TrialsExact}
use Rattle.account.proofs.Trials.{trials_exact}
use Rattle.consequences.specs.ValidWalks.{Leads, Closes}
use Rattle.account.proofs.Slices.{read_points, read_quads, read_triangles}
use Rattle.account.proofs.Finished.{behind, given_proper}

-- ---- one attempt
-- what a run makes of an edge: an edge that is off the front by then is refused under placement
unfoldable pub made_on : Settings → Mesh → Edge → Attempt
made_on s m e = cond (is_front m e) (try_quad s m e) (refused Placement nothing_spent m)

-- the mesh that it leaves
unfoldable pub left_by : Attempt → Mesh
left_by (placed n m q) = m
left_by (refused why n m) = m
left_by (ended w n m) = m

-- the quad that it placed
unfoldable pub quad_by : Attempt → List Quad
quad_by (placed n m q) = q ∷ []
quad_by (refused why n m) = []
quad_by (ended w n m) = []

-- ---- one after the other
-- the attempts on the edges, from the mesh m on
unfoldable pub in_turn : Settings → Mesh → List Edge → List Attempt
in_turn s m [] = []
in_turn s m (e ∷ es) = made_on s m e ∷ in_turn s (left_by (made_on s m e)) es

-- the mesh that they leave
unfoldable pub left_in_turn : Settings → Mesh → List Edge → Mesh
left_in_turn s m [] = m
left_in_turn s m (e ∷ es) = left_in_turn s (left_by (made_on s m e)) es

-- the trials that it spent
unfoldable pub trials_by : Attempt → ℕ
trials_by (placed n m q) = n.trials
trials_by (refused why n m) = n.trials
trials_by (ended w n m) = n.trials

-- On the front its trials are exact on the mesh that it was made on; off it there is none.
abbrev pub ExactOn : Settings → Mesh → Edge → Type 0
ExactOn s m e =
    ((is_front m e ≡ true) × TrialsExact s (pairs_of s m e) (made_on s m e)) ⊎ ((is_front m e ≡ false) × (trials_by (made_on s m e) ≡ 0))

-- each is exact
abbrev pub AllExact : Settings → Mesh → List Edge → Type 0
AllExact s m [] = Unit {0}
AllExact s m (e ∷ es) = ExactOn s m e × AllExact s (left_by (made_on s m e)) es

-- The attempts that brought a run from the mesh m to its counts, its mesh and its quads.
pub record InTurn (s : Settings) (m : Mesh) (c : Counts) (end : Mesh) (quads : List Quad) : Type 0 where
  -- their edges
  pub on : List Edge
  -- as many as are counted, but for the one that a limit stopped
  pub number : length on + c.limit ≡ c.attempts
  -- each tried what an attempt on its mesh tries
  pub exact : AllExact s m on
  -- their trials add up to those counted
  pub trials : sum (map trials_by (in_turn s m on)) ≡ c.trials
  -- the last one left the mesh, and those that placed a quad placed these
  pub mesh : left_in_turn s m on ≡ end
  pub quads_are : flat_map quad_by (in_turn s m on) ≡ quads
