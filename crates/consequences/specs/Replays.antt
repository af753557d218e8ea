-- Replay: that of a run's trace, in whatever memory, ends in the run's points, quads, triangles and components.
use Rattle.std.specs.Prelude.{◌≡◌, ◌||◌, ◌+◌, ◌*◌, ◌<◌, ◌≤◌, ◌∷◌}
use Rattle.laws.specs.Kit.{refl, sym, ◌∙◌, ap, subst, inl, inr, Bool, true, false, none, ℕ, zero, suc, arith, ltb, le-ltb, List, [], length, take, drop, length-append, Float}
use Rattle.definition.specs.Lists.{find}
use Rattle.definition.specs.Numbers.{Settings}
use Rattle.definition.specs.Counts.{Counts, Want}
use Rattle.definition.specs.Plane.{Edge, Node}
use Rattle.definition.specs.Cells.{Tri, Quad, Event, Mesh, triangles}
use Rattle.definition.specs.Trace.{trace, words_in, traced, quads_placed}
use Rattle.definition.specs.Components.{component_sizes}
use Rattle.definition.specs.Front.{State, Progress, stuck, progressed, limited, stopped, front_loop, Result, Outcome, ran, wanting, new_mesh, start, result, outcome, run_front}
use Rattle.definition.specs.Call.{Asked, Lent, Lengths, finished, refusal, given_points, given_tris, given_locks, first_points, first_quads, first_tris, conditions, over_limit, too_short, unknown_node, repeated_node, far_point, slot_words, point_words, slot_floats, settings_within, settings, onto, written, lengths, after_run, call_within}
use Rattle.definition.specs.Replay.{whole, replay_words, Told, as_asked, rebuilt, ReplayReturned, replay_conditions, after_replay, replay}
use Rattle.laws.specs.Bools.{or_none}
use Rattle.laws.specs.Lists.{In, no_some}
use Rattle.account.proofs.Slices.{read_points, read_quads, read_triangles, read_sizes, points_back, quads_back, numbers_back}
use Rattle.account.proofs.Finished.{behind, given_proper}
use Rattle.account.proofs.Start.{start_valid}
use Rattle.account.specs.Run.{Rule, ProgressOk}
use Rattle.account.proofs.Run.{front_loop_ok, run_ok}
use Rattle.account.specs.Redo.{bare, Redoable}
use Rattle.account.proofs.Redo.{redo_rule, start_redoable}

-- ---- a replay that is not refused by its opening tests
-- A replay, with the numbers t in the memory k, of the first words that a call left.
-- Its given mesh is the call's, and so are its words; no less capacity and no fewer slots are stated,
-- and no opening test refuses it.
-- All else that the memory holds may be anything.
pub record Replaying (a : Asked) (l exit : Lent) (words : ℕ) (t : Told) (k : Lent) : Type 0 where
  pub points : given_points (as_asked t) k ≡ given_points a l
  pub triangles : given_tris (as_asked t) k ≡ given_tris a l
  pub capacity : a.capacity ≤ t.capacity
  pub slots : a.slots ≤ t.slots
  pub words_are : t.words ≡ words
  pub trace_is : take words k.trace ≡ take words exit.trace
  pub opened : find (λ c. c.1) (replay_conditions t k) ≡ none

-- the lengths of a run's lists, and no words
unfoldable pub rebuilt_lengths : Lengths → Lengths
rebuilt_lengths n = record { quads = n.quads; triangles = n.triangles; points = n.points; components = n.components; words = 0 }

-- what a replay returns that ends with a run's lists
unfoldable pub rebuilt_as : Lent → Result → ReplayReturned
rebuilt_as k r = record { answer = rebuilt (rebuilt_lengths (lengths r)); lent = written r.points r.quads r.triangles r.sizes [] k }

-- the replay answers with the run's lengths, and no words; its lists are those that the call left
pub record SameMesh (n : Lengths) (exit : Lent) (r : ReplayReturned) : Type 0 where
  pub answer : r.answer ≡ rebuilt (rebuilt_lengths n)
  pub points : first_points n.points r.lent.points ≡ first_points n.points exit.points
  pub quads : first_quads n.quads r.lent.quads ≡ first_quads n.quads exit.quads
  pub triangles : first_tris n.triangles r.lent.triangles_out ≡ first_tris n.triangles exit.triangles_out
  pub components : take n.components r.lent.components ≡ take n.components exit.components

-- ---- in the memory that the call found
-- what a replay of a call's trace states
unfoldable pub told : Asked → Lengths → Told
told a n = record { given = a.given; capacity = a.capacity; count = a.count; slots = a.slots; words = n.words }

-- the memory as the call found it, with the trace that it left
unfoldable pub with_trace : Lent → List ℕ → Lent
with_trace l ws =
    record {
      points = l.points;
      triangles = l.triangles;
      joints = l.joints;
      quads = l.quads;
      triangles_out = l.triangles_out;
      components = l.components;
      work = l.work;
      float_work = l.float_work;
      trace = ws;
    }

-- the run behind a refused call that passed the tests before the run: it ended with 8, 9 or 11
pub record Stopped (most : ℕ) (a : Asked) (l : Lent) : Type 0 where
  pub want : Want
  pub points : List Node
  pub quads : List Quad
  pub words : List ℕ
  pub ended : run_front (settings_within most (length l.trace) a) (given_locks a l) (given_tris a l) (given_points a l) ≡ wanting want points quads words
  pub exit : (call_within most a l).lent ≡ written points quads [] [] words l
  pub passed : find (λ c. c.1) (conditions a l) ≡ none

-- the replay ends with these points and quads
pub record SameSoFar (ps : List Node) (qs : List Quad) (r : ReplayReturned) : Type 0 where
  pub answered : Lengths
  pub answer : r.answer ≡ rebuilt answered
  pub points_number : answered.points ≡ length ps
  pub quads_number : answered.quads ≡ length qs
  pub points : first_points (length ps) r.lent.points ≡ ps
  pub quads : first_quads (length qs) r.lent.quads ≡ qs
