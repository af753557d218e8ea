-- Trace: it changes nothing else.
-- A call with a trace that 11 does not refuse gives the answer and the slices that it gives without one,
-- but for the trace and its words.
use Rattle.std.specs.Prelude.{◌≡◌, ◌≢◌, ◌+◌, ◌∷◌}
use Rattle.laws.specs.Kit.{refl, ◌∙◌, ap, inl, inr, Bool, true, false, cond, ℕ, zero, suc, List, [], length}
use Rattle.definition.specs.Lists.{find}
use Rattle.definition.specs.Numbers.{Settings}
use Rattle.definition.specs.Counts.{one_attempt, nothing_spent, at_limit, Placement, number}
use Rattle.definition.specs.Plane.{Node, Edge}
use Rattle.definition.specs.Cells.{Tri, Mesh, owners, is_front, live_tris, front, triangles}
use Rattle.definition.specs.Trace.{words_in, traced}
use Rattle.definition.specs.Loops.{front_loops}
use Rattle.definition.specs.Attempt.{Attempt, placed, refused, ended, try_quad}
use Rattle.definition.specs.Front.{State, Progress, stuck, progressed, limited, stopped, counting, after, make_attempt, past_limit, attempt, try_edges, is_blocked, is_open, open_edges, try_loops, round, front_loop, Result, Outcome, ran, wanting, new_mesh, start, result, outcome, run_front}
use Rattle.definition.specs.Call.{Asked, Lent, Returned, Answer, finished, refusal, given_points, given_tris, given_joints, given_locks, onto, too_short, unknown_node, repeated_node, far_point, bad_grid, bad_joints, conditions, settings_within, lengths, written, untouched, after_run, call_within}
use Rattle.laws.specs.Bools.{which}
use Rattle.laws.specs.Lists.{known}
use Rattle.consequences.specs.Replays.{rebuilt_lengths, with_trace}
use Rattle.consequences.specs.Quiet.{quiet}
use Rattle.consequences.specs.Untraced.{NotTrace, quiet_s, Heard, quiet_a}

-- ---- states
unfoldable pub quiet_st : State → State
quiet_st st = record { mesh = quiet st.mesh; quads = st.quads; blocked = st.blocked; counts = st.counts }

unfoldable pub quiet_p : Progress → Progress
quiet_p (stuck st) = stuck (quiet_st st)
quiet_p (progressed st) = progressed (quiet_st st)
quiet_p (limited st) = limited (quiet_st st)
quiet_p (stopped w st) = stopped w (quiet_st st)

-- no trace was wanting
abbrev pub HeardP : Progress → Type 0
HeardP (stuck st) = Unit {0}
HeardP (progressed st) = Unit {0}
HeardP (limited st) = Unit {0}
HeardP (stopped w st) = NotTrace w

-- ---- the run
-- its result without the words
unfoldable pub quiet_result : Result → Result
quiet_result r = record { counts = r.counts; quads = r.quads; triangles = r.triangles; points = r.points; sizes = r.sizes; trace = [] }

unfoldable pub quiet_o : Outcome → Outcome
quiet_o (ran r) = ran (quiet_result r)
quiet_o (wanting w ps qs ws) = wanting w ps qs []

-- no trace was wanting
abbrev pub HeardO : Outcome → Type 0
HeardO (ran r) = Unit {0}
HeardO (wanting w ps qs ws) = NotTrace w

-- ---- the call
-- the answer without the number of words
unfoldable pub without_words : Answer → Answer
without_words (finished c n) = finished c (rebuilt_lengths n)
without_words (refusal k) = refusal k
