-- Joints: no flip in the history of a run is of a locked edge, whatever ended the run.
use Rattle.std.specs.Prelude.{◌≡◌, ◌+◌, ◌∷◌, ◌++◌}
use Rattle.laws.specs.Kit.{refl, sym, ◌∙◌, ap, subst, Bool, false, none, some, ℕ, List, [], length}
use Rattle.definition.specs.Lists.{find}
use Rattle.definition.specs.Numbers.{Settings}
use Rattle.definition.specs.Plane.{Node, Edge}
use Rattle.definition.specs.Cells.{Tri, Quad, Live, Event, was_split, was_flipped, was_placed, Mesh, is_locked, with_live, noting, set_cell, push_cell, remove_cells}
use Rattle.definition.specs.Trace.{words_in, traced}
use Rattle.definition.specs.Flips.{set_tris, flip}
use Rattle.definition.specs.Insertion.{with_point, split_triangle}
use Rattle.definition.specs.Attempt.{replaced}
use Rattle.definition.specs.Front.{State, Progress, stuck, progressed, limited, stopped, counting, front_loop, Outcome, ran, wanting, new_mesh, start, result, outcome, run_front}
use Rattle.definition.specs.Call.{Asked, Lent, given_points, given_tris, given_locks, onto, conditions, settings_within, written, after_run, call_within}
use Rattle.definition.specs.Account.{All}
use Rattle.laws.specs.Lists.{all_append}
use Rattle.account.proofs.Flips.{flip_free, flip_made}
use Rattle.account.proofs.Locks.{flip_locked}
use Rattle.account.specs.Start.{Proper}
use Rattle.account.proofs.Start.{start_valid}
use Rattle.account.specs.Run.{Rule, ProgressOk}
use Rattle.account.proofs.Run.{front_loop_ok}
use Rattle.account.proofs.Finished.{given_proper}

-- ---- a run
-- the state in which the rounds end
unfoldable pub at_end : Progress → State
at_end (stuck st) = st
at_end (progressed st) = st
at_end (limited st) = st
at_end (stopped w st) = st

-- the words of the trace that a run leaves
unfoldable pub entries : Outcome → List ℕ
entries (ran r) = r.trace
entries (wanting w ps qs ws) = ws

module _ (lk : Edge → Bool) where
  -- a flip is of an edge that is not locked
  abbrev pub Free : Event → Type 0
  Free (was_split id p) = Unit {0}
  Free (was_flipped e) = lk e ≡ false
  Free (was_placed q ids) = Unit {0}
