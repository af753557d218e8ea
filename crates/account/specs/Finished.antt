-- A call that finished: no refusal's condition held, and its slices hold the run's result.
use Rattle.std.specs.Prelude.{◌≡◌, ◌≢◌, ◌&&◌, ◌||◌, ◌+◌, ◌*◌, ◌<◌, ◌≤◌, ◌∷◌}
use Rattle.laws.specs.Kit.{refl, sym, ◌∙◌, ap, subst, inl, inr, Bool, true, false, not, none, some, ℕ, arith, eqb, ltb, leb, eqb-false, ltb-false, leb-false, not-true, not-false, List, length, eq}
use Rattle.definition.specs.Lists.{any, all, find, below}
use Rattle.definition.specs.Floats.{0·0}
use Rattle.definition.specs.Counts.{Counts}
use Rattle.definition.specs.Plane.{Node}
use Rattle.definition.specs.Cells.{Tri, tri_nodes}
use Rattle.definition.specs.Front.{Result, Outcome, ran, wanting, run_front}
use Rattle.definition.specs.Call.{Asked, Lent, Lengths, finished, refusal, given_points, given_tris, given_locks, first_points, first_tris, settings_within, conditions, most_given, most_capacity, most_slots, slot_words, point_words, slot_floats, over_limit, bad_size, good_quality, bad_quality, bad_grid, bad_joints, too_short, unknown_node, twice, repeated_node, outside, far_point, grid_node, lengths, written, untouched, after_run, call_within}
use Rattle.laws.specs.Bools.{which, or_none}
use Rattle.laws.specs.Lists.{In, find_in, all_in, none_in, known, numbers_length, table_length}
use Rattle.account.specs.Triangles.{Distinct}
use Rattle.account.specs.Start.{Proper}

-- the run behind a finished call with at most so many attempts
pub record Behind (most : ℕ) (a : Asked) (l : Lent) (c : Counts) (n : Lengths) : Type 0 where
  pub run : Result
  pub ended : run_front (settings_within most (length l.trace) a) (given_locks a l) (given_tris a l) (given_points a l) ≡ ran run
  pub counts_are : c ≡ run.counts
  pub lengths_are : n ≡ lengths run
  pub exit : (call_within most a l).lent ≡ written run.points run.quads run.triangles run.sizes run.trace l
  pub passed : find (λ c. c.1) (conditions a l) ≡ none
