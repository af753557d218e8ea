-- A mesh without its trace: flips, recoveries and pairs go as on the mesh with it,
-- wherever those do not end for want of trace.
use Rattle.std.specs.Prelude.{◌≡◌, ◌≢◌, ◌&&◌, ◌+◌, ◌∷◌}
use Rattle.laws.specs.Kit.{refl, sym, ◌∙◌, ap, inl, inr, Bool, true, false, cond, Option, none, some, ℕ, zero, suc, ltb, List, [], length}
use Rattle.definition.specs.Numbers.{Settings}
use Rattle.definition.specs.Counts.{Refusal, Recovery, Spent, trying, Want, of_slots, of_trace}
use Rattle.definition.specs.Plane.{Edge}
use Rattle.definition.specs.Cells.{Tri, Quad, Cell, tri, quad, Live, Mesh, born, node_at, owners, tri_owner, is_locked, this_round, has_edge, with_live, noting, set_cell, push_cell, remove_cells}
use Rattle.definition.specs.Trace.{in_room}
use Rattle.definition.specs.Flips.{third, apart, convex_pair, set_tris, flipped, flip_tris, flip_cells, flip_owners, flip, first_crossing, flip_first, Recovered, recover_in, recover}
use Rattle.definition.specs.Components.{removing_leaves_odd_component}
use Rattle.definition.specs.Region.{region}
use Rattle.definition.specs.Trials.{Trial}
use Rattle.definition.specs.Attempt.{Tried, made, failed, orphaned, lacking, flipping, recover_all, replaced, replace, try_region, try_recovered, open_sides, try_pair, Attempt, placed, refused, ended, try_pairs, try_trials}
use Rattle.laws.specs.Bools.{which, never}
use Rattle.laws.specs.Lists.{known}
use Rattle.consequences.specs.Quiet.{quiet}

-- ---- flips
-- the mesh of a flip
unfoldable pub quietly : Option Mesh → Option Mesh
quietly none = none
quietly (some m) = some (quiet m)

-- ---- recovery
unfoldable pub quiet_r : Recovered → Recovered
quiet_r r = record { there = r.there; short = r.short; flips = r.flips; mesh = quiet r.mesh }

-- ---- a pair
-- no trace is wanting
abbrev pub NotTrace : Want → Type 0
NotTrace w = w ≢ of_trace

abbrev pub HeardT : Tried → Type 0
HeardT (made k q m) = Unit {0}
HeardT (failed k why m) = Unit {0}
HeardT orphaned = Unit {0}
HeardT (lacking w k m) = NotTrace w

unfoldable pub quiet_t : Tried → Tried
quiet_t (made k q m) = made k q (quiet m)
quiet_t (failed k why m) = failed k why (quiet m)
quiet_t orphaned = orphaned
quiet_t (lacking w k m) = lacking w k (quiet m)

-- the settings of a run without a trace
unfoldable pub quiet_s : Settings → Settings
quiet_s s = record { quality = s.quality; attempts = s.attempts; capacity = s.capacity; slots = s.slots; room = 0; size = s.size; even = s.even }

-- ---- an attempt
abbrev pub Heard : Attempt → Type 0
Heard (placed n m q) = Unit {0}
Heard (refused why n m) = Unit {0}
Heard (ended w n m) = NotTrace w

unfoldable pub quiet_a : Attempt → Attempt
quiet_a (placed n m q) = placed n (quiet m) q
quiet_a (refused why n m) = refused why n (quiet m)
quiet_a (ended w n m) = ended w n (quiet m)
