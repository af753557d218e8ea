-- The joints of a call: those that the given triangles have are found in what comes back.
-- Order and repeats of the list change nothing, and without a joint nothing is locked.
use Rattle.std.specs.Prelude.{◌≡◌, ◌&&◌, ◌*◌, ◌≤◌, ◌∷◌}
use Rattle.laws.specs.Kit.{refl, ◌∙◌, ap, ap₂, inl, inr, Bool, true, false, not, cond, none, some, ℕ, le-ltb, List, [], length}
use Rattle.definition.specs.Lists.{any, all, find, table, numbers, below}
use Rattle.definition.specs.Plane.{Edge}
use Rattle.definition.specs.Cells.{Quad, Live, Mesh, key, same_edge, has_edge_in, tri_edges, quad_edges, edges, is_locked}
use Rattle.definition.specs.Region.{fills, may_go, spares_locked, if_filled}
use Rattle.definition.specs.Numbers.{max_attempts}
use Rattle.definition.specs.Front.{Progress, Outcome, ran, wanting, new_mesh, outcome, run_front}
use Rattle.definition.specs.Call.{Asked, Lent, Returned, given_points, given_tris, given_joints, given_locks, most_joints, over_limit, bad_size, bad_stop, bad_quality, too_short, unknown_node, repeated_node, far_point, bad_grid, bad_joint, bad_joints, conditions, settings_within, settings, written, untouched, after_run, call_within, call}
use Rattle.definition.specs.Job.{Job, charge, handed_on, job_limit, rounds_of, after_mesh, run_mesh, bad_job, job}
use Rattle.definition.specs.Preview.{show_edge, cleared, preview}
use Rattle.definition.specs.Account.{JointsSurvive, KeepsJoints}
use Rattle.laws.specs.Bools.{which, same_bool, or_second}
use Rattle.laws.specs.Lists.{In, in_any, any_in, all_from, in_flat_map, known}
use Rattle.laws.specs.Cells.{same_self}

-- ---- order and repeats change nothing
-- the lists have the same edges
pub record SameEdges (xs ys : List Edge) : Type 0 where
  pub there : (e : Edge) → In e xs → In e ys
  pub back : (e : Edge) → In e ys → In e xs

-- the same memory with other joints
unfoldable pub with_joints : List ℕ → Lent → Lent
with_joints js l =
    record {
      points = l.points;
      triangles = l.triangles;
      joints = js;
      quads = l.quads;
      triangles_out = l.triangles_out;
      components = l.components;
      work = l.work;
      float_work = l.float_work;
      trace = l.trace;
    }

-- the same numbers with n joints
unfoldable pub with_number : ℕ → Asked → Asked
with_number n a = record { given = a.given; capacity = a.capacity; count = a.count; slots = a.slots; joints = n; size = a.size; stop = a.stop; quality = a.quality; grid = a.grid }

-- the same answer, and the same memory but for the joints
unfoldable pub returned_with : List ℕ → Returned → Returned
returned_with js r = record { answer = r.answer; lent = with_joints js r.lent }

-- two lists that are long enough and not too long, with the same edges
pub record SameJoints (a : Asked) (l : Lent) (n : ℕ) (js : List ℕ) : Type 0 where
  pub same : SameEdges (given_joints (with_number n a) (with_joints js l)) (given_joints a l)
  pub long : 2 * a.joints ≤ length l.joints
  pub long' : 2 * n ≤ length js
  pub few : a.joints ≤ most_joints
  pub few' : n ≤ most_joints
