-- The grid profile: every x and y is a whole multiple of 1 / 1024, and there is no size.
-- Nothing is inserted, and the quads and the leftover triangles have together exactly the area of the given
-- triangles.
use Rattle.std.specs.Prelude.{◌≡◌, ◌+◌, ◌≤◌, ◌∷◌}
use Rattle.laws.specs.Kit.{refl, sym, ◌∙◌, ap, subst, Bool, true, false, ℕ, arith, List, [], length, eq}
use Rattle.definition.specs.Floats.{0·0}
use Rattle.definition.specs.Numbers.{Settings}
use Rattle.definition.specs.Counts.{Spent}
use Rattle.definition.specs.Plane.{Node, Edge, edge_length, size_mismatch}
use Rattle.definition.specs.Cells.{Tri, Quad, Mesh, tris_of, triangles}
use Rattle.definition.specs.Attempt.{replaced, Stance, missing, sides_from, target_of, stance}
use Rattle.definition.specs.Front.{State, counting, Result, ran, new_mesh, start, result, run_front}
use Rattle.definition.specs.Call.{Asked, Lent, given_points, given_tris, given_locks, most_slots, settings_within, outside, grid_node, call_within}
use Rattle.definition.specs.Account.{All, sum, tri_area, quad_area, tris_area, quads_area, SameArea, KeepsArea}
use Rattle.exact.proofs.Theorems.{grid_passed, nodes_placed, never_off_target}
use Rattle.laws.specs.Bools.{never}
use Rattle.laws.specs.Lists.{In, all_from, all_in}
use Rattle.account.specs.Rooms.{Fits}
use Rattle.account.specs.Start.{Proper}
use Rattle.account.specs.Steps.{OnNormal}
use Rattle.account.specs.Run.{Rule}
use Rattle.account.specs.Areas.{AllPlaced}

-- ---- the profile
-- a run without a size, and with no more slots than the sums have room for
pub record Unsized (s : Settings) : Type 0 where
  pub no_size : eq s.size 0·0 ≡ true
  pub room : s.slots ≤ 1048576

-- every point is within 8 and on the grid, by the definition's tests
abbrev pub OnTheGrid : List Node → Type 0
OnTheGrid ps = (p : Node) → In p ps → (outside p ≡ false) × (grid_node p ≡ true)
