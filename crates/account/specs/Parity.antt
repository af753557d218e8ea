-- The leftover triangles of a finished run and their components.
-- Under the even rule, once a quad was made or where all given components were even, all components are even.
use Rattle.std.specs.Prelude.{◌≡◌, ◌⊎◌, ◌<◌}
use Rattle.laws.specs.Kit.{sym, subst, inl, inr, Bool, true, false, ℕ, arith, ltb, List, [], length}
use Rattle.definition.specs.Numbers.{Settings}
use Rattle.definition.specs.Plane.{Node, Edge}
use Rattle.definition.specs.Cells.{Tri, Quad, Live, Mesh, tri_of, tris_of, in_slot_order, triangles}
use Rattle.definition.specs.Components.{removing_leaves_odd_component}
use Rattle.definition.specs.Attempt.{replaced}
use Rattle.definition.specs.Front.{State, counting, Result, ran, start, result, run_front}
use Rattle.definition.specs.Account.{All, Rearranged, Components, Even, EvenComponents, sum}
use Rattle.laws.specs.Lists.{In}
use Rattle.account.specs.Even.{AllEven}
use Rattle.account.specs.Classes.{AllDistinct}
use Rattle.account.specs.Valid.{GoodTri, Valid}
use Rattle.account.specs.Start.{Proper}
use Rattle.account.specs.Run.{Rule}

-- ---- a finished run
-- what holds of the leftover triangles
pub record Leftover (s : Settings) (given : List Tri) (r : Result) : Type 0 where
  -- the sizes are those of the leftover triangles, descending
  pub right : Components r.triangles r.sizes
  pub adds_up : sum r.sizes ≡ length r.triangles
  -- the leftover triangles have three different nodes of the points
  pub proper : Proper r.points r.triangles
  pub even : s.even ≡ true → (0 < length r.quads) ⊎ EvenComponents given → All Even r.sizes
