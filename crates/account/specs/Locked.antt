-- A locked edge of the given triangles is an edge of the finished mesh.
use Rattle.std.specs.Prelude.{◌≡◌, ◌≢◌, ◌⊎◌, ◌<◌, ◌∷◌, ◌++◌}
use Rattle.laws.specs.Kit.{refl, sym, ◌∙◌, ap, subst, inl, inr, Bool, true, false, not, Option, none, some, ℕ, min, max, arith, eqb, eqb-true, eqb-false, List, []}
use Rattle.definition.specs.Lists.{all}
use Rattle.definition.specs.Numbers.{Settings}
use Rattle.definition.specs.Plane.{Node, Edge}
use Rattle.definition.specs.Cells.{Tri, Quad, Cell, tri, quad, Live, Mesh, new_tri, new_live, key, edges, tri_edges, quad_edges, has_edge_in, has_side, owns, is_locked, in_slot, cell_of, tris_of, all_edges, triangles, with_live, among, without_all, set_cell, push_cell, remove_cells}
use Rattle.definition.specs.Flips.{third, set_tris, flip}
use Rattle.definition.specs.Insertion.{with_point, split_triangle}
use Rattle.definition.specs.Region.{may_go, spares_locked, region}
use Rattle.definition.specs.Attempt.{replaced}
use Rattle.definition.specs.Front.{counting, Result, ran, new_mesh, start, result, run_front}
use Rattle.definition.specs.Account.{EdgeOf}
use Rattle.laws.specs.Bools.{which, either, never}
use Rattle.laws.specs.Lists.{In, in_left, in_right, in_either, in_filter, filter_in, any_in, all_in, flat_map_in}
use Rattle.account.specs.Triangles.{Has}
use Rattle.account.specs.Flips.{Flipped, TriAt}
use Rattle.account.specs.Valid.{Valid}
use Rattle.account.specs.Start.{Proper}
use Rattle.account.specs.Run.{Rule}

-- ---- one edge
-- some live cell has the edge
pub record Owned (m : Mesh) (e : Edge) : Type 0 where
  pub x : Live
  pub at : In x m.live
  pub has : owns e x ≡ true

-- ---- the run
-- what a run keeps of a locked edge: the locked edges stay, a live cell has it, and every live quad was placed
pub record Joined (lk : Edge → Bool) (e : Edge) (m : Mesh) (quads : List Quad) : Type 0 where
  pub locked_are : m.locked ≡ lk
  pub owned : Owned m e
  pub placed : (x : Live) (q : Quad) → In x m.live → x.cell ≡ quad q → In q quads
