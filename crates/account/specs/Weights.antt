-- Sums over lists in any order, and the triangles of a region taken out of the live cells.
use Rattle.std.specs.Prelude.{◌≡◌, ◌+◌, ◌≤◌, ◌∷◌, ◌++◌}
use Rattle.laws.specs.Kit.{refl, sym, ◌∙◌, ap, subst, inl, inr, true, Option, none, some, ℕ, zero, suc, min, arith, ltb, ltb-true, ltb-false, List, [], map, append-nil, length}
use Rattle.definition.specs.Lists.{filter, any, all, flat_map}
use Rattle.definition.specs.Cells.{Quad, Live, Mesh, live_tri, quad_edges, tri_of, tris_of, cell_of, among, without, without_all}
use Rattle.definition.specs.Region.{cell_inside, area_agrees, fills, region_from, region}
use Rattle.definition.specs.Account.{Rearranged, sum}
use Rattle.laws.specs.Bools.{which, both}
use Rattle.laws.specs.Lists.{In, filter_all, no_some}
use Rattle.laws.specs.Cells.{one_by_one}
use Rattle.account.specs.Flips.{TriAt}
use Rattle.account.specs.Valid.{Slots, Valid}
use Rattle.account.specs.Found.{AllTris}

-- ---- the region of a quad
-- what is known of a region
pub record KnownRegion (m : Mesh) (q : Quad) (cells : List Live) : Type 0 where
  pub slots : Slots cells
  pub tris : AllTris m cells
  pub few : length cells ≤ m.used
  pub agrees : area_agrees m q cells ≡ true
