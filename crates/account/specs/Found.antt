-- The cells that searches find are live: the live region, the holder of a point,
-- the owner of an edge, the region of a quad.
use Rattle.std.specs.Prelude.{◌≡◌, ◌⊎◌, ◌&&◌, ◌∷◌, ◌++◌}
use Rattle.laws.specs.Kit.{refl, sym, ◌∙◌, subst, inl, inr, true, false, not, Option, none, some, ℕ, zero, suc, eqb-true, List, [], foldl, Float}
use Rattle.definition.specs.Floats.{◌⊗◌}
use Rattle.definition.specs.Numbers.{insert_reach}
use Rattle.definition.specs.Plane.{Node, Edge}
use Rattle.definition.specs.Cells.{Tri, Quad, Cell, tri, quad, Live, Mesh, is_tri, live_tri, edges, quad_edges, edge_before, owns, in_slot, cell_of, owners, tri_owners, tri_owner, all_edges, in_slot_order, without, among}
use Rattle.definition.specs.Flips.{first_crossing}
use Rattle.definition.specs.Candidates.{in_reach, neighbours, on_top, live_region_from, seed_stack, live_region}
use Rattle.definition.specs.Insertion.{holds, holder}
use Rattle.definition.specs.Region.{reach, reach_all, across, flood, fills, spares_locked, if_filled, region_from, region}
use Rattle.laws.specs.Bools.{which, both, never, cond_ok}
use Rattle.laws.specs.Lists.{In, in_either, in_filter, find_in, sort_in, any_in, first_in, known, no_some, in_flat_map}
use Rattle.account.specs.Flips.{TriAt}
use Rattle.account.specs.Valid.{Valid}

-- every cell of the list is live
abbrev pub AllLive : Mesh → List Live → Type 0
AllLive m xs = (x : Live) → In x xs → In x m.live

-- every cell of the list is a live triangle
abbrev pub AllTris : Mesh → List Live → Type 0
AllTris m xs = (y : Live) → In y xs → In y m.live × (live_tri y ≡ true)

-- the triangle that owns an edge
pub record Owner (m : Mesh) (e : Edge) (x : Live) : Type 0 where
  pub at : In x m.live
  pub owning : owns e x ≡ true
  pub is_one : live_tri x ≡ true
