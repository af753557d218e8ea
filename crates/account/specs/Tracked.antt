-- Edges that were refused, or wait as candidates, over a mesh: what flips, splits and quads keep of them,
-- and that three records a slot are room enough.
use Rattle.std.specs.Prelude.{◌≡◌, ◌≢◌, ◌+◌, ◌*◌, ◌<◌, ◌≤◌, ◌∷◌, ◌++◌}
use Rattle.laws.specs.Kit.{refl, sym, ◌∙◌, ap, subst, inl, inr, true, false, not, some, ℕ, arith, eqb, leb, eqb-true, List, [], length, length-append}
use Rattle.definition.specs.Lists.{filter, flat_map}
use Rattle.definition.specs.Numbers.{Settings}
use Rattle.definition.specs.Plane.{Node, Edge}
use Rattle.definition.specs.Cells.{Tri, Quad, Cell, tri, quad, Live, Mesh, live_tri, is_tri, has_side, owns, owners, all_edges, tri_of, tris_of, is_front, front_owners, with_live, noting, set_cell, among, without_all}
use Rattle.definition.specs.Flips.{third, set_tris, flip}
use Rattle.definition.specs.Insertion.{split_triangle}
use Rattle.definition.specs.Region.{region}
use Rattle.definition.specs.Attempt.{replaced}
use Rattle.definition.specs.Account.{Pairwise}
use Rattle.laws.specs.Bools.{which, both}
use Rattle.laws.specs.Lists.{In, in_left, filter_yes, filter_no, in_filter, filter_in}
use Rattle.account.specs.Triangles.{Has}
use Rattle.account.specs.Even.{odd, xor, parity}
use Rattle.account.specs.Flips.{Flipped, TriAt}
use Rattle.account.specs.Valid.{Valid}
use Rattle.account.specs.Roles.{side, Four}
use Rattle.account.specs.Refused.{Among, Refused}

-- a live quad has the edge
pub record QuadHas (m : Mesh) (e : Edge) : Type 0 where
  pub x : Live
  pub at : In x m.live
  pub q : Quad
  pub cell : x.cell ≡ quad q
  pub has : has_side e (quad q) ≡ true
