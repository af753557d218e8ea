-- What a flip that is made says of the mesh.
use Rattle.std.specs.Prelude.{◌≡◌, ◌≢◌, ◌&&◌, ◌∷◌}
use Rattle.laws.specs.Kit.{refl, sym, ◌∙◌, ap, subst, inl, inr, Bool, true, false, not, none, some, ℕ, eqb, eq-eqb, eqb-true, List, []}
use Rattle.definition.specs.Plane.{Edge}
use Rattle.definition.specs.Cells.{Tri, Cell, tri, quad, Live, Event, was_flipped, Mesh, new_tri, owners, is_locked, live_tri, is_tri, new_live, in_slot, with_live, noting, without, set_cell}
use Rattle.definition.specs.Flips.{third, apart, convex_pair, runs, first_turned, second_turned, set_tris, flipped, flip_tris, flip_cells, flip_owners, flip}
use Rattle.laws.specs.Bools.{which, both, never}
use Rattle.laws.specs.Lists.{In, in_left, in_right, filter_in, no_some}
use Rattle.account.specs.Triangles.{Corners, Distinct}

-- the edge e, owned by the triangles s and t alone, gave way to the diagonal
pub record Flipped (m : Mesh) (e : Edge) (m' : Mesh) : Type 0 where
  pub x : Live
  pub y : Live
  pub s : Tri
  pub t : Tri
  pub s' : Tri
  pub t' : Tri
  pub owned : owners m e ≡ x ∷ y ∷ []
  pub cell_x : x.cell ≡ tri s
  pub cell_y : y.cell ≡ tri t
  pub convex : convex_pair m e.0 e.1 (third s e) (third t e) ≡ true
  pub differ : third s e ≢ third t e
  pub corners_s : Corners s' (third s e) e.0 (third t e)
  pub corners_t : Corners t' (third t e) e.1 (third s e)
  pub distinct_s : third s e ≢ e.0 → third t e ≢ e.0 → Distinct s'
  pub distinct_t : third s e ≢ e.1 → third t e ≢ e.1 → Distinct t'
  pub after : m' ≡ noting (was_flipped e) (set_tris m x.slot s' y.slot t')

-- ---- a slot's triangle stays a triangle
-- a live triangle has the slot
pub record TriAt (m : Mesh) (id : ℕ) : Type 0 where
  pub x : Live
  pub at : In x m.live
  pub slot_is : x.slot ≡ id
  pub is_one : live_tri x ≡ true
