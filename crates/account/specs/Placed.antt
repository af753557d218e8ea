-- Births: the first quad of a run was placed in round 1, the next in round 2, and so on.
use Rattle.std.specs.Prelude.{◌≡◌, ◌+◌, ◌∷◌, ◌++◌}
use Rattle.laws.specs.Kit.{refl, sym, ◌∙◌, ap, subst, inl, inr, Bool, true, false, not, some, ℕ, zero, suc, arith, eqb, eqb-true, not-false, List, [], map, append-nil, length, get_or, drop, length-append, length-map}
use Rattle.definition.specs.Lists.{filter, numbers}
use Rattle.definition.specs.Numbers.{Settings}
use Rattle.definition.specs.Plane.{Node, Edge}
use Rattle.definition.specs.Cells.{Tri, Quad, tri, quad, Live, Event, was_flipped, Mesh, new_tri, new_live, is_tri, live_tri, in_slot, all_edges, this_round, with_live, noting, without, among, without_all, set_cell, push_cell, remove_cells}
use Rattle.definition.specs.Flips.{set_tris, flip}
use Rattle.definition.specs.Insertion.{with_point, split_triangle}
use Rattle.definition.specs.Region.{region}
use Rattle.definition.specs.Attempt.{replaced}
use Rattle.definition.specs.Front.{counting, Result, ran, new_mesh, in_slots, start, result, run_front}
use Rattle.laws.specs.Bools.{which}
use Rattle.laws.specs.Lists.{In, in_either, filter_yes, filter_no, filter_append, numbers_length}
use Rattle.account.specs.Flips.{TriAt}
use Rattle.account.specs.Valid.{Valid}
use Rattle.account.specs.Start.{Proper}
use Rattle.account.specs.Run.{Rule}

-- ---- the live quads
-- the cell is a quad
unfoldable pub live_quad : Live → Bool
live_quad x = not (live_tri x)

-- of a mesh
unfoldable pub quad_cells : Mesh → List Live
quad_cells m = filter live_quad m.live

-- the slot has no quad
abbrev pub NoQuad : ℕ → List Live → Type 0
NoQuad id xs = (x : Live) → In x xs → x.slot ≡ id → live_quad x ≡ false

-- as many live quads as were placed, in the rounds 1, 2, ..
pub record InRounds (m : Mesh) (quads : List Quad) : Type 0 where
  pub number : length (quad_cells m) ≡ length quads
  pub rounds : map (λ q. q.round) quads ≡ numbers 1 (length quads)
