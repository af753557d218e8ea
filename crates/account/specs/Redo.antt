-- Replay: what happened to a mesh of a run can be done again, from the start, and gives its points,
-- cells and history.
use Rattle.std.specs.Prelude.{◌≡◌, ◌≢◌, ◌+◌, ◌<◌, ◌≤◌, ◌∷◌, ◌++◌}
use Rattle.laws.specs.Kit.{refl, sym, ◌∙◌, ap, subst, inl, inr, Bool, true, false, some, ℕ, arith, ltb, T, eq-eqb, ne_eqb, lt-ltb, le-ltb, lt-leb, List, [], map, append-nil, length, length-map, Float, binary64, fits}
use Rattle.std.specs.Float.Ieee.Fits.{add-fits}
use Rattle.definition.specs.Lists.{any, all, find, flat_map, contains}
use Rattle.definition.specs.Floats.{◌⊕◌}
use Rattle.definition.specs.Numbers.{Settings}
use Rattle.definition.specs.Plane.{Node, Vec, Edge, flat}
use Rattle.definition.specs.Cells.{Tri, Quad, Cell, tri, quad, Live, Event, was_split, was_flipped, was_placed, Mesh, quad_nodes, node_at, live_tri, owners, is_locked, in_slot, cell_of, all_edges, with_live, noting, set_cell, push_cell, remove_cells}
use Rattle.definition.specs.Trace.{words_in, traced, in_room, quads_placed}
use Rattle.definition.specs.Flips.{third, apart, convex_pair, set_tris, flipped, flip_tris, flip_cells, flip_owners, flip}
use Rattle.definition.specs.Insertion.{inserted, holds, with_point, split_triangle, split, along}
use Rattle.definition.specs.Account.{All}
use Rattle.definition.specs.Attempt.{replaced}
use Rattle.definition.specs.Front.{counting, new_mesh, start}
use Rattle.definition.specs.Replay.{Redone, redone, balked, redo_inserted, redo_split, redo_flipped, cells_in, all_different, triangles_in, redo}
use Rattle.laws.specs.Bools.{which}
use Rattle.laws.specs.Lists.{In, in_either, no_some}
use Rattle.account.specs.Valid.{Slots, Valid}
use Rattle.account.specs.Steps.{Splitting, Made}
use Rattle.account.specs.Run.{Rule}

-- ---- the mesh of a replay
-- as a replay has it: another bucket, no locked edges, no trace
unfoldable pub bare : Float → Mesh → Mesh
bare b m = record { points = m.points; used = m.used; live = m.live; bucket = b; locked = λ e. false; room = 0; history = m.history }

-- ---- all that happened
-- the events one after the other
unfoldable pub redo_all : Settings → Mesh → List Event → Redone
redo_all s m [] = redone m
redo_all s m (v ∷ vs) = elim (redo s m v) [ redone m' ↦ redo_all s m' vs | balked k ↦ balked k ]

-- what a trace holds of an event gives it back: a point has z 0.0 and two doubles,
-- a quad replaced as many triangles as it has slots
abbrev pub Enterable : Event → Type 0
Enterable (was_split id p) = (p ≡ flat p.x p.y) × T (fits binary64 p.x) × T (fits binary64 p.y)
Enterable (was_flipped e) = Unit {0}
Enterable (was_placed q ids) = q.replaced ≡ length ids

-- the mesh comes about again, from the mesh first, by what happened to it, which a trace can hold;
-- and its quads are those that were placed
pub record Redoable (s₀ : Settings) (b : Float) (first m : Mesh) (quads : List Quad) : Type 0 where
  pub again : redo_all s₀ (bare b first) m.history ≡ redone (bare b m)
  pub enterable : (v : Event) → In v m.history → Enterable v
  pub quads_are : quads_placed m.history ≡ quads
  pub room_kept : m.room ≡ first.room
