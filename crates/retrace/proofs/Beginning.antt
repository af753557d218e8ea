-- A replay that is not refused before its entries has all that building its mesh asks,
-- and the mesh is the definition's first.
use Rattle.std.specs.Prelude.{◌≡◌, ◌+◌, ◌*◌, ◌≤◌, ◌∷◌}
use Rattle.laws.specs.Kit.{refl, sym, ◌∙◌, ap, subst, false, ℕ, suc, arith, List, [], length, get_or, replicate}
use lib.ListN.{length-replicate}
use Rattle.rings.specs.Rings.{Distinct, Below}
use Rattle.definition.specs.Lists.{filter, any, flat_map, table, numbers, below}
use Rattle.definition.specs.Cells.{Tri, tri, Live, new_live, has_edge_in, with_live}
use Rattle.definition.specs.Trace.{quads_placed}
use Rattle.definition.specs.Front.{in_slots, new_mesh}
use Rattle.definition.specs.Call.{Lent, first_points, given_points, given_tris, onto, settings_within, settings}
use Rattle.definition.specs.Replay.{Told, as_asked}
use Rattle.account.proofs.Finished.{points_number, tris_number}
use Rattle.joints.specs.Table.{edge_in, Locks}
use Rattle.cells.specs.Layout.{Sizes}
use Rattle.cells.specs.Rep.{slots, Rep, Pts}
use Rattle.cells.proofs.Slots.{slots_below}
use Rattle.meshes.specs.Build.{Given, IsNew, Builds, CanBuild}
use Rattle.refusals.specs.Refusals.{none_holds}
use Rattle.meshes.proofs.Valid.{shape_at}
use Rattle.retrace.specs.Stored.{plain, kept, stored}
use Rattle.retrace.specs.Plays.{quad_in, quads_of, Small}
use Rattle.retrace.specs.Opening.{opening_number, first_mesh, CanBegin, Begins}
use Rattle.retrace.specs.Plays.{State}
use Rattle.retrace.proofs.Keeping.{stored_used}
use Rattle.retrace.proofs.Openings.{call_passes, opened}

-- ---- triangles in slots

-- all are stored
all_kept : (n : ℕ) (ts : List Tri) → filter kept (in_slots n ts) ≡ in_slots n ts
unfolding filter in_slots kept plain new_live
all_kept n [] = refl
all_kept n (t ∷ ts) = ap (λ (l : List Live). new_live n (tri t) ∷ l) (all_kept (suc n) ts)

-- none is a quad
no_quads : (n : ℕ) (ts : List Tri) → quads_of (in_slots n ts) ≡ []
unfolding quads_of flat_map in_slots quad_in new_live
no_quads n [] = refl
no_quads n (t ∷ ts) = no_quads (suc n) ts

-- ---- the first mesh

module _ (t : Told) (l : Lent) (h : opening_number t l ≡ 0) where
  given_shapes : Given l.triangles t.count t.given
  unfolding as_asked
  given_shapes i k =
      let p = (opened t l h).passed in
      shape_at l.triangles t.given i (p.apart i k).d01 (p.apart i k).d02 (p.apart i k).d12 (p.known (3 * i) (omega arith)) (p.known (3 * i + 1) (omega arith)) (p.known (3 * i + 2) (omega arith))

  -- what building it asks
  pub can_build : CanBuild l.work t.slots t.capacity l.triangles t.count t.given
  unfolding as_asked
  can_build =
      let p = (opened t l h).passed in
      record {
        room = record { fits = p.roomy.work; small = omega (arith, p.limited.slots, p.limited.capacity) };
        slots = p.roomy.count;
        points = p.roomy.given;
        long = p.roomy.triangles;
        given = given_shapes;
      }

  -- what every entry asks
  -- no area of the work slice begins at a large number
  pub sized : Sizes t.slots t.capacity
  unfolding as_asked
  sized = let p = (opened t l h).passed.limited in record { slots = omega (arith, p.slots); points = omega (arith, p.capacity) }

  pub small : Small l.quads t.slots t.capacity
  unfolding as_asked
  small = let p = (opened t l h).passed in record { slots = p.limited.slots; points = p.limited.capacity; room = p.roomy.quads }

  -- what the lists at the end ask
  pub roomy : (3 * t.slots ≤ length l.triangles_out) × (t.slots ≤ length l.components)
  unfolding as_asked
  roomy = let p = (opened t l h).passed in (p.roomy.triangles_out, p.roomy.components)

  points_are : length (given_points (as_asked t) l) ≡ t.given
  unfolding as_asked
  points_are = points_number (as_asked t) l (none_holds (as_asked t) l (call_passes t l h))

  tris_are : length (given_tris (as_asked t) l) ≡ t.count
  unfolding as_asked
  tris_are = tris_number (as_asked t) l (none_holds (as_asked t) l (call_passes t l h))

  is_new : IsNew (stored (first_mesh t l)) l.triangles t.count t.given
  unfolding stored with_live new_mesh given_tris as_asked
  is_new = record { points = points_are; used = tris_are; live = all_kept 0 (given_tris (as_asked t) l) }

  -- the points slice stands for its points
  points_stand : Pts l.points t.capacity (first_mesh t l)
  unfolding new_mesh given_points as_asked
  points_stand =
      let p = (opened t l h).passed in
      record {
        fits = p.roomy.points;
        few = omega (arith, points_are, p.roomy.given);
        are = ap (λ (k : ℕ). first_points k l.points) (sym points_are);
      }

  live_is : (stored (first_mesh t l)).live ≡ (first_mesh t l).live
  unfolding stored with_live new_mesh
  live_is = all_kept 0 (given_tris (as_asked t) l)

  module _ (w' : List ℕ) (b : Builds l.work w' t.slots t.capacity l.triangles t.count t.given) where
    first_rep : Rep w' t.slots t.capacity (stored (first_mesh t l))
    first_rep = b.rep (stored (first_mesh t l)) is_new

    slots_differ : Distinct (slots (first_mesh t l).live)
    slots_differ = subst (λ (k : List Live). Distinct (slots k)) live_is first_rep.distinct

    slots_given : Below (first_mesh t l).used (slots (first_mesh t l).live)
    slots_given =
        let m = first_mesh t l in
        subst (λ (n : ℕ). Below n (slots m.live)) (stored_used m)
        (subst (λ (k : List Live). Below (stored m).used (slots k)) live_is (slots_below w' t.slots (stored m).used (length (stored m).points) (stored m).live first_rep.cells))

    -- the state before the first entry
    pub first_begins : (r : State) → r ≡ record { at = 0; used = t.count; points = t.given; quads = 0; odd = false; refusal = 0 } → Begins w' t l r
    unfolding new_mesh quads_placed flat_map onto any settings settings_within
    first_begins r e =
        record {
          plays = record {
            rep = first_rep;
            pts = points_stand;
            used = ap (λ (z : State). z.used) e ∙ sym tris_are;
            points = ap (λ (z : State). z.points) e ∙ sym points_are;
            number = ap (λ (z : State). z.quads) e;
            text = refl;
            live = no_quads 0 (given_tris (as_asked t) l);
            few = omega arith;
            odd = ap (λ (z : State). z.odd) e;
            distinct = slots_differ;
            below = slots_given;
            free = refl;
            room = refl;
            len = refl;
            rest = refl;
            going = ap (λ (z : State). z.refusal) e;
          };
          at = ap (λ (z : State). z.at) e;
        }

-- ---- by the slices of the call

module _ (w ts : List ℕ) (t : Told) (l : Lent) (h : CanBegin w ts t l) where
  pub begin_build : CanBuild w t.slots t.capacity ts t.count t.given
  begin_build =
      subst (λ (z : List ℕ). CanBuild z t.slots t.capacity ts t.count t.given) h.work
      (subst (λ (z : List ℕ). CanBuild l.work t.slots t.capacity z t.count t.given) h.triangles (can_build t l h.opened))

  pub begin_begins : (w' : List ℕ) (r : State) → Builds w w' t.slots t.capacity ts t.count t.given
      → r ≡ record { at = 0; used = t.count; points = t.given; quads = 0; odd = false; refusal = 0 } → Begins w' t l r
  begin_begins w' r b e =
      first_begins t l h.opened w'
      (subst (λ (z : List ℕ). Builds l.work w' t.slots t.capacity z t.count t.given) (sym h.triangles)
      (subst (λ (z : List ℕ). Builds z w' t.slots t.capacity ts t.count t.given) (sym h.work) b)) r e

-- ---- the table that locks nothing

no_locks : (j : List ℕ) → get_or j 1024 0 ≡ 0 → 1537 ≤ length j → Locks j (λ e. false)
unfolding table below numbers has_edge_in any
no_locks j z k =
    record {
      es = [];
      kept = record {
        long = k;
        few = omega (arith, z);
        are = ap (λ (n : ℕ). table (edge_in j) (below n)) z;
        marked = λ i d. absurd (omega (arith, d, z));
      };
      is = λ e. refl;
    }

pub nothing_locked : Locks (replicate 1537 0) (λ e. false)
nothing_locked = no_locks (replicate 1537 0) refl (omega (arith, length-replicate {A = ℕ} 1537 0))
