-- The seed, and on which side of the edge its triangle lies.
use mathlib.Core.Path.{◌≡◌, ap, sym, ◌∙◌}
use mathlib.Core.Bool.{Bool, true, false, cond}
use mathlib.Core.List.{List}
use mathlib.Core.Option.{some}
use Prim.Native.Nat.{ℕ, ◌<◌, ◌≤◌}
use native.Mathlib.Omega.{arith}
use lib.ListN.{length}
use lib.Ieee.{Float}
use Rattle.definition.specs.Counts.{nothing_spent, Placement}
use Rattle.definition.specs.Floats.{◌≺◌, 0·0}
use Rattle.definition.specs.Numbers.{Settings}
use Rattle.definition.specs.Plane.{Edge, cross}
use Rattle.definition.specs.Cells.{Tri, tri, Mesh, key, new_live, tri_owner}
use Rattle.definition.specs.Call.{point_at}
use Rattle.definition.specs.Flips.{off_edge, third}
use Rattle.definition.specs.Attempt.{refused, try_along, lies_left, try_seed, try_owner, try_quad}
use Rattle.rules.specs.declared.Rules.{Rules}
use Rattle.cells.specs.Rep.{Shape}
use Rattle.cells.specs.Walk.{slot_or}
use Rattle.cells.specs.declared.counters.Counters.{Counters}
use Rattle.cells.proofs.Edges.{key_up}
use Rattle.cells.proofs.Slots.{Found, owner_found, owner_none, rep_held, read_tri}
use Rattle.flips.specs.Nodes.{tri_read}
use Rattle.crossings.proofs.Tris.{tri_ok}
use Rattle.flips.proofs.Flips.{tri_path}
use Rattle.plane.specs.Points.{node_of}
use Rattle.try_quad.specs.Tries.{CanAttempt, Ends}
use Rattle.try_quad.proofs.Standing.{points_are}

cond_below : (b : Bool) (x y n : ℕ) → x < n → y < n → cond b x y < n
cond_below true x y n h l = h
cond_below false x y n h l = l

third_below : (n : ℕ) (t : Tri) (e : Edge) → Shape n (tri t) → third t e < n
unfolding third
third_below n t e h =
    let o = tri_ok n t h in
    cond_below (off_edge e t.n0) t.n0 _ n o.a_known (cond_below (off_edge e t.n1) t.n1 t.n2 n o.b_known o.c_known)

-- the attempt by its seed and side
of_seed : (g : Settings) (m : Mesh) (e : Edge) (seed : ℕ) (t : Tri) → tri_owner m e ≡ some (new_live seed (tri t)) → try_quad g m e ≡ try_seed g m e seed (tri t)
unfolding try_quad try_owner new_live
of_seed g m e seed t h = rw h

seed_left : (g : Settings) (m : Mesh) (u v seed : ℕ) (t : Tri) → lies_left m (u, v) t ≡ true → try_seed g m (u, v) seed (tri t) ≡ try_along g m (u, v) seed u v
unfolding try_seed
seed_left g m u v seed t h = rw (h, try_seed)

seed_right : (g : Settings) (m : Mesh) (u v seed : ℕ) (t : Tri) → lies_left m (u, v) t ≡ false → try_seed g m (u, v) seed (tri t) ≡ try_along g m (u, v) seed v u
unfolding try_seed
seed_right g m u v seed t h = rw (h, try_seed)

module _ (w : List ℕ) (q : List Float) (rules : Rules) (c : Counters) (u v : ℕ) (m : Mesh) (h : CanAttempt w q rules c u v m)
    (seed : ℕ) (e : seed ≡ slot_or rules.lay.slots (tri_owner m (key u v))) where
  e' : seed ≡ slot_or rules.lay.slots (tri_owner m (u, v))
  e' = e ∙ ap (λ k. slot_or rules.lay.slots (tri_owner m k)) (key_up u v h.up)

  pub no_seed : (g : Settings) → rules.lay.slots ≤ seed → try_quad g m (u, v) ≡ refused Placement nothing_spent m
  unfolding try_quad try_owner
  no_seed g l = rw (owner_none w rules.lay.slots rules.lay.points m h.ready.rep (u, v) seed e' l)

  pub up_ends : Ends c.points u v u v
  up_ends = record { up = h.up; known = h.known; first = omega (arith, h.up, h.known); second = h.known; apart = λ z. omega (arith, h.up, z) }

  pub down_ends : Ends c.points u v v u
  down_ends = record { up = h.up; known = h.known; first = h.known; second = omega (arith, h.up, h.known); apart = λ z. omega (arith, h.up, z) }

  module _ (hs : seed < rules.lay.slots) where
    abbrev own : Found w rules.lay.slots rules.lay.points m h.ready.rep (u, v) seed
    own = owner_found w rules.lay.slots rules.lay.points m h.ready.rep (u, v) seed e' hs

    seed_read : tri_read w rules.lay.slots seed ≡ own.t
    unfolding new_live
    seed_read = tri_path w rules.lay.slots seed own.t (read_tri w rules.lay.slots seed own.t (rep_held w rules.lay.slots rules.lay.points m h.ready.rep own.has).at)

    module _ (apex : ℕ) (ea : apex ≡ third (tri_read w rules.lay.slots seed) (u, v)) where
      apex_is : apex ≡ third own.t (u, v)
      apex_is = ea ∙ ap (λ t. third t (u, v)) seed_read

      pub apex_known : apex < c.points
      unfolding new_live
      apex_known =
          let l = third_below (length m.points) own.t (u, v) (rep_held w rules.lay.slots rules.lay.points m h.ready.rep own.has).shape in
          omega (arith, apex_is, l, h.ready.counted.points)

      left_is : (0·0 ≺ cross (point_at q u) (point_at q v) (point_at q apex)) ≡ lies_left m (u, v) own.t
      unfolding lies_left
      left_is =
          let n = node_of m c.points q (points_are w q rules c u v m h) in
          rw (n u up_ends.first, n v h.known, ← apex_is, n apex apex_known)

      pub on_left : (g : Settings) → (0·0 ≺ cross (point_at q u) (point_at q v) (point_at q apex)) ≡ true → try_quad g m (u, v) ≡ try_along g m (u, v) seed u v
      on_left g z = of_seed g m (u, v) seed own.t own.is ∙ seed_left g m u v seed own.t (sym left_is ∙ z)

      pub on_right : (g : Settings) → (0·0 ≺ cross (point_at q u) (point_at q v) (point_at q apex)) ≡ false → try_quad g m (u, v) ≡ try_along g m (u, v) seed v u
      on_right g z = of_seed g m (u, v) seed own.t own.is ∙ seed_right g m u v seed own.t (sym left_is ∙ z)
