-- A mesh without its trace: an insertion and an attempt go as on the mesh with it,
use Rattle.std.specs.Prelude.{◌≡◌, ◌||◌, ◌+◌, ◌∷◌}
use Rattle.laws.specs.Kit.{refl, ◌∙◌, ap, inl, inr, cond, Option, none, some, ℕ, ltb, leb, List, [], length, Float}
use Rattle.definition.specs.Floats.{◌⊗◌, ◌≼◌}
use Rattle.definition.specs.Numbers.{Settings, Turn, first_turn, second_turn, insert_shares, node_spacing, tiny_length}
use Rattle.definition.specs.Counts.{Placement, Spent, nothing_spent, of_points, of_slots, of_trace}
use Rattle.definition.specs.Plane.{Node, Vec, Edge, norm, from_to}
use Rattle.definition.specs.Cells.{Tri, Cell, tri, quad, Live, Mesh, node_at, cell_of, tri_owner, with_live, noting, set_cell, push_cell}
use Rattle.definition.specs.Trace.{in_room}
use Rattle.definition.specs.Candidates.{candidates}
use Rattle.definition.specs.Insertion.{Inserted, nowhere, inserted, full, point_clear, slot_clear, holder, with_point, split_triangle, split, split_clear, insert_near, along, insert_by, insert_along}
use Rattle.definition.specs.Trials.{trials}
use Rattle.definition.specs.Attempt.{refused, Stance, Sides, found, missing, overfull, sides_by, sides_from, side_nodes, try_both, try_first, try_trials, target_of, stance, try_along, lies_left, try_seed, try_owner, try_quad}
use Rattle.laws.specs.Bools.{which}
use Rattle.consequences.specs.Quiet.{quiet}
use Rattle.consequences.proofs.Quiet.{quiet_room, quiet_owner, quiet_candidates, quiet_holder, quiet_clear, quiet_slot, quiet_lies, quiet_trials}
use Rattle.consequences.specs.Untraced.{NotTrace, quiet_s, Heard, quiet_a}
use Rattle.consequences.proofs.Untraced.{trials_so}
use Rattle.consequences.specs.Traceless.{HeardI, quiet_i}

module _ (s : Settings) where
  split_plain : (m : Mesh) (p : Node) (id : ℕ) (t : Tri) → let done = split_triangle m id t p in
      split (quiet_s s) (quiet m) p id (tri t) ≡ cond (leb s.capacity (length m.points)) (full of_points) (cond (ltb s.slots (m.used + 2)) (full of_slots) (cond (in_room (quiet done)) (inserted (length m.points) (quiet done)) (full of_trace)))
  unfolding split quiet quiet_s split_triangle push_cell set_cell with_live with_point noting
  split_plain m p id t = refl

  split_so : (m : Mesh) (p : Node) (id : ℕ) (c : Cell) → HeardI (split s m p id c) → split (quiet_s s) (quiet m) p id c ≡ quiet_i (split s m p id c)
  unfolding split quiet_i
  split_so m p id (quad q) h = refl
  split_so m p id (tri t) h =
      let done = split_triangle m id t p in
      split_plain m p id t ∙ (elim (which (leb s.capacity (length m.points))) [
        | inl e ↦ rw e refl
        | inr e ↦ elim (which (ltb s.slots (m.used + 2))) [
          | inl f ↦ rw (e, f) refl
          | inr f ↦ elim (which (in_room done)) [
            | inl g ↦ rw (e, f, g, quiet_room done) refl
            | inr g ↦ absurd ((rw (e, f, g) at h) refl)
          ]
        ]
      ])

  clear_so : (m : Mesh) (p : Node) (spacing : Float) (o : Option Live) → HeardI (split_clear s m p spacing o) → split_clear (quiet_s s) (quiet m) p spacing o ≡ quiet_i (split_clear s m p spacing o)
  unfolding split_clear quiet_i
  clear_so m p spacing none h = refl
  clear_so m p spacing (some x) h = elim (which (point_clear m p spacing x.cell)) [
    | inl e ↦ rw (quiet_clear m p spacing x.cell, e) (split_so m p x.slot x.cell (rw e at h))
    | inr e ↦ rw (quiet_clear m p spacing x.cell, e) refl
  ]

  near_plain : (m : Mesh) (seed : ℕ) (p : Node) → let spacing = node_spacing ⊗ m.bucket in
      insert_near (quiet_s s) (quiet m) seed p ≡ cond (slot_clear (quiet m) p spacing (cell_of m seed)) (split_clear (quiet_s s) (quiet m) p spacing (holder (quiet m) seed p)) nowhere
  unfolding insert_near quiet cell_of
  near_plain m seed p = refl

  near_so : (m : Mesh) (seed : ℕ) (p : Node) → HeardI (insert_near s m seed p) → insert_near (quiet_s s) (quiet m) seed p ≡ quiet_i (insert_near s m seed p)
  unfolding insert_near quiet_i
  near_so m seed p h =
      let spacing = node_spacing ⊗ m.bucket in
      near_plain m seed p ∙ (elim (which (slot_clear m p spacing (cell_of m seed))) [
        | inl e ↦ rw (quiet_slot m p spacing (cell_of m seed), e, quiet_holder m seed p) (clear_so m p spacing (holder m seed p) (rw e at h))
        | inr e ↦ rw (quiet_slot m p spacing (cell_of m seed), e) refl
      ])

  by_case : (m : Mesh) (seed : ℕ) (o : Node) (n : Vec) (target c : Float) (cs : List Float) (r : Inserted) → insert_near s m seed (along o n target c) ≡ r
      → insert_near (quiet_s s) (quiet m) seed (along o n target c) ≡ quiet_i r
      → (r ≡ nowhere → insert_by (quiet_s s) (quiet m) seed o n target cs ≡ quiet_i (insert_by s m seed o n target cs))
      → insert_by (quiet_s s) (quiet m) seed o n target (c ∷ cs) ≡ quiet_i (insert_by s m seed o n target (c ∷ cs))
  unfolding insert_by quiet_i
  by_case m seed o n target c cs nowhere f g next = rw (f, g, insert_by) (next refl)
  by_case m seed o n target c cs (inserted v m') f g next = rw (f, g, insert_by) refl
  by_case m seed o n target c cs (full w) f g next = rw (f, g, insert_by) refl

  near_heard : (m : Mesh) (seed : ℕ) (o : Node) (n : Vec) (target c : Float) (cs : List Float) (r : Inserted) → insert_near s m seed (along o n target c) ≡ r → HeardI (insert_by s m seed o n target (c ∷ cs)) → HeardI r
  unfolding insert_by
  near_heard m seed o n target c cs nowhere f h = tt
  near_heard m seed o n target c cs (inserted v m') f h = tt
  near_heard m seed o n target c cs (full w) f h = rw (f, insert_by) at h

  next_heard : (m : Mesh) (seed : ℕ) (o : Node) (n : Vec) (target c : Float) (cs : List Float) → insert_near s m seed (along o n target c) ≡ nowhere → HeardI (insert_by s m seed o n target (c ∷ cs)) → HeardI (insert_by s m seed o n target cs)
  unfolding insert_by
  next_heard m seed o n target c cs f h = rw (f, insert_by) at h

  by_so : (m : Mesh) (seed : ℕ) (o : Node) (n : Vec) (target : Float) (shares : List Float) → HeardI (insert_by s m seed o n target shares) → insert_by (quiet_s s) (quiet m) seed o n target shares ≡ quiet_i (insert_by s m seed o n target shares)
  unfolding insert_by quiet_i
  by_so m seed o n target [] h = refl
  by_so m seed o n target (c ∷ cs) h =
      let r = insert_near s m seed (along o n target c) in
      by_case m seed o n target c cs r refl (near_so m seed (along o n target c) (near_heard m seed o n target c cs r refl h)) (λ f. by_so m seed o n target cs (next_heard m seed o n target c cs f h))

  -- ---- the side nodes at one end

  abbrev HeardD : Sides → Type 0
  HeardD (found cs n m) = Unit {0}
  HeardD (missing n m) = Unit {0}
  HeardD (overfull w n m) = NotTrace w

  quiet_d : Sides → Sides
  quiet_d (found cs n m) = found cs n (quiet m)
  quiet_d (missing n m) = missing n (quiet m)
  quiet_d (overfull w n m) = overfull w n (quiet m)

  inserted_so : (n : Spent) (m : Mesh) (r : Inserted) → sides_by n (quiet m) (quiet_i r) ≡ quiet_d (sides_by n m r)
  unfolding sides_by quiet_i quiet_d
  inserted_so n m nowhere = refl
  inserted_so n m (inserted v m') = refl
  inserted_so n m (full w) = refl

  inserted_heard : (n : Spent) (m : Mesh) (r : Inserted) → HeardD (sides_by n m r) → HeardI r
  unfolding sides_by
  inserted_heard n m nowhere h = tt
  inserted_heard n m (inserted v m') h = tt
  inserted_heard n m (full w) h = h

  node_so : (m : Mesh) (p : ℕ) → node_at (quiet m) p ≡ node_at m p
  unfolding node_at quiet
  node_so m p = refl

  from_so : (f : Stance) (n : Spent) (m : Mesh) (p : ℕ) (cs : List ℕ) → HeardD (sides_from s f n m p cs) → sides_from (quiet_s s) f n (quiet m) p cs ≡ quiet_d (sides_from s f n m p cs)
  unfolding sides_from insert_along quiet_d
  from_so f n m p (c ∷ cs) h = refl
  from_so f n m p [] h = elim (which f.mismatch) [
    | inl e ↦
        let r = insert_by s m f.seed (node_at m p) f.normal f.target insert_shares in
        rw (e, node_so m p) (ap (sides_by n (quiet m)) (by_so m f.seed (node_at m p) f.normal f.target insert_shares (inserted_heard n m r (rw e at h))) ∙ inserted_so n m r)
    | inr e ↦ rw e refl
  ]

  nodes_so : (t : Turn) (f : Stance) (n : Spent) (m : Mesh) (p other : ℕ) → HeardD (side_nodes s t f n m p other) → side_nodes (quiet_s s) t f n (quiet m) p other ≡ quiet_d (side_nodes s t f n m p other)
  unfolding side_nodes quiet_s
  nodes_so t f n m p other h =
      ap (sides_from (quiet_s s) f n (quiet m) p) (quiet_candidates m s.quality t p other f.seed f.normal f.target) ∙ from_so f n m p (candidates s.quality t m p other f.seed f.normal f.target) h

  -- ---- the attempt

  both_so : (f : Stance) (cs : List ℕ) (x : Sides) → Heard (try_both s f cs x) → try_both (quiet_s s) f cs (quiet_d x) ≡ quiet_a (try_both s f cs x)
  unfolding try_both quiet_d quiet_a quiet_s
  both_so f cs (missing n m) h = refl
  both_so f cs (overfull w n m) h = refl
  both_so f cs (found ds n m) h =
      ap (try_trials (quiet_s s) n (quiet m) f.edge) (quiet_trials m s.quality f.a f.b cs ds) ∙ trials_so s n m f.edge (trials s.quality m f.a f.b cs ds) h

  both_heard : (f : Stance) (cs : List ℕ) (x : Sides) → Heard (try_both s f cs x) → HeardD x
  unfolding try_both
  both_heard f cs (missing n m) h = tt
  both_heard f cs (overfull w n m) h = h
  both_heard f cs (found ds n m) h = tt

  first_so : (f : Stance) (x : Sides) → Heard (try_first s f x) → try_first (quiet_s s) f (quiet_d x) ≡ quiet_a (try_first s f x)
  unfolding try_first quiet_d quiet_a
  first_so f (missing n m) h = refl
  first_so f (overfull w n m) h = refl
  first_so f (found cs n m) h =
      let x = side_nodes s second_turn f n m f.b f.a in
      ap (try_both (quiet_s s) f cs) (nodes_so second_turn f n m f.b f.a (both_heard f cs x h)) ∙ both_so f cs x h

  first_heard : (f : Stance) (x : Sides) → Heard (try_first s f x) → HeardD x
  unfolding try_first
  first_heard f (missing n m) h = tt
  first_heard f (overfull w n m) h = h
  first_heard f (found cs n m) h = tt

  along_plain : (m : Mesh) (e : Edge) (seed a b : ℕ) → let f = stance s m e seed a b in
      try_along (quiet_s s) (quiet m) e seed a b
      ≡ cond (f.target ≼ tiny_length || norm (from_to (node_at m a) (node_at m b)) ≼ tiny_length) (refused Placement nothing_spent (quiet m)) (try_first (quiet_s s) f (side_nodes (quiet_s s) first_turn f nothing_spent (quiet m) a b))
  unfolding try_along stance quiet quiet_s node_at target_of
  along_plain m e seed a b = refl

  along_so : (m : Mesh) (e : Edge) (seed a b : ℕ) → Heard (try_along s m e seed a b) → try_along (quiet_s s) (quiet m) e seed a b ≡ quiet_a (try_along s m e seed a b)
  unfolding try_along quiet_a
  along_so m e seed a b h =
      let f = stance s m e seed a b in
      let x = side_nodes s first_turn f nothing_spent m a b in
      along_plain m e seed a b ∙ (elim (which (f.target ≼ tiny_length || norm (from_to (node_at m a) (node_at m b)) ≼ tiny_length)) [
        | inl z ↦ rw z refl
        | inr z ↦
            let k : Heard (try_first s f x) = rw z at h in
            rw z (ap (try_first (quiet_s s) f) (nodes_so first_turn f nothing_spent m a b (first_heard f x k)) ∙ first_so f x k)
      ])

  seed_so : (m : Mesh) (e : Edge) (seed : ℕ) (c : Cell) → Heard (try_seed s m e seed c) → try_seed (quiet_s s) (quiet m) e seed c ≡ quiet_a (try_seed s m e seed c)
  unfolding try_seed quiet_a
  seed_so m e seed (quad q) h = refl
  seed_so m e seed (tri t) h = elim (which (lies_left m e t)) [
    | inl f ↦ rw (quiet_lies m e t, f, try_seed) (along_so m e seed e.0 e.1 (rw (f, try_seed) at h))
    | inr f ↦ rw (quiet_lies m e t, f, try_seed) (along_so m e seed e.1 e.0 (rw (f, try_seed) at h))
  ]

  owner_so : (m : Mesh) (e : Edge) (o : Option Live) → Heard (try_owner s m e o) → try_owner (quiet_s s) (quiet m) e o ≡ quiet_a (try_owner s m e o)
  unfolding try_owner quiet_a
  owner_so m e none h = refl
  owner_so m e (some x) h = seed_so m e x.slot x.cell h

  -- an attempt that does not end for want of trace is the attempt without one
  pub quad_so : (m : Mesh) (e : Edge) → Heard (try_quad s m e) → try_quad (quiet_s s) (quiet m) e ≡ quiet_a (try_quad s m e)
  unfolding try_quad
  quad_so m e h = ap (try_owner (quiet_s s) (quiet m) e) (quiet_owner m e) ∙ owner_so m e (tri_owner m e) h
