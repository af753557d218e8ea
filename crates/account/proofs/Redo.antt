-- Replay: what happened to a mesh of a run can be done again, from the start, and gives its points,
use Rattle.std.specs.Prelude.{◌≡◌, ◌≢◌, ◌+◌, ◌<◌, ◌≤◌, ◌∷◌, ◌++◌}
use Rattle.laws.specs.Kit.{refl, sym, ◌∙◌, ap, subst, inl, inr, Bool, true, false, some, ℕ, arith, ltb, T, eq-eqb, ne_eqb, lt-ltb, le-ltb, lt-leb, List, [], map, append-nil, length, length-map, Float, binary64, fits}
use Rattle.std.specs.Float.Ieee.Fits.{add-fits}
use Rattle.definition.specs.Lists.{any, all, find, flat_map, contains}
use Rattle.definition.specs.Floats.{◌⊕◌}
use Rattle.definition.specs.Numbers.{Settings}
use Rattle.definition.specs.Plane.{Node, Vec, Edge, flat}
use Rattle.definition.specs.Cells.{Tri, Quad, Cell, tri, quad, Live, Event, was_split, was_flipped, was_placed, Mesh, quad_nodes, node_at, live_tri, owners, is_locked, in_slot, cell_of, all_edges, with_live, noting, set_cell, push_cell, remove_cells}
use Rattle.definition.specs.Trace.{words_in, traced, in_room, quads_placed}
use Rattle.definition.specs.Flips.{third, apart, convex_pair, set_tris, flipped, flip_tris, flip_cells, flip_owners, flip}
use Rattle.definition.specs.Insertion.{inserted, holds, with_point, split_triangle, split, along}
use Rattle.definition.specs.Account.{All}
use Rattle.definition.specs.Attempt.{replaced}
use Rattle.definition.specs.Front.{counting, new_mesh, start}
use Rattle.definition.specs.Replay.{Redone, redone, balked, redo_inserted, redo_split, redo_flipped, cells_in, all_different, triangles_in, redo}
use Rattle.laws.specs.Bools.{which}
use Rattle.laws.specs.Lists.{In, in_either, no_some}
use Rattle.account.proofs.Flips.{flip_free, flip_made}
use Rattle.account.proofs.FlipKeeps.{own_x, in_order, third_s}
use Rattle.account.specs.Valid.{Slots, Valid}
use Rattle.account.proofs.Valid.{tris_in}
use Rattle.account.proofs.Found.{region_tris}
use Rattle.account.proofs.LiveTris.{region_slots}
use Rattle.account.specs.Steps.{Splitting, Made}
use Rattle.account.specs.Run.{Rule}
use Rattle.account.specs.Redo.{Enterable, Redoable, bare, redo_all}
use Rattle.account.proofs.Redone.{redo_flip, redo_split_at, redo_placed}

redo_case : (s : Settings) (m n k : Mesh) (u v : Event) (us : List Event) (r : Redone) → redo s m u ≡ r
    → ((m' : Mesh) → redo_all s m' us ≡ redone n → redo_all s m' (us ++ (v ∷ [])) ≡ redone k)
    → redo_all s m (u ∷ us) ≡ redone n → redo_all s m (u ∷ (us ++ (v ∷ []))) ≡ redone k
unfolding redo_all
redo_case s m n k u v us (redone m') f next h = rw (f, redo_all) (next m' (rw (f, redo_all) at h))
redo_case s m n k u v us (balked j) f next h = absurd (let g : balked j ≡ redone n = rw (f, redo_all) at h in let z : ◌≡◌ {A = ℕ} 0 1 = cc in omega arith)

-- one more
redo_last : (s : Settings) (m n k : Mesh) (v : Event) (us : List Event) → redo_all s m us ≡ redone n → redo s n v ≡ redone k → redo_all s m (us ++ (v ∷ [])) ≡ redone k
unfolding redo_all
redo_last s m n k v [] h f = let g : m ≡ n = cc in rw (ap (λ z. redo s z v) g ∙ f, redo_all) refl
redo_last s m n k v (u ∷ us) h f = redo_case s m n k u v us (redo s m u) refl (λ m' h'. redo_last s m' n k v us h' f) h

pub placed_last : (us : List Event) (v : Event) → quads_placed (us ++ (v ∷ [])) ≡ quads_placed us ++ quads_placed (v ∷ [])
unfolding quads_placed
placed_last [] v = refl
placed_last (was_split id p ∷ us) v = placed_last us v
placed_last (was_flipped e ∷ us) v = placed_last us v
placed_last (was_placed q ids ∷ us) v = ap (λ l. q ∷ l) (placed_last us v)

module _ (s s₀ : Settings) (b : Float) (first : Mesh) (points : s.capacity ≤ s₀.capacity) (slots : s.slots ≤ s₀.slots) where
  -- one event more
  further : (m m' : Mesh) (v : Event) (quads more : List Quad) → Redoable s₀ b first m quads → m'.history ≡ m.history ++ (v ∷ []) → m'.room ≡ m.room
      → redo s₀ (bare b m) v ≡ redone (bare b m') → Enterable v → quads ++ quads_placed (v ∷ []) ≡ more → Redoable s₀ b first m' more
  further m m' v quads more h e o f g k = record {
    again = subst (λ l. redo_all s₀ (bare b first) l ≡ redone (bare b m')) (sym e) (redo_last s₀ (bare b first) (bare b m) (bare b m') v m.history h.again f);
    enterable = λ u i. elim (in_either u m.history (v ∷ []) (subst (λ l. In u l) e i)) [ inl j ↦ h.enterable u j | inr (inl j) ↦ subst (λ z. Enterable z) (sym j) g | inr (inr x'') ↦ elim x'' [ ] ];
    quads_are = ap quads_placed e ∙ placed_last m.history v ∙ ap (λ l. l ++ quads_placed (v ∷ [])) h.quads_are ∙ k;
    room_kept = o ∙ h.room_kept;
  }

  along_flat : (o : Node) (n : Vec) (target share : Float) (p : Node) → p ≡ along o n target share → Enterable (was_split 0 p)
  unfolding along flat ◌⊕◌
  along_flat o n target share p e =
      subst (λ z. (z ≡ flat z.x z.y) × T (fits binary64 z.x) × T (fits binary64 z.y)) (sym e) (refl, add-fits binary64 _ _, add-fits binary64 _ _)

  pub flip_redoable : (m m' : Mesh) (e : Edge) (quads : List Quad) → Valid m → In e (all_edges m) → flip m e ≡ some m' → Redoable s₀ b first m quads → Redoable s₀ b first m' quads
  unfolding set_tris set_cell with_live noting quads_placed
  flip_redoable m m' e quads ok i f h =
      further m m' (was_flipped e) quads quads h (ap (λ n. n.history) (flip_made m e m' f).after) (ap (λ n. n.room) (flip_made m e m' f).after) (redo_flip s₀ b m m' e ok i f) tt (append-nil quads)

  pub split_redoable : (start m : Mesh) (x : Live) (t : Tri) (p : Node) (quads : List Quad) → Valid m → Splitting s start m x t p → Redoable s₀ b first m quads
      → Redoable s₀ b first (split_triangle m x.slot t p) quads
  unfolding split_triangle push_cell set_cell with_live with_point noting quads_placed
  split_redoable start m x t p quads ok w h =
      let n = w.normal in
      further m (split_triangle m x.slot t p) (was_split x.slot p) quads quads h refl refl
      (redo_split_at s₀ b m x t p ok w.at w.cell w.held (omega (arith, w.point_left)) (omega (arith, w.slots_left)))
      (along_flat _ _ _ _ p n.place) (append-nil quads)

  pub quad_redoable : (P : ℕ → Mesh → Type 0) (k : ℕ) (m : Mesh) (q : Quad) (quads : List Quad) (w : Made s P k m q) → Valid w.mesh → Redoable s₀ b first w.mesh quads
      → Redoable s₀ b first m (quads ++ (q ∷ []))
  unfolding replaced push_cell remove_cells with_live noting quads_placed
  quad_redoable P k m q quads w ok h =
      let tris = region_tris w.mesh w.seed q w.cells ok w.seed_tri w.reached in
      subst (λ z. Redoable s₀ b first z (quads ++ (q ∷ []))) (sym w.after)
      (further w.mesh (replaced w.mesh q w.cells) (was_placed q (map (λ x. x.slot) w.cells)) quads (quads ++ (q ∷ [])) h refl refl
      (redo_placed s₀ b w.mesh q w.cells ok tris (region_slots w.mesh w.seed q w.cells ok w.seed_tri w.reached) w.trial.good.below (omega (arith, w.slot_left)))
      (w.in_place_of ∙ sym (length-map w.cells (λ x. x.slot))) refl)

  -- every state of a run comes about again
  pub redo_rule : Rule s (λ st es. Redoable s₀ b first st.mesh st.quads) (λ st es n m. Redoable s₀ b first m st.quads) (λ st. Redoable s₀ b first st.mesh st.quads)
  unfolding counting
  redo_rule = record {
    opens = λ st es ok h f. h;
    begins = λ st es h. h;
    flips = λ st es n m m' e ok h i f. flip_redoable m m' e st.quads ok i f h;
    splits = λ st es n m x t p ok h w. split_redoable st.mesh m x t p st.quads ok w h;
    refuses = λ st e es why n m h ok w. w;
    places = λ st e es n m q h w. quad_redoable _ n.insertions m q st.quads w w.before.0 w.before.1;
    ends = λ st e es n m h ok w. w;
    limits = λ st es h. h;
    empties = λ st h. h;
  }

-- at the start nothing happened
pub start_redoable : (s s₀ : Settings) (b : Float) (lk : Edge → Bool) (ts : List Tri) (ps : List Node) → Redoable s₀ b (start s lk ts ps).mesh (start s lk ts ps).mesh (start s lk ts ps).quads
unfolding start new_mesh redo_all quads_placed
start_redoable s s₀ b lk ts ps = record { again = refl; enterable = λ v i. absurd i; quads_are = refl; room_kept = refl }
