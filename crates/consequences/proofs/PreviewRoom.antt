-- Preview: with room for two points and five slots beyond the given ones no preview that its inputs do not refuse
use Rattle.std.specs.Prelude.{◌≡◌, ◌≢◌, ◌&&◌, ◌||◌, ◌+◌, ◌*◌, ◌≤◌, ◌∷◌}
use Rattle.laws.specs.Kit.{refl, ◌∙◌, ap, inl, inr, true, false, not, Option, none, some, ℕ, zero, suc, arith, eqb, le-ltb, lt-leb, List, [], length, Float}
use Rattle.definition.specs.Lists.{find}
use Rattle.definition.specs.Floats.{◌⊗◌, ◌≼◌}
use Rattle.definition.specs.Numbers.{Settings, Turn, first_turn, second_turn, insert_shares, node_spacing, tiny_length}
use Rattle.definition.specs.Counts.{Refusal, Recovery, Spent, nothing_spent, trying}
use Rattle.definition.specs.Plane.{Node, Vec, Edge, norm, from_to}
use Rattle.definition.specs.Cells.{Tri, Quad, Cell, tri, quad, Live, Mesh, key, born, node_at, cell_of, tri_owner, is_front, this_round, has_edge, with_live, noting, set_cell, push_cell, remove_cells}
use Rattle.definition.specs.Trace.{words_in, traced, in_room}
use Rattle.definition.specs.Flips.{set_tris, flip, first_crossing, flip_first, recover_in, recover}
use Rattle.definition.specs.Insertion.{Inserted, nowhere, inserted, full, point_clear, slot_clear, holder, with_point, split_triangle, split, split_clear, insert_near, along, insert_by, insert_along}
use Rattle.definition.specs.Components.{removing_leaves_odd_component}
use Rattle.definition.specs.Region.{region}
use Rattle.definition.specs.Trials.{Trial, trials}
use Rattle.definition.specs.Attempt.{Tried, made, failed, orphaned, lacking, flipping, recover_all, replaced, replace, try_region, try_recovered, open_sides, try_pair, Attempt, placed, refused, ended, try_pairs, try_trials, Stance, Sides, found, missing, overfull, sides_by, sides_from, side_nodes, try_both, try_first, stance, try_along, lies_left, try_seed, try_owner, try_quad}
use Rattle.definition.specs.Front.{new_mesh}
use Rattle.definition.specs.Call.{Asked, Lent, given_points, given_tris, given_locks, conditions, settings_within, settings}
use Rattle.definition.specs.Preview.{Shown, off_front, shown_quad, shown_kind, shown_refusal, shown, show_edge, preview}
use Rattle.laws.specs.Bools.{which, cond_ok}
use Rattle.laws.specs.Lists.{known}
use Rattle.account.proofs.Flips.{flip_made, flip_points, flip_used}
use Rattle.account.proofs.Steps.{split_count, recover_all_ok}
use Rattle.account.proofs.Rooms.{split_used}
use Rattle.account.proofs.Finished.{not_of_run, points_number, tris_number}
use Rattle.consequences.specs.PreviewRoom.{Answers}

-- without a trace every entry fits
no_trace_fits : (m : Mesh) → m.room ≡ 0 → in_room m ≡ true
unfolding in_room traced words_in
no_trace_fits m e = rw e refl

-- a split writes to the same trace
split_same : (m : Mesh) (id : ℕ) (t : Tri) (p : Node) → (split_triangle m id t p).room ≡ m.room
unfolding split_triangle push_cell set_cell with_live with_point noting
split_same m id t p = refl

module _ (s : Settings) where
  -- room for j insertions and a quad, and no trace
  pub record RoomLeft (j : ℕ) (m : Mesh) : Type 0 where
    pub points : length m.points + j ≤ s.capacity
    pub slots : m.used + (2 * j + 1) ≤ s.slots
    pub no_trace : m.room ≡ 0

  less : (j : ℕ) (m : Mesh) → RoomLeft (suc j) m → RoomLeft j m
  less j m h = record { points = omega (arith, h.points); slots = omega (arith, h.slots); no_trace = h.no_trace }

  -- ---- flips

  flip_room : (j : ℕ) (m m' : Mesh) (e : Edge) → RoomLeft j m → flip m e ≡ some m' → RoomLeft j m'
  unfolding set_tris set_cell with_live noting
  flip_room j m m' e h f =
      record {
        points = omega (arith, ap length (flip_points m e m' f), h.points);
        slots = omega (arith, flip_used m e m' f, h.slots);
        no_trace = ap (λ n. n.room) (flip_made m e m' f).after ∙ h.no_trace;
      }

  first_room : (j : ℕ) (m m' : Mesh) (o : Option Edge) → RoomLeft j m → flip_first m o ≡ some m' → RoomLeft j m'
  unfolding flip_first
  first_room j m m' none h f = absurd (let z : ◌≡◌ {A = ℕ} 0 1 = cc in omega arith)
  first_room j m m' (some e) h f = flip_room j m m' e h f

  -- no recovery ends for want of trace
  in_full : (j n k : ℕ) (m : Mesh) (u v : ℕ) → RoomLeft j m → (recover_in n k m u v).short ≡ false
  unfolding recover_in
  in_full j zero k m u v h = refl
  in_full j (suc n) k m u v h = elim (which (has_edge m u v)) [
    | inl e ↦ rw (e, recover_in) refl
    | inr e ↦ elim (known (flip_first m (first_crossing m u v))) [
      | inl f ↦ rw (e, recover_in, f) refl
      | inr g ↦
          let r = first_room j m g.0 (first_crossing m u v) h g.1 in
          rw (e, recover_in, g.1, no_trace_fits g.0 r.no_trace) (in_full j n (suc k) g.0 u v r)
    ]
  ]

  sides_room : (j : ℕ) (m : Mesh) (es : List Edge) → RoomLeft j m → RoomLeft j (recover_all m es).mesh
  sides_room j m es h = recover_all_ok RoomLeft (λ n a b e k i f. flip_room n a b e k f) j m es h

  all_full : (j : ℕ) (m : Mesh) (es : List Edge) → RoomLeft j m → (recover_all m es).short ≡ false
  unfolding recover_all flipping recover
  all_full j m [] h = refl
  all_full j m (e ∷ es) h =
      let r = recover m e.0 e.1 in
      let none_short : r.short ≡ false = in_full j m.used 0 m e.0 e.1 h in
      let one : RoomLeft j (recover_all m (e ∷ [])).mesh = sides_room j m (e ∷ []) h in
      elim (which r.there) [
        | inl f ↦ rw (f, recover_all) (all_full j r.mesh es (rw (f, recover_all) at one))
        | inr f ↦ rw (f, recover_all) none_short
      ]

  -- ---- a pair

  abbrev Fine : ℕ → Tried → Type 0
  Fine j (made k q m) = Unit {0}
  Fine j (failed k why m) = RoomLeft j m
  Fine j orphaned = Unit {0}
  Fine j (lacking w k m) = ⊥

  abbrev pub NotEnded : Attempt → Type 0
  NotEnded (placed n m q) = Unit {0}
  NotEnded (refused why n m) = Unit {0}
  NotEnded (ended w n m) = ⊥

  replace_fine : (j k : ℕ) (m : Mesh) (q : Quad) (cells : List Live) → RoomLeft j m → Fine j (replace s k m q cells)
  unfolding replace replaced push_cell remove_cells with_live noting
  replace_fine j k m q cells h =
      let done = replaced m (born (this_round m) (length cells) q) cells in
      rw (le-ltb s.slots (m.used + 1) (omega (arith, h.slots)), no_trace_fits done h.no_trace) tt

  region_fine : (j k : ℕ) (m : Mesh) (q : Quad) (o : Option (List Live)) → RoomLeft j m → Fine j (try_region s k m q o)
  unfolding try_region
  region_fine j k m q none h = h
  region_fine j k m q (some cells) h = cond_ok (Fine j) (s.even && removing_leaves_odd_component m cells) _ _ (λ z. h) (λ z. replace_fine j k m q cells h)

  pair_fine : (j : ℕ) (m : Mesh) (q : Quad) (o : Option Live) → RoomLeft j m → Fine j (try_pair s m q o)
  unfolding try_pair try_recovered
  pair_fine j m q none h = tt
  pair_fine j m q (some x) h =
      let r = recover_all m (open_sides q) in
      let k = sides_room j m (open_sides q) h in
      cond_ok (Fine j) r.there _ _ (λ z. region_fine j r.flips r.mesh q (region r.mesh x.slot q) k) (λ z. rw (all_full j m (open_sides q) h) k)

  pairs_case : (j : ℕ) (n : Spent) (m : Mesh) (e : Edge) (last : Refusal) (t : Trial) (ts : List Trial) (r : Tried) → try_pair s m t.nodes (tri_owner m e) ≡ r → Fine j r
      → ((k : ℕ) (why : Refusal) (m' : Mesh) → RoomLeft j m' → NotEnded (try_pairs s (trying k n) m' e why ts)) → NotEnded (try_pairs s n m e last (t ∷ ts))
  unfolding try_pairs
  pairs_case j n m e last t ts (made k q m') f h next = rw (f, try_pairs) tt
  pairs_case j n m e last t ts (failed k why m') f h next = rw (f, try_pairs) (next k why m' h)
  pairs_case j n m e last t ts orphaned f h next = rw (f, try_pairs) tt
  pairs_case j n m e last t ts (lacking w k m') f h next = absurd h

  pairs_fine : (j : ℕ) (n : Spent) (m : Mesh) (e : Edge) (last : Refusal) (ts : List Trial) → RoomLeft j m → NotEnded (try_pairs s n m e last ts)
  unfolding try_pairs
  pairs_fine j n m e last [] h = tt
  pairs_fine j n m e last (t ∷ ts) h =
      pairs_case j n m e last t ts (try_pair s m t.nodes (tri_owner m e)) refl (pair_fine j m t.nodes (tri_owner m e) h) (λ k why m' h'. pairs_fine j (trying k n) m' e why ts h')

  trials_fine : (j : ℕ) (n : Spent) (m : Mesh) (e : Edge) (ts : List Trial) → RoomLeft j m → NotEnded (try_trials s n m e ts)
  unfolding try_trials
  trials_fine j n m e [] h = tt
  trials_fine j n m e (t ∷ ts) h = pairs_fine j n m e Recovery (t ∷ ts) h

  -- ---- an insertion

  abbrev Roomy : ℕ → Inserted → Type 0
  Roomy j nowhere = Unit {0}
  Roomy j (inserted v m) = RoomLeft j m
  Roomy j (full w) = ⊥

  split_room : (j : ℕ) (m : Mesh) (p : Node) (id : ℕ) (c : Cell) → RoomLeft (suc j) m → Roomy j (split s m p id c)
  unfolding split
  split_room j m p id (quad q) h = tt
  split_room j m p id (tri t) h =
      let done = split_triangle m id t p in
      let same : done.room ≡ m.room = split_same m id t p in
      rw (lt-leb s.capacity (length m.points) (omega (arith, h.points)), le-ltb s.slots (m.used + 2) (omega (arith, h.slots)), no_trace_fits done (same ∙ h.no_trace))
      (record { points = omega (arith, split_count m id t p, h.points); slots = omega (arith, split_used m id t p, h.slots); no_trace = same ∙ h.no_trace })

  clear_room : (j : ℕ) (m : Mesh) (p : Node) (spacing : Float) (o : Option Live) → RoomLeft (suc j) m → Roomy j (split_clear s m p spacing o)
  unfolding split_clear
  clear_room j m p spacing none h = tt
  clear_room j m p spacing (some x) h = cond_ok (Roomy j) (point_clear m p spacing x.cell) (split s m p x.slot x.cell) nowhere (λ z. split_room j m p x.slot x.cell h) (λ z. tt)

  near_room : (j : ℕ) (m : Mesh) (seed : ℕ) (p : Node) → RoomLeft (suc j) m → Roomy j (insert_near s m seed p)
  unfolding insert_near
  near_room j m seed p h =
      let spacing = node_spacing ⊗ m.bucket in
      cond_ok (Roomy j) (slot_clear m p spacing (cell_of m seed)) (split_clear s m p spacing (holder m seed p)) nowhere (λ z. clear_room j m p spacing (holder m seed p) h) (λ z. tt)

  by_case : (j : ℕ) (m : Mesh) (seed : ℕ) (o : Node) (n : Vec) (target c : Float) (cs : List Float) (r : Inserted) → insert_near s m seed (along o n target c) ≡ r → Roomy j r
      → Roomy j (insert_by s m seed o n target cs) → Roomy j (insert_by s m seed o n target (c ∷ cs))
  unfolding insert_by
  by_case j m seed o n target c cs nowhere f h next = rw (f, insert_by) next
  by_case j m seed o n target c cs (inserted v m') f h next = rw (f, insert_by) h
  by_case j m seed o n target c cs (full w) f h next = absurd h

  by_room : (j : ℕ) (m : Mesh) (seed : ℕ) (o : Node) (n : Vec) (target : Float) (shares : List Float) → RoomLeft (suc j) m → Roomy j (insert_by s m seed o n target shares)
  unfolding insert_by
  by_room j m seed o n target [] h = tt
  by_room j m seed o n target (c ∷ cs) h = by_case j m seed o n target c cs (insert_near s m seed (along o n target c)) refl (near_room j m seed (along o n target c) h) (by_room j m seed o n target cs h)

  -- ---- an attempt

  -- of the side nodes at one end
  abbrev Open : ℕ → Sides → Type 0
  Open j (found cs n m) = RoomLeft j m
  Open j (missing n m) = Unit {0}
  Open j (overfull w n m) = ⊥

  inserted_open : (j : ℕ) (n : Spent) (m : Mesh) (r : Inserted) → Roomy j r → Open j (sides_by n m r)
  unfolding sides_by
  inserted_open j n m nowhere h = tt
  inserted_open j n m (inserted v m') h = h
  inserted_open j n m (full w) h = h

  from_open : (j : ℕ) (f : Stance) (n : Spent) (m : Mesh) (p : ℕ) (cs : List ℕ) → RoomLeft (suc j) m → Open j (sides_from s f n m p cs)
  unfolding sides_from insert_along
  from_open j f n m p (c ∷ cs) h = less j m h
  from_open j f n m p [] h =
      cond_ok (Open j) f.mismatch _ _ (λ z. inserted_open j n m _ (by_room j m f.seed (node_at m p) f.normal f.target insert_shares h)) (λ z. tt)

  nodes_open : (j : ℕ) (t : Turn) (f : Stance) (n : Spent) (m : Mesh) (p other : ℕ) → RoomLeft (suc j) m → Open j (side_nodes s t f n m p other)
  unfolding side_nodes
  nodes_open j t f n m p other h = from_open j f n m p _ h

  both_fine : (f : Stance) (cs : List ℕ) (r : Sides) → Open 0 r → NotEnded (try_both s f cs r)
  unfolding try_both
  both_fine f cs (missing n m) h = tt
  both_fine f cs (overfull w n m) h = h
  both_fine f cs (found ds n m) h = trials_fine 0 n m f.edge (trials s.quality m f.a f.b cs ds) h

  first_fine : (f : Stance) (r : Sides) → Open 1 r → NotEnded (try_first s f r)
  unfolding try_first
  first_fine f (missing n m) h = tt
  first_fine f (overfull w n m) h = h
  first_fine f (found cs n m) h = both_fine f cs (side_nodes s second_turn f n m f.b f.a) (nodes_open 0 second_turn f n m f.b f.a h)

  module _ (m : Mesh) (room : RoomLeft 2 m) where
    along_fine : (e : Edge) (seed a b : ℕ) → NotEnded (try_along s m e seed a b)
    unfolding try_along
    along_fine e seed a b =
        let f = stance s m e seed a b in
        cond_ok NotEnded (f.target ≼ tiny_length || norm (from_to (node_at m a) (node_at m b)) ≼ tiny_length) _ _ (λ z. tt)
        (λ z. first_fine f (side_nodes s first_turn f nothing_spent m a b) (nodes_open 1 first_turn f nothing_spent m a b room))

    seed_fine : (e : Edge) (seed : ℕ) (c : Cell) → NotEnded (try_seed s m e seed c)
    unfolding try_seed
    seed_fine e seed (quad q) = tt
    seed_fine e seed (tri t) = elim (lies_left m e t) as (λ b. NotEnded (elim b [ true ↦ try_along s m e seed e.0 e.1 | false ↦ try_along s m e seed e.1 e.0 ])) [
      | true ↦ along_fine e seed e.0 e.1
      | false ↦ along_fine e seed e.1 e.0
    ]

    owner_fine : (e : Edge) (o : Option Live) → NotEnded (try_owner s m e o)
    unfolding try_owner
    owner_fine e none = tt
    owner_fine e (some x) = seed_fine e x.slot x.cell

    -- an attempt with room for two insertions and a quad does not end for want of memory
    pub room_enough : (e : Edge) → NotEnded (try_quad s m e)
    unfolding try_quad
    room_enough e = owner_fine e (tri_owner m e)

shows : (s : Settings) (x : Attempt) → NotEnded s x → Answers (shown x)
unfolding shown
shows s (placed n m q) h = tt
shows s (refused why n m) h = tt
shows s (ended w n m) h = h

answers_not : (x : Shown) (k : ℕ) → Answers x → x ≢ shown_refusal k
answers_not (off_front c) k h e = let z : ◌≡◌ {A = ℕ} 0 1 = cc in omega arith
answers_not (shown_quad q c) k h e = let z : ◌≡◌ {A = ℕ} 0 1 = cc in omega arith
answers_not (shown_kind why c) k h e = let z : ◌≡◌ {A = ℕ} 0 1 = cc in omega arith
answers_not (shown_refusal j) k h e = absurd h

-- A preview whose inputs pass the tests, and that has room for two points and five slots beyond the given ones,
-- is not refused.
pub preview_has_room : (a : Asked) (l : Lent) (u v : ℕ) → find (λ c. c.1) (conditions a l) ≡ none → a.given + 2 ≤ a.capacity → a.count + 5 ≤ a.slots
    → (k : ℕ) → (preview a l u v).shown ≢ shown_refusal k
unfolding preview show_edge new_mesh settings settings_within
preview_has_room a l u v f points slots k =
    let s = settings a in
    let m = new_mesh s (given_locks a l) (given_tris a l) (given_points a l) in
    let e = key u v in
    let room : RoomLeft s 2 m = record { points = omega (arith, points_number a l f, points); slots = omega (arith, tris_number a l f, slots); no_trace = refl } in
    rw (f, preview) (answers_not (show_edge s m e) k (cond_ok Answers (not (eqb e.0 e.1) && is_front m e) _ _ (λ z. shows s (try_quad s m e) (room_enough s m room e)) (λ z. tt)))

-- With room for two points and five slots beyond the given ones neither 8 nor 9 is shown, whatever the inputs.
pub neither_8_nor_9 : (a : Asked) (l : Lent) (u v : ℕ) → a.given + 2 ≤ a.capacity → a.count + 5 ≤ a.slots → ((preview a l u v).shown ≢ shown_refusal 8) × ((preview a l u v).shown ≢ shown_refusal 9)
unfolding preview
neither_8_nor_9 a l u v points slots = elim (known (find (λ c. c.1) (conditions a l))) [
  | inl f ↦ (preview_has_room a l u v f points slots 8, preview_has_room a l u v f points slots 9)
  | inr f ↦
      let n = not_of_run a l f.0.0 f.0.1 f.1 in
      rw (f.1, preview) (λ z. let y : f.0.0 ≡ 8 = cc in n.0 y, λ z. let y : f.0.0 ≡ 9 = cc in n.1 y)
]
