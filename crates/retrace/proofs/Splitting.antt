-- A split done again.
use Rattle.std.specs.Prelude.{◌≡◌, ◌+◌, ◌*◌, ◌<◌, ◌≤◌, ◌∷◌}
use Rattle.laws.specs.Kit.{refl, sym, ◌∙◌, ap, subst, inl, inr, Bool, true, false, not, cond, Option, none, some, ℕ, arith, eqb, eqb-true, lt-ltb, le-ltb, lt-leb, le-leb, List, [], append-nil, length, set, drop, length-set, length-append, Float}
use lib.Seq.{drop-drop, drop-set-lt}
use Rattle.rings.specs.Rings.{Out, Distinct, Below}
use Rattle.definition.specs.Lists.{filter, find, any, flat_map}
use Rattle.definition.specs.Floats.{0·0}
use Rattle.definition.specs.Numbers.{Settings}
use Rattle.definition.specs.Counts.{of_trace, number}
use Rattle.definition.specs.Plane.{Node, flat}
use Rattle.definition.specs.Call.{onto, quad_words}
use Rattle.definition.specs.Cells.{Tri, Quad, Cell, tri, quad, Live, was_split, Mesh, new_tri, new_live, node_at, live_tri, is_tri, in_slot, cell_of, with_live, noting, set_cell, push_cell}
use Rattle.definition.specs.Trace.{words_in, traced, in_room, quads_placed}
use Rattle.definition.specs.Insertion.{inserted, full, holds, with_point, split_triangle, split}
use Rattle.definition.specs.Replay.{Redone, redone, balked, unsound, redo_inserted, redo_split, redo}
use Rattle.laws.specs.Bools.{which, never}
use Rattle.laws.specs.Lists.{In, known, find_in, filter_in}
use Rattle.rules.specs.Settings.{Suits}
use Rattle.cells.specs.Rep.{Rep, Has, slots, TriIn}
use Rattle.cells.proofs.Slots.{in_has, out_filter, find_out}
use Rattle.flips.specs.Split.{with_spot, CanSplit, Splits}
use Rattle.account.proofs.Redo.{placed_last}
use Rattle.insertion.specs.Hold.{slot_holds}
use Rattle.retrace.specs.Stored.{four, plain, kept, stored}
use Rattle.retrace.specs.Plays.{quads_of, placed, Plays, EntryTo}
use Rattle.retrace.specs.Plays.{State}
use Rattle.retrace.proofs.Keeping.{stored_used, stored_points, stored_split}
use Rattle.retrace.proofs.Taking.{cell_slot}
use Rattle.retrace.proofs.Seats.{Seats, slot_given, seats_set, seats_push, seats_as, tri_slot, quads_set, quads_tri}
use Rattle.retrace.proofs.Flipping.{seats, broken_entry}

-- ---- the triangle that holds the point

module _ (m : Mesh) (o : Node) where
  holds_stored : (c : Cell) → holds (stored m) o c ≡ holds m o c
  unfolding holds node_at stored with_live
  holds_stored (tri t) = refl
  holds_stored (quad q) = refl

  slot_stored : (x : Option Live) → slot_holds (stored m) o x ≡ slot_holds m o x
  slot_stored none = refl
  slot_stored (some x) = holds_stored x.cell

  unkept : (c : Cell) → plain c ≡ false → holds m o c ≡ false
  unfolding plain holds
  unkept (tri t) h = never true refl h
  unkept (quad q) h = refl

  find_kept : (i : ℕ) (l : List Live) → Distinct (slots l) → slot_holds m o (find (in_slot i) (filter kept l)) ≡ slot_holds m o (find (in_slot i) l)
  unfolding find filter in_slot kept
  find_kept i [] d = refl
  find_kept i (x ∷ l) d = elim (which (eqb i x.slot)) [
    | inl e ↦ elim (which (plain x.cell)) [
      | inl f ↦ rw (f, e) refl
      | inr f ↦
          let same : i ≡ x.slot = eqb-true i x.slot e in
          let out : Out i (slots (filter kept l)) = out_filter kept i l (subst (λ (j : ℕ). Out j (slots l)) (sym same) d.0) in
          rw (f, e) (ap (slot_holds m o) (find_out i (filter kept l) out) ∙ sym (unkept x.cell f))
    ]
    | inr e ↦ elim (which (plain x.cell)) [
      | inl f ↦ rw (f, e) (find_kept i l d.1)
      | inr f ↦ rw (f, e) (find_kept i l d.1)
    ]
  ]

  -- a slot of the stored mesh
  pub held_same : (i : ℕ) → Distinct (slots m.live) → slot_holds (stored m) o (cell_of (stored m) i) ≡ slot_holds m o (cell_of m i)
  unfolding cell_of stored with_live
  held_same i d = slot_stored (find (in_slot i) (filter kept m.live)) ∙ find_kept i m.live d

-- slot i has the triangle t, which holds the point
pub record Held (m : Mesh) (o : Node) (i : ℕ) : Type 0 where
  pub t : Tri
  pub cell : cell_of m i ≡ some (new_live i (tri t))
  pub live : In (new_live i (tri t)) m.live
  pub inside : holds m o (tri t) ≡ true

the_tri : (m : Mesh) (o : Node) (c : Cell) → holds m o c ≡ true → (t : Tri) × (c ≡ tri t)
unfolding holds
the_tri m o (tri t) h = (t, refl)
the_tri m o (quad q) h = never false h refl

in_its_slot : (x : Live) (i : ℕ) (t : Tri) → x.slot ≡ i → x.cell ≡ tri t → x ≡ new_live i (tri t)
unfolding new_live
in_its_slot x i t e f = λ j. record { slot = e j; cell = f j }

pub held : (m : Mesh) (o : Node) (i : ℕ) → slot_holds m o (cell_of m i) ≡ true → Held m o i
unfolding cell_of
held m o i h = elim (known (cell_of m i)) [
  | inl e ↦ never false (sym (ap (slot_holds m o) e) ∙ h) refl
  | inr e ↦
      let x = e.0 in
      let holding : holds m o x.cell ≡ true = sym (ap (slot_holds m o) e.1) ∙ h in
      let t = the_tri m o x.cell holding in
      let is = in_its_slot x i t.0 (cell_slot m i x e.1) t.1 in
      record {
        t = t.0;
        cell = e.1 ∙ ap some is;
        live = subst (λ (y : Live). In y m.live) is (find_in (in_slot i) x m.live e.1).0;
        inside = sym (ap (holds m o) t.1) ∙ holding;
      }
]

module _ (m : Mesh) (o : Node) (i : ℕ) (h : Held m o i) where
  pub has_tri : Has (new_live i (tri h.t)) m.live
  has_tri = in_has (new_live i (tri h.t)) m.live h.live

  pub has_stored : Has (new_live i (tri h.t)) (stored m).live
  unfolding stored with_live kept plain new_live
  has_stored = in_has (new_live i (tri h.t)) (filter kept m.live) (filter_in kept m.live h.live refl)

  -- the triangle, of the mesh and of what is stored
  abbrev pub tri_there : TriIn m i
  tri_there = record { t = h.t; has = has_tri }

  abbrev pub tri_stored : TriIn (stored m) i
  tri_stored = record { t = h.t; has = has_stored }

-- ---- what the definition says of the entry

module _ (t : Settings) (m : Mesh) (o : Node) (i : ℕ) where
  pub redo_unheld : slot_holds m o (cell_of m i) ≡ false → redo t m (was_split i o) ≡ balked 12
  unfolding redo redo_split unsound
  redo_unheld h = go (cell_of m i) h
    where
      go : (x : Option Live) → slot_holds m o x ≡ false → redo_split t m o x ≡ balked 12
      go none e = refl
      go (some x) e = rw e refl

  module _ (h : Held m o i) where
    redo_held : redo t m (was_split i o) ≡ redo_inserted (split t m o i (tri h.t))
    unfolding redo redo_split new_live
    redo_held = ap (redo_split t m o) h.cell ∙ rw h.inside refl

    pub redo_points : t.capacity ≤ length m.points → redo t m (was_split i o) ≡ balked 8
    unfolding split redo_inserted number
    redo_points l = redo_held ∙ rw (le-leb t.capacity (length m.points) l) refl

    pub redo_slots : length m.points < t.capacity → t.slots < m.used + 2 → redo t m (was_split i o) ≡ balked 9
    unfolding split redo_inserted number
    redo_slots k l = redo_held ∙ rw (lt-leb t.capacity (length m.points) k, lt-ltb t.slots (m.used + 2) l) refl

    no_trace : m.room ≡ 0 → in_room (split_triangle m i h.t o) ≡ true
    unfolding in_room traced split_triangle push_cell set_cell with_live with_point noting words_in
    no_trace e = rw e refl

    pub redo_split_made : m.room ≡ 0 → length m.points < t.capacity → m.used + 2 ≤ t.slots → redo t m (was_split i o) ≡ redone (split_triangle m i h.t o)
    unfolding split redo_inserted
    redo_split_made e k l =
        redo_held ∙ rw (lt-leb t.capacity (length m.points) k, le-ltb t.slots (m.used + 2) l) (ap (λ (b : Bool). redo_inserted (cond b (inserted (length m.points) (split_triangle m i h.t o)) (full of_trace))) (no_trace e))

-- ---- the mesh with the triangle split

module _ (m : Mesh) (i : ℕ) (t : Tri) (o : Node) where
  abbrev v : ℕ
  v = length m.points

  abbrev one : Mesh
  one = set_cell (with_point m o) i (tri (new_tri t.n0 t.n1 v))

  abbrev two : Mesh
  two = push_cell one (tri (new_tri t.n1 t.n2 v))

  abbrev all : Mesh
  all = push_cell two (tri (new_tri t.n2 t.n0 v))

  module _ (h : Seats m) (x : In (new_live i (tri t)) m.live) where
    split_seats : Seats (split_triangle m i t o)
    unfolding split_triangle with_point noting new_live
    split_seats =
        let pointed = seats_as m h (with_point m o) refl refl in
        let first = seats_set (with_point m o) pointed i (tri (new_tri t.n0 t.n1 v)) (slot_given m.used m.live (new_live i (tri t)) h.below x) in
        seats_as all (seats_push two (seats_push one first (tri (new_tri t.n1 t.n2 v))) (tri (new_tri t.n2 t.n0 v))) (split_triangle m i t o) refl refl

    split_quads : quads_of (split_triangle m i t o).live ≡ quads_of m.live
    unfolding split_triangle with_point noting new_live live_tri is_tri
    split_quads =
        quads_tri two (new_tri t.n2 t.n0 v) ∙ quads_tri one (new_tri t.n1 t.n2 v)
        ∙ quads_set (with_point m o) i (new_tri t.n0 t.n1 v) (tri_slot (with_point m o) (new_live i (tri t)) h.distinct x refl)

  split_placed : placed (split_triangle m i t o) ≡ placed m
  unfolding split_triangle push_cell set_cell with_live with_point noting quads_placed
  split_placed = placed_last m.history (was_split i o) ∙ append-nil (placed m)

  split_used : (split_triangle m i t o).used ≡ m.used + 2
  unfolding split_triangle push_cell set_cell with_live with_point noting
  split_used = omega arith

  split_count : length (split_triangle m i t o).points ≡ length m.points + 1
  unfolding split_triangle push_cell set_cell with_live with_point noting
  split_count = length-append m.points (o ∷ [])

  split_locked : (split_triangle m i t o).locked ≡ m.locked
  unfolding split_triangle push_cell set_cell with_live with_point noting
  split_locked = refl

  split_room : (split_triangle m i t o).room ≡ m.room
  unfolding split_triangle push_cell set_cell with_live with_point noting
  split_room = refl

-- behind the new point the slice is as it was
behind : (q q₀ : List Float) (n : ℕ) (x y : Float) → drop (3 * n) q ≡ drop (3 * n) q₀ → drop (3 * (n + 1)) (with_spot q n x y) ≡ drop (3 * (n + 1)) q₀
behind q q₀ n x y e =
    let k = 3 * (n + 1) in
    let three : 3 * n + 3 ≡ k = omega arith in
    drop-set-lt k (set (set q (3 * n) x) (3 * n + 1) y) (3 * n + 2) 0·0 (omega arith)
    ∙ drop-set-lt k (set q (3 * n) x) (3 * n + 1) y (omega arith)
    ∙ drop-set-lt k q (3 * n) x (omega arith)
    ∙ ap (λ (z : ℕ). drop z q) (sym three) ∙ sym (drop-drop 3 (3 * n) q) ∙ ap (drop 3) e ∙ drop-drop 3 (3 * n) q₀ ∙ ap (λ (z : ℕ). drop z q₀) three

beyond : (n i : ℕ) (l : List ℕ) → n ≤ i → Below n l → Out i l
beyond n i [] h b = tt
beyond n i (x ∷ l) h b = (λ e. omega (arith, b.0), beyond n i l h b.1)

-- the numbers after a split
pub record Onward (g r : State) : Type 0 where
  pub at : r.at ≡ g.at + 6
  pub used : r.used ≡ g.used + 2
  pub points : r.points ≡ g.points + 1
  pub quads : r.quads ≡ g.quads
  pub odd : r.odd ≡ g.odd
  pub going : r.refusal ≡ 0

module _ (w : List ℕ) (q : List Float) (quads : List ℕ) (s p : ℕ) (q₀ : List Float) (old : List ℕ) (g : State) (m : Mesh) (k : Plays w q quads s p q₀ old g m) (i : ℕ) (x y : Float) where
  -- the slot's triangle by what is stored
  pub held_slot : (b : Bool) → b ≡ slot_holds (stored m) (flat x y) (cell_of (stored m) i) → slot_holds m (flat x y) (cell_of m i) ≡ b
  held_slot b e = sym (held_same m (flat x y) i k.distinct) ∙ sym e

  -- a slot past the last
  pub slot_out : s ≤ i → slot_holds m (flat x y) (cell_of m i) ≡ false
  unfolding cell_of
  slot_out l =
      let e : (stored m).used ≡ m.used = stored_used m in
      let few : m.used ≤ i = omega (arith, k.rep.used) in
      ap (slot_holds m (flat x y)) (find_out i m.live (beyond m.used i (slots m.live) few k.below))

  -- what the split asks
  abbrev pub can_split : (h : Held m (flat x y) i) → CanSplit (stored m) i g.used g.points
  can_split h = record { in_slot = tri_stored m (flat x y) i h; given = stored_used m ∙ sym k.used; count = ap length (stored_points m) ∙ sym k.points }

  module _ (t : Settings) (z : Suits t s p) where
    pub entry_unheld : slot_holds m (flat x y) (cell_of m i) ≡ false → (r : State) → r.refusal ≡ 12 → EntryTo w w q q quads quads s p q₀ old g 6 (redo t m (was_split i (flat x y))) r
    entry_unheld h r e = broken_entry w w q quads s p q₀ old g r 6 12 _ (redo_unheld t m (flat x y) i h) (omega arith) e refl

    module _ (h : Held m (flat x y) i) where
      pub entry_points : p ≤ g.points → (r : State) → r.refusal ≡ 8 → EntryTo w w q q quads quads s p q₀ old g 6 (redo t m (was_split i (flat x y))) r
      entry_points l r e = broken_entry w w q quads s p q₀ old g r 6 8 _ (redo_points t m (flat x y) i h (omega (arith, k.points, z.capacity))) (omega arith) e refl

      pub entry_slots : g.points < p → s < g.used + 2 → (r : State) → r.refusal ≡ 9 → EntryTo w w q q quads quads s p q₀ old g 6 (redo t m (was_split i (flat x y))) r
      entry_slots l n r e =
          broken_entry w w q quads s p q₀ old g r 6 9 _ (redo_slots t m (flat x y) i h (omega (arith, k.points, z.capacity)) (omega (arith, k.used, z.slots))) (omega arith) e refl

      module _ (w' : List ℕ) (q' : List Float) (f : Splits w w' q q' s p i g.used g.points x y) (r : State) (n : Onward g r) where
        abbrev after : Mesh
        after = split_triangle m i h.t (flat x y)

        split_plays : Plays w' q' quads s p q₀ old r after
        split_plays =
            let o = flat x y in
            let same = split_placed m i h.t o in
            let used = split_used m i h.t o in
            let count = split_count m i h.t o in
            let sits = split_seats m i h.t o (seats w q quads s p q₀ old g m k) h.live in
            let can : CanSplit m i g.used g.points = record { in_slot = tri_there m o i h; given = sym k.used; count = sym k.points } in
            let len : length q' ≡ length q = ap length f.text ∙ simp length-set in
            record {
              rep = subst (Rep w' s p) (sym (stored_split m i h.t o)) (f.rep (stored m) k.rep (can_split h));
              pts = f.pts m k.pts can;
              used = omega (arith, n.used, k.used);
              points = omega (arith, n.points, k.points);
              number = n.quads ∙ k.number ∙ ap length (sym same);
              text = k.text ∙ ap (λ (z : List Quad). onto (flat_map quad_words z) old) (sym same);
              live = split_quads m i h.t o (seats w q quads s p q₀ old g m k) h.live ∙ k.live ∙ sym same;
              few = let l : length (placed after) ≡ length (placed m) = ap length same in omega (arith, k.few);
              odd = n.odd ∙ k.odd ∙ ap (any (λ c. not (four c))) (sym same);
              distinct = sits.distinct;
              below = sits.below;
              free = split_locked m i h.t o ∙ k.free;
              room = split_room m i h.t o ∙ k.room;
              len = len ∙ k.len;
              rest =
                  subst (λ (c : ℕ). drop (3 * c) q' ≡ drop (3 * c) q₀) (sym count)
                  (ap (drop (3 * (length m.points + 1))) (f.text ∙ ap (λ (c : ℕ). with_spot q c x y) k.points) ∙ behind q q₀ (length m.points) x y k.rest);
              going = n.going;
            }

        pub entry_split : g.points < p → g.used + 2 ≤ s → EntryTo w w' q q' quads quads s p q₀ old g 6 (redo t m (was_split i (flat x y))) r
        entry_split a b =
            subst (λ (c : Redone). EntryTo w w' q q' quads quads s p q₀ old g 6 c r)
            (sym (redo_split_made t m (flat x y) i h k.room (omega (arith, k.points, z.capacity)) (omega (arith, k.used, z.slots))))
            ((n.at, split_plays, f.keeps.len, refl))
