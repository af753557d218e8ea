-- A quad's entry: what is read, what goes and what comes.
use Rattle.std.specs.Prelude.{◌≡◌, ◌&&◌, ◌||◌, ◌+◌, ◌-◌, ◌*◌, ◌<◌, ◌≤◌, ◌∷◌, ◌++◌}
use Rattle.laws.specs.Kit.{refl, sym, ◌∙◌, ap, ap₂, subst, inl, inr, Bool, true, false, not, cond, Option, none, some, ℕ, arith, eqb, ltb, eqb-true, lt-ltb, le-ltb, ltb-true, List, [], map, append-nil, length, get_or, take, drop, length-append, Float}
use lib.ListN.{length-drop}
use lib.Seq.{drop-drop, get_or-drop}
use borrow.Rule.Slice.PartMut.{mid_of, put_mid}
use Rattle.rings.specs.Rings.{Out, Distinct}
use Rattle.definition.specs.Lists.{filter, find, any, all, flat_map}
use Rattle.definition.specs.Numbers.{Settings}
use Rattle.definition.specs.Counts.{of_slots, number}
use Rattle.definition.specs.Call.{onto, quad_words}
use Rattle.definition.specs.Cells.{Quad, Cell, tri, quad, Live, Event, was_placed, Mesh, quad_nodes, is_tri, live_tri, in_slot, cell_of, with_live, noting, without, remove_cell, remove_cells, push_cell}
use Rattle.definition.specs.Trace.{quads_placed}
use Rattle.definition.specs.Attempt.{replaced}
use Rattle.definition.specs.Replay.{word, entered_quad, cells_in, all_different, triangles_in, Redone, redone, balked, unsound, redo}
use Rattle.laws.specs.Bools.{which, never, both}
use Rattle.laws.specs.Lists.{no_some, find_in, flat_map_append}
use Rattle.laws.specs.Slices.{quads_length, put_middle}
use Rattle.rules.specs.Settings.{Suits}
use Rattle.cells.specs.Rep.{Rep, slots}
use Rattle.cells.proofs.Points.{pts_as}
use Rattle.meshes.specs.Changes.{born_of_nodes}
use Rattle.traces.proofs.Parts.{put_length}
use Rattle.account.proofs.Redo.{placed_last}
use Rattle.cells.proofs.Slots.{out_filter, rep_noting, find_out}
use Rattle.retrace.specs.Stored.{four, plain, kept, stored}
use Rattle.retrace.specs.Takes.{has_tri, taking, TakesTo, CanPlace, PutsWords}
use Rattle.retrace.specs.Plays.{quad_in, quads_of, placed, Plays, EntryTo}
use Rattle.retrace.specs.Plays.{State}
use Rattle.retrace.proofs.Keeping.{stored_if, stored_noting, filter_swap}
use Rattle.retrace.proofs.Taking.{taken, taking_is, cell_slot}
use Rattle.retrace.proofs.Seats.{Seats, TriSlot, tri_slot, seats_take, seats_push, seats_as, quads_without, quads_push}
use Rattle.retrace.proofs.Flipping.{seats, broken_entry}
use Rattle.retrace.proofs.Placing.{has_nothing, has_some}

-- ---- its eight words

entry_words : (ws : List ℕ) → 9 ≤ length ws → take 8 (drop 1 ws) ≡ quad_words (entered_quad ws)
unfolding quad_words entered_quad word
entry_words [] l = absurd (omega arith)
entry_words (a ∷ []) l = absurd (omega arith)
entry_words (a ∷ b ∷ []) l = absurd (omega arith)
entry_words (a ∷ b ∷ c ∷ []) l = absurd (omega arith)
entry_words (a ∷ b ∷ c ∷ d ∷ []) l = absurd (omega arith)
entry_words (a ∷ b ∷ c ∷ d ∷ e ∷ []) l = absurd (omega arith)
entry_words (a ∷ b ∷ c ∷ d ∷ e ∷ f ∷ []) l = absurd (omega arith)
entry_words (a ∷ b ∷ c ∷ d ∷ e ∷ f ∷ g ∷ []) l = absurd (omega arith)
entry_words (a ∷ b ∷ c ∷ d ∷ e ∷ f ∷ g ∷ h ∷ []) l = absurd (omega arith)
entry_words (a ∷ b ∷ c ∷ d ∷ e ∷ f ∷ g ∷ h ∷ i ∷ ws) l = refl

one_quad : (qs : List Quad) (x : Quad) → flat_map quad_words (qs ++ x ∷ []) ≡ flat_map quad_words qs ++ quad_words x
unfolding flat_map
one_quad qs x = flat_map_append quad_words qs (x ∷ []) ∙ ap (λ (z : List ℕ). flat_map quad_words qs ++ z) (append-nil (quad_words x))

words_eight : (x : Quad) → length (quad_words x) ≡ 8
unfolding quad_words
words_eight x = refl

pub puts_words : (xs ys trace : List ℕ) (from k : ℕ) → 8 * k + 8 ≤ length xs → from + 9 ≤ length trace
    → ys ≡ take 8 (drop (from + 1) trace) ++ drop 8 (mid_of (8 * k) (length xs - 8 * k) xs) → PutsWords xs (put_mid (8 * k) (length xs - 8 * k) xs ys) trace from k
puts_words xs ys trace from k room fits e =
    let x = entered_quad (drop from trace) in
    let eight : take 8 (drop (from + 1) trace) ≡ quad_words x = ap (take 8) (sym (drop-drop 1 from trace)) ∙ entry_words (drop from trace) (omega (arith, length-drop from trace)) in
    let eq : ys ≡ quad_words x ++ drop (length (quad_words x)) (mid_of (8 * k) (length xs - 8 * k) xs) =
    e ∙ ap (λ (z : List ℕ). z ++ drop 8 (mid_of (8 * k) (length xs - 8 * k) xs)) eight
    ∙ ap (λ (n : ℕ). quad_words x ++ drop n (mid_of (8 * k) (length xs - 8 * k) xs)) (sym (words_eight x)) in
    let fit : 8 * k + length (quad_words x) ≤ length xs = omega (arith, words_eight x) in
    record {
      is = λ qs old n text.
          put_middle (flat_map quad_words qs) (quad_words x) old xs ys (8 * k) text (omega (arith, quads_length qs)) fit eq
          ∙ ap (λ (z : List ℕ). onto z old) (sym (one_quad qs x));
      len = put_length (quad_words x) xs ys (8 * k) fit eq;
    }

-- ---- its nodes

module _ (trace : List ℕ) (at a b c d : ℕ) (p : a ≡ get_or trace (at + 1) 0) (q : b ≡ get_or trace (at + 2) 0) (r : c ≡ get_or trace (at + 3) 0) (s : d ≡ get_or trace (at + 4) 0) where
  abbrev ws : List ℕ
  ws = drop at trace

  abbrev read : Quad
  read = born_of_nodes (word ws 5, word ws 6) (word ws 7) (word ws 8) a b c d

  pub quad_is : entered_quad (drop at trace) ≡ born_of_nodes (word (drop at trace) 5, word (drop at trace) 6) (word (drop at trace) 7) (word (drop at trace) 8) a b c d
  unfolding entered_quad word
  quad_is =
      let e0 = get_or-drop at trace 1 0 ∙ sym p in
      let e1 = get_or-drop at trace 2 0 ∙ sym q in
      let e2 = get_or-drop at trace 3 0 ∙ sym r in
      let e3 = get_or-drop at trace 4 0 ∙ sym s in
      λ i. record { n0 = e0 i; n1 = e1 i; n2 = e2 i; n3 = e3 i; edge = (word ws 5, word ws 6); round = word ws 7; replaced = word ws 8 }

  -- the test of the nodes
  pub known_is : (n k : ℕ) (x : Bool) → n ≡ k → x ≡ all (λ v. ltb v n) (a ∷ b ∷ c ∷ d ∷ []) → all (λ v. ltb v k) (quad_nodes (entered_quad (drop at trace))) ≡ x
  unfolding quad_nodes
  known_is n k x e f =
      ap (λ (y : Quad). all (λ v. ltb v k) (quad_nodes y)) quad_is ∙ ap (λ (j : ℕ). all (λ v. ltb v j) (a ∷ b ∷ c ∷ d ∷ [])) (sym e) ∙ sym f

-- all four are points
pub four_known : (n a b c d : ℕ) → all (λ v. ltb v n) (a ∷ b ∷ c ∷ d ∷ []) ≡ true → (a < n) × (b < n) × (c < n) × (d < n)
unfolding all
four_known n a b c d h =
    let h0 = both (ltb a n) (ltb b n && (ltb c n && (ltb d n && true))) h in
    let h1 = both (ltb b n) (ltb c n && (ltb d n && true)) h0.1 in
    let h2 = both (ltb c n) (ltb d n && true) h1.1 in
    let h3 = both (ltb d n) true h2.1 in
    (ltb-true a n h0.0, ltb-true b n h1.0, ltb-true c n h2.0, ltb-true d n h3.0)

-- ---- its slots, of the mesh and of what is stored

abbrev has_of : Option Live → Bool
has_of none = false
has_of (some x) = live_tri x

has_is : (m : Mesh) (i : ℕ) → has_tri m i ≡ has_of (cell_of m i)
has_is m i = go (cell_of m i) refl
  where
    go : (o : Option Live) → cell_of m i ≡ o → has_tri m i ≡ has_of o
    go none e = has_nothing m i e
    go (some x) e = has_some m i x e

unkept : (c : Cell) → plain c ≡ false → is_tri c ≡ false
unfolding plain is_tri
unkept (tri t) h = never true refl h
unkept (quad q) h = refl

has_kept : (i : ℕ) (l : List Live) → Distinct (slots l) → has_of (find (in_slot i) (filter kept l)) ≡ has_of (find (in_slot i) l)
unfolding find filter in_slot kept live_tri
has_kept i [] d = refl
has_kept i (x ∷ l) d = elim (which (eqb i x.slot)) [
  | inl e ↦ elim (which (plain x.cell)) [
    | inl f ↦ rw (f, e) refl
    | inr f ↦
        let same : i ≡ x.slot = eqb-true i x.slot e in
        let out : Out i (slots (filter kept l)) = out_filter kept i l (subst (λ (j : ℕ). Out j (slots l)) (sym same) d.0) in
        rw (f, e) (ap has_of (find_out i (filter kept l) out) ∙ sym (unkept x.cell f))
  ]
  | inr e ↦ elim (which (plain x.cell)) [
    | inl f ↦ rw (f, e) (has_kept i l d.1)
    | inr f ↦ rw (f, e) (has_kept i l d.1)
  ]
]

has_same : (m : Mesh) (i : ℕ) → Distinct (slots m.live) → has_tri (stored m) i ≡ has_tri m i
unfolding cell_of stored with_live
has_same m i d = has_is (stored m) i ∙ has_kept i m.live d ∙ sym (has_is m i)

stored_take : (m : Mesh) (i : ℕ) → stored (remove_cell m i) ≡ remove_cell (stored m) i
unfolding stored remove_cell with_live without
stored_take m i =
    ap (λ l. record { points = m.points; used = m.used; live = l; bucket = m.bucket; locked = m.locked; room = m.room; history = m.history })
    (filter_swap kept (λ x. not (in_slot i x)) m.live)

taking_stored : (ids : List ℕ) (m : Mesh) → Seats m → taking (stored m) ids ≡ stored_if (taking m ids)
unfolding taking
taking_stored [] m h = refl
taking_stored (i ∷ ids) m h =
    let s = has_same m i h.distinct in
    elim (which (has_tri m i)) [
      | inl e ↦ rw (s ∙ e, e, taking) (ap (λ (n : Mesh). taking n ids) (sym (stored_take m i)) ∙ taking_stored ids (remove_cell m i) (seats_take m h i))
      | inr e ↦ rw (s ∙ e, e, taking) refl
    ]

-- a slot that has a triangle has no quad
tri_only : (m : Mesh) (i : ℕ) → Seats m → has_tri m i ≡ true → TriSlot m i
unfolding cell_of
tri_only m i h e = go (cell_of m i) refl
  where
    go : (o : Option Live) → cell_of m i ≡ o → TriSlot m i
    go none f = never false (sym (has_is m i ∙ ap has_of f) ∙ e) refl
    go (some x) f =
        let z = find_in (in_slot i) x m.live f in
        subst (TriSlot m) (cell_slot m i x f) (tri_slot m x h.distinct z.0 (sym (has_is m i ∙ ap has_of f) ∙ e))

-- what goes with the triangles is nothing else
pub record Less (m m' : Mesh) : Type 0 where
  pub sits : Seats m'
  pub quads : quads_of m'.live ≡ quads_of m.live
  pub used : m'.used ≡ m.used
  pub points : m'.points ≡ m.points
  pub locked : m'.locked ≡ m.locked
  pub room : m'.room ≡ m.room
  pub history : m'.history ≡ m.history

taking_less : (ids : List ℕ) (m m' : Mesh) → Seats m → taking m ids ≡ some m' → Less m m'
unfolding taking remove_cell with_live
taking_less [] m m' h e = let f : m ≡ m' = cc in subst (Less m) f (record { sits = h; quads = refl; used = refl; points = refl; locked = refl; room = refl; history = refl })
taking_less (i ∷ ids) m m' h e = elim (which (has_tri m i)) [
  | inl f ↦
      let g = taking_less ids (remove_cell m i) m' (seats_take m h i) (rw (f, taking) at e) in
      record {
        sits = g.sits;
        quads = g.quads ∙ quads_without m i (tri_only m i h f);
        used = g.used;
        points = g.points;
        locked = g.locked;
        room = g.room;
        history = g.history;
      }
  | inr f ↦ no_some m' (rw (f, taking) at e)
]

-- ---- what the definition says of the entry

module _ (t : Settings) (m : Mesh) (x : Quad) (ids : List ℕ) where
  abbrev nodes_known : Bool
  nodes_known = all (λ v. ltb v (length m.points)) (quad_nodes x)

  abbrev there : Bool
  there = triangles_in m ids && all_different ids

  abbrev go_on : Redone
  go_on = cond (ltb t.slots (m.used + 1)) (balked (number of_slots)) (redone (replaced m x (cells_in m ids)))

  by_tests : redo t m (was_placed x ids) ≡ cond (nodes_known && there) go_on (balked 12)
  unfolding redo unsound
  by_tests = refl

  pub redo_strange : nodes_known ≡ false → redo t m (was_placed x ids) ≡ balked 12
  redo_strange e = by_tests ∙ ap (λ (b : Bool). cond (b && there) go_on (balked 12)) e

  gone : there ≡ false → redo t m (was_placed x ids) ≡ balked 12
  gone e = by_tests ∙ ap (λ (b : Bool). cond (nodes_known && b) go_on (balked 12)) e ∙ never_both nodes_known
    where
      never_both : (b : Bool) → cond (b && false) go_on (balked 12) ≡ balked 12
      never_both true = refl
      never_both false = refl

  not_there : taking m ids ≡ none → there ≡ false
  unfolding taken
  not_there e = elim (which there) [
    | inr f ↦ f
    | inl f ↦ let z : taken m ids ≡ some (remove_cells m (cells_in m ids)) = rw f refl in no_some (remove_cells m (cells_in m ids)) (sym e ∙ taking_is ids m ∙ z)
  ]

  pub redo_missing : taking m ids ≡ none → redo t m (was_placed x ids) ≡ balked 12
  redo_missing e = gone (not_there e)

  module _ (m' : Mesh) (e : taking m ids ≡ some m') where
    is_there : there ≡ true
    unfolding taken
    is_there = elim (which there) [
      | inl f ↦ f
      | inr f ↦ let z : taken m ids ≡ none = rw f refl in no_some m' (sym z ∙ sym (taking_is ids m) ∙ e)
    ]

    without_is : remove_cells m (cells_in m ids) ≡ m'
    unfolding taken
    without_is =
        let z : taken m ids ≡ some (remove_cells m (cells_in m ids)) = rw is_there refl in
        let y : some (remove_cells m (cells_in m ids)) ≡ some m' = sym z ∙ sym (taking_is ids m) ∙ e in
        cc

    pub redo_crowded : nodes_known ≡ true → t.slots < m.used + 1 → redo t m (was_placed x ids) ≡ balked 9
    unfolding number
    redo_crowded k l = by_tests ∙ ap₂ (λ (b c : Bool). cond (b && c) go_on (balked 12)) k is_there ∙ rw (lt-ltb t.slots (m.used + 1) l) refl

    -- the mesh with the quad
    abbrev pub after : Mesh
    after = noting (was_placed x (map (λ y. y.slot) (cells_in m ids))) (push_cell m' (quad x))

    pub redo_placed : nodes_known ≡ true → m.used + 1 ≤ t.slots → redo t m (was_placed x ids) ≡ redone after
    unfolding replaced
    redo_placed k l =
        by_tests ∙ ap₂ (λ (b c : Bool). cond (b && c) go_on (balked 12)) k is_there ∙ rw (le-ltb t.slots (m.used + 1) l) refl
        ∙ ap (λ (n : Mesh). redone (noting (was_placed x (map (λ y. y.slot) (cells_in m ids))) (push_cell n (quad x)))) without_is

-- ---- the state after it

any_last : (p : Quad → Bool) (xs : List Quad) (x : Quad) → any p (xs ++ x ∷ []) ≡ (any p xs || p x)
unfolding any
any_last p [] x = last (p x)
  where
    last : (y : Bool) → (y || false) ≡ y
    last true = refl
    last false = refl
any_last p (y ∷ xs) x = ap (λ (b : Bool). p y || b) (any_last p xs x) ∙ turn (p y) (any p xs) (p x)
  where
    turn : (a b c : Bool) → (a || (b || c)) ≡ ((a || b) || c)
    turn true b c = refl
    turn false b c = refl

-- the mesh without the triangles in the slots
pub record Emptied (w : List ℕ) (s p : ℕ) (m : Mesh) (ids : List ℕ) : Type 0 where
  pub mesh : Mesh
  pub is : taking m ids ≡ some mesh
  pub rep : Rep w s p (stored mesh)

pub all_gone : (w : List ℕ) (s p : ℕ) (m : Mesh) (ids : List ℕ) (b : Bool) → TakesTo w s p (stored_if (taking m ids)) b → b ≡ true → Emptied w s p m ids
all_gone w s p m ids b to f = go (taking m ids) refl
  where
    go : (o : Option Mesh) → taking m ids ≡ o → Emptied w s p m ids
    go none h = let y : b ≡ false = subst (λ (o : Option Mesh). TakesTo w s p (stored_if o) b) h to in never b f y
    go (some m') h =
        let y : TakesTo w s p (some (stored m')) b = subst (λ (o : Option Mesh). TakesTo w s p (stored_if o) b) h to in
        record { mesh = m'; is = h; rep = y.1 }

-- the numbers after a quad
pub record Onward (g r : State) (n : ℕ) (odd : Bool) : Type 0 where
  pub at : r.at ≡ g.at + n
  pub used : r.used ≡ g.used + 1
  pub points : r.points ≡ g.points
  pub quads : r.quads ≡ g.quads + 1
  pub odd_now : r.odd ≡ (g.odd || odd)
  pub going : r.refusal ≡ 0

module _ (w : List ℕ) (q : List Float) (quads : List ℕ) (s p : ℕ) (q₀ : List Float) (old : List ℕ) (g : State) (m : Mesh) (k : Plays w q quads s p q₀ old g m) (ids : List ℕ) where
  -- the slots by what is stored
  pub emptied : (w' : List ℕ) (b : Bool) → TakesTo w' s p (taking (stored m) ids) b → TakesTo w' s p (stored_if (taking m ids)) b
  emptied w' b h = subst (λ (o : Option Mesh). TakesTo w' s p o b) (taking_stored ids m (seats w q quads s p q₀ old g m k)) h

  pub less : (m' : Mesh) → taking m ids ≡ some m' → Less m m'
  less m' e = taking_less ids m m' (seats w q quads s p q₀ old g m k) e

  module _ (m' : Mesh) (e : taking m ids ≡ some m') (x : Quad) where
    after_placed : (t : Settings) → placed (after t m x ids m' e) ≡ placed m ++ x ∷ []
    unfolding noting push_cell with_live quads_placed
    after_placed t =
        placed_last m'.history (was_placed x (map (λ y. y.slot) (cells_in m ids))) ∙ ap (λ (l : List Event). quads_placed l ++ x ∷ []) (less m' e).history

    after_live : (t : Settings) → quads_of (after t m x ids m' e).live ≡ quads_of m.live ++ x ∷ []
    unfolding noting quad_in
    after_live t = quads_push m' (quad x) ∙ ap (λ (l : List Quad). l ++ x ∷ []) (less m' e).quads

    after_seats : (t : Settings) → Seats (after t m x ids m' e)
    unfolding noting
    after_seats t = seats_as (push_cell m' (quad x)) (seats_push m' (less m' e).sits (quad x)) (after t m x ids m' e) refl refl

    after_used : (t : Settings) → (after t m x ids m' e).used ≡ m.used + 1
    unfolding noting push_cell with_live
    after_used t = let h = (less m' e).used in omega arith

    after_points : (t : Settings) → (after t m x ids m' e).points ≡ m.points
    unfolding noting push_cell with_live
    after_points t = (less m' e).points

    after_locked : (t : Settings) → (after t m x ids m' e).locked ≡ m.locked
    unfolding noting push_cell with_live
    after_locked t = (less m' e).locked

    after_room : (t : Settings) → (after t m x ids m' e).room ≡ m.room
    unfolding noting push_cell with_live
    after_room t = (less m' e).room

    after_rep : (t : Settings) (w' : List ℕ) → Rep w' s p (stored (push_cell m' (quad x))) → Rep w' s p (stored (after t m x ids m' e))
    after_rep t w' r =
        let v = was_placed x (map (λ y. y.slot) (cells_in m ids)) in
        subst (Rep w' s p) (sym (stored_noting (push_cell m' (quad x)) v)) (rep_noting v (stored (push_cell m' (quad x))) w' s p r)

    quad_plays : (t : Settings) (w' quads' : List ℕ) (n : ℕ) (r : State) → Rep w' s p (stored (push_cell m' (quad x))) → Onward g r n (not (four x))
        → quads' ≡ onto (flat_map quad_words (placed m ++ x ∷ [])) old → Plays w' q quads' s p q₀ old r (after t m x ids m' e)
    quad_plays t w' quads' n r rep o text =
        let same = after_placed t in
        let used = after_used t in
        let points = after_points t in
        let sits = after_seats t in
        let more : length (placed (after t m x ids m' e)) ≡ length (placed m) + 1 = ap length same ∙ length-append (placed m) (x ∷ []) in
        let count : length m.points ≡ length (after t m x ids m' e).points = ap length (sym points) in
        record {
          rep = after_rep t w' rep;
          pts = pts_as q p m (after t m x ids m' e) (sym points) k.pts;
          used = o.used ∙ ap (λ (z : ℕ). z + 1) k.used ∙ sym used;
          points = o.points ∙ k.points ∙ count;
          number = o.quads ∙ ap (λ (z : ℕ). z + 1) k.number ∙ sym more;
          text = text ∙ ap (λ (z : List Quad). onto (flat_map quad_words z) old) (sym same);
          live = after_live t ∙ ap (λ (z : List Quad). z ++ x ∷ []) k.live ∙ sym same;
          few = omega (arith, more, used, k.few);
          odd = o.odd_now ∙ ap (λ (b : Bool). b || not (four x)) k.odd ∙ sym (ap (any (λ y. not (four y))) same ∙ any_last (λ y. not (four y)) (placed m) x);
          distinct = sits.distinct;
          below = sits.below;
          free = after_locked t ∙ k.free;
          room = after_room t ∙ k.room;
          len = k.len;
          rest = subst (λ (z : ℕ). drop (3 * z) q ≡ drop (3 * z) q₀) count k.rest;
          going = o.going;
        }

  -- ---- the ends of the entry

  module _ (t : Settings) (z : Suits t s p) (x : Quad) (n : ℕ) where
    pub entry_strange : all (λ v. ltb v (length m.points)) (quad_nodes x) ≡ false → (r : State) → r.refusal ≡ 12
        → EntryTo w w q q quads quads s p q₀ old g n (redo t m (was_placed x ids)) r
    entry_strange h r e = broken_entry w w q quads s p q₀ old g r n 12 _ (redo_strange t m x ids h) (omega arith) e refl

    module _ (w₁ : List ℕ) (len : length w₁ ≡ length w) (b : Bool) (to : TakesTo w₁ s p (stored_if (taking m ids)) b) where
      pub entry_missing : b ≡ false → (r : State) → r.refusal ≡ 12 → EntryTo w w₁ q q quads quads s p q₀ old g n (redo t m (was_placed x ids)) r
      entry_missing f r e = go (taking m ids) refl
        where
          go : (o : Option Mesh) → taking m ids ≡ o → EntryTo w w₁ q q quads quads s p q₀ old g n (redo t m (was_placed x ids)) r
          go none h = broken_entry w w₁ q quads s p q₀ old g r n 12 _ (redo_missing t m x ids h) (omega arith) e len
          go (some m') h =
              let y : TakesTo w₁ s p (some (stored m')) b = subst (λ (o : Option Mesh). TakesTo w₁ s p (stored_if o) b) h to in
              never b y.0 f

      module _ (gone : Emptied w₁ s p m ids) (all_Known : all (λ v. ltb v (length m.points)) (quad_nodes x) ≡ true) where
        pub entry_crowded : s ≤ g.used → (r : State) → r.refusal ≡ 9 → EntryTo w w₁ q q quads quads s p q₀ old g n (redo t m (was_placed x ids)) r
        entry_crowded h r e =
            broken_entry w w₁ q quads s p q₀ old g r n 9 _ (redo_crowded t m x ids gone.mesh gone.is all_Known (omega (arith, k.used, z.slots))) (omega arith) e len

        pub entry_placed : (w' quads' : List ℕ) (r : State) → g.used < s → Rep w' s p (stored (push_cell gone.mesh (quad x))) → length w' ≡ length w₁ → Onward g r n (not (four x))
            → quads' ≡ onto (flat_map quad_words (placed m ++ x ∷ [])) old → length quads' ≡ length quads → EntryTo w w' q q quads quads' s p q₀ old g n (redo t m (was_placed x ids)) r
        entry_placed w' quads' r h rep l o text size =
            subst (λ (y : Redone). EntryTo w w' q q quads quads' s p q₀ old g n y r)
            (sym (redo_placed t m x ids gone.mesh gone.is all_Known (omega (arith, k.used, z.slots))))
            ((o.at, quad_plays gone.mesh gone.is x t w' quads' n r rep o text, l ∙ len, size))

  -- what the quad's slot asks
  pub can_place : (m' : Mesh) → taking m ids ≡ some m' → (a b c d : ℕ) → g.used < s → (a < g.points) × (b < g.points) × (c < g.points) × (d < g.points) → CanPlace m' s g.used a b c d
  can_place m' e a b c d l h =
      let f = less m' e in
      let n : length m'.points ≡ g.points = ap length f.points ∙ sym k.points in
      record { next = k.used ∙ sym f.used; free = l; n0 = omega (arith, h.0); n1 = omega (arith, h.1); n2 = omega (arith, h.2); n3 = omega (arith, h.3) }
