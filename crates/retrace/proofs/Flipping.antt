-- A flip done again.
use Rattle.std.specs.Prelude.{◌≡◌, ◌≢◌, ◌&&◌, ◌||◌, ◌+◌, ◌*◌, ◌<◌, ◌≤◌}
use Rattle.laws.specs.Kit.{refl, sym, ◌∙◌, ap, subst, inl, inr, Bool, true, false, not, cond, Option, none, some, ℕ, arith, eqb, ltb, eq-eqb, ne_eqb, lt-ltb, le-ltb, List, append-nil, length, get_or, drop, Float}
use Rattle.definition.specs.Lists.{any, flat_map}
use Rattle.definition.specs.Plane.{Edge}
use Rattle.definition.specs.Call.{quad_at, first_quads, onto, quad_words}
use Rattle.definition.specs.Numbers.{Settings}
use Rattle.definition.specs.Replay.{Redone, redone, balked, unsound, redo_flipped, redo}
use Rattle.definition.specs.Cells.{Quad, Cell, tri, quad, Live, was_flipped, Mesh, has_side, is_locked, key, same_edge, has_edge_in, quad_edges, is_tri, live_tri, owns, owners, with_live, noting, set_cell}
use Rattle.definition.specs.Flips.{set_tris, flip}
use Rattle.definition.specs.Trace.{quads_placed}
use Rattle.laws.specs.Lists.{In, no_some, in_filter, filter_in, in_any, any_in, in_flat_map, flat_map_in}
use Rattle.laws.specs.Bools.{both, fails, never, not_and}
use Rattle.account.specs.Flips.{Flipped}
use Rattle.account.proofs.Flips.{free_flip, flip_made, flip_points, flip_used}
use Rattle.account.proofs.Slices.{quads_back}
use Rattle.cells.specs.Rep.{Rep, Pts}
use Rattle.joints.specs.Table.{Locks}
use Rattle.flips.specs.Flip.{FlipTo}
use Rattle.flips.specs.declared.flip.Turned.{Turned}
use Rattle.flips.specs.declared.flip.Turned.TheVariants.{Not, Short, Flipped as Made}
use Rattle.flips.proofs.Recovers.{flip_yes}
use Rattle.cells.proofs.Edges.{joins, keys, key_up}
use Rattle.cells.proofs.Points.{pts_as}
use Rattle.account.proofs.Redo.{placed_last}
use Rattle.retrace.specs.Stored.{four, plain, kept, stored}
use Rattle.retrace.specs.Plays.{quad_in, quads_of, placed, Plays, Small, EntryTo}
use Rattle.retrace.specs.Plays.{State}
use Rattle.retrace.proofs.Keeping.{stored_if, stored_used, hidden, stored_flip, two_tris}
use Rattle.retrace.proofs.Seats.{Seats, slot_given, seats_set, seats_as, tri_slot, quads_set, still_tri}

-- ---- an edge of a quad

joined : (a b u v : ℕ) → u < v → same_edge (u, v) (key a b) ≡ joins u v a b
joined a b u v h = ap (λ e. same_edge e (key a b)) (sym (key_up u v h)) ∙ keys u v a b

pub side_first : (a b u v : ℕ) → u < v → a ≡ u → eqb b v ≡ same_edge (u, v) (key a b)
side_first a b u v h e = go (eqb b v) refl ∙ sym (joined a b u v h)
  where
    go : (x : Bool) → eqb b v ≡ x → x ≡ joins u v a b
    go true f = rw (eq-eqb a u e, f)
    go false f = rw (eq-eqb a u e, f, ne_eqb a v (λ q. omega arith))

pub side_second : (a b u v : ℕ) → u < v → a ≢ u → a ≡ v → eqb b u ≡ same_edge (u, v) (key a b)
side_second a b u v h d e = go ∙ sym (joined a b u v h)
  where
    go : eqb b u ≡ joins u v a b
    go = rw (ne_eqb a u d, eq-eqb a v e) refl

pub side_other : (a b u v : ℕ) → u < v → a ≢ u → a ≢ v → false ≡ same_edge (u, v) (key a b)
side_other a b u v h d e = go ∙ sym (joined a b u v h)
  where
    go : false ≡ joins u v a b
    go = rw (ne_eqb a u d, ne_eqb a v e) refl

-- the four sides of quad i
pub quad_sides : (xs : List ℕ) (i a b c d : ℕ) (e : Edge) → a ≡ get_or xs (8 * i) 0 → b ≡ get_or xs (8 * i + 1) 0 → c ≡ get_or xs (8 * i + 2) 0 → d ≡ get_or xs (8 * i + 3) 0
    → has_edge_in (quad_edges (quad_at xs i)) e ≡ (same_edge e (key a b) || (same_edge e (key b c) || (same_edge e (key c d) || (same_edge e (key d a) || false))))
unfolding has_edge_in any quad_edges quad_at
quad_sides xs i a b c d e p q r s = rw (← p, ← q, ← r, ← s) refl

module _ (x y z t : Bool) where
  pub side_one : x ≡ true → true ≡ (x || (y || (z || (t || false))))
  side_one e = rw e refl

  pub side_two : x ≡ false → y ≡ true → true ≡ (x || (y || (z || (t || false))))
  side_two e f = rw (e, f) refl

  pub side_three : x ≡ false → y ≡ false → z ≡ true → true ≡ (x || (y || (z || (t || false))))
  side_three e f g = rw (e, f, g) refl

  pub side_four : x ≡ false → y ≡ false → z ≡ false → t ≡ (x || (y || (z || (t || false))))
  side_four e f g = rw (e, f, g) (last t)
    where
      last : (t : Bool) → t ≡ (t || false)
      last true = refl
      last false = refl

pub hides_no : (odd b : Bool) → odd ≡ false → false ≡ (odd && b)
hides_no odd b e = rw e refl

pub hides_yes : (odd b r : Bool) → odd ≡ true → r ≡ b → r ≡ (odd && b)
hides_yes odd b r e f = rw e f

-- ---- a flip that is made

module _ (m : Mesh) (e : Edge) (m' : Mesh) (f : flip m e ≡ some m') where
  abbrev made : Flipped m e m'
  made = flip_made m e m' f

  live_x : In made.x m.live
  unfolding owners
  live_x = (in_filter (owns e) m.live (subst (In made.x) (sym made.owned) (inl refl))).0

  live_y : In made.y m.live
  unfolding owners
  live_y = (in_filter (owns e) m.live (subst (In made.y) (sym made.owned) (inr (inl refl)))).0

  abbrev step : Mesh
  step = set_cell m made.x.slot (tri made.s')

  module _ (h : Seats m) where
    flip_seats : Seats m'
    unfolding set_tris noting set_cell with_live
    flip_seats =
        let one = seats_set m h made.x.slot (tri made.s') (slot_given m.used m.live made.x h.below live_x) in
        let two = seats_set step one made.y.slot (tri made.t') (slot_given m.used m.live made.y h.below live_y) in
        seats_as _ two m' (ap (λ (n : Mesh). n.live) made.after) (ap (λ (n : Mesh). n.used) made.after)

    flip_quads : quads_of m'.live ≡ quads_of m.live
    unfolding set_tris noting live_tri is_tri
    flip_quads =
        let tri_x = tri_slot m made.x h.distinct live_x (ap is_tri made.cell_x) in
        let tri_y = tri_slot m made.y h.distinct live_y (ap is_tri made.cell_y) in
        ap (λ (n : Mesh). quads_of n.live) made.after
        ∙ quads_set step made.y.slot made.t' (still_tri m made.x.slot made.y.slot made.s' tri_y)
        ∙ quads_set m made.x.slot made.s' tri_x

  flip_placed : placed m' ≡ placed m
  unfolding set_tris noting set_cell with_live quads_placed
  flip_placed = ap (λ (n : Mesh). quads_placed n.history) made.after ∙ placed_last m.history (was_flipped e) ∙ append-nil (placed m)

  flip_locked : m'.locked ≡ m.locked
  unfolding set_tris noting set_cell with_live
  flip_locked = ap (λ (n : Mesh). n.locked) made.after

  flip_room : m'.room ≡ m.room
  unfolding set_tris noting set_cell with_live
  flip_room = ap (λ (n : Mesh). n.room) made.after

-- the numbers of r are those of g, further on
pub record Onward (g r : State) (n : ℕ) : Type 0 where
  pub at : r.at ≡ g.at + n
  pub used : r.used ≡ g.used
  pub points : r.points ≡ g.points
  pub quads : r.quads ≡ g.quads
  pub odd : r.odd ≡ g.odd
  pub going : r.refusal ≡ 0

module _ (w : List ℕ) (q : List Float) (quads : List ℕ) (s p : ℕ) (q₀ : List Float) (old : List ℕ) (g : State) (m : Mesh) (k : Plays w q quads s p q₀ old g m) where
  pub seats : Seats m
  seats = record { distinct = k.distinct; below = k.below }

  flip_plays : (w' : List ℕ) (e : Edge) (m' : Mesh) (f : flip m e ≡ some m') → Rep w' s p (stored m') → (r : State) → Onward g r 3 → Plays w' q quads s p q₀ old r m'
  flip_plays w' e m' f rep r o =
      let points = flip_points m e m' f in
      let used = flip_used m e m' f in
      let same = flip_placed m e m' f in
      let sits = flip_seats m e m' f seats in
      let count : length m.points ≡ length m'.points = ap length (sym points) in
      record {
        rep = rep;
        pts = pts_as q p m m' (sym points) k.pts;
        used = o.used ∙ k.used ∙ sym used;
        points = o.points ∙ k.points ∙ count;
        number = o.quads ∙ k.number ∙ ap length (sym same);
        text = k.text ∙ ap (λ (z : List Quad). onto (flat_map quad_words z) old) (sym same);
        live = flip_quads m e m' f seats ∙ k.live ∙ sym same;
        few = rw (same, used) k.few;
        odd = o.odd ∙ k.odd ∙ ap (any (λ x. not (four x))) (sym same);
        distinct = sits.distinct;
        below = sits.below;
        free = flip_locked m e m' f ∙ k.free;
        room = flip_room m e m' f ∙ k.room;
        len = k.len;
        rest = subst (λ (n : ℕ). drop (3 * n) q ≡ drop (3 * n) q₀) count k.rest;
        going = o.going;
      }

-- ---- what the definition says of the entry

module _ (t : Settings) (m : Mesh) (u v : ℕ) where
  pub redo_order : v ≤ u → redo t m (was_flipped (u, v)) ≡ balked 12
  unfolding redo unsound
  redo_order h = rw (le-ltb u v h) refl

  pub redo_unknown : length m.points ≤ v → redo t m (was_flipped (u, v)) ≡ balked 12
  unfolding redo unsound
  redo_unknown h = go (ltb u v)
    where
      go : (b : Bool) → cond (b && ltb v (length m.points)) (redo_flipped (flip m (u, v))) (balked 12) ≡ balked 12
      go true = rw (le-ltb v (length m.points) h) refl
      go false = refl

  pub redo_none : flip m (u, v) ≡ none → redo t m (was_flipped (u, v)) ≡ balked 12
  unfolding redo unsound redo_flipped
  redo_none h = go (ltb u v && ltb v (length m.points))
    where
      go : (b : Bool) → cond b (redo_flipped (flip m (u, v))) (balked 12) ≡ balked 12
      go true = ap redo_flipped h
      go false = refl

  pub redo_made : (m' : Mesh) → u < v → v < length m.points → flip m (u, v) ≡ some m' → redo t m (was_flipped (u, v)) ≡ redone m'
  unfolding redo redo_flipped
  redo_made m' h k f = rw (lt-ltb u v h, lt-ltb v (length m.points) k) (ap redo_flipped f)

-- an entry that is refused
pub broken_entry : (w w' : List ℕ) (q : List Float) (quads : List ℕ) (s p : ℕ) (q₀ : List Float) (old : List ℕ) (g r : State) (n k : ℕ) (x : Redone)
    → x ≡ balked k → 0 < k → r.refusal ≡ k → length w' ≡ length w → EntryTo w w' q q quads quads s p q₀ old g n x r
broken_entry w w' q quads s p q₀ old g r n k x e h f l =
    subst (λ (y : Redone). EntryTo w w' q q quads quads s p q₀ old g n y r) (sym e) (record { number = f; refused = h; points = refl; text = refl; len = l })

-- ---- quads that have the edge

not-false : (b : Bool) → not b ≡ true → b ≡ false
not-false true e = never false e refl
not-false false e = refl

-- a live quad that has the edge bars the flip
quad_bars : (m : Mesh) (e : Edge) (x : Live) → is_locked m e ≡ false → In x m.live → owns e x ≡ true → live_tri x ≡ false → flip m e ≡ none
unfolding owners
quad_bars m e x free i o l = free_flip m e free ∙ two_tris m e (owners m e) (in_any _ (owners m e) (x, filter_in (owns e) m.live i o, ap not l))

-- a quad of the live cells has a cell
record Owner (m : Mesh) (q : Quad) : Type 0 where
  pub x : Live
  pub live : In x m.live
  pub cell : x.cell ≡ quad q

quad_of : (c : Cell) (q : Quad) → In q (quad_in c) → c ≡ quad q
unfolding quad_in
quad_of (quad k) q (inr x') = elim x' [ ]
quad_of (tri t) q j = absurd j
quad_of (quad k) q (inl e) = ap quad (sym e)

owner_of : (m : Mesh) (q : Quad) → In q (quads_of m.live) → Owner m q
unfolding quads_of
owner_of m q i =
    let r = in_flat_map (λ x. quad_in x.cell) q m.live i in
    record { x = r.0; live = r.1; cell = quad_of r.0.cell q r.2 }

in_quads : (m : Mesh) (x : Live) (q : Quad) → In x m.live → x.cell ≡ quad q → In q (quads_of m.live)
unfolding quads_of quad_in
in_quads m x q i e = flat_map_in (λ y. quad_in y.cell) x q m.live i (subst (λ (c : Cell). In q (quad_in c)) (sym e) (inl refl))

module _ (w : List ℕ) (q : List Float) (quads : List ℕ) (s p : ℕ) (q₀ : List Float) (old : List ℕ) (g : State) (m : Mesh) (k : Plays w q quads s p q₀ old g m) (e : Edge) where
  -- the slice has the quads that are live
  read_quads : first_quads g.quads quads ≡ quads_of m.live
  read_quads =
      (λ i. first_quads (k.number i) (k.text i)) ∙ quads_back (placed m) old ∙ sym k.live

  unlocked : is_locked m e ≡ false
  unfolding is_locked
  unlocked = ap (λ (f : Edge → Bool). f e) k.free

  abbrev pub looked : Bool
  looked = g.odd && any (λ x. has_edge_in (quad_edges x) e) (first_quads g.quads quads)

  pub hides_bars : looked ≡ true → flip m e ≡ none
  unfolding owns has_side live_tri is_tri
  hides_bars h =
      let a = (both g.odd (any (λ x. has_edge_in (quad_edges x) e) (first_quads g.quads quads)) h).1 in
      let r = any_in (λ x. has_edge_in (quad_edges x) e) (quads_of m.live) (subst (λ (l : List Quad). any (λ x. has_edge_in (quad_edges x) e) l ≡ true) read_quads a) in
      let o = owner_of m r.0 r.1 in
      quad_bars m e o.x unlocked o.live (ap (has_side e) o.cell ∙ r.2) (ap is_tri o.cell)

  -- a cell that is not stored is a quad that has a node twice
  odd_quad : (c : Cell) → plain c ≡ false → has_side e c ≡ true → (x : Quad) × (c ≡ quad x) × (four x ≡ false) × (has_edge_in (quad_edges x) e ≡ true)
  unfolding plain has_side
  odd_quad (tri t) h o = never true refl h
  odd_quad (quad x) h o = (x, refl, h, o)

  unhidden : looked ≡ false → hidden m e ≡ false
  unfolding hidden owns kept
  unhidden h = fails (hidden m e) (λ z.
      let r = any_in _ m.live z in
      let b = both (not (kept r.0)) (owns e r.0) r.2 in
      let c = odd_quad r.0.cell (not-false (kept r.0) b.0) b.1 in
      let i = in_quads m r.0 c.0 r.1 c.1 in
      let odd : g.odd ≡ true = k.odd ∙ in_any (λ x. not (four x)) (placed m) (c.0, subst (In c.0) k.live i, ap not c.2) in
      let has : any (λ x. has_edge_in (quad_edges x) e) (first_quads g.quads quads) ≡ true =
      ap (any (λ x. has_edge_in (quad_edges x) e)) read_quads ∙ in_any (λ x. has_edge_in (quad_edges x) e) (quads_of m.live) (c.0, i, c.3) in
      not_and g.odd (any (λ x. has_edge_in (quad_edges x) e) (first_quads g.quads quads)) odd has h)

-- ---- the flip of what is stored

abbrev code : Turned → ℕ
code Not = 0
code Short = 1
code Made = 2

pub not_made : (x : Turned) → x ≡ Not → x ≡ Made → ⊥
not_made x e f = let z : code Not ≡ code Made = ap code (sym e ∙ f) in omega arith

pub short_made : (x : Turned) → x ≡ Short → x ≡ Made → ⊥
short_made x e f = let z : code Short ≡ code Made = ap code (sym e ∙ f) in omega arith

-- the quads so far are no more than the slots
pub few_quads : (w : List ℕ) (q : List Float) (quads : List ℕ) (s p : ℕ) (q₀ : List Float) (old : List ℕ) (g : State) (m : Mesh) → Plays w q quads s p q₀ old g m → g.quads ≤ s
few_quads w q quads s p q₀ old g m k = let e : (stored m).used ≡ m.used = stored_used m in omega (arith, k.number, k.few, k.rep.used)

pub numbers_fit : (w : List ℕ) (q : List Float) (quads : List ℕ) (s p : ℕ) (q₀ : List Float) (old : List ℕ) (g : State) (m : Mesh) → Plays w q quads s p q₀ old g m → Small quads s p
    → (g.used ≤ 16384) × (g.points ≤ 8192) × (g.quads ≤ 16384)
numbers_fit w q quads s p q₀ old g m k z =
    let e : (stored m).used ≡ m.used = stored_used m in
    (omega (arith, k.used, k.rep.used, z.slots), omega (arith, k.points, k.pts.few, z.points), omega (arith, k.number, k.few, k.rep.used, z.slots))

-- with a slot left there is room for a quad
pub room_left : (w : List ℕ) (q : List Float) (quads : List ℕ) (s p : ℕ) (q₀ : List Float) (old : List ℕ) (g : State) (m : Mesh) → Plays w q quads s p q₀ old g m → Small quads s p
    → g.used < s → (8 * g.quads + 8 ≤ length quads) × (g.quads < 16384)
room_left w q quads s p q₀ old g m k z l = (omega (arith, k.number, k.few, k.used, z.room), omega (arith, k.number, k.few, k.used, z.slots))

pub quads_fit : (w : List ℕ) (q : List Float) (quads : List ℕ) (s p : ℕ) (q₀ : List Float) (old : List ℕ) (g : State) (m : Mesh) → Plays w q quads s p q₀ old g m → Small quads s p
    → (8 * g.quads ≤ length quads) × (g.quads ≤ 16384)
quads_fit w q quads s p q₀ old g m k z = let h = few_quads w q quads s p q₀ old g m k in (omega (arith, z.room), omega (arith, z.slots))

module _ (w : List ℕ) (q : List Float) (quads : List ℕ) (s p : ℕ) (q₀ : List Float) (old : List ℕ) (g : State) (m : Mesh) (k : Plays w q quads s p q₀ old g m) where
  pub points_stored : Pts q p (stored m)
  unfolding stored with_live
  points_stored = pts_as q p m (stored m) refl k.pts

pub locks_stored : (m : Mesh) (j : List ℕ) → Locks j m.locked → Locks j (stored m).locked
unfolding stored with_live
locks_stored m j l = l

module _ (w : List ℕ) (q : List Float) (quads : List ℕ) (s p : ℕ) (q₀ : List Float) (old : List ℕ) (g : State) (m : Mesh) (k : Plays w q quads s p q₀ old g m) (u v : ℕ) (t : Settings) where
  -- where the slice of quads bars it
  pub entry_bars : (r : State) → looked w q quads s p q₀ old g m k (u, v) ≡ true → r.refusal ≡ 12 → EntryTo w w q q quads quads s p q₀ old g 3 (redo t m (was_flipped (u, v))) r
  entry_bars r h e = broken_entry w w q quads s p q₀ old g r 3 12 _ (redo_none t m u v (hides_bars w q quads s p q₀ old g m k (u, v) h)) (omega arith) e refl

  module _ (up : u < v) (within : v < length m.points) (seen : looked w q quads s p q₀ old g m k (u, v) ≡ false) (w' : List ℕ) (len : length w' ≡ length w) (x : Turned)
      (to : FlipTo w' s p (stored m) (flip (stored m) (key u v)) true x) (r : State) where
    is : flip (stored m) (key u v) ≡ stored_if (flip m (u, v))
    is = ap (flip (stored m)) (key_up u v up) ∙ stored_flip m (u, v) (unlocked w q quads s p q₀ old g m k (u, v)) (unhidden w q quads s p q₀ old g m k (u, v) seen)

    pub entry_not : (x ≡ Made → ⊥) → r.refusal ≡ 12 → EntryTo w w' q q quads quads s p q₀ old g 3 (redo t m (was_flipped (u, v))) r
    entry_not n e = go (flip m (u, v)) refl
      where
        go : (o : Option Mesh) → flip m (u, v) ≡ o → EntryTo w w' q q quads quads s p q₀ old g 3 (redo t m (was_flipped (u, v))) r
        go none f = broken_entry w w' q quads s p q₀ old g r 3 12 _ (redo_none t m u v f) (omega arith) e len
        go (some m') f =
            let z : FlipTo w' s p (stored m) (some (stored m')) true x = subst (λ (y : Option Mesh). FlipTo w' s p (stored m) y true x) (is ∙ ap stored_if f) to in
            absurd (n z.0)

    pub entry_made : x ≡ Made → Onward g r 3 → EntryTo w w' q q quads quads s p q₀ old g 3 (redo t m (was_flipped (u, v))) r
    entry_made e o = go (flip m (u, v)) refl
      where
        go : (y : Option Mesh) → flip m (u, v) ≡ y → EntryTo w w' q q quads quads s p q₀ old g 3 (redo t m (was_flipped (u, v))) r
        go none f =
            let z = flip_yes w' s p (stored m) (flip (stored m) (key u v)) true x to e in
            no_some z.mesh (sym (is ∙ ap stored_if f) ∙ z.is)
        go (some m') f =
            let z : FlipTo w' s p (stored m) (some (stored m')) true x = subst (λ (y : Option Mesh). FlipTo w' s p (stored m) y true x) (is ∙ ap stored_if f) to in
            subst (λ (y : Redone). EntryTo w w' q q quads quads s p q₀ old g 3 y r) (sym (redo_made t m u v m' up within f))
            ((o.at, flip_plays w q quads s p q₀ old g m k w' (u, v) m' f z.1 r o, len, refl))
