-- Edges that a triangle on the stack need not walk: noted in its mark, and passed over.
use mathlib.Core.Path.{◌≡◌, refl, ap, sym, ◌∙◌, subst}
use mathlib.Core.Logic.{◌≢◌}
use mathlib.Core.Bool.{Bool, true, false, ◌||◌, or-true, false≢true}
use mathlib.Core.List.{List, [], ◌∷◌, foldl}
use Prim.Native.Nat.{ℕ, ◌+◌, ◌*◌, ◌/◌, ◌%◌, ◌≤◌, ◌<◌}
use native.Mathlib.Omega.{arith}
use lib.Dec.{eqb}
use lib.ListN.{length, get_or, set}
use borrow.Author.Tests.{eq-eqb, ne_eqb}
use Rattle.rings.proofs.Lists.{Same, same, differ, decide}
use Rattle.definition.specs.Lists.{any, filter}
use Rattle.definition.specs.Plane.{Edge}
use Rattle.definition.specs.Cells.{Tri, tri, Live, Mesh, new_live, in_slot, key, owns, owners, tri_has}
use Rattle.definition.specs.Candidates.{on_top, shared_by_tris}
use Rattle.laws.specs.Lists.{stored_kept, filter_yes, filter_no}
use Rattle.laws.specs.Frames.{on, off}
use Rattle.laws.specs.Cells.{key_swap}
use Rattle.cells.specs.Layout.{list_at, stack_at}
use Rattle.cells.specs.Rep.{Has, here, there, TriIn, slots}
use Rattle.cells.proofs.Edges.{tri_side}
use Rattle.cells.proofs.Slots.{rep_held, owner_live}
use Rattle.live_regions.specs.Stack.{rev, listed, Mark, Behind, Passed, Told, Adds, Scratch, Hold, PushTo, CanPush, CanPass, Pair, CanNote, EdgeTo}
use Rattle.live_regions.proofs.Lists.{visited_out, behind_pushed}
use Rattle.live_regions.proofs.Scratches.{scratch_refl, scratch_mark, scratch_rep, ring_set, noted_kept, known_set}
use Rattle.live_regions.proofs.Pushes.{few_out}
use Rattle.live_regions.proofs.Steps.{tri_top}

-- ---- a triangle owns its edges

listed_has : (x : Live) (l : List Live) → Has x l → listed x.slot l ≡ true
unfolding any in_slot
listed_has x [] x'' = elim x'' [ ]
listed_has x (y ∷ l) here = rw (eq-eqb x.slot x.slot refl)
listed_has x (y ∷ l) (there h) = rw (listed_has x l h) (or-true (eqb x.slot y.slot))

filter_has : (f : Live → Bool) (x : Live) (l : List Live) → f x ≡ true → Has x l → Has x (filter f l)
unfolding filter
filter_has f x [] e x3 = elim x3 [ ]
filter_has f x (y ∷ l) e here = rw (filter_yes f x l e) here
filter_has f x (y ∷ l) e (there h) = go (f y) refl (filter_has f x l e h)
  where
    go : (b : Bool) → f y ≡ b → Has x (filter f l) → Has x (filter f (y ∷ l))
    go true q r = rw (filter_yes f y l q) (there r)
    go false q r = rw (filter_no f y l q) r

-- the edge of two of its nodes
pub owner_of : (m : Mesh) (i : ℕ) (t : TriIn m i) (a b : ℕ) → tri_has t.t a ≡ true → tri_has t.t b ≡ true → listed i (owners m (key a b)) ≡ true
unfolding owners owns new_live
owner_of m i t a b p q =
    let x = new_live i (tri t.t) in
    let e : owns (key a b) x ≡ true = tri_side t.t a b ∙ rw (p, q) in
    listed_has x (filter (owns (key a b)) m.live) (filter_has (owns (key a b)) x m.live e t.has)

-- the nodes are the triangle's, as they were read
module _ (t : Tri) (a : ℕ) where
  pub has_0 : a ≡ t.n0 → tri_has t a ≡ true
  unfolding tri_has
  has_0 e = rw (eq-eqb t.n0 a (sym e))

  pub has_1 : a ≡ t.n1 → tri_has t a ≡ true
  unfolding tri_has
  has_1 e = rw (eq-eqb t.n1 a (sym e)) (go (eqb t.n0 a))
    where
      go : (b : Bool) → (b || true || eqb t.n2 a) ≡ true
      go true = refl
      go false = refl

  pub has_2 : a ≡ t.n2 → tri_has t a ≡ true
  unfolding tri_has
  has_2 e = rw (eq-eqb t.n2 a (sym e)) (or-true (eqb t.n0 a || eqb t.n1 a))

-- ---- a bit added

pub joins_both : (a b u v : ℕ) → a ≡ u → b ≡ v → key a b ≡ key u v
joins_both a b u v p q = rw (p, q)

pub joins_turned : (a b u v : ℕ) → a ≡ v → b ≡ u → key a b ≡ key u v
joins_turned a b u v p q = rw (p, q) (key_swap v u)

module _ (n x y z u v : ℕ) where
  next_half : n % 2 ≡ 0 → (n + 1) / 2 ≡ n / 2
  next_half e = omega arith

  next_quarter : n % 2 ≡ 0 → (n + 1) / 4 ≡ n / 4
  next_quarter e = omega arith

  same_quarter : n / 2 % 2 ≡ 0 → (n + 2) / 4 ≡ n / 4
  same_quarter e = omega arith

  pub adds_first : n % 2 ≡ 0 → key x y ≡ key u v → Adds n (n + 1) x y z u v
  adds_first e k m i seen t ex ey ez d h =
      record {
        first = λ q. subst (Passed m i seen) (sym k ∙ (rw (ex, ey))) d;
        second = λ q. h.second (sym (ap (λ (k : ℕ). k % 2) (next_half e)) ∙ q);
        third = λ q. h.third (sym (ap (λ (k : ℕ). k % 2) (next_quarter e)) ∙ q);
      }

  pub adds_second : n / 2 % 2 ≡ 0 → key y z ≡ key u v → Adds n (n + 2) x y z u v
  adds_second e k m i seen t ex ey ez d h =
      record {
        first = λ q. h.first (omega arith);
        second = λ q. subst (Passed m i seen) (sym k ∙ (rw (ey, ez))) d;
        third = λ q. h.third (sym (ap (λ (k : ℕ). k % 2) (same_quarter e)) ∙ q);
      }

  pub adds_third : n / 4 % 2 ≡ 0 → key z x ≡ key u v → Adds n (n + 4) x y z u v
  adds_third e k m i seen t ex ey ez d h =
      record {
        first = λ q. h.first (omega arith);
        second = λ q. h.second (omega arith);
        third = λ q. subst (Passed m i seen) (sym k ∙ (rw (ez, ex))) d;
      }

-- ---- a mark with one more note

module _ (w : List ℕ) (s p j u v : ℕ) (m : Mesh) (out seen st : List Live) (h : CanNote w s p j u v m out seen st) where
  pub noted_none : PushTo w w s p m out seen st
  noted_none = record { hold = h.hold; scratch = scratch_refl w s p }

  inside : j < m.used
  unfolding new_live
  inside = (rep_held w s p m h.hold.rep h.tri.has).inside

  pub noted_edge : (r x y z : ℕ) → 16 ≤ get_or w (20 * s + 3 * p + j) 0 → get_or w (20 * s + 3 * p + j) 0 ≤ r
      → ((t : TriIn m j) → (x ≡ t.t.n0) × (y ≡ t.t.n1) × (z ≡ t.t.n2)) → Adds (get_or w (20 * s + 3 * p + j) 0) r x y z u v
      → PushTo w (set w (20 * s + 3 * p + j) r) s p m out seen st
  noted_edge r x y z n le read ad = record { hold = hold; scratch = sc }
    where
      js : j < s
      js = omega (arith, inside, h.hold.rep.used)

      w' : List ℕ
      w' = set w (20 * s + 3 * p + j) r

      sc : Scratch w w' s p
      sc = scratch_mark w s p j r js

      own : get_or w' (20 * s + 3 * p + j) 0 ≡ r
      own = on w (20 * s + 3 * p + j) r (omega (arith, h.hold.fits, js))

      rest : (k : ℕ) → k < m.used → k ≢ j → get_or w' (20 * s + 3 * p + k) 0 ≡ get_or w (20 * s + 3 * p + k) 0
      rest k a b = off w (20 * s + 3 * p + j) r (20 * s + 3 * p + k) (λ e. b (omega arith))

      waits : (a b : Bool) → listed j seen ≡ a → Mark (get_or w (20 * s + 3 * p + j) 0) a b → (listed j seen ≡ false) × Mark r a b
      waits true b e k = absurd (omega (arith, k.1))
      waits false true e k = (e, omega (arith, n, le))
      waits false false e k = absurd (omega arith)

      waiting : (listed j seen ≡ false) × Mark r (listed j seen) (listed j st)
      waiting = waits (listed j seen) (listed j st) refl (h.hold.marks j inside)

      marks : (k : ℕ) → k < m.used → Mark (get_or w' (20 * s + 3 * p + k) 0) (listed k seen) (listed k st)
      marks k a = go (decide k j)
        where
          go : Same k j → Mark (get_or w' (20 * s + 3 * p + k) 0) (listed k seen) (listed k st)
          go (same e) = rw (e, own) waiting.1
          go (differ e) = rw (rest k a e) (h.hold.marks k a)

      told : (t : TriIn m j) → 16 ≤ get_or w' (20 * s + 3 * p + j) 0 → Told m j seen (get_or w' (20 * s + 3 * p + j) 0) t.t
      told t a =
          let q = read t in
          subst (λ (k : ℕ). Told m j seen k t.t) (sym own) (ad m j seen t.t q.0 q.1 q.2 h.passed (h.hold.known j t n))

      hold : Hold w' s p m out seen st
      hold =
          let fo : length out ≤ s = few_out w s p m out seen st h.hold in
          record {
            rep = scratch_rep w w' s p m sc h.hold.rep;
            fits = omega (arith, h.hold.fits, sc.len);
            ring = ring_set w (stack_at s p) (s + 1) s (20 * s + 3 * p + j) r (rev (slots st)) (omega (arith, js)) h.hold.ring;
            stack = h.hold.stack;
            inner = h.hold.inner;
            fresh = h.hold.fresh;
            distinct = h.hold.distinct;
            below = h.hold.below;
            few = h.hold.few;
            stored = stored_kept w w' (list_at s p) (slots out) (λ k a b. off w (20 * s + 3 * p + j) r k (λ e. omega (arith, js, a))) h.hold.stored;
            marks = marks;
            visited = h.hold.visited;
            noted = noted_kept w w' s p j m out h.hold.rep h.hold.inner (visited_out j seen out waiting.0 h.hold.visited) rest h.hold.noted;
            known = known_set w w' s p j m seen h.hold.rep rest told h.hold.known;
          }

-- ---- which of two

module _ (w : List ℕ) (s p i a b u v : ℕ) (m : Mesh) (out seen st : List Live) (h : Pair w s p i a b u v m out seen st) where
  has_x : Has h.x m.live
  has_x = owner_live m (key u v) (subst (Has h.x) (sym h.are) here)

  has_y : Has h.y m.live
  has_y = owner_live m (key u v) (subst (Has h.y) (sym h.are) (there here))

  pub first_inside : a < s
  first_inside = omega (arith, h.first, (rep_held w s p m h.can.hold.rep has_x).inside, h.can.hold.rep.used)

  pub second_inside : b < s
  second_inside = omega (arith, h.second, (rep_held w s p m h.can.hold.rep has_y).inside, h.can.hold.rep.used)

  behind : (j : ℕ) → (eqb h.x.slot j || listed h.x.slot seen) ≡ true → (eqb h.y.slot j || listed h.y.slot seen) ≡ true → Passed m j seen (key u v)
  behind j c d = record { shared = h.shared; behind = subst (Behind j seen) (sym h.are) ((c, (d, tt))) }

  seen_one : (k j : ℕ) → k ≡ i → (eqb k j || listed k seen) ≡ true
  seen_one k j e = rw (ap (λ (z : ℕ). listed z seen) e ∙ h.can.visited) (or-true (eqb k j))

  itself : (k j : ℕ) → j ≡ k → (eqb k j || listed k seen) ≡ true
  itself k j e = rw (eq-eqb k j (sym e))

  -- i is the second
  pub note_first : b ≡ i → CanNote w s p a u v m out seen st
  note_first e =
      record {
        hold = h.can.hold;
        tri = (tri_top m a h.x h.first has_x h.tris.0).t;
        passed = behind a (itself h.x.slot a h.first) (seen_one h.y.slot a (sym h.second ∙ e));
      }

  -- i is the first
  pub note_second : b ≢ i → CanNote w s p b u v m out seen st
  unfolding any in_slot
  note_second n =
      let o : (eqb i h.x.slot || (eqb i h.y.slot || false)) ≡ true = sym (ap (listed i) h.are) ∙ h.can.owner in
      record {
        hold = h.can.hold;
        tri = (tri_top m b h.y h.second has_y h.tris.1).t;
        passed = behind b (seen_one h.x.slot b (go (decide i h.x.slot) (rw (ne_eqb i h.y.slot (λ z. n (h.second ∙ sym z))) at o))) (itself h.y.slot b h.second);
      }
    where
      go : Same i h.x.slot → (eqb i h.x.slot || false) ≡ true → h.x.slot ≡ i
      go (same e) z = sym e
      go (differ e) z = let y : (false || false) ≡ true = (rw (ne_eqb i h.x.slot e) at z) in absurd (false≢true y)

-- ---- passed over

pub pass_over : (w : List ℕ) (s p i u v b : ℕ) (m : Mesh) (out seen st : List Live) → CanPass w s p i u v b m out seen st → b ≡ 1 → EdgeTo w w s p u v true m out seen st
pass_over w s p i u v b m out seen st h e =
    let k = h.passed e in
    record {
      to = subst (λ (l : List Live). PushTo w w s p m out seen l) (sym (behind_pushed i seen st (owners m (key u v)) h.can.visited k.behind)) (record { hold = h.can.hold; scratch = scratch_refl w s p });
      shared = sym k.shared;
    }

-- the three edges of the triangle, its nodes as they were read
module _ (w : List ℕ) (s p i n : ℕ) (m : Mesh) (out seen st : List Live) (k : TriIn m i) (visited : listed i seen ≡ true) (told : Told m i seen n k.t) (h : Hold w s p m out seen st) (u v : ℕ) where
  pub pass_first : u ≡ k.t.n0 → v ≡ k.t.n1 → CanPass w s p i u v (n % 2) m out seen st
  pass_first e f =
      record {
        can = record { hold = h; visited = visited; owner = owner_of m i k u v (has_0 k.t u e) (has_1 k.t v f) };
        passed = λ z. rw (e, f) (told.first z);
      }

  pub pass_second : u ≡ k.t.n1 → v ≡ k.t.n2 → CanPass w s p i u v (n / 2 % 2) m out seen st
  pass_second e f =
      record {
        can = record { hold = h; visited = visited; owner = owner_of m i k u v (has_1 k.t u e) (has_2 k.t v f) };
        passed = λ z. rw (e, f) (told.second z);
      }

  pub pass_third : u ≡ k.t.n2 → v ≡ k.t.n0 → CanPass w s p i u v (n / 4 % 2) m out seen st
  pass_third e f =
      record {
        can = record { hold = h; visited = visited; owner = owner_of m i k u v (has_2 k.t u e) (has_0 k.t v f) };
        passed = λ z. rw (e, f) (told.third z);
      }

-- ---- an edge from its other end

pub can_swap : (w : List ℕ) (s p i u v : ℕ) (m : Mesh) (out seen st : List Live) → CanPush w s p i u v m out seen st → CanPush w s p i v u m out seen st
can_swap w s p i u v m out seen st h = record { hold = h.hold; visited = h.visited; owner = subst (λ (e : Edge). listed i (owners m e) ≡ true) (key_swap u v) h.owner }

pub edge_swap : (w w' : List ℕ) (s p u v : ℕ) (r : Bool) (m : Mesh) (out seen st : List Live) → EdgeTo w w' s p v u r m out seen st → EdgeTo w w' s p u v r m out seen st
edge_swap w w' s p u v r m out seen st h =
    record { to = subst (λ (e : Edge). PushTo w w' s p m out seen (foldl (on_top seen) st (owners m e))) (key_swap v u) h.to; shared = h.shared ∙ ap (shared_by_tris m) (key_swap v u) }
