-- The top taken, a slot listed, and the beginning.
use mathlib.Core.Path.{◌≡◌, refl, ap, sym, ◌∙◌, subst}
use mathlib.Core.Logic.{◌≢◌}
use mathlib.Core.Bool.{true, false, ◌||◌}
use mathlib.Core.List.{List, [], ◌∷◌, ◌++◌}
use Prim.Native.Nat.{ℕ, ◌+◌, ◌*◌, ◌≤◌, ◌<◌}
use native.Mathlib.Omega.{arith}
use lib.Dec.{eqb}
use Rattle.std.proofs.Common.{Some, None}
use lib.ListN.{length, get_or, set, length-set, length-append}
use borrow.Author.Tests.{eq-eqb, ne_eqb}
use Rattle.rings.specs.Rings.{Out, Ring, without, UnlinkedFrom, CanUnlink}
use Rattle.rings.proofs.Lists.{Same, same, differ, decide}
use Rattle.definition.specs.Lists.{any}
use Rattle.definition.specs.Cells.{Live, Mesh, new_live, in_slot}
use Rattle.laws.specs.Lists.{stored_kept, stored_snoc}
use Rattle.laws.specs.Frames.{on, off}
use Rattle.cells.specs.Layout.{list_at, stack_at, all_end}
use Rattle.cells.specs.Rep.{Rep, TriIn, slots}
use Rattle.cells.proofs.Corners.{out_right, slots_append}
use Rattle.cells.proofs.Slots.{rep_held, slots_length}
use Rattle.live_regions.specs.Stack.{rev, listed, Mark, top_or, top_of, Scratch, Hold, PushTo, OnTop, TakeTo, CanList, Unmarked}
use Rattle.live_regions.proofs.Lists.{out_unrev, distinct_last, without_last, listed_out, inner_snoc, fresh_more, visited_out, visited_more, visited_snoc, told_more}
use Rattle.live_regions.proofs.Scratches.{scratch_trans, scratch_mark, scratch_list, scratch_above, scratch_ring, scratch_rep, ring_set, can_unlink_in, ring_last, noted_kept, noted_snoc, known_more, known_set}
use Rattle.live_regions.proofs.Pushes.{few_out}
use Rattle.live_regions.proofs.Tallies.{mark_few}
use Rattle.live_regions.proofs.Steps.{tri_top}

-- the top is the last of the ring
pub top_is : (w : List ℕ) (s p : ℕ) (m : Mesh) (out seen st : List Live) → Hold w s p m out seen st → get_or w (58 * s + 8 * p + (s + 1) + s) 0 ≡ top_or s st
top_is w s p m out seen [] h = h.ring.linked.1
top_is w s p m out seen (x ∷ st) h = ring_last w (stack_at s p) (s + 1) s (rev (slots st)) x.slot h.ring

-- the number there is that of a slot where the stack has a top, and only there
pub top_some : (w : List ℕ) (s p i : ℕ) (m : Mesh) (out seen st : List Live) → Hold w s p m out seen st → i ≡ get_or w (58 * s + 8 * p + (s + 1) + s) 0 → i < s → Some i ≡ top_of st
top_some w s p i m out seen [] h e q = absurd (omega (arith, top_is w s p m out seen [] h))
top_some w s p i m out seen (x ∷ st) h e q = ap (λ (k : ℕ). Some k) (e ∙ top_is w s p m out seen (x ∷ st) h)

pub top_none : (w : List ℕ) (s p i : ℕ) (m : Mesh) (out seen st : List Live) → Hold w s p m out seen st → i ≡ get_or w (58 * s + 8 * p + (s + 1) + s) 0 → s ≤ i → None ≡ top_of st
top_none w s p i m out seen [] h e q = refl
top_none w s p i m out seen (x ∷ st) h e q = absurd (omega (arith, top_is w s p m out seen (x ∷ st) h, (rep_held w s p m h.rep h.stack.0).inside, h.rep.used))

module _ (w : List ℕ) (s p i : ℕ) (m : Mesh) (out seen st : List Live) (x : Live) (h : OnTop w s p i m out seen st x) where
  pub top_can : CanUnlink w (stack_at s p) (s + 1) i
  top_can = can_unlink_in w s p i (rev (slots (x ∷ st))) h.hold.fits h.inside h.hold.ring (λ o. (out_right i (rev (slots st)) (x.slot ∷ []) o).0 (sym h.slot))

  apart : Out x.slot (rev (slots st))
  apart = distinct_last (rev (slots st)) x.slot h.hold.ring.distinct

  waiting : 16 ≤ get_or w (20 * s + 3 * p + i) 0
  unfolding any in_slot
  waiting =
      let k : Mark (get_or w (20 * s + 3 * p + x.slot) 0) (listed x.slot seen) (eqb x.slot x.slot || listed x.slot st) = h.hold.marks x.slot (rep_held w s p m h.hold.rep h.hold.stack.0).inside in
      let z : 16 ≤ get_or w (20 * s + 3 * p + x.slot) 0 = rw (h.hold.fresh.0, eq-eqb x.slot x.slot refl) at k in
      rw h.slot z

  module _ (w1 : List ℕ) (u : UnlinkedFrom w w1 (stack_at s p) (s + 1) i) where
    w2 : List ℕ
    w2 = set w1 (20 * s + 3 * p + i) 2

    low : (k : ℕ) → k < stack_at s p → k ≢ 20 * s + 3 * p + i → get_or w2 k 0 ≡ get_or w k 0
    unfolding w2
    low k a b = off w1 (20 * s + 3 * p + i) 2 k b ∙ u.kept.low k a

    sc : Scratch w w2 s p
    unfolding w2
    sc = scratch_trans w w1 (set w1 (20 * s + 3 * p + i) 2) s p (scratch_ring w w1 s p u.kept) (scratch_mark w1 s p i 2 h.inside)

    same_list : without i (rev (slots (x ∷ st))) ≡ rev (slots st)
    same_list = ap (λ (y : ℕ). without y (rev (slots st) ++ x.slot ∷ [])) h.slot ∙ without_last (rev (slots st)) x.slot apart

    ring1 : Ring w1 (stack_at s p) (s + 1) s (rev (slots st))
    ring1 = let is : i < s = h.inside in subst (λ (l : List ℕ). Ring w1 (stack_at s p) (s + 1) s l) same_list (u.rings (rev (slots (x ∷ st))) s h.hold.ring (λ z. omega arith))

    other : (k : ℕ) → k < m.used → k ≢ i → get_or w2 (20 * s + 3 * p + k) 0 ≡ get_or w (20 * s + 3 * p + k) 0
    other k a y = low (20 * s + 3 * p + k) (omega (arith, a, h.hold.rep.used)) (λ z. y (omega arith))

    own : get_or (set w1 (20 * s + 3 * p + i) 2) (20 * s + 3 * p + i) 0 ≡ 2
    own = on w1 (20 * s + 3 * p + i) 2 (omega (arith, h.hold.fits, h.inside, u.kept.len))

    marks : (k : ℕ) → k < m.used → Mark (get_or w2 (20 * s + 3 * p + k) 0) (listed k (x ∷ seen)) (listed k st)
    unfolding any in_slot w2
    marks k a = go (decide k i)
      where
        go : Same k i → Mark (get_or w2 (20 * s + 3 * p + k) 0) (eqb k x.slot || listed k seen) (listed k st)
        go (same y) =
            rw (eq-eqb k x.slot (y ∙ h.slot), y, own) (omega arith, omega arith)
        go (differ y) =
            let n : eqb k x.slot ≡ false = ne_eqb k x.slot (λ z. y (z ∙ sym h.slot)) in
            let o : Mark (get_or w (20 * s + 3 * p + k) 0) (listed k seen) (eqb k x.slot || listed k st) = h.hold.marks k a in
            rw (n, other k a y) (rw n at o)

    gone : PushTo w (set w1 (20 * s + 3 * p + i) 2) s p m out (x ∷ seen) st
    unfolding w2
    gone =
        let is : i < s = h.inside in
        let fo : length out ≤ s = few_out w s p m out seen (x ∷ st) h.hold in
        record {
          hold = record {
            rep = scratch_rep w (set w1 (20 * s + 3 * p + i) 2) s p m sc h.hold.rep;
            fits = omega (arith, h.hold.fits, sc.len);
            ring = ring_set w1 (stack_at s p) (s + 1) s (20 * s + 3 * p + i) 2 (rev (slots st)) (omega arith) ring1;
            stack = h.hold.stack.2;
            inner = h.hold.inner;
            fresh = fresh_more x seen st (out_unrev x.slot (slots st) apart) h.hold.fresh.1;
            distinct = (listed_out x.slot seen h.hold.fresh.0, h.hold.distinct);
            below = ((rep_held w s p m h.hold.rep h.hold.stack.0).inside, h.hold.below);
            few = omega (arith, h.hold.few);
            stored = stored_kept w (set w1 (20 * s + 3 * p + i) 2) (list_at s p) (slots out)
                (λ k a b. low k (omega (arith, fo, slots_length out)) (λ z. omega (arith, is, a))) h.hold.stored;
            marks = marks;
            visited = visited_more x seen out h.hold.visited;
            noted = noted_kept w (set w1 (20 * s + 3 * p + i) 2) s p i m out h.hold.rep h.hold.inner
                (visited_out i seen out (ap (λ (k : ℕ). listed k seen) h.slot ∙ h.hold.fresh.0) h.hold.visited) other h.hold.noted;
            known = known_set w (set w1 (20 * s + 3 * p + i) 2) s p i m (x ∷ seen) h.hold.rep other (λ t z. absurd (omega (arith, own))) (known_more w s p m x seen h.hold.known);
          };
          scratch = sc;
        }

    pub taken : TakeTo w (set w1 (20 * s + 3 * p + i) 2) s p i (get_or w (20 * s + 3 * p + i) 0) m out seen st x
    taken = record { to = gone; told = λ t. told_more m i x seen (get_or w (20 * s + 3 * p + i) 0) t.t (h.hold.known i t waiting) }

-- x is listed, and its walls are noted
pub listed_one : (w : List ℕ) (s p n i f : ℕ) (m : Mesh) (out seen st : List Live) (x : Live) → CanList w s p n i f m out seen st x
    → PushTo w (set (set w (21 * s + 3 * p + n) i) (20 * s + 3 * p + i) f) s p m (out ++ x ∷ []) seen st
listed_one w s p n i f m out seen st x h = record { hold = hold; scratch = sc }
  where
    w1 : List ℕ
    w1 = set w (21 * s + 3 * p + n) i

    w2 : List ℕ
    w2 = set w1 (20 * s + 3 * p + i) f

    ns : n < s
    ns = h.room

    is : i < s
    is = h.inside

    few : (2 ≤ f) × (f < 16)
    few = let t = tri_top m i x h.slot h.has h.tri in mark_few m i t.t.t x f t.is h.walls

    sc : Scratch w w2 s p
    sc = scratch_trans w w1 w2 s p (scratch_list w s p n i ns) (scratch_mark w1 s p i f is)

    other : (k : ℕ) → k ≢ 21 * s + 3 * p + n → k ≢ 20 * s + 3 * p + i → get_or w2 k 0 ≡ get_or w k 0
    other k a b = off w1 (20 * s + 3 * p + i) f k b ∙ off w (21 * s + 3 * p + n) i k a

    own : get_or w2 (20 * s + 3 * p + i) 0 ≡ f
    own = on w1 (20 * s + 3 * p + i) f (simp length-set (omega (arith, h.hold.fits, is)))

    rest : (k : ℕ) → k < m.used → k ≢ i → get_or w2 (20 * s + 3 * p + k) 0 ≡ get_or w (20 * s + 3 * p + k) 0
    rest k a y = other (20 * s + 3 * p + k) (λ z. omega (arith, a, h.hold.rep.used)) (λ z. y (omega arith))

    marks : (k : ℕ) → k < m.used → Mark (get_or w2 (20 * s + 3 * p + k) 0) (listed k seen) (listed k st)
    marks k a = go (decide k i)
      where
        go : Same k i → Mark (get_or w2 (20 * s + 3 * p + k) 0) (listed k seen) (listed k st)
        go (same y) =
            let v : listed k seen ≡ true = ap (λ (z : ℕ). listed z seen) (y ∙ h.slot) ∙ h.visited in
            rw (v, y, own) few
        go (differ y) = rw (rest k a y) (h.hold.marks k a)

    hold : Hold w2 s p m (out ++ x ∷ []) seen st
    hold =
        record {
          rep = scratch_rep w w2 s p m sc h.hold.rep;
          fits = omega (arith, h.hold.fits, sc.len);
          ring = ring_set w1 (stack_at s p) (s + 1) s (20 * s + 3 * p + i) f (rev (slots st)) (omega (arith, is))
              (ring_set w (stack_at s p) (s + 1) s (21 * s + 3 * p + n) i (rev (slots st)) (omega (arith, ns)) h.hold.ring);
          stack = h.hold.stack;
          inner = inner_snoc m out x h.hold.inner ((h.has, h.tri, tt));
          fresh = h.hold.fresh;
          distinct = h.hold.distinct;
          below = h.hold.below;
          few = omega (arith, length-append out (x ∷ []), h.more, h.len);
          stored = rw (slots_append out (x ∷ []))
              (stored_snoc w2 (list_at s p) x.slot (slots out)
              (stored_kept w w2 (list_at s p) (slots out) (λ k a b. other k (λ z. omega (arith, h.len, slots_length out)) (λ z. omega (arith, a, is))) h.hold.stored)
              (let y : list_at s p + length (slots out) ≡ 21 * s + 3 * p + n = omega (arith, h.len, slots_length out) in
              ap (λ (z : ℕ). get_or w2 z 0) y ∙ off w1 (20 * s + 3 * p + i) f (21 * s + 3 * p + n) (λ z. omega (arith, is)) ∙ on w (21 * s + 3 * p + n) i (omega (arith, h.hold.fits, ns)) ∙ h.slot));
          marks = marks;
          visited = visited_snoc seen out x h.hold.visited h.visited;
          noted = noted_snoc w2 s p m out x (noted_kept w w2 s p i m out h.hold.rep h.hold.inner h.apart rest h.hold.noted) (ap (λ (z : ℕ). get_or w2 (20 * s + 3 * p + z) 0) (sym h.slot) ∙ own ∙ h.walls);
          known = known_set w w2 s p i m seen h.hold.rep rest (λ t z. absurd (omega (arith, own, few.1))) h.hold.known;
        }

-- ---- the beginning

pub emptied : (w w1 : List ℕ) (s p n : ℕ) (m : Mesh) → all_end s p ≤ length w → Rep w s p m → n ≡ m.used → Unmarked w w1 s p n
    → PushTo w (set (set w1 (58 * s + 8 * p + s) s) (58 * s + 8 * p + (s + 1) + s) s) s p m [] [] []
unfolding any new_live
emptied w w1 s p n m d r e c = record { hold = hold; scratch = sc }
  where
    w2 : List ℕ
    w2 = set w1 (58 * s + 8 * p + s) s

    w3 : List ℕ
    w3 = set w2 (58 * s + 8 * p + (s + 1) + s) s

    fits : all_end s p ≤ length w1
    fits = omega (arith, d, c.scratch.len)

    low : (k : ℕ) → k < stack_at s p → get_or w3 k 0 ≡ get_or w1 k 0
    low k a = off w2 (58 * s + 8 * p + (s + 1) + s) s k (λ z. omega arith) ∙ off w1 (58 * s + 8 * p + s) s k (λ z. omega arith)

    inside : (k : ℕ) → TriIn m k → k < m.used
    inside k t = (rep_held w s p m r t.has).inside

    sc : Scratch w w3 s p
    sc = scratch_trans w w1 w3 s p c.scratch (scratch_above w1 w3 s p (simp length-set) low)

    hold : Hold w3 s p m [] [] []
    hold =
        record {
          rep = scratch_rep w w3 s p m sc r;
          fits = omega (arith, d, sc.len);
          ring = record {
            linked = (
              off w2 (58 * s + 8 * p + (s + 1) + s) s (58 * s + 8 * p + s) (λ z. omega arith) ∙ on w1 (58 * s + 8 * p + s) s (omega (arith, fits)),
              on w2 (58 * s + 8 * p + (s + 1) + s) s (simp length-set (omega (arith, fits))),
            );
            distinct = tt;
            below = tt;
            apart = tt;
            here = omega arith;
          };
          stack = tt;
          inner = tt;
          fresh = tt;
          distinct = tt;
          below = tt;
          few = omega arith;
          stored = tt;
          marks = λ k a. low (20 * s + 3 * p + k) (omega (arith, a, r.used)) ∙ c.zero k (omega (arith, a, e));
          visited = tt;
          noted = tt;
          known = λ k t z. absurd (omega (arith, z, low (20 * s + 3 * p + k) (omega (arith, inside k t, r.used)), c.zero k (omega (arith, inside k t, e))));
        }
