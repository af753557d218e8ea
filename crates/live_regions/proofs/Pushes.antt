-- One cell pushed.
use mathlib.Core.Path.{◌≡◌, refl, ap, sym, ◌∙◌, subst}
use mathlib.Core.Logic.{◌≢◌}
use mathlib.Core.Bool.{Bool, true, false, ◌||◌, false≢true}
use mathlib.Core.List.{List, [], ◌∷◌, ◌++◌}
use Prim.Native.Nat.{ℕ, ◌+◌, ◌*◌, ◌≤◌, ◌<◌}
use native.Mathlib.Omega.{arith}
use lib.Dec.{eqb}
use lib.ListN.{length, get_or, set}
use borrow.Author.Tests.{eq-eqb, ne_eqb}
use Rattle.rings.specs.Rings.{Out, Ring, without, LinkedTo, UnlinkedFrom}
use Rattle.rings.proofs.Lists.{Same, same, differ, decide, without_out, room, out_self}
use Rattle.definition.specs.Lists.{any}
use Rattle.definition.specs.Cells.{Live, Mesh, live_tri, in_slot, without as without_slot}
use Rattle.definition.specs.Candidates.{on_top}
use Rattle.laws.specs.Lists.{stored_kept}
use Rattle.laws.specs.Frames.{on, off}
use Rattle.cells.specs.Layout.{list_at, refused_at, stack_at}
use Rattle.cells.specs.Rep.{Rep, Held, TriIn, slots}
use Rattle.cells.proofs.Fronts.{held_tri}
use Rattle.cells.proofs.Slots.{rep_held, slots_length, slots_without}
use Rattle.live_regions.specs.Stack.{Inner, rev, listed, Mark, Told, Scratch, Hold, Met, PushTo}
use Rattle.live_regions.proofs.Lists.{without_rev, out_unrev, out_rev, out_listed, listed_out, listed_without, inner_without, fresh_without, on_top_hit, on_top_other, on_top_seen, visited_out, told_none}
use Rattle.live_regions.proofs.Scratches.{scratch_refl, scratch_trans, scratch_mark, scratch_ring, scratch_rep, ring_set, noted_kept, known_set}

-- at most as many cells are listed as there are slots
pub few_out : (w : List ℕ) (s p : ℕ) (m : Mesh) (out seen st : List Live) → Hold w s p m out seen st → length out ≤ s
few_out w s p m out seen st h = omega (arith, h.few, room m.used (slots seen) h.distinct h.below, slots_length seen, h.rep.used)

-- a slot on the stack has a triangle
on_list : (w : List ℕ) (s p j : ℕ) (m : Mesh) → Rep w s p m → (st : List Live) → Inner m st → listed j st ≡ true → eqb (get_or w j 0) 3 ≡ true
unfolding any in_slot
on_list w s p j m r [] h k = absurd (false≢true k)
on_list w s p j m r (x ∷ st) h k = go (decide j x.slot) (on_list w s p j m r st h.2)
  where
    go : Same j x.slot → (listed j st ≡ true → eqb (get_or w j 0) 3 ≡ true) → eqb (get_or w j 0) 3 ≡ true
    go (same q) f = ap (λ (i : ℕ). eqb (get_or w i 0) 3) q ∙ held_tri w s m.used (length m.points) x (rep_held w s p m r h.0) ∙ h.1
    go (differ q) f = f (rw (ne_eqb j x.slot q) at k)

module _ (w : List ℕ) (s p j : ℕ) (m : Mesh) (out seen st : List Live) (e : Live) (h : Met w s p j m out seen st e) where
  held : Held w s m.used (length m.points) e
  held = rep_held w s p m h.hold.rep h.has

  marked : Mark (get_or w (20 * s + 3 * p + j) 0) (listed e.slot seen) (listed e.slot st)
  marked = rw h.slot (h.hold.marks e.slot held.inside)

  kind : eqb (get_or w j 0) 3 ≡ live_tri e
  kind = rw h.slot (held_tri w s m.used (length m.points) e held)

  unseen : get_or w (20 * s + 3 * p + j) 0 < 2 → listed e.slot seen ≡ false
  unseen n = go (listed e.slot seen) refl marked
    where
      go : (b : Bool) → listed e.slot seen ≡ b → Mark (get_or w (20 * s + 3 * p + j) 0) b (listed e.slot st) → listed e.slot seen ≡ false
      go true q z = absurd (omega (arith, z.0))
      go false q z = q

  waiting : 16 ≤ get_or w (20 * s + 3 * p + j) 0 → (listed e.slot seen ≡ false) × (listed e.slot st ≡ true)
  waiting n = go (listed e.slot seen) refl (listed e.slot st) refl marked
    where
      go : (a : Bool) → listed e.slot seen ≡ a → (b : Bool) → listed e.slot st ≡ b → Mark (get_or w (20 * s + 3 * p + j) 0) a b → (listed e.slot seen ≡ false) × (listed e.slot st ≡ true)
      go true q b u z = absurd (omega (arith, z.1))
      go false q true u z = (q, u)
      go false q false u z = absurd (omega arith)

  pub on_stack : 16 ≤ get_or w (20 * s + 3 * p + j) 0 → Out j (rev (slots st)) → ⊥
  on_stack z o =
      false≢true (sym (out_listed e.slot st (subst (λ (i : ℕ). Out i (slots st)) h.slot (out_unrev j (slots st) o))) ∙ (waiting z).1)

  off_stack : get_or w (20 * s + 3 * p + j) 0 < 2 → listed e.slot st ≡ false
  off_stack n = go (listed e.slot st) refl (subst (λ (b : Bool). Mark (get_or w (20 * s + 3 * p + j) 0) b (listed e.slot st)) (unseen n) marked)
    where
      go : (b : Bool) → listed e.slot st ≡ b → Mark (get_or w (20 * s + 3 * p + j) 0) false b → listed e.slot st ≡ false
      go true q z = absurd (omega arith)
      go false q z = q

  pub push_seen : 2 ≤ get_or w (20 * s + 3 * p + j) 0 → get_or w (20 * s + 3 * p + j) 0 < 16 → PushTo w w s p m out seen (on_top seen st e)
  push_seen z y = go (listed e.slot seen) refl marked
    where
      never : (b : Bool) → Mark (get_or w (20 * s + 3 * p + j) 0) false b → ⊥
      never true q = omega arith
      never false q = omega arith

      go : (b : Bool) → listed e.slot seen ≡ b → Mark (get_or w (20 * s + 3 * p + j) 0) b (listed e.slot st) → PushTo w w s p m out seen (on_top seen st e)
      go true u q = rw (on_top_seen seen st e u) (record { hold = h.hold; scratch = scratch_refl w s p })
      go false u q = absurd (never (listed e.slot st) q)

  pub push_other : get_or w j 0 ≢ 3 → PushTo w w s p m out seen (on_top seen st e)
  push_other k = rw (on_top_other seen st e (sym kind ∙ ne_eqb (get_or w j 0) 3 k)) (record { hold = h.hold; scratch = scratch_refl w s p })

  -- w1: j is in no ring and its mark is that of a slot on the stack; w2: j is linked
  module _ (un : listed e.slot seen ≡ false) (k : eqb (get_or w j 0) 3 ≡ true) (w1 w2 : List ℕ) (sc : Scratch w w1 s p)
      (list : (i : ℕ) → list_at s p ≤ i → i < refused_at s p → get_or w1 i 0 ≡ get_or w i 0)
      (others : (i : ℕ) → i < s → i ≢ j → get_or w1 (20 * s + 3 * p + i) 0 ≡ get_or w (20 * s + 3 * p + i) 0) (own : 16 ≤ get_or w1 (20 * s + 3 * p + j) 0)
      (told : (t : TriIn m j) → Told m j seen (get_or w1 (20 * s + 3 * p + j) 0) t.t)
      (ring : Ring w1 (stack_at s p) (s + 1) s (without j (rev (slots st)))) (l : LinkedTo w1 w2 (stack_at s p) (s + 1) j s) where
    is_tri : live_tri e ≡ true
    is_tri = sym kind ∙ k

    sc2 : Scratch w w2 s p
    sc2 = scratch_trans w w1 w2 s p sc (scratch_ring w1 w2 s p l.kept)

    same_list : rev (slots (e ∷ without_slot e.slot st)) ≡ without j (rev (slots st)) ++ j ∷ []
    same_list =
        ap (λ (z : List ℕ). rev z ++ e.slot ∷ []) (slots_without e.slot st) ∙ ap (λ (z : List ℕ). z ++ e.slot ∷ []) (sym (without_rev e.slot (slots st)))
        ∙ ap (λ (i : ℕ). without i (rev (slots st)) ++ i ∷ []) (sym h.slot)

    other : (i : ℕ) → i < m.used → i ≢ j → get_or w2 (20 * s + 3 * p + i) 0 ≡ get_or w (20 * s + 3 * p + i) 0
    other i q y =
        let is : i < s = omega (arith, h.hold.rep.used) in
        l.kept.low (20 * s + 3 * p + i) (omega arith) ∙ others i is y

    marks : (i : ℕ) → i < m.used → Mark (get_or w2 (20 * s + 3 * p + i) 0) (listed i seen) (listed i (e ∷ without_slot e.slot st))
    unfolding any in_slot
    marks i q = go (decide i j)
      where
        go : Same i j → Mark (get_or w2 (20 * s + 3 * p + i) 0) (listed i seen) (eqb i e.slot || listed i (without_slot e.slot st))
        go (same y) =
            let js : j < s = h.inside in
            let u : listed i seen ≡ false = ap (λ (x : ℕ). listed x seen) (y ∙ h.slot) ∙ un in
            let z : get_or w2 (20 * s + 3 * p + j) 0 ≡ get_or w1 (20 * s + 3 * p + j) 0 = l.kept.low (20 * s + 3 * p + j) (omega arith) in
            rw (u, eq-eqb i e.slot (y ∙ h.slot), y, z) own
        go (differ y) =
            rw (ne_eqb i e.slot (λ z. y (z ∙ sym h.slot)), listed_without i e.slot st (λ z. y (z ∙ sym h.slot)), other i q y) (h.hold.marks i q)

    hold : Hold w2 s p m out seen (e ∷ without_slot e.slot st)
    hold =
        let js : j < s = h.inside in
        let fo : length out ≤ s = few_out w s p m out seen st h.hold in
        record {
          rep = scratch_rep w w2 s p m sc2 h.hold.rep;
          fits = omega (arith, h.hold.fits, sc2.len);
          ring = rw same_list (l.own (without j (rev (slots st))) ring (out_self j (rev (slots st))) (λ z. omega arith));
          stack = (h.has, is_tri, inner_without m e.slot st h.hold.stack);
          inner = h.hold.inner;
          fresh = (un, fresh_without e.slot seen st h.hold.fresh);
          distinct = h.hold.distinct;
          below = h.hold.below;
          few = h.hold.few;
          stored = stored_kept w w2 (list_at s p) (slots out)
              (λ i a b. l.kept.low i (omega (arith, fo, slots_length out)) ∙ list i a (omega (arith, fo, slots_length out))) h.hold.stored;
          marks = marks;
          visited = h.hold.visited;
          noted = noted_kept w w2 s p j m out h.hold.rep h.hold.inner (visited_out j seen out (ap (λ (i : ℕ). listed i seen) h.slot ∙ un) h.hold.visited) other h.hold.noted;
          known = known_set w w2 s p j m seen h.hold.rep other
              (λ t z. subst (λ (n : ℕ). Told m j seen n t.t) (sym (l.kept.low (20 * s + 3 * p + j) (omega arith))) (told t)) h.hold.known;
        }

    pub push_linked : PushTo w w2 s p m out seen (on_top seen st e)
    push_linked = rw (on_top_hit seen st e is_tri un) (record { hold = hold; scratch = sc2 })

  pub ring_again : (w1 : List ℕ) → UnlinkedFrom w w1 (stack_at s p) (s + 1) j → Ring w1 (stack_at s p) (s + 1) s (without j (rev (slots st)))
  ring_again w1 u = let js : j < s = h.inside in u.rings (rev (slots st)) s h.hold.ring (λ z. omega arith)

  pub push_again : 16 ≤ get_or w (20 * s + 3 * p + j) 0 → (w1 w2 : List ℕ)
      → UnlinkedFrom w w1 (stack_at s p) (s + 1) j → LinkedTo w1 w2 (stack_at s p) (s + 1) j s → PushTo w w2 s p m out seen (on_top seen st e)
  push_again n w1 w2 u l =
      let js : j < s = h.inside in
      let q : get_or w1 (20 * s + 3 * p + j) 0 ≡ get_or w (20 * s + 3 * p + j) 0 = u.kept.low (20 * s + 3 * p + j) (omega arith) in
      push_linked (waiting n).0 (on_list w s p j m h.hold.rep st h.hold.stack (ap (λ (i : ℕ). listed i st) h.slot ∙ (waiting n).1)) w1 w2 (scratch_ring w w1 s p u.kept) (λ i a b. u.kept.low i (omega arith)) (λ i q z. u.kept.low (20 * s + 3 * p + i) (omega arith))
      (rw q n) (λ t. subst (λ (v : ℕ). Told m j seen v t.t) (sym q) (h.hold.known j t n)) (ring_again w1 u) l

  pub ring_first : get_or w (20 * s + 3 * p + j) 0 < 2
      → Ring (set w (20 * s + 3 * p + j) 16) (stack_at s p) (s + 1) s (without j (rev (slots st)))
  ring_first n =
      let js : j < s = h.inside in
      let q : Out j (slots st) = subst (λ (i : ℕ). Out i (slots st)) (sym h.slot) (listed_out e.slot st (off_stack n)) in
      rw (without_out j (rev (slots st)) (out_rev j (slots st) q)) (ring_set w (stack_at s p) (s + 1) s (20 * s + 3 * p + j) 16 (rev (slots st)) (omega arith) h.hold.ring)

  pub push_first : get_or w (20 * s + 3 * p + j) 0 < 2 → get_or w j 0 ≡ 3 → (w2 : List ℕ)
      → LinkedTo (set w (20 * s + 3 * p + j) 16) w2 (stack_at s p) (s + 1) j s → PushTo w w2 s p m out seen (on_top seen st e)
  push_first n k w2 l =
      let js : j < s = h.inside in
      let q : get_or (set w (20 * s + 3 * p + j) 16) (20 * s + 3 * p + j) 0 ≡ 16 = on w (20 * s + 3 * p + j) 16 (omega (arith, h.hold.fits)) in
      push_linked (unseen n) (eq-eqb (get_or w j 0) 3 k) (set w (20 * s + 3 * p + j) 16) w2 (scratch_mark w s p j 16 js) (λ i a b. off w (20 * s + 3 * p + j) 16 i (omega arith))
      (λ i q z. off w (20 * s + 3 * p + j) 16 (20 * s + 3 * p + i) (λ y. z (omega arith))) (omega (arith, q))
      (λ t. told_none m j seen (get_or (set w (20 * s + 3 * p + j) 16) (20 * s + 3 * p + j) 0) t.t q) (ring_first n) l
