-- Changes of marks, list and stack alone; a ring with one sentinel.
use mathlib.Core.Path.{◌≡◌, refl, sym, ◌∙◌, subst}
use mathlib.Core.Logic.{◌≢◌}
use mathlib.Core.List.{List, [], ◌∷◌, ◌++◌}
use Prim.Native.Nat.{ℕ, ◌+◌, ◌*◌, ◌^◌, ◌≤◌, ◌<◌}
use native.Mathlib.Omega.{arith}
use lib.ListN.{length, get_or, set, length-set}
use Rattle.rings.specs.Rings.{nx, pv, Linked, Out, Ring, Kept, CanLink, CanUnlink}
use Rattle.rings.proofs.Lists.{Same, same, differ, decide}
use Rattle.rings.proofs.Rings.{last_below}
use Rattle.rings.proofs.Chains.{both}
use Rattle.definition.specs.Cells.{Live, Mesh, new_live}
use Rattle.laws.specs.Frames.{off, Under}
use Rattle.rings.proofs.Families.{near}
use Rattle.cells.specs.Layout.{mesh_end, stack_at, all_end}
use Rattle.cells.specs.Rep.{Rep, TriIn, slots}
use Rattle.cells.proofs.Frames.{rep_under}
use Rattle.cells.proofs.Slots.{rep_held}
use Rattle.live_regions.specs.Walls.{wall_mark}
use Rattle.live_regions.specs.Stack.{Inner, Noted, Told, Known, Scratch}
use Rattle.live_regions.proofs.Lists.{told_more}

pub scratch_refl : (w : List ℕ) (s p : ℕ) → Scratch w w s p
scratch_refl w s p = record { len = refl; mesh = λ i h. refl; rest = λ i h k. refl }

pub scratch_trans : (w w1 w2 : List ℕ) (s p : ℕ) → Scratch w w1 s p → Scratch w1 w2 s p → Scratch w w2 s p
scratch_trans w w1 w2 s p h k =
    record {
      len = k.len ∙ h.len;
      mesh = λ i a. k.mesh i a ∙ h.mesh i a;
      rest = λ i a b. k.rest i a b ∙ h.rest i a b;
    }

pub scratch_mark : (w : List ℕ) (s p j v : ℕ) → j < s → Scratch w (set w (20 * s + 3 * p + j) v) s p
scratch_mark w s p j v h =
    record {
      len = length-set w (20 * s + 3 * p + j) v;
      mesh = λ i a. off w (20 * s + 3 * p + j) v i (omega arith);
      rest = λ i a b. off w (20 * s + 3 * p + j) v i (omega arith);
    }

pub scratch_list : (w : List ℕ) (s p j v : ℕ) → j < s → Scratch w (set w (21 * s + 3 * p + j) v) s p
scratch_list w s p j v h =
    record {
      len = length-set w (21 * s + 3 * p + j) v;
      mesh = λ i a. off w (21 * s + 3 * p + j) v i (omega arith);
      rest = λ i a b. off w (21 * s + 3 * p + j) v i (omega arith);
    }

pub scratch_above : (w w' : List ℕ) (s p : ℕ) → length w' ≡ length w → ((i : ℕ) → i < stack_at s p → get_or w' i 0 ≡ get_or w i 0) → Scratch w w' s p
scratch_above w w' s p e h =
    record { len = e; mesh = λ i a. h i (omega arith); rest = λ i a b. h i (omega arith) }

pub scratch_ring : (w w' : List ℕ) (s p : ℕ) → Kept w w' (stack_at s p) (s + 1) → Scratch w w' s p
scratch_ring w w' s p k = scratch_above w w' s p k.len (λ i a. k.low i a)

pub scratch_under : (w w' : List ℕ) (s p : ℕ) → Scratch w w' s p → Under w w' (mesh_end s p)
scratch_under w w' s p k = record { len = k.len; low = λ i h. k.mesh i (omega arith) }

-- the memory stands for the same mesh
pub scratch_rep : (w w' : List ℕ) (s p : ℕ) (m : Mesh) → Scratch w w' s p → Rep w s p m → Rep w' s p m
scratch_rep w w' s p m k r = rep_under w w' s p (scratch_under w w' s p k) m r

-- ---- noted walls

-- while the marks of all slots but j stay, which none of them is in
pub noted_kept : (w w' : List ℕ) (s p j : ℕ) (m : Mesh) (l : List Live) → Rep w s p m → Inner m l → Out j (slots l)
    → ((i : ℕ) → i < m.used → i ≢ j → get_or w' (20 * s + 3 * p + i) 0 ≡ get_or w (20 * s + 3 * p + i) 0) → Noted w s p m l → Noted w' s p m l
noted_kept w w' s p j m [] r i o f h = tt
noted_kept w w' s p j m (x ∷ l) r i o f h =
    (f x.slot (rep_held w s p m r i.0).inside o.0 ∙ h.0, noted_kept w w' s p j m l r i.2 o.1 f h.1)

pub noted_snoc : (w : List ℕ) (s p : ℕ) (m : Mesh) (l : List Live) (x : Live) → Noted w s p m l → get_or w (20 * s + 3 * p + x.slot) 0 ≡ wall_mark m x → Noted w s p m (l ++ x ∷ [])
noted_snoc w s p m [] x h e = (e, tt)
noted_snoc w s p m (y ∷ l) x h e = (h.0, noted_snoc w s p m l x h.1 e)

-- ---- edges that need not be walked

pub known_more : (w : List ℕ) (s p : ℕ) (m : Mesh) (x : Live) (seen : List Live) → Known w s p m seen → Known w s p m (x ∷ seen)
known_more w s p m x seen k i t h = told_more m i x seen (get_or w (20 * s + 3 * p + i) 0) t.t (k i t h)

-- while the marks of all slots but j stay, and that of j is true
pub known_set : (w w' : List ℕ) (s p j : ℕ) (m : Mesh) (seen : List Live) → Rep w s p m
    → ((i : ℕ) → i < m.used → i ≢ j → get_or w' (20 * s + 3 * p + i) 0 ≡ get_or w (20 * s + 3 * p + i) 0)
    → ((t : TriIn m j) → 16 ≤ get_or w' (20 * s + 3 * p + j) 0 → Told m j seen (get_or w' (20 * s + 3 * p + j) 0) t.t) → Known w s p m seen → Known w' s p m seen
unfolding new_live
known_set w w' s p j m seen r f own k i t h = go (decide i j)
  where
    go : Same i j → Told m i seen (get_or w' (20 * s + 3 * p + i) 0) t.t
    go (same e) = subst (λ (z : ℕ). (v : TriIn m z) → 16 ≤ get_or w' (20 * s + 3 * p + z) 0 → Told m z seen (get_or w' (20 * s + 3 * p + z) 0) v.t) (sym e) own t h
    go (differ e) =
        let q : get_or w' (20 * s + 3 * p + i) 0 ≡ get_or w (20 * s + 3 * p + i) 0 = f i (rep_held w s p m r t.has).inside e in
        subst (λ (n : ℕ). Told m i seen n t.t) (sym q) (k i t (rw q at h))

-- ---- the ring

linked_ext : (f g f' g' : ℕ → ℕ) → ((i : ℕ) → f' i ≡ f i) → ((i : ℕ) → g' i ≡ g i) → (l : List ℕ) (a z : ℕ) → Linked f g a l z → Linked f' g' a l z
linked_ext f g f' g' p q [] a z h = (p a ∙ h.0, q z ∙ h.1)
linked_ext f g f' g' p q (x ∷ l) a z h = (p a ∙ h.0, q x ∙ h.1, linked_ext f g f' g' p q l x z h.2)

-- a store below the ring's memory leaves it
pub ring_set : (w : List ℕ) (b n t i v : ℕ) (l : List ℕ) → i < b → Ring w b n t l → Ring (set w i v) b n t l
ring_set w b n t i v l h r =
    record {
      linked = linked_ext (nx w b) (pv w b n) (nx (set w i v) b) (pv (set w i v) b n)
          (λ k. off w i v (b + k) (omega arith)) (λ k. off w i v (b + n + k) (omega arith)) l t t r.linked;
      distinct = r.distinct;
      below = r.below;
      apart = r.apart;
      here = r.here;
    }

pub can_link_in : (w : List ℕ) (s p j : ℕ) (l : List ℕ) → all_end s p ≤ length w → 4 * s + p ≤ 2 ^ 32 → j < s → Ring w (stack_at s p) (s + 1) s l
    → CanLink w (stack_at s p) (s + 1) j s
can_link_in w s p j l f k h r =
    record {
      fits = omega arith;
      small = omega arith;
      code = omega arith;
      sentinel = omega arith;
      last = last_below (nx w (stack_at s p)) (pv w (stack_at s p) (s + 1)) (s + 1) l s s r.linked r.here r.below;
    }

pub can_unlink_in : (w : List ℕ) (s p j : ℕ) (l : List ℕ) → all_end s p ≤ length w → j < s → Ring w (stack_at s p) (s + 1) s l → (Out j l → ⊥)
    → CanUnlink w (stack_at s p) (s + 1) j
can_unlink_in w s p j l f h r i =
    let n = near (nx w (stack_at s p)) (pv w (stack_at s p) (s + 1)) (s + 1) l s s j r.linked r.here r.here r.below i in
    let b = both (nx w (stack_at s p)) (pv w (stack_at s p) (s + 1)) l s s j r.linked i in
    record { fits = omega arith; code = omega arith; next = n.0; prev = n.1; back = b.0; forth = b.1 }

last_of : (f g : ℕ → ℕ) (l : List ℕ) (x a z : ℕ) → Linked f g a (l ++ x ∷ []) z → g z ≡ x
last_of f g [] x a z h = h.2.1
last_of f g (y ∷ l) x a z h = last_of f g l x y z h.2

-- the last code of the ring stands before the sentinel
pub ring_last : (w : List ℕ) (b n t : ℕ) (l : List ℕ) (x : ℕ) → Ring w b n t (l ++ x ∷ []) → pv w b n t ≡ x
ring_last w b n t l x r = last_of (nx w b) (pv w b n) l x t t r.linked
