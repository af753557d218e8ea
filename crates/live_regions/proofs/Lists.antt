-- Lists of slots and of live cells: turned round, without a slot, listed or not; numbers stored one after the other.
use mathlib.Core.Path.{◌≡◌, refl, ap, sym, ◌∙◌, subst}
use mathlib.Core.Logic.{◌≢◌}
use mathlib.Core.Bool.{Bool, true, false, not, cond, ◌||◌, ◌&&◌, or-true, false≢true}
use mathlib.Core.List.{List, [], ◌∷◌, ◌++◌, foldl}
use Prim.Native.Nat.{ℕ}
use native.Mathlib.Omega.{arith}
use lib.Dec.{eqb}
use borrow.Author.Tests.{eq-eqb, ne_eqb}
use Rattle.rings.specs.Rings.{Out, Distinct, without}
use Rattle.rings.proofs.Lists.{Same, same, differ, decide, out_append, without_hit, without_miss, without_out, without_append}
use Rattle.definition.specs.Lists.{any, filter}
use Rattle.definition.specs.Plane.{Edge}
use Rattle.definition.specs.Cells.{Tri, Live, Mesh, live_tri, in_slot, key, owners, among, without as without_slot}
use Rattle.definition.specs.Candidates.{on_top}
use Rattle.cells.proofs.Slots.{slot_hit, slot_miss}
use Rattle.cells.specs.Rep.{slots}
use Rattle.cells.proofs.Corners.{out_left, out_right}
use Rattle.live_regions.specs.Stack.{Inner, rev, listed, Fresh, Visited, Behind, Passed, Told}

-- ---- numbers

append_none : (k : List ℕ) → k ++ [] ≡ k
append_none [] = refl
append_none (y ∷ k) = ap (λ (z : List ℕ). y ∷ z) (append_none k)

pub without_rev : (c : ℕ) (l : List ℕ) → without c (rev l) ≡ rev (without c l)
unfolding without
without_rev c [] = refl
without_rev c (x ∷ l) = without_append c (rev l) (x ∷ []) ∙ go (decide x c) (without_rev c l)
  where
    go : Same x c → without c (rev l) ≡ rev (without c l) → without c (rev l) ++ without c (x ∷ []) ≡ rev (without c (x ∷ l))
    go (same e) r = ap (λ (z : List ℕ). without c (rev l) ++ z) (without_hit c x [] e) ∙ append_none (without c (rev l)) ∙ r ∙ ap rev (sym (without_hit c x l e))
    go (differ e) r = ap (λ (z : List ℕ). without c (rev l) ++ z) (without_miss c x [] e) ∙ ap (λ (z : List ℕ). z ++ x ∷ []) r ∙ ap rev (sym (without_miss c x l e))

pub out_unrev : (c : ℕ) (l : List ℕ) → Out c (rev l) → Out c l
out_unrev c [] h = tt
out_unrev c (x ∷ l) h = ((out_right c (rev l) (x ∷ []) h).0, out_unrev c l (out_left c (rev l) (x ∷ []) h))

pub out_rev : (c : ℕ) (l : List ℕ) → Out c l → Out c (rev l)
out_rev c [] h = tt
out_rev c (x ∷ l) h = out_append c (rev l) (x ∷ []) (out_rev c l h.1) ((h.0, tt))

pub distinct_last : (l : List ℕ) (x : ℕ) → Distinct (l ++ x ∷ []) → Out x l
distinct_last [] x h = tt
distinct_last (y ∷ l) x h = ((λ e. (out_right y l (x ∷ []) h.0).0 (sym e)), distinct_last l x h.1)

pub without_last : (l : List ℕ) (x : ℕ) → Out x l → without x (l ++ x ∷ []) ≡ l
unfolding without
without_last l x o = without_append x l (x ∷ []) ∙ ap (λ (z : List ℕ). without x l ++ z) (without_hit x x [] refl) ∙ append_none (without x l) ∙ without_out x l o

-- ---- live cells

pub out_listed : (i : ℕ) (l : List Live) → Out i (slots l) → listed i l ≡ false
unfolding any in_slot
out_listed i [] h = refl
out_listed i (e ∷ l) h = rw (ne_eqb i e.slot (λ z. h.0 (sym z))) (out_listed i l h.1)

pub listed_out : (i : ℕ) (l : List Live) → listed i l ≡ false → Out i (slots l)
unfolding any in_slot
listed_out i [] h = tt
listed_out i (e ∷ l) h = go (decide i e.slot) (listed_out i l)
  where
    go : Same i e.slot → (listed i l ≡ false → Out i (slots l)) → Out i (slots (e ∷ l))
    go (same q) r = let z : ◌≡◌ {A = Bool} true false = (rw (eq-eqb i e.slot q) at h) in let y : ◌≡◌ {A = ℕ} 0 1 = cc in absurd (omega arith)
    go (differ q) r = ((λ z. q (sym z)), r (rw (ne_eqb i e.slot q) at h))

pub listed_without : (i c : ℕ) (l : List Live) → i ≢ c → listed i (without_slot c l) ≡ listed i l
unfolding any in_slot without_slot filter
listed_without i c [] n = refl
listed_without i c (e ∷ l) n = go (decide e.slot c) (listed_without i c l n)
  where
    go : Same e.slot c → listed i (without_slot c l) ≡ listed i l → listed i (without_slot c (e ∷ l)) ≡ (eqb i e.slot || listed i l)
    go (same q) r = ap (listed i) (slot_hit c e l q) ∙ r ∙ (rw (ne_eqb i e.slot (λ z. n (z ∙ q))))
    go (differ q) r = ap (listed i) (slot_miss c e l q) ∙ ap (λ (b : Bool). eqb i e.slot || b) r

pub inner_without : (m : Mesh) (c : ℕ) (l : List Live) → Inner m l → Inner m (without_slot c l)
unfolding without_slot filter
inner_without m c [] h = tt
inner_without m c (e ∷ l) h = go (decide e.slot c) (inner_without m c l h.2)
  where
    go : Same e.slot c → Inner m (without_slot c l) → Inner m (without_slot c (e ∷ l))
    go (same q) r = subst (Inner m) (sym (slot_hit c e l q)) r
    go (differ q) r = subst (Inner m) (sym (slot_miss c e l q)) ((h.0, h.1, r))

pub inner_snoc : (m : Mesh) (l : List Live) (x : Live) → Inner m l → Inner m (x ∷ []) → Inner m (l ++ x ∷ [])
inner_snoc m [] x h k = k
inner_snoc m (e ∷ l) x h k = (h.0, h.1, inner_snoc m l x h.2 k)

pub fresh_without : (c : ℕ) (seen l : List Live) → Fresh seen l → Fresh seen (without_slot c l)
unfolding without_slot filter
fresh_without c seen [] h = tt
fresh_without c seen (e ∷ l) h = go (decide e.slot c) (fresh_without c seen l h.1)
  where
    go : Same e.slot c → Fresh seen (without_slot c l) → Fresh seen (without_slot c (e ∷ l))
    go (same q) r = subst (Fresh seen) (sym (slot_hit c e l q)) r
    go (differ q) r = subst (Fresh seen) (sym (slot_miss c e l q)) ((h.0, r))

pub fresh_more : (x : Live) (seen st : List Live) → Out x.slot (slots st) → Fresh seen st → Fresh (x ∷ seen) st
unfolding any in_slot
fresh_more x seen [] o h = tt
fresh_more x seen (e ∷ st) o h = (rw (ne_eqb e.slot x.slot o.0) h.0, fresh_more x seen st o.1 h.1)

-- none of those seen is in a slot that was not
pub visited_out : (j : ℕ) (seen l : List Live) → listed j seen ≡ false → Visited seen l → Out j (slots l)
visited_out j seen [] k h = tt
visited_out j seen (x ∷ l) k h = ((λ e. false≢true (sym k ∙ ap (λ (i : ℕ). listed i seen) (sym e) ∙ h.0)), visited_out j seen l k h.1)

pub listed_first : (x : Live) (seen : List Live) → listed x.slot (x ∷ seen) ≡ true
unfolding any in_slot
listed_first x seen = rw (eq-eqb x.slot x.slot refl)

pub visited_more : (x : Live) (seen l : List Live) → Visited seen l → Visited (x ∷ seen) l
unfolding any in_slot
visited_more x seen [] h = tt
visited_more x seen (e ∷ l) h = (rw h.0 (or-true (eqb e.slot x.slot)), visited_more x seen l h.1)

pub visited_snoc : (seen l : List Live) (x : Live) → Visited seen l → listed x.slot seen ≡ true → Visited seen (l ++ x ∷ [])
visited_snoc seen [] x h k = (k, tt)
visited_snoc seen (e ∷ l) x h k = (h.0, visited_snoc seen l x h.1 k)

-- ---- what comes onto the stack

pub on_top_hit : (seen st : List Live) (e : Live) → live_tri e ≡ true → listed e.slot seen ≡ false → on_top seen st e ≡ e ∷ without_slot e.slot st
unfolding on_top among
on_top_hit seen st e t u = rw (t, u)

pub on_top_other : (seen st : List Live) (e : Live) → live_tri e ≡ false → on_top seen st e ≡ st
unfolding on_top among
on_top_other seen st e t = rw t

pub on_top_seen : (seen st : List Live) (e : Live) → listed e.slot seen ≡ true → on_top seen st e ≡ st
unfolding on_top among
on_top_seen seen st e u = rw u (go (live_tri e))
  where
    go : (b : Bool) → cond (b && not true) (e ∷ without_slot e.slot st) st ≡ st
    go true = refl
    go false = refl

-- ---- owners that need not be pushed

pub behind_more : (i : ℕ) (x : Live) (seen l : List Live) → Behind i seen l → Behind i (x ∷ seen) l
unfolding any in_slot
behind_more i x seen [] h = tt
behind_more i x seen (e ∷ l) h = (go (eqb e.slot i) (eqb e.slot x.slot) (listed e.slot seen) h.0, behind_more i x seen l h.1)
  where
    go : (a b c : Bool) → (a || c) ≡ true → (a || (b || c)) ≡ true
    go true b c k = refl
    go false b c k = rw k (or-true b)

pub passed_more : (m : Mesh) (i : ℕ) (x : Live) (seen : List Live) (e : Edge) → Passed m i seen e → Passed m i (x ∷ seen) e
passed_more m i x seen e h = record { shared = h.shared; behind = behind_more i x seen (owners m e) h.behind }

pub told_more : (m : Mesh) (i : ℕ) (x : Live) (seen : List Live) (n : ℕ) (t : Tri) → Told m i seen n t → Told m i (x ∷ seen) n t
told_more m i x seen n t h =
    record {
      first = λ e. passed_more m i x seen (key t.n0 t.n1) (h.first e);
      second = λ e. passed_more m i x seen (key t.n1 t.n2) (h.second e);
      third = λ e. passed_more m i x seen (key t.n2 t.n0) (h.third e);
    }

-- a mark that has no bit
pub told_none : (m : Mesh) (i : ℕ) (seen : List Live) (n : ℕ) (t : Tri) → n ≡ 16 → Told m i seen n t
told_none m i seen n t z = record { first = λ e. absurd (omega arith); second = λ e. absurd (omega arith); third = λ e. absurd (omega arith) }

-- pushing those that were seen changes nothing
pub behind_pushed : (i : ℕ) (seen st l : List Live) → listed i seen ≡ true → Behind i seen l → foldl (on_top seen) st l ≡ st
behind_pushed i seen st [] v h = refl
behind_pushed i seen st (x ∷ l) v h = ap (λ (z : List Live). foldl (on_top seen) z l) (on_top_seen seen st x (go (decide x.slot i))) ∙ behind_pushed i seen st l v h.1
  where
    go : Same x.slot i → listed x.slot seen ≡ true
    go (same e) = ap (λ (k : ℕ). listed k seen) e ∙ v
    go (differ e) = let z = h.0 in rw (ne_eqb x.slot i e) at z
