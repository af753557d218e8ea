-- How the number of live triangles changes.
use Rattle.std.specs.Prelude.{◌≡◌, ◌≢◌, ◌+◌, ◌≤◌, ◌∷◌, ◌++◌}
use Rattle.laws.specs.Kit.{refl, sym, ◌∙◌, ap, ℕ, arith, List, [], length}
use Rattle.rings.specs.Rings.{Out, Distinct}
use Rattle.rings.proofs.Lists.{room}
use Rattle.definition.specs.Lists.{filter}
use Rattle.definition.specs.Cells.{Cell, Live, Mesh, new_live, is_tri, live_tri, live_tris, with_live, push_cell, remove_cell, set_cell, without}
use Rattle.cells.proofs.Slots.{slot_hit, slot_miss, slots_below}
use Rattle.cells.specs.Rep.{slots, Has, here, there, Rep}
use Rattle.cells.specs.Walk.{one_if}
use Rattle.cells.proofs.Fronts.{one_most, tri_more}

tris_append : (l k : List Live) → length (filter live_tri (l ++ k)) ≡ length (filter live_tri l) + length (filter live_tri k)
unfolding filter
tris_append [] k = omega arith
tris_append (x ∷ l) k = omega (arith, tri_more x (l ++ k), tri_more x l, tris_append l k)

tris_one : (i : ℕ) (t : Cell) → length (filter live_tri (new_live i t ∷ [])) ≡ one_if (is_tri t)
unfolding filter live_tri new_live
tris_one i t = tri_more (new_live i t) [] ∙ omega arith

pub live_push : (m : Mesh) (t : Cell) → live_tris (push_cell m t) ≡ live_tris m + one_if (is_tri t)
unfolding live_tris push_cell with_live
live_push m t = omega (arith, tris_append m.live (new_live m.used t ∷ []), tris_one m.used t)

out_without : (i : ℕ) (l : List Live) → Out i (slots l) → without i l ≡ l
unfolding without filter
out_without i [] o = refl
out_without i (x ∷ l) o = slot_miss i x l o.0 ∙ ap (λ (k : List Live). x ∷ k) (out_without i l o.1)

tris_without : (l : List Live) (x : Live) → Distinct (slots l) → Has x l → length (filter live_tri (without x.slot l)) + one_if (live_tri x) ≡ length (filter live_tri l)
tris_without [] x d x4 = elim x4 [ ]
tris_without (y ∷ l) x d here =
    let e : without x.slot (x ∷ l) ≡ l = slot_hit x.slot x l refl ∙ out_without x.slot l d.0 in
    rw e (omega (arith, tri_more x l))
tris_without (y ∷ l) x d (there h) =
    let n : y.slot ≢ x.slot = λ e. out_slot y.slot l d.0 h (sym e) in
    rw (slot_miss x.slot y l n) (omega (arith, tri_more y (without x.slot l), tri_more y l, tris_without l x d.1 h))
  where
    out_slot : (i : ℕ) (k : List Live) → Out i (slots k) → Has x k → x.slot ≢ i
    out_slot i [] o x7 = elim x7 [ ]
    out_slot i (z ∷ k) o here = o.0
    out_slot i (z ∷ k) o (there g) = out_slot i k o.1 g

pub live_remove : (m : Mesh) (x : Live) → Distinct (slots m.live) → Has x m.live → live_tris (remove_cell m x.slot) + one_if (live_tri x) ≡ live_tris m
unfolding live_tris remove_cell with_live
live_remove m x d h = tris_without m.live x d h

pub live_set : (m : Mesh) (x : Live) (t : Cell) → Distinct (slots m.live) → Has x m.live
    → live_tris (set_cell m x.slot t) + one_if (live_tri x) ≡ live_tris m + one_if (is_tri t)
unfolding live_tris set_cell with_live
live_set m x t d h =
    omega (arith, tris_append (without x.slot m.live) (new_live x.slot t ∷ []), tris_one x.slot t, tris_without m.live x d h)

-- ---- live triangles are at most the slots given out

tris_few : (l : List Live) → length (filter live_tri l) ≤ length (slots l)
unfolding filter
tris_few [] = omega arith
tris_few (x ∷ l) = omega (arith, tri_more x l, tris_few l, one_most (live_tri x))

pub live_few : (w : List ℕ) (s p : ℕ) (m : Mesh) → Rep w s p m → live_tris m ≤ m.used
unfolding live_tris
live_few w s p m r =
    omega
    (arith, tris_few m.live, room m.used (slots m.live) r.distinct (slots_below w s m.used (length m.points) m.live r.cells))
