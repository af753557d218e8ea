-- A triangle's three numbers behind those of the others.
use Rattle.std.specs.Prelude.{◌≡◌, ◌≢◌, ◌+◌, ◌-◌, ◌*◌, ◌<◌, ◌≤◌, ◌∷◌, ◌++◌}
use Rattle.laws.specs.Kit.{refl, sym, ◌∙◌, ap, subst, ℕ, arith, List, [], append-nil, length, get_or, set, drop, length-append}
use lib.Seq.{sets-eq}
use borrow.Rule.Slice.PartMut.{mid_of, put_mid}
use Rattle.definition.specs.Lists.{flat_map}
use Rattle.definition.specs.Cells.{Tri, Cell, tri, quad, Live, Mesh, new_live, tri_nodes, tri_of, cell_of}
use Rattle.definition.specs.Call.{onto}
use Rattle.laws.specs.Lists.{flat_map_append}
use Rattle.laws.specs.Slices.{put_middle}
use Rattle.cells.specs.Rep.{Rep, Has, TriIn, CellAt}
use Rattle.cells.proofs.Slots.{read_tri, rep_held, rep_cell, tri_in, tri_held, find_out}
use Rattle.cells.proofs.Members.{Lookup, absent, present, lookup}
use Rattle.leftovers.specs.Wrote.{three, tris_in, slot_tris, WroteSlot}
use Rattle.leftovers.proofs.Orders.{tris_below, tris_none, tris_more}

-- three stores
pub written : (l : List ℕ) (a b c : ℕ) → 3 ≤ length l → set (set (set l 0 a) 1 b) 2 c ≡ three a b c ++ drop 3 l
written l a b c h = sets-eq (a ∷ b ∷ c ∷ []) l 0 (omega arith)

-- the numbers of the triangles are three for each
pub numbers_length : (ts : List Tri) → length (flat_map tri_nodes ts) ≡ 3 * length ts
unfolding flat_map tri_nodes
numbers_length [] = refl
numbers_length (k ∷ ts) = omega (arith, numbers_length ts)

-- the triangle's numbers behind those of the triangles
pub put_text : (ls : List Tri) (t : Tri) (old xs ys : List ℕ) (at : ℕ) → xs ≡ onto (flat_map tri_nodes ls) old → at ≡ 3 * length ls → at + 3 ≤ length xs
    → ys ≡ three t.n0 t.n1 t.n2 ++ drop 3 (mid_of at (length xs - at) xs)
    → put_mid at (length xs - at) xs ys ≡ onto (flat_map tri_nodes (ls ++ t ∷ [])) old
unfolding onto flat_map tri_nodes
put_text ls t old xs ys at e f h k =
    put_middle (flat_map tri_nodes ls) (three t.n0 t.n1 t.n2) old xs ys at e (f ∙ sym (numbers_length ls)) h k
    ∙ ap (λ (z : List ℕ). z ++ drop (length z) old) (sym (flat_map_append tri_nodes ls (t ∷ [])))

-- nothing at the front
pub onto_none : (old : List ℕ) → old ≡ onto (flat_map tri_nodes []) old
unfolding onto flat_map
onto_none old = refl

-- ---- the triangle in a slot

module _ (w : List ℕ) (s p : ℕ) (m : Mesh) (r : Rep w s p m) (i : ℕ) where
  -- there is none
  pub no_tri : get_or w i 0 ≢ 3 → slot_tris m i ≡ []
  unfolding cell_of tri_of
  no_tri k = go (lookup i m.live)
    where
      at_slot : (x : Live) (t : Cell) → x.cell ≡ t → x.slot ≡ i → Has x m.live → slot_tris m i ≡ []
      at_slot x (tri t) e q h =
          absurd (k (ap (λ (j : ℕ). get_or w j 0) (sym q) ∙ (read_tri w s x.slot t (subst (λ (c : Cell). CellAt w s x.slot c) e (rep_held w s p m r h).at)).kind))
      at_slot x (quad t) e q h = ap (λ (j : ℕ). slot_tris m j) (sym q) ∙ ap tris_in (rep_cell w s p m r h) ∙ ap tri_of e

      go : Lookup i m.live → slot_tris m i ≡ []
      go (absent o) = ap tris_in (find_out i m.live o)
      go (present x q h) = at_slot x x.cell refl q h

  -- its three nodes are read
  pub the_tri : (t : TriIn m i) → slot_tris m i ≡ t.t ∷ []
  unfolding new_live tri_of
  the_tri t = ap tris_in (rep_cell w s p m r t.has)

pub wrote_none : (out : List ℕ) (n : ℕ) (ts : List Tri) → ts ≡ [] → WroteSlot out out n n ts
wrote_none out n ts e =
    record {
      count = let z : length ts ≡ 0 = ap length e in omega arith;
      few = omega arith;
      is = λ ls old k h. h ∙ ap (λ (z : List Tri). onto (flat_map tri_nodes z) old) (sym (ap (λ (z : List Tri). ls ++ z) e ∙ append-nil ls));
    }

pub wrote_one : (w out ys : List ℕ) (s p i n : ℕ) (m : Mesh) → Rep w s p m → i < s → get_or w i 0 ≡ 3 → 3 * n + 3 ≤ length out
    → ys ≡ three (get_or w (s + 4 * i) 0) (get_or w (s + 4 * i + 1) 0) (get_or w (s + 4 * i + 2) 0) ++ drop 3 (mid_of (3 * n) (length out - 3 * n) out)
    → WroteSlot out (put_mid (3 * n) (length out - 3 * n) out ys) n (n + 1) (slot_tris m i)
wrote_one w out ys s p i n m r is kind room wrote =
    let t = tri_in w s p m r i is kind in
    let read = tri_held w s p m r i t in
    let tris = the_tri w s p m r i t in
    let zero : s + 4 * i ≡ s + 4 * i + 0 = omega arith in
    let n0 : get_or w (s + 4 * i) 0 ≡ t.t.n0 = ap (λ (j : ℕ). get_or w j 0) zero ∙ read.n0 in
    let three_are : three (get_or w (s + 4 * i) 0) (get_or w (s + 4 * i + 1) 0) (get_or w (s + 4 * i + 2) 0) ≡ three t.t.n0 t.t.n1 t.t.n2 = rw (n0, read.n1, read.n2) in
    record {
      count = let z : length (slot_tris m i) ≡ 1 = ap length tris in omega arith;
      few = omega arith;
      is = λ ls old k h.
          put_text ls t.t old out ys (3 * n) h (ap (λ (z : ℕ). 3 * z) k) room (wrote ∙ ap (λ (z : List ℕ). z ++ drop 3 (mid_of (3 * n) (length out - 3 * n) out)) three_are)
          ∙ ap (λ (z : List Tri). onto (flat_map tri_nodes (ls ++ z)) old) (sym tris);
    }

-- ---- the sweep over the slots

-- the triangles in the slots below i stand at the front, and there are n of them
pub record Writing (w old out : List ℕ) (s p used n i : ℕ) : Type 0 where
  pub few : n ≤ i
  pub inside : i ≤ used
  pub len : length out ≡ length old
  pub count : (m : Mesh) → Rep w s p m → n ≡ length (tris_below m i)
  pub is : (m : Mesh) → Rep w s p m → out ≡ onto (flat_map tri_nodes (tris_below m i)) old

pub writing_none : (w old : List ℕ) (s p used : ℕ) → Writing w old old s p used 0 0
writing_none w old s p used =
    record {
      few = omega arith;
      inside = omega arith;
      len = refl;
      count = λ m r. sym (ap length (tris_none m));
      is = λ m r. onto_none old ∙ ap (λ (z : List Tri). onto (flat_map tri_nodes z) old) (sym (tris_none m));
    }

pub writing_more : (w old out out' : List ℕ) (s p used n r i : ℕ) (m : Mesh) → Rep w s p m → Writing w old out s p used n i → i < used → length out' ≡ length out
    → ((m : Mesh) → Rep w s p m → WroteSlot out out' n r (slot_tris m i)) → Writing w old out' s p used r (i + 1)
writing_more w old out out' s p used n r i m k h l e f =
    record {
      few = omega (arith, h.few, (f m k).few);
      inside = omega arith;
      len = e ∙ h.len;
      count = λ m k.
          let z = ap length (tris_more m i) ∙ length-append (tris_below m i) (slot_tris m i) in
          omega (arith, (f m k).count, h.count m k);
      is = λ m k. (f m k).is (tris_below m i) old (h.count m k) (h.is m k) ∙ ap (λ (z : List Tri). onto (flat_map tri_nodes z) old) (sym (tris_more m i));
    }
