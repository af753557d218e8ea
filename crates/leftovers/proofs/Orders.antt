-- Cells by ascending slot are those of slot 0, slot 1 and so on.
use Rattle.std.specs.Prelude.{◌≡◌, ◌≢◌, ◌+◌, ◌<◌, ◌≤◌, ◌∷◌, ◌++◌}
use Rattle.laws.specs.Kit.{refl, sym, ◌∙◌, ap, Bool, Option, none, some, ℕ, zero, suc, arith, ltb, eq-eqb, ne_eqb, lt-ltb, le-ltb, List, [], append-nil}
use Rattle.rings.specs.Rings.{Out, Distinct, Below}
use Rattle.rings.proofs.Lists.{Same, same, differ, decide}
use Rattle.definition.specs.Lists.{find, insert, sort, flat_map, numbers, below}
use Rattle.definition.specs.Cells.{Tri, Live, Mesh, tri_of, tris_of, in_slot, cell_of, in_slot_order, triangles}
use Rattle.laws.specs.Lists.{flat_map_append, numbers_snoc}
use Rattle.laws.specs.Sorts.{insert_yes, insert_no}
use Rattle.laws.specs.Cells.{found_slot}
use Rattle.cells.proofs.Slots.{slots_below, find_out}
use Rattle.cells.specs.Rep.{slots, Rep}
use Rattle.leftovers.specs.Wrote.{tris_in, slot_tris}

-- by ascending slot
abbrev lower : Live → Live → Bool
lower x y = ltb x.slot y.slot

-- ---- the cell of a slot

-- a cell, if there is one
abbrev one : Option Live → List Live
one none = []
one (some x) = x ∷ []

find_here : (x : Live) (l : List Live) → find (in_slot x.slot) (x ∷ l) ≡ some x
unfolding find in_slot
find_here x l = rw (eq-eqb x.slot x.slot refl)

find_past : (i : ℕ) (x : Live) (l : List Live) → x.slot ≢ i → find (in_slot i) (x ∷ l) ≡ find (in_slot i) l
unfolding find in_slot
find_past i x l n = rw (ne_eqb i x.slot (λ e. n (sym e)))

-- ---- slot after slot

-- the cells of n slots from a on
abbrev from : List Live → ℕ → ℕ → List Live
from l a n = flat_map (λ i. one (find (in_slot i) l)) (numbers a n)

-- a cell of a lower slot comes first
insert_first : (x : Live) (l : List Live) (a n : ℕ) → x.slot < a → insert lower x (from l a n) ≡ x ∷ from l a n
unfolding flat_map numbers insert
insert_first x l a zero h = refl
insert_first x l a (suc n) h = go (find (in_slot a) l) refl (insert_first x l (suc a) n (omega arith))
  where
    go : (o : Option Live) → find (in_slot a) l ≡ o → insert lower x (from l (suc a) n) ≡ x ∷ from l (suc a) n
        → insert lower x (one o ++ from l (suc a) n) ≡ x ∷ (one o ++ from l (suc a) n)
    go none e r = r
    go (some y) e r = let q : y.slot ≡ a = found_slot a l y e in insert_no lower x y (from l (suc a) n) (le-ltb y.slot x.slot (omega arith))

-- past its slot a cell is not met
from_past : (x : Live) (l : List Live) (a n : ℕ) → x.slot < a → from (x ∷ l) a n ≡ from l a n
unfolding flat_map numbers
from_past x l a zero h = refl
from_past x l a (suc n) h =
    let e = find_past a x l (λ (q : x.slot ≡ a). omega arith) in
    ap (λ (o : Option Live). one o ++ from (x ∷ l) (suc a) n) e ∙ ap (λ (k : List Live). one (find (in_slot a) l) ++ k) (from_past x l (suc a) n (omega arith))

-- a cell comes to its slot
insert_from : (x : Live) (l : List Live) (a n : ℕ) → Out x.slot (slots l) → a ≤ x.slot → x.slot < a + n → insert lower x (from l a n) ≡ from (x ∷ l) a n
unfolding flat_map numbers insert
insert_from x l a zero o h k = absurd (omega arith)
insert_from x l a (suc n) o h k = go (decide x.slot a) (find (in_slot a) l) refl (λ q. insert_from x l (suc a) n o (omega arith) (omega arith))
  where
    go : Same x.slot a → (c : Option Live) → find (in_slot a) l ≡ c → (x.slot ≢ a → insert lower x (from l (suc a) n) ≡ from (x ∷ l) (suc a) n)
        → insert lower x (from l a (suc n)) ≡ from (x ∷ l) a (suc n)
    go (same q) c e rest =
        let none_here : find (in_slot a) l ≡ none = ap (λ (j : ℕ). find (in_slot j) l) (sym q) ∙ find_out x.slot l o in
        let here_now : find (in_slot a) (x ∷ l) ≡ some x = ap (λ (j : ℕ). find (in_slot j) (x ∷ l)) (sym q) ∙ find_here x l in
        ap (λ (v : Option Live). insert lower x (one v ++ from l (suc a) n)) none_here
        ∙ insert_first x l (suc a) n (omega arith)
        ∙ ap (λ (v : List Live). x ∷ v) (sym (from_past x l (suc a) n (omega arith)))
        ∙ ap (λ (v : Option Live). one v ++ from (x ∷ l) (suc a) n) (sym here_now)
    go (differ q) none e rest =
        ap (λ (v : Option Live). insert lower x (one v ++ from l (suc a) n)) e
        ∙ rest q
        ∙ ap (λ (v : Option Live). one v ++ from (x ∷ l) (suc a) n) (sym (find_past a x l q ∙ e))
    go (differ q) (some y) e rest =
        let s : y.slot ≡ a = found_slot a l y e in
        ap (λ (v : Option Live). insert lower x (one v ++ from l (suc a) n)) e
        ∙ insert_yes lower x y (from l (suc a) n) (lt-ltb y.slot x.slot (omega arith))
        ∙ ap (λ (v : List Live). y ∷ v) (rest q)
        ∙ ap (λ (v : Option Live). one v ++ from (x ∷ l) (suc a) n) (sym (find_past a x l q ∙ e))

from_none : (a n : ℕ) → [] ≡ from [] a n
unfolding flat_map numbers find
from_none a zero = refl
from_none a (suc n) = from_none (suc a) n

sorted : (l : List Live) (n : ℕ) → Distinct (slots l) → Below n (slots l) → sort lower l ≡ from l 0 n
unfolding sort
sorted [] n d b = from_none 0 n
sorted (x ∷ l) n d b = ap (insert lower x) (sorted l n d.1 b.1) ∙ insert_from x l 0 n d.0 (omega arith) (omega (arith, b.0))

-- ---- triangles

tris_from : (l : List Live) (a n : ℕ) → tris_of (from l a n) ≡ flat_map (λ i. tris_in (find (in_slot i) l)) (numbers a n)
unfolding tris_of flat_map numbers
tris_from l a zero = refl
tris_from l a (suc n) = go (find (in_slot a) l) (tris_from l (suc a) n)
  where
    go : (o : Option Live) → tris_of (from l (suc a) n) ≡ flat_map (λ i. tris_in (find (in_slot i) l)) (numbers (suc a) n)
        → flat_map (λ x. tri_of x.cell) (one o ++ from l (suc a) n) ≡ tris_in o ++ flat_map (λ i. tris_in (find (in_slot i) l)) (numbers (suc a) n)
    go none r = r
    go (some x) r = ap (λ (v : List Tri). tri_of x.cell ++ v) r

-- the triangles in the slots below i
abbrev pub tris_below : Mesh → ℕ → List Tri
tris_below m i = flat_map (slot_tris m) (below i)

pub tris_none : (m : Mesh) → tris_below m 0 ≡ []
unfolding flat_map below numbers
tris_none m = refl

-- one slot more
pub tris_more : (m : Mesh) (i : ℕ) → tris_below m (i + 1) ≡ tris_below m i ++ slot_tris m i
unfolding below flat_map
tris_more m i =
    let e : i + 1 ≡ suc i = omega arith in
    let z : 0 + i ≡ i = omega arith in
    ap (λ (n : ℕ). flat_map (slot_tris m) (numbers 0 n)) e
    ∙ ap (flat_map (slot_tris m)) (numbers_snoc 0 i ∙ ap (λ (j : ℕ). numbers 0 i ++ j ∷ []) z)
    ∙ flat_map_append (slot_tris m) (numbers 0 i) (i ∷ [])
    ∙ ap (λ (v : List Tri). flat_map (slot_tris m) (numbers 0 i) ++ v) (append-nil (slot_tris m i))

-- all slots
pub tris_all : (w : List ℕ) (s p : ℕ) (m : Mesh) → Rep w s p m → triangles m ≡ tris_below m m.used
unfolding triangles in_slot_order below cell_of
tris_all w s p m r =
    ap tris_of (sorted m.live m.used r.distinct (slots_below w s m.used _ m.live r.cells))
    ∙ tris_from m.live 0 m.used
