-- The triangles of what is stored are those of the mesh: a cell that is not stored is a quad.
use Rattle.std.specs.Prelude.{◌≡◌, ◌∷◌, ◌++◌}
use Rattle.laws.specs.Kit.{refl, sym, ◌∙◌, ap, Bool, true, false, cond, ℕ, arith, ltb, le-ltb, ltb-true, ltb-false, List, []}
use Rattle.definition.specs.Lists.{filter, insert, sort, flat_map}
use Rattle.definition.specs.Cells.{Tri, Cell, tri, quad, Live, Mesh, tri_of, tris_of, in_slot_order, triangles, with_live}
use Rattle.definition.specs.Account.{All}
use Rattle.laws.specs.Lists.{in_filter, filter_yes, filter_no, all_from, all_at}
use Rattle.laws.specs.Sorts.{insert_yes, insert_no, insert_first, rising_sort, Rising}
use Rattle.retrace.specs.Stored.{plain, kept, stored}

-- ---- the order of the slots

abbrev lower : Live → Live → Bool
lower x y = ltb x.slot y.slot

abbrev Any : Live → Type 0
Any x = Unit {0}

not_back : (x y : Live) → Any x → Any y → lower y x ≡ true → lower x y ≡ false
not_back x y _ _ h = let k = ltb-true y.slot x.slot h in le-ltb x.slot y.slot (omega arith)

by : (x y z : Live) → Any x → Any y → Any z → lower z y ≡ false → lower y x ≡ false → lower z x ≡ false
by x y z _ _ _ g h =
    let a = ltb-false z.slot y.slot g in
    let b = ltb-false y.slot x.slot h in
    le-ltb z.slot x.slot (omega arith)

rising : (l : List Live) → Rising lower (sort lower l)
rising l = rising_sort lower Any not_back by l (all_from {P = Any} l (λ x i. tt))

-- ---- those that are stored, in the order of the slots

-- a cell that is not comes among others
insert_less : (x : Live) (l : List Live) → kept x ≡ false → filter kept (insert lower x l) ≡ filter kept l
unfolding insert
insert_less x [] h = filter_no kept x [] h
insert_less x (y ∷ l) h = go (lower y x) (kept y) refl (insert_less x l h)
  where
    go : (b t : Bool) → kept y ≡ t → filter kept (insert lower x l) ≡ filter kept l → filter kept (cond b (y ∷ insert lower x l) (x ∷ y ∷ l)) ≡ filter kept (y ∷ l)
    go true true e r = filter_yes kept y (insert lower x l) e ∙ ap (λ (k : List Live). y ∷ k) r ∙ sym (filter_yes kept y l e)
    go true false e r = filter_no kept y (insert lower x l) e ∙ r ∙ sym (filter_no kept y l e)
    go false t e r = filter_no kept x (y ∷ l) h

-- no stored cell behind y has a lower slot than x, where y has none
none_lower : (x y : Live) (l : List Live) → lower y x ≡ false → Rising lower (y ∷ l) → All (λ z. lower z x ≡ false) (filter kept (y ∷ l))
none_lower x y l e u =
    let far : All (λ z. lower z x ≡ false) (y ∷ l) =
    (e, all_from {P = λ z. lower z x ≡ false} l (λ z i. by x y z tt tt tt (all_at (λ v. lower v y ≡ false) l u.0 z i) e)) in
    all_from {P = λ z. lower z x ≡ false} (filter kept (y ∷ l)) (λ z i. all_at (λ v. lower v x ≡ false) (y ∷ l) far z (in_filter kept (y ∷ l) i).0)

-- a cell that is
insert_more : (x : Live) (l : List Live) → kept x ≡ true → Rising lower l → filter kept (insert lower x l) ≡ insert lower x (filter kept l)
unfolding insert filter
insert_more x [] h u = filter_yes kept x [] h
insert_more x (y ∷ l) h u = go (lower y x) (kept y) refl refl (insert_more x l h u.1)
  where
    go : (b t : Bool) → lower y x ≡ b → kept y ≡ t → filter kept (insert lower x l) ≡ insert lower x (filter kept l) → filter kept (insert lower x (y ∷ l)) ≡ insert lower x (filter kept (y ∷ l))
    go true true e d r =
        ap (filter kept) (insert_yes lower x y l e) ∙ filter_yes kept y (insert lower x l) d ∙ ap (λ (k : List Live). y ∷ k) r
        ∙ sym (insert_yes lower x y (filter kept l) e) ∙ ap (insert lower x) (sym (filter_yes kept y l d))
    go true false e d r = ap (filter kept) (insert_yes lower x y l e) ∙ filter_no kept y (insert lower x l) d ∙ r ∙ ap (insert lower x) (sym (filter_no kept y l d))
    go false t e d r =
        ap (filter kept) (insert_no lower x y l e) ∙ filter_yes kept x (y ∷ l) h
        ∙ sym (insert_first lower x (filter kept (y ∷ l)) (none_lower x y l e u))

sort_kept : (l : List Live) → sort lower (filter kept l) ≡ filter kept (sort lower l)
unfolding sort filter
sort_kept [] = refl
sort_kept (x ∷ l) = go (kept x) refl (sort_kept l)
  where
    go : (t : Bool) → kept x ≡ t → sort lower (filter kept l) ≡ filter kept (sort lower l) → sort lower (filter kept (x ∷ l)) ≡ filter kept (insert lower x (sort lower l))
    go true e r = ap (sort lower) (filter_yes kept x l e) ∙ ap (insert lower x) r ∙ sym (insert_more x (sort lower l) e (rising l))
    go false e r = ap (sort lower) (filter_no kept x l e) ∙ r ∙ sym (insert_less x (sort lower l) e)

-- ---- triangles

-- a cell that is not stored is none
no_tri : (c : Cell) → plain c ≡ false → tri_of c ≡ []
unfolding plain tri_of
no_tri (tri t) h = let z : ◌≡◌ {A = ℕ} 0 1 = cc in absurd (omega arith)
no_tri (quad q) h = refl

tris_kept : (l : List Live) → tris_of (filter kept l) ≡ tris_of l
unfolding tris_of flat_map filter kept
tris_kept [] = refl
tris_kept (x ∷ l) = go (kept x) refl (tris_kept l)
  where
    go : (t : Bool) → kept x ≡ t → tris_of (filter kept l) ≡ tris_of l → tris_of (filter kept (x ∷ l)) ≡ tri_of x.cell ++ tris_of l
    go true e r = ap tris_of (filter_yes kept x l e) ∙ ap (λ (k : List Tri). tri_of x.cell ++ k) r
    go false e r = ap tris_of (filter_no kept x l e) ∙ r ∙ ap (λ (k : List Tri). k ++ tris_of l) (sym (no_tri x.cell e))

pub stored_triangles : (m : Mesh) → triangles (stored m) ≡ triangles m
unfolding triangles in_slot_order stored with_live
stored_triangles m = ap tris_of (sort_kept m.live) ∙ tris_kept (sort lower m.live)
