-- What every mesh of a run keeps: its slots differ and were given out, its cells have different nodes of its points.
use Rattle.std.specs.Prelude.{◌≡◌, ◌≢◌, ◌<◌, ◌≤◌, ◌∷◌, ◌++◌}
use Rattle.laws.specs.Kit.{refl, sym, ◌∙◌, ap, subst, inl, inr, Bool, true, false, not, ℕ, arith, eqb, eq-eqb, ne_eqb, not-true, List, [], append_assoc, length}
use Rattle.definition.specs.Lists.{filter, flat_map}
use Rattle.definition.specs.Cells.{Tri, Quad, Cell, tri, quad, Live, Mesh, tri_nodes, quad_nodes, nodes, tri_of, tris_of, in_slot, without}
use Rattle.definition.specs.Account.{All, Pairwise, Rearranged}
use Rattle.laws.specs.Bools.{which, never}
use Rattle.laws.specs.Lists.{In, all_from, all_at, in_left, in_right, in_either, filter_yes, filter_no, in_filter, filter_in, filter_all, filter_append, in_flat_map, flat_map_append}
use Rattle.account.proofs.Rearranged.{number, number_append, same_path, same_then, same_swap, same_under}
use Rattle.account.specs.Triangles.{Has, Distinct}
use Rattle.account.specs.Even.{AllEven}
use Rattle.account.specs.Valid.{GoodQuad, GoodTri, Slots, Valid}

-- fewer cells
pub slots_filter : (p : Live → Bool) (xs : List Live) → Slots xs → Slots (filter p xs)
unfolding filter
slots_filter p [] h = tt
slots_filter p (x ∷ xs) h = elim (which (p x)) [
  | inl e ↦ rw (filter_yes p x xs e) (λ y i. h.0 y (in_filter p xs i).0, slots_filter p xs h.1)
  | inr e ↦ rw (filter_no p x xs e) (slots_filter p xs h.1)
]

-- one more cell
pub slots_last : (xs : List Live) (x : Live) → Slots xs → ((y : Live) → In y xs → y.slot ≢ x.slot) → Slots (xs ++ (x ∷ []))
slots_last [] x h f = (λ y i. absurd i, tt)
slots_last (z ∷ xs) x h f =
    (λ y i. elim (in_either y xs (x ∷ []) i) [ inl j ↦ h.0 y j | inr (inl e) ↦ λ g. f z (inl refl) (g ∙ ap (λ w. w.slot) e) | inr (inr x6) ↦ elim x6 [ ] ], slots_last xs x h.1 (λ y i. f y (inr i)))

-- the cells in other slots
pub in_without : (id : ℕ) (x : Live) (xs : List Live) → In x (without id xs) → In x xs × (x.slot ≢ id)
unfolding without in_slot
in_without id x xs i =
    let r = in_filter (λ x. not (eqb id x.slot)) xs i in
    (r.0, λ e. never (eqb id x.slot) (eq-eqb id x.slot (sym e)) (not-true (eqb id x.slot) r.1))

pub without_in : (id : ℕ) (x : Live) (xs : List Live) → In x xs → x.slot ≢ id → In x (without id xs)
unfolding without in_slot
without_in id x xs i n = filter_in (λ x. not (eqb id x.slot)) xs i (ap not (ne_eqb id x.slot (λ e. n (sym e))))

pub without_none : (id : ℕ) (xs : List Live) → ((x : Live) → In x xs → x.slot ≢ id) → without id xs ≡ xs
unfolding without in_slot
without_none id xs h = filter_all (λ x. not (eqb id x.slot)) xs (λ x i. ap not (ne_eqb id x.slot (λ e. h x i (sym e))))

gone : (id : ℕ) (y : Live) (ys : List Live) → eqb id y.slot ≡ true → without id (y ∷ ys) ≡ without id ys
unfolding without in_slot
gone id y ys e = filter_no (λ x. not (eqb id x.slot)) y ys (ap not e)

pub stays : (id : ℕ) (y : Live) (ys : List Live) → eqb id y.slot ≡ false → without id (y ∷ ys) ≡ y ∷ without id ys
unfolding without in_slot
stays id y ys e = filter_yes (λ x. not (eqb id x.slot)) y ys (ap not e)

-- a live cell taken out
pub taken_out : (xs : List Live) (x : Live) → Slots xs → In x xs → Rearranged (tris_of xs) (tris_of (without x.slot xs) ++ tri_of x.cell)
unfolding tris_of flat_map
taken_out [] x h i = absurd i
taken_out (y ∷ ys) x h (inl e) =
    let es : eqb x.slot y.slot ≡ true = eq-eqb x.slot y.slot (ap (λ w. w.slot) e) in
    let w : without x.slot (y ∷ ys) ≡ ys = gone x.slot y ys es ∙ without_none x.slot ys (λ z i g. h.0 z i (sym (ap (λ w. w.slot) e) ∙ sym g)) in
    same_then _ _ _ (same_swap (tri_of y.cell) (tris_of ys)) (same_path _ _ (ap (λ l. tris_of ys ++ tri_of l.cell) (sym e) ∙ ap (λ l. tris_of l ++ tri_of x.cell) (sym w)))
taken_out (y ∷ ys) x h (inr i) =
    let es : eqb x.slot y.slot ≡ false = ne_eqb x.slot y.slot (λ g. h.0 x i (sym g)) in
    same_then _ _ _ (same_under (tri_of y.cell) (tris_of ys) (tris_of (without x.slot ys) ++ tri_of x.cell) (taken_out ys x h.1 i))
    (same_path _ _ (sym (append_assoc (tri_of y.cell) (tris_of (without x.slot ys)) (tri_of x.cell)) ∙ ap (λ l. tris_of l ++ tri_of x.cell) (sym (stays x.slot y ys es))))

-- more points keep a quad good
pub quad_more : (k n : ℕ) (q : Quad) → k ≤ n → GoodQuad k q → GoodQuad n q
quad_more k n q l g = record { distinct = g.distinct; below = all_from (quad_nodes q) (λ a i. let h = all_at (λ a. a < k) (quad_nodes q) g.below a i in omega arith) }

-- a triangle of the list is in a slot
pub tris_in : (xs : List Live) (x : Live) (t : Tri) → In x xs → x.cell ≡ tri t → In t (tris_of xs)
unfolding tris_of flat_map tri_of
tris_in [] x t x4 c = elim x4 [ ]
tris_in (y ∷ ys) x t (inl e) c = in_left t (tri_of y.cell) (tris_of ys) (subst (λ z. In t (tri_of z)) (sym c ∙ ap (λ w. w.cell) e) (inl refl))
tris_in (y ∷ ys) x t (inr i) c = in_right t (tri_of y.cell) (tris_of ys) (tris_in ys x t i c)

of_cell : (t : Tri) (c : Cell) → In t (tri_of c) → c ≡ tri t
unfolding tri_of
of_cell t (tri s) (inr x'') = elim x'' [ ]
of_cell t (tri s) (inl e) = ap tri (sym e)
of_cell t (quad q) i = absurd i

-- a triangle of a list is in a slot of it
pub in_tris : (xs : List Live) (t : Tri) → In t (tris_of xs) → (x : Live) × In x xs × (x.cell ≡ tri t)
unfolding tris_of
in_tris xs t i = let r = in_flat_map (λ x. tri_of x.cell) t xs i in (r.0, r.1, of_cell t r.0.cell r.2)

-- a slot has one cell
pub one_cell : (xs : List Live) (x y : Live) → Slots xs → In x xs → In y xs → x.slot ≡ y.slot → x ≡ y
one_cell [] x y h x6 _ g = elim x6 [ ]
one_cell (z ∷ xs) x y h (inl e) (inl f) g = e ∙ sym f
one_cell (z ∷ xs) x y h (inl e) (inr j) g = absurd (h.0 y j (sym (ap (λ l. l.slot) e) ∙ g))
one_cell (z ∷ xs) x y h (inr i) (inl f) g = absurd (h.0 x i (sym (ap (λ l. l.slot) f) ∙ sym g))
one_cell (z ∷ xs) x y h (inr i) (inr j) g = one_cell xs x y h.1 i j g

-- a list in two parts
pub parted : (p : Live → Bool) (xs : List Live) → Rearranged (tris_of xs) (tris_of (filter (λ x. not (p x)) xs) ++ tris_of (filter p xs))
unfolding tris_of flat_map filter
parted p [] k = refl
parted p (x ∷ xs) k =
    let a = tri_of x.cell in
    let b = tris_of (filter (λ x. not (p x)) xs) in
    let c = tris_of (filter p xs) in
    let h = same_under a (tris_of xs) (b ++ c) (parted p xs) k in
    elim (which (p x)) [
      | inl e ↦ rw e (omega (arith, h, number_append k a (b ++ c), number_append k b c, number_append k b (a ++ c), number_append k a c))
      | inr e ↦ rw e (h ∙ ap (number k) (sym (append_assoc a b c)))
    ]

pub tris_append : (xs ys : List Live) → tris_of (xs ++ ys) ≡ tris_of xs ++ tris_of ys
unfolding tris_of
tris_append xs ys = flat_map_append (λ x. tri_of x.cell) xs ys

pub without_append : (id : ℕ) (xs ys : List Live) → without id (xs ++ ys) ≡ without id xs ++ without id ys
unfolding without
without_append id xs ys = filter_append (λ x. not (in_slot id x)) xs ys

pub good_as : (n : ℕ) (s t : Tri) → s ≡ t → GoodTri n t → GoodTri n s
good_as n s t e g = subst (λ z. GoodTri n z) (sym e) g

-- a cell is not both a quad and a triangle
pub not_both : {A : Type 0} (q : Quad) (t : Tri) → quad q ≡ tri t → A
not_both q t e = absurd (let y : ◌≡◌ {A = ℕ} 0 1 = cc in omega arith)

-- ---- for every cell alike
-- the nodes of a cell differ
pub nodes_differ : (m : Mesh) → Valid m → (x : Live) → In x m.live → Pairwise (λ a b. a ≢ b) (nodes x.cell)
unfolding nodes tri_nodes
nodes_differ m ok x i = by x.cell refl where
  by : (c : Cell) → x.cell ≡ c → Pairwise (λ a b. a ≢ b) (nodes c)
  by (tri t) e = let g = (ok.tris t (tris_in m.live x t i e)).distinct in ((g.d01, (λ z. g.d20 (sym z), tt)), ((g.d12, tt), (tt, tt)))
  by (quad q) e = (ok.quads x q i e).distinct

-- the nodes of a cell are numbers of points
pub nodes_below : (m : Mesh) → Valid m → (x : Live) → In x m.live → All (λ a. a < length m.points) (nodes x.cell)
unfolding nodes tri_nodes
nodes_below m ok x i = by x.cell refl where
  by : (c : Cell) → x.cell ≡ c → All (λ a. a < length m.points) (nodes c)
  by (tri t) e = let g = ok.tris t (tris_in m.live x t i e) in (g.below t.n0 (inl refl), (g.below t.n1 (inr (inl refl)), (g.below t.n2 (inr (inr refl)), tt)))
  by (quad q) e = (ok.quads x q i e).below
