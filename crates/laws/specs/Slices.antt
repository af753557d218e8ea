-- Lent slices at a call's exit: words and points at the front of what a slice was, and a slice cleared.
use Rattle.std.specs.Prelude.{◌≡◌, ◌+◌, ◌-◌, ◌*◌, ◌≤◌, ◌∷◌, ◌++◌}
use Rattle.laws.specs.Kit.{refl, sym, ◌∙◌, ap, subst, ℕ, zero, suc, arith, List, [], append-nil, append_assoc, length, get_or, take, drop, length-append, Float}
use Rattle.std.proofs.Common.{length-drop, drop_of_length-le, take_all, take_at, drop_at, drop-drop, drop-cons}
use borrow.Rule.Slice.PartMut.{mid_of, put_mid}
use Rattle.definition.specs.Lists.{flat_map, table, numbers, below}
use Rattle.definition.specs.Floats.{0·0}
use Rattle.definition.specs.Plane.{Node}
use Rattle.definition.specs.Cells.{Quad}
use Rattle.definition.specs.Call.{point_at, first_points, coordinates, onto, all_of, quad_words}

-- ---- at the front

pub onto_none : {A : Type 0} (old : List A) → onto [] old ≡ old
unfolding onto
onto_none old = refl

-- the slice keeps its length
pub onto_length : {A : Type 0} (new old : List A) → length new ≤ length old → length (onto new old) ≡ length old
unfolding onto
onto_length new old h = length-append new (drop (length new) old) ∙ omega (arith, length-drop (length new) old)

-- the words G, at the front of the part behind F, come behind F
pub put_middle : (F G old xs ys : List ℕ) (at : ℕ) → xs ≡ onto F old → at ≡ length F → at + length G ≤ length xs
    → ys ≡ G ++ drop (length G) (mid_of at (length xs - at) xs) → put_mid at (length xs - at) xs ys ≡ onto (F ++ G) old
unfolding onto
put_middle F G old xs ys at e f h k =
    let front : take at xs ≡ F = ap (take at) e ∙ take_at F (drop (length F) old) at (sym f) in
    let rest : drop at xs ≡ drop (length F) old = ap (drop at) e ∙ drop_at F (drop (length F) old) at (sym f) in
    let mid : take (length xs - at) (drop at xs) ≡ drop at xs = take_all (length xs - at) (drop at xs) (omega (arith, length-drop at xs)) in
    let none : drop (length xs - at) (drop at xs) ≡ [] = drop_of_length-le (drop at xs) {i = length xs - at} (omega (arith, length-drop at xs)) in
    let tail : drop (length G) (take (length xs - at) (drop at xs)) ≡ drop (length F + length G) old =
    ap (drop (length G)) (mid ∙ rest) ∙ drop-drop (length G) (length F) old in
    ap (λ (z : List ℕ). z ++ (ys ++ drop (length xs - at) (drop at xs))) front
    ∙ ap (λ (z : List ℕ). F ++ (ys ++ z)) none
    ∙ ap (λ (z : List ℕ). F ++ z) (append-nil ys ∙ k ∙ ap (λ (z : List ℕ). G ++ z) (tail ∙ ap (λ (z : ℕ). drop z old) (sym (length-append F G))))
    ∙ sym (append_assoc F G (drop (length (F ++ G)) old))

-- the numbers of quads are eight for each
pub quads_length : (qs : List Quad) → length (flat_map quad_words qs) ≡ 8 * length qs
unfolding flat_map quad_words
quads_length [] = refl
quads_length (k ∷ qs) = omega (arith, quads_length qs)

-- ---- cleared

-- a cleared slice is known by its length
pub cleared : {A : Type 0} (z : A) (xs ys : List A) → length xs ≡ length ys → all_of z xs ≡ all_of z ys
unfolding all_of
cleared z [] [] e = refl
cleared z [] (y ∷ ys) e = absurd (omega arith)
cleared z (x ∷ xs) [] e = absurd (omega arith)
cleared {A} z (x ∷ xs) (y ∷ ys) e = ap (λ (k : List A). z ∷ k) (cleared z xs ys (omega arith))

-- ---- points

-- the floats of n points from point i on
points_from : (q : List Float) (i n : ℕ) → 3 * (i + n) ≤ length q → flat_map coordinates (table (point_at q) (numbers i n)) ++ drop (3 * (i + n)) q ≡ drop (3 * i) q
unfolding flat_map table numbers coordinates point_at
points_from q i zero h = let e : 3 * (i + 0) ≡ 3 * i = omega arith in ap (λ (k : ℕ). drop k q) e
points_from q i (suc n) h =
    let e : suc i + n ≡ i + suc n = omega arith in
    let more = points_from q (suc i) n (omega arith) in
    let more2 : flat_map coordinates (table (point_at q) (numbers (suc i) n)) ++ drop (3 * (i + suc n)) q ≡ drop (3 * suc i) q =
    subst (λ (k : ℕ). flat_map coordinates (table (point_at q) (numbers (suc i) n)) ++ drop (3 * k) q ≡ drop (3 * suc i) q) e more in
    let d0 = drop-cons q (3 * i) 0·0 (omega arith) in
    let d1 = drop-cons q (3 * i + 1) 0·0 (omega arith) in
    let d2 = drop-cons q (3 * i + 2) 0·0 (omega arith) in
    let s0 : suc (3 * i) ≡ 3 * i + 1 = omega arith in
    let s1 : suc (3 * i + 1) ≡ 3 * i + 2 = omega arith in
    let s2 : suc (3 * i + 2) ≡ 3 * suc i = omega arith in
    let x = get_or q (3 * i) 0·0 in
    let y = get_or q (3 * i + 1) 0·0 in
    let z = get_or q (3 * i + 2) 0·0 in
    ap (λ (k : List Float). x ∷ y ∷ z ∷ k) more2
    ∙ sym (d0 ∙ ap (λ (k : ℕ). x ∷ drop k q) s0
    ∙ ap (λ (k : List Float). x ∷ k) (d1 ∙ ap (λ (k : ℕ). y ∷ drop k q) s1)
    ∙ ap (λ (k : List Float). x ∷ y ∷ k) (d2 ∙ ap (λ (k : ℕ). z ∷ drop k q) s2))

pub coordinates_length : (ps : List Node) → length (flat_map coordinates ps) ≡ 3 * length ps
unfolding flat_map coordinates
coordinates_length [] = refl
coordinates_length (p ∷ ps) = omega (arith, coordinates_length ps)

-- the points of a slice at the front of what it was
pub points_onto : (q q' : List Float) (ps : List Node) → ps ≡ first_points (length ps) q' → 3 * length ps ≤ length q' → drop (3 * length ps) q' ≡ drop (3 * length ps) q
    → onto (flat_map coordinates ps) q ≡ q'
unfolding onto first_points below
points_onto q q' ps e h d =
    let n = length ps in
    let z : 3 * (0 + n) ≡ 3 * n = omega arith in
    let o : 3 * 0 ≡ 0 = omega arith in
    ap (λ (k : ℕ). flat_map coordinates ps ++ drop k q) (coordinates_length ps)
    ∙ ap (λ (k : List Float). flat_map coordinates ps ++ k) (sym d)
    ∙ ap (λ (k : List Node). flat_map coordinates k ++ drop (3 * n) q') e
    ∙ ap (λ (k : ℕ). flat_map coordinates (table (point_at q') (numbers 0 n)) ++ drop k q') (sym z)
    ∙ points_from q' 0 n (omega arith)
    ∙ ap (λ (k : ℕ). drop k q') o
