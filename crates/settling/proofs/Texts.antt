-- A quad's eight numbers behind those of the others.
use Rattle.std.specs.Prelude.{◌≡◌, ◌+◌, ◌-◌, ◌*◌, ◌<◌, ◌≤◌, ◌∷◌, ◌++◌}
use Rattle.laws.specs.Kit.{refl, sym, ◌∙◌, ap, ℕ, suc, min, max, arith, List, [], append-nil, length, set, drop}
use lib.Seq.{sets-eq}
use borrow.Rule.Slice.PartMut.{mid_of, put_mid}
use Rattle.definition.specs.Lists.{flat_map}
use Rattle.definition.specs.Plane.{Edge}
use Rattle.definition.specs.Cells.{Quad, key, new_quad, born, quad_nodes}
use Rattle.definition.specs.Front.{clear_of, freed}
use Rattle.definition.specs.Call.{onto, quad_words}
use Rattle.laws.specs.Lists.{flat_map_append}
use Rattle.laws.specs.Slices.{quads_length, put_middle}
use Rattle.outcomes.specs.Ends.{quad_of}
use Rattle.outcomes.specs.declared.Placed.{Placed}
use Rattle.settling.specs.Settles.{eight, next_quad}

-- eight stores
pub written : (l : List ℕ) (t : Placed) (u v round : ℕ) → 8 ≤ length l
    → set (set (set (set (set (set (set (set l 0 t.n0) 1 t.n1) 2 t.n2) 3 t.n3) 4 u) 5 v) 6 round) 7 t.replaced ≡ eight t u v round ++ drop 8 l
written l t u v round h = sets-eq (eight t u v round) l 0 (omega arith)

-- the quad that the attempt placed, as eight numbers
words_of : (t : Placed) (u v n round : ℕ) → key t.n0 t.n1 ≡ (u, v) → round ≡ n → quad_words (quad_of n t) ≡ eight t u v round
unfolding quad_words born new_quad
words_of t u v n round e f =
    ap (λ (z : Edge). t.n0 ∷ t.n1 ∷ t.n2 ∷ t.n3 ∷ z.0 ∷ z.1 ∷ n ∷ t.replaced ∷ []) e
    ∙ ap (λ (z : ℕ). t.n0 ∷ t.n1 ∷ t.n2 ∷ t.n3 ∷ u ∷ v ∷ z ∷ t.replaced ∷ []) (sym f)

-- the quad's numbers behind those of the quads
pub put_text : (qs : List Quad) (old xs ys : List ℕ) (at : ℕ) (t : Placed) (u v round : ℕ) → key t.n0 t.n1 ≡ (u, v) → round ≡ suc (length qs)
    → xs ≡ onto (flat_map quad_words qs) old → at ≡ 8 * length qs → at + 8 ≤ length xs
    → ys ≡ eight t u v round ++ drop 8 (mid_of at (length xs - at) xs)
    → put_mid at (length xs - at) xs ys ≡ onto (flat_map quad_words (qs ++ next_quad qs t ∷ [])) old
unfolding onto flat_map
put_text qs old xs ys at t u v round edge nth e f h k =
    let front = flat_map quad_words qs in
    let new = words_of t u v (suc (length qs)) round edge nth in
    put_middle front (eight t u v round) old xs ys at e (f ∙ sym (quads_length qs)) h k
    ∙ ap (λ (z : List ℕ). (front ++ z) ++ drop (length (front ++ z)) old) (sym (append-nil (eight t u v round)) ∙ ap (λ (z : List ℕ). z ++ []) (sym new))
    ∙ ap (λ (z : List ℕ). z ++ drop (length z) old) (sym (flat_map_append quad_words qs (next_quad qs t ∷ [])))

-- the edge's nodes are among those of the quad
pub edge_below : (p a b u v : ℕ) → key a b ≡ (u, v) → a < p → b < p → (u < p) × (v < p)
unfolding key
edge_below p a b u v e h k =
    let first : min a b ≡ u = ap (λ (z : Edge). z.0) e in
    let second : max a b ≡ v = ap (λ (z : Edge). z.1) e in
    (omega arith, omega arith)

-- the birth frees nothing more
pub born_frees : (round k a b c d : ℕ) (bl : List Edge) → freed (born round k (new_quad a b c d)) bl ≡ freed (new_quad a b c d) bl
unfolding freed clear_of quad_nodes born new_quad
born_frees round k a b c d bl = refl
