-- The definition's walk and its loops, apart from memory: step by step,
-- and that the loops have each edge once and none is empty.
use Rattle.std.specs.Prelude.{◌≡◌, ◌≢◌, ◌+◌, ◌<◌, ◌≤◌, ◌∷◌, ◌++◌}
use Rattle.laws.specs.Kit.{refl, sym, ◌∙◌, ap, subst, inl, inr, false, not, none, some, ℕ, zero, suc, arith, ℕ_discrete, eq-eqb, ne_eqb, not-true, List, [], append_assoc, length, get_or, length-append}
use Rattle.definition.specs.Lists.{find, concat, flat_map}
use Rattle.definition.specs.Plane.{Edge}
use Rattle.definition.specs.Cells.{same_edge, has_edge_in, touches}
use Rattle.definition.specs.Loops.{Walk, walk, far_end, without_edge, loops_of}
use Rattle.laws.specs.Bools.{which, fails, never}
use Rattle.laws.specs.Lists.{In, known, any_in, in_filter, find_in, concat_length}
use Rattle.laws.specs.Cells.{same_self}
use Rattle.edges.specs.Stored.{Edges}
use Rattle.edges.specs.Laws.{edges_right}
use Rattle.edges.specs.Parts.{edges_part, edges_filter}
use Rattle.loops.specs.Trace.{walk_of}
use Rattle.loops.proofs.Lists.{drop_it, keep_it, without_few}

-- ---- one step of a walk

unfoldable pub stopped : List Edge → List Edge → Walk
stopped p l = record { path = p; left = l }

module _ (m start here : ℕ) (path left : List Edge) where
  pub walk_none : find (λ e. touches e here) left ≡ none → walk m start here path left ≡ stopped path left
  unfolding walk stopped
  walk_none h = go m
    where
      go : (m : ℕ) → walk m start here path left ≡ stopped path left
      go zero = refl
      go (suc m) = rw (h, walk)

  module _ (e : Edge) (h : find (λ e. touches e here) left ≡ some e) where
    pub walk_stop : far_end e here ≡ start → walk (suc m) start here path left ≡ stopped (path ++ e ∷ []) (without_edge e left)
    unfolding walk stopped
    walk_stop d = rw (h, walk, eq-eqb (far_end e here) start d)

    pub walk_on : far_end e here ≢ start → walk (suc m) start here path left ≡ walk m start (far_end e here) (path ++ e ∷ []) (without_edge e left)
    unfolding walk
    walk_on d = rw (h, walk, ne_eqb (far_end e here) start d)

-- ---- what holds of path and edges left holds after the walk

module _ (P : List Edge → List Edge → Type 0) (step : (path left : List Edge) (e : Edge) → In e left → P path left → P (path ++ e ∷ []) (without_edge e left)) where
  walk_keeps : (m start here : ℕ) (path left : List Edge) → P path left → P (walk m start here path left).path (walk m start here path left).left
  unfolding walk stopped
  walk_keeps zero start here path left h = h
  walk_keeps (suc m) start here path left h = elim (known (find (λ e. touches e here) left)) [
    | inl z ↦ subst (λ (t : Walk). P t.path t.left) (sym (walk_none (suc m) start here path left z)) h
    | inr z ↦ let e = z.0 in
        let k = step path left e (find_in (λ e. touches e here) e left z.1).0 h in
        elim (ℕ_discrete (far_end e here) start) [
          | yes d ↦ subst (λ (t : Walk). P t.path t.left) (sym (walk_stop m start here path left e z.1 d)) k
          | no d ↦ subst (λ (t : Walk). P t.path t.left) (sym (walk_on m start here path left e z.1 d)) (walk_keeps m start (far_end e here) (path ++ e ∷ []) (without_edge e left) k)
        ]
  ]

-- no edge is lost or comes twice
without_part : (e : Edge) (left : List Edge) → In e left → (y : Edge) → In y (e ∷ without_edge e left) → In y left
unfolding without_edge
without_part e left i y (inl q) = subst (λ (z : Edge). In z left) (sym q) i
without_part e left i y (inr j) = (in_filter (λ f. not (same_edge e f)) left j).0

without_it : (e : Edge) (left : List Edge) → has_edge_in (without_edge e left) e ≡ false
unfolding without_edge has_edge_in
without_it e left = fails _ (λ t. let r = any_in (same_edge e) (without_edge e left) t in never _ r.2 (not-true (same_edge e r.0) (in_filter (λ f. not (same_edge e f)) left r.1).1))

without_less : (e : Edge) (left : List Edge) → In e left → suc (length (without_edge e left)) ≤ length left
without_less e [] x' = elim x' [ ]
without_less e (f ∷ l) (inl q) = let z : length (without_edge e (f ∷ l)) ≡ length (without_edge e l) = ap length (drop_it e f l (ap (same_edge e) (sym q) ∙ same_self e)) in omega (arith, z, without_few e l)
without_less e (f ∷ l) (inr i) = elim (which (same_edge e f)) [
  | inl h ↦ let z : length (without_edge e (f ∷ l)) ≡ length (without_edge e l) = ap length (drop_it e f l h) in omega (arith, z, without_few e l)
  | inr h ↦ let z : length (without_edge e (f ∷ l)) ≡ suc (length (without_edge e l)) = ap length (keep_it e f l h) in omega (arith, z, without_less e l i)
]

edge_fits : (n : ℕ) (l : List Edge) (e : Edge) → Edges n l → In e l → (e.0 < e.1) × (e.1 < n)
edge_fits n [] e h x'' = elim x'' [ ]
edge_fits n (f ∷ l) e h (inl q) = subst (λ (z : Edge). (z.0 < z.1) × (z.1 < n)) (sym q) (h.0, h.1)
edge_fits n (f ∷ l) e h (inr i) = edge_fits n l e h.3 i

edges_step : (n : ℕ) (pre path left : List Edge) (e : Edge) → In e left → Edges n ((pre ++ path) ++ left) → Edges n ((pre ++ (path ++ e ∷ [])) ++ without_edge e left)
unfolding without_edge
edges_step n pre path left e i h =
    let l = edges_right n (pre ++ path) left h in
    let f = edge_fits n left e l i in
    subst (λ (z : List Edge). Edges n (z ++ without_edge e left)) (append_assoc pre path (e ∷ []))
    (subst (Edges n) (sym (append_assoc (pre ++ path) (e ∷ []) (without_edge e left)))
    (edges_part n (pre ++ path) left (e ∷ without_edge e left) (without_part e left i) (f.0, f.1, without_it e left, edges_filter n (λ f. not (same_edge e f)) left l) h))

pub walk_edges : (n : ℕ) (pre : List Edge) (e : Edge) (rest : List Edge) → Edges n (pre ++ e ∷ rest) → Edges n ((pre ++ (walk_of e rest).path) ++ (walk_of e rest).left)
walk_edges n pre e rest h =
    walk_keeps (λ path left. Edges n ((pre ++ path) ++ left)) (edges_step n pre) (length rest) e.0 e.1 (e ∷ []) rest
    (subst (Edges n) (sym (append_assoc pre (e ∷ []) rest)) h)

-- a path has an edge
walk_filled : (e : Edge) (rest : List Edge) → 1 ≤ length (walk_of e rest).path
walk_filled e rest = walk_keeps (λ path left. 1 ≤ length path) (λ path left f i h. let z = length-append path (f ∷ []) in omega arith) (length rest) e.0 e.1 (e ∷ []) rest (omega arith)

-- ---- the loops

pub loops_none : (m : ℕ) → loops_of m [] ≡ []
unfolding loops_of
loops_none zero = refl
loops_none (suc m) = refl

pub loops_more : (m : ℕ) (e : Edge) (l : List Edge) → loops_of (suc m) (e ∷ l) ≡ (walk_of e l).path ∷ loops_of m (walk_of e l).left
unfolding loops_of
loops_more m e l = refl

edges_behind : (n m : ℕ) (pre es : List Edge) → Edges n (pre ++ es) → Edges n (pre ++ concat (loops_of m es))
unfolding loops_of concat flat_map
edges_behind n zero pre es h = edges_part n pre es [] (λ y i. absurd i) tt h
edges_behind n (suc m) pre [] h = h
edges_behind n (suc m) pre (e ∷ es) h =
    let t = walk_of e es in
    subst (Edges n) (append_assoc pre t.path (concat (loops_of m t.left))) (edges_behind n m (pre ++ t.path) t.left (walk_edges n pre e es h))

-- no two loops share an edge
pub loops_edges : (n m : ℕ) (es : List Edge) → Edges n es → Edges n (concat (loops_of m es))
loops_edges n m es h = edges_behind n m [] es h

-- none is empty
pub loops_filled : (m : ℕ) (es : List Edge) (i : ℕ) → i < length (loops_of m es) → 1 ≤ length (get_or (loops_of m es) i [])
unfolding loops_of
loops_filled zero es i h = absurd (omega arith)
loops_filled (suc m) [] i h = absurd (omega arith)
loops_filled (suc m) (e ∷ es) zero h = walk_filled e es
loops_filled (suc m) (e ∷ es) (suc i) h = loops_filled m (walk_of e es).left i (omega arith)

-- they have no more edges than there are
walk_long : (e : Edge) (rest : List Edge) → length (walk_of e rest).path + length (walk_of e rest).left ≤ suc (length rest)
walk_long e rest =
    walk_keeps (λ path left. length path + length left ≤ suc (length rest)) (λ path left f i h. let z = length-append path (f ∷ []) in omega (arith, z, h, without_less f left i)) (length rest) e.0 e.1 (e ∷ []) rest (omega arith)

pub loops_long : (m : ℕ) (es : List Edge) → length (concat (loops_of m es)) ≤ length es
unfolding loops_of concat flat_map
loops_long zero es = omega arith
loops_long (suc m) [] = omega arith
loops_long (suc m) (e ∷ es) =
    let t = walk_of e es in
    let r = loops_long m t.left in
    omega (arith, r, walk_long e es, concat_length t.path (loops_of m t.left))
