-- Edges known and none twice: parts of a list of edges, and edges by their numbers.
use Rattle.std.specs.Prelude.{◌≡◌, ◌≢◌, ◌<◌, ◌∷◌, ◌++◌}
use Rattle.laws.specs.Kit.{refl, sym, ◌∙◌, ap, subst, inl, inr, Bool, false, ℕ, zero, suc, arith, List, [], length, get_or}
use Rattle.definition.specs.Lists.{any, filter, concat}
use Rattle.definition.specs.Plane.{Edge}
use Rattle.definition.specs.Cells.{same_edge, has_edge_in}
use Rattle.laws.specs.Bools.{fails, never, which}
use Rattle.laws.specs.Lists.{In, in_left, in_right, in_either, in_any, any_in, none_in, in_filter, filter_yes, filter_no, in_flat_map, flat_map_in, concat_cons}
use Rattle.laws.specs.Cells.{same_self, same_is}
use Rattle.edges.specs.Stored.{Edges}
use Rattle.edges.specs.Laws.{edges_right}

-- a test that none of a list passes is passed by none of its part
none_part : {A : Type 0} (p : A → Bool) (xs ys : List A) → ((y : A) → In y ys → In y xs) → any p xs ≡ false → any p ys ≡ false
none_part p xs ys s h = fails (any p ys) (λ t. let r = any_in p ys t in never (any p xs) (in_any p xs (r.0, s r.0 r.1, r.2)) h)

pub edges_left : (n : ℕ) (k l : List Edge) → Edges n (k ++ l) → Edges n k
unfolding has_edge_in
edges_left n [] l h = tt
edges_left n (x ∷ k) l h = (h.0, h.1, none_part (same_edge x) (k ++ l) k (λ y i. in_left y k l i) h.2, edges_left n k l h.3)

-- behind k, edges of a for a
pub edges_part : (n : ℕ) (k a b : List Edge) → ((y : Edge) → In y b → In y a) → Edges n b → Edges n (k ++ a) → Edges n (k ++ b)
unfolding has_edge_in
edges_part n [] a b s g h = g
edges_part n (x ∷ k) a b s g h =
    (h.0, h.1, none_part (same_edge x) (k ++ a) (k ++ b) (λ y i. elim (in_either y k b i) [ inl j ↦ in_left y k a j | inr j ↦ in_right y k a (s y j) ]) h.2, edges_part n k a b s g h.3)

pub edges_filter : (n : ℕ) (f : Edge → Bool) (l : List Edge) → Edges n l → Edges n (filter f l)
unfolding filter has_edge_in
edges_filter n f [] h = tt
edges_filter n f (x ∷ l) h = elim (which (f x)) [
  | inl e ↦ subst (λ (k : List Edge). Edges n k) (sym (filter_yes f x l e)) (h.0, h.1, none_part (same_edge x) l (filter f l) (λ y i. (in_filter f l i).0) h.2, edges_filter n f l h.3)
  | inr e ↦ subst (λ (k : List Edge). Edges n k) (sym (filter_no f x l e)) (edges_filter n f l h.3)
]

-- the edges of some of the lists
concat_part : (f : List Edge → Bool) (ls : List (List Edge)) (y : Edge) → In y (concat (filter f ls)) → In y (concat ls)
unfolding concat
concat_part f ls y i = let r = in_flat_map (λ l. l) y (filter f ls) i in flat_map_in (λ l. l) r.0 y ls (in_filter f ls r.1).0 r.2

pub edges_some : (n : ℕ) (f : List Edge → Bool) (ls : List (List Edge)) → Edges n (concat ls) → Edges n (concat (filter f ls))
unfolding filter
edges_some n f [] h = h
edges_some n f (l ∷ ls) h =
    let g : Edges n (l ++ concat ls) = subst (Edges n) (concat_cons l ls) h in
    let r = edges_some n f ls (edges_right n l (concat ls) g) in
    elim (which (f l)) [
      | inl e ↦ subst (λ (k : List (List Edge)). Edges n (concat k)) (sym (filter_yes f l ls e)) (subst (Edges n) (sym (concat_cons l (filter f ls))) (edges_part n l (concat ls) (concat (filter f ls)) (concat_part f ls) r g))
      | inr e ↦ subst (λ (k : List (List Edge)). Edges n (concat k)) (sym (filter_no f l ls e)) r
    ]

-- ---- edges by their numbers

-- edge number i
abbrev pub edge_of : List Edge → ℕ → Edge
edge_of es i = get_or es i (0, 0)

pub edge_in_range : (n : ℕ) (l : List Edge) (i : ℕ) → Edges n l → i < length l → ((edge_of l i).0 < (edge_of l i).1) × ((edge_of l i).1 < n)
edge_in_range n [] i h k = absurd (omega (arith, k))
edge_in_range n (e ∷ l) zero h k = (h.0, h.1)
edge_in_range n (e ∷ l) (suc i) h k = edge_in_range n l i h.3 (omega arith)

pub at_number : {A : Type 0} (d : A) (l : List A) (j : ℕ) → j < length l → In (get_or l j d) l
at_number d [] j k = absurd (omega arith)
at_number d (e ∷ l) zero k = inl refl
at_number d (e ∷ l) (suc j) k = inr (at_number d l j (omega arith))

-- edges of different numbers differ
pub edges_apart : (n : ℕ) (l : List Edge) (i j : ℕ) → Edges n l → i < length l → j < length l → i ≢ j → same_edge (edge_of l i) (edge_of l j) ≡ false
unfolding has_edge_in
edges_apart n [] i j h a b d = absurd (omega arith)
edges_apart n (e ∷ l) zero zero h a b d = absurd (d refl)
edges_apart n (e ∷ l) zero (suc j) h a b d = none_in (same_edge e) l h.2 (edge_of l j) (at_number (0, 0) l j (omega arith))
edges_apart n (e ∷ l) (suc i) zero h a b d =
    fails (same_edge (edge_of l i) e) (λ t. never (same_edge e (edge_of l i)) (ap (same_edge e) (same_is (edge_of l i) e t) ∙ same_self e) (none_in (same_edge e) l h.2 (edge_of l i) (at_number (0, 0) l i (omega arith))))
edges_apart n (e ∷ l) (suc i) (suc j) h a b d = edges_apart n l i j h.3 (omega arith) (omega arith) (λ z. d (ap suc z))
