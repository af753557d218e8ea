-- Lists of edges and the places of their records, with no memory.
use Rattle.std.specs.Prelude.{◌≡◌, ◌||◌, ◌+◌, ◌-◌, ◌<◌, ◌≤◌, ◌∷◌}
use Rattle.laws.specs.Kit.{refl, sym, ◌∙◌, Bool, true, false, cond, ℕ, suc, arith, dec_le, eqb, ltb, lt-ltb, le-ltb, List, [], length}
use Rattle.definition.specs.Plane.{Edge}
use Rattle.definition.specs.Lists.{any}
use Rattle.definition.specs.Cells.{same_edge, has_edge_in}
use Rattle.laws.specs.Cells.{same_self, same_is}
use Rattle.blocked_edges.specs.Records.{list_of, newest, place, IsEdge}
use Rattle.blocked_edges.specs.Blocks.{with_edge}

-- ---- lists

pub list_low : (p : ℕ) (e : Edge) → e.0 + e.1 < p → list_of p e ≡ e.0 + e.1
unfolding list_of
list_low p e h = rw (lt-ltb (e.0 + e.1) p h)

pub list_high : (p : ℕ) (e : Edge) → p ≤ e.0 + e.1 → list_of p e ≡ e.0 + e.1 - p
unfolding list_of
list_high p e h = rw (le-ltb (e.0 + e.1) p h)

pub list_below : (p : ℕ) (e : Edge) → IsEdge p e → list_of p e < p
list_below p e h = elim (dec_le p (e.0 + e.1)) [
  | yes l ↦ let q = list_high p e l in let o = h.order in let m = h.below in omega arith
  | no l ↦ let q = list_low p e (omega arith) in omega arith
]

-- two edges of one list that have the larger node in common are the same
pub list_one : (p : ℕ) (e f : Edge) → IsEdge p e → IsEdge p f → list_of p e ≡ list_of p f → e.1 ≡ f.1 → e.0 ≡ f.0
list_one p e f h k q z =
    let o = h.order in
    let m = h.below in
    let o' = k.order in
    let m' = k.below in
    elim (dec_le p (e.0 + e.1)) [
      | yes l ↦ elim (dec_le p (f.0 + f.1)) [
        | yes l' ↦ let a = list_high p e l in let b = list_high p f l' in omega arith
        | no l' ↦ let a = list_high p e l in let b = list_low p f (omega arith) in omega arith
      ]
      | no l ↦ elim (dec_le p (f.0 + f.1)) [
        | yes l' ↦ let a = list_low p e (omega arith) in let b = list_high p f l' in omega arith
        | no l' ↦ let a = list_low p e (omega arith) in let b = list_low p f (omega arith) in omega arith
      ]
    ]

-- ---- records

-- a record's number is below the number of records
pub place_below : (n : ℕ) (e : Edge) (es : List Edge) → place n e es < n → place n e es < length es
unfolding place
place_below n e [] h = absurd (omega arith)
place_below n e (x ∷ es) h = go (same_edge e x) h (place_below n e es)
  where
    go : (t : Bool) → cond t (length es) (place n e es) < n → (place n e es < n → place n e es < length es) → cond t (length es) (place n e es) < suc (length es)
    go true l r = omega arith
    go false l r = let z = r l in omega arith

pub newest_below : (n p u : ℕ) (es : List Edge) → newest n p u es < n → newest n p u es < length es
unfolding newest
newest_below n p u [] h = absurd (omega arith)
newest_below n p u (x ∷ es) h = go (eqb (list_of p x) u) h (newest_below n p u es)
  where
    go : (t : Bool) → cond t (length es) (newest n p u es) < n → (newest n p u es < n → newest n p u es < length es)
        → cond t (length es) (newest n p u es) < suc (length es)
    go true l r = omega arith
    go false l r = let z = r l in omega arith

-- an edge of the list has a record, and no other has
pub place_has : (n : ℕ) (e : Edge) (es : List Edge) → length es ≤ n → has_edge_in es e ≡ ltb (place n e es) n
unfolding has_edge_in any place
place_has n e [] h = sym (le-ltb n n (omega arith))
place_has n e (x ∷ es) h = go (same_edge e x) (place_has n e es (omega arith))
  where
    go : (t : Bool) → has_edge_in es e ≡ ltb (place n e es) n → (t || has_edge_in es e) ≡ ltb (cond t (length es) (place n e es)) n
    go true r = sym (lt-ltb (length es) n (omega arith))
    go false r = r

-- two edges have two records
pub place_one : (n : ℕ) (e f : Edge) (es : List Edge) → place n e es < n → place n e es ≡ place n f es → e ≡ f
unfolding place
place_one n e f [] h q = absurd (omega arith)
place_one n e f (x ∷ es) h q = go (same_edge e x) (same_edge f x) refl refl h q (place_one n e f es)
  where
    go : (s t : Bool) → same_edge e x ≡ s → same_edge f x ≡ t → cond s (length es) (place n e es) < n → cond s (length es) (place n e es) ≡ cond t (length es) (place n f es)
        → (place n e es < n → place n e es ≡ place n f es → e ≡ f) → e ≡ f
    go true true a b l z r = same_is e x a ∙ sym (same_is f x b)
    go true false a b l z r = let y = place_below n f es (omega arith) in absurd (omega arith)
    go false true a b l z r = let y = place_below n e es l in absurd (omega arith)
    go false false a b l z r = r l z

pub place_here : (n : ℕ) (e : Edge) (es : List Edge) → place n e (e ∷ es) ≡ length es
unfolding place
place_here n e es = rw (same_self e)

pub place_there : (n : ℕ) (e x : Edge) (es : List Edge) → same_edge e x ≡ false → place n e (x ∷ es) ≡ place n e es
unfolding place
place_there n e x es h = rw h

pub with_old : (e : Edge) (es : List Edge) → has_edge_in es e ≡ true → with_edge e es ≡ es
unfolding with_edge
with_old e es h = rw h

pub with_new : (e : Edge) (es : List Edge) → has_edge_in es e ≡ false → with_edge e es ≡ e ∷ es
unfolding with_edge
with_new e es h = rw h
