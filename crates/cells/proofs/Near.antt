-- The owners of an edge are among the cells at its first node.
use mathlib.Core.Path.{◌≡◌, refl, ap, sym, ◌∙◌}
use mathlib.Core.Bool.{Bool, true, false, ◌&&◌, ◌||◌, false≢true}
use mathlib.Core.List.{List, [], ◌∷◌}
use Prim.Native.Nat.{ℕ}
use lib.Dec.{eqb}
use Rattle.definition.specs.Lists.{filter, any, contains}
use Rattle.definition.specs.Plane.{Edge}
use Rattle.definition.specs.Cells.{Cell, tri, quad, Live, Mesh, nodes, tri_nodes, quad_nodes, key, tri_has, has_side, owns, owners, has_node, cells_at, front_owners, is_front}
use Rattle.laws.specs.Numbers.{eqb_swap}
use Rattle.laws.specs.Lists.{filter_yes, filter_no}
use Rattle.cells.proofs.Edges.{tri_side, quad_side, key_swap}

tri_bool : (a b c d : Bool) → (((a || b) || c) && d) ≡ true → (a || (b || (c || false))) ≡ true
tri_bool true b c d h = refl
tri_bool false true c d h = refl
tri_bool false false true d h = refl
tri_bool false false false d h = h

quad_bool : (a0 a1 a2 a3 b0 b1 b2 b3 : Bool)
    → ((a0 && b1 || b0 && a1) || ((a1 && b2 || b1 && a2) || ((a2 && b3 || b2 && a3) || (a3 && b0 || b3 && a0)))) ≡ true → (a0 || (a1 || (a2 || (a3 || false)))) ≡ true
quad_bool true a1 a2 a3 b0 b1 b2 b3 h = refl
quad_bool false true a2 a3 b0 b1 b2 b3 h = refl
quad_bool false false true a3 b0 b1 b2 b3 h = refl
quad_bool false false false true b0 b1 b2 b3 h = refl
quad_bool false false false false true true true true h = h
quad_bool false false false false true true true false h = h
quad_bool false false false false true true false true h = h
quad_bool false false false false true true false false h = h
quad_bool false false false false true false true true h = h
quad_bool false false false false true false true false h = h
quad_bool false false false false true false false true h = h
quad_bool false false false false true false false false h = h
quad_bool false false false false false true true true h = h
quad_bool false false false false false true true false h = h
quad_bool false false false false false true false true h = h
quad_bool false false false false false true false false h = h
quad_bool false false false false false false true true h = h
quad_bool false false false false false false true false h = h
quad_bool false false false false false false false true h = h
quad_bool false false false false false false false false h = h

-- a cell that has the edge u-v has the node u
pub side_node : (u v : ℕ) (c : Cell) → has_side (key u v) c ≡ true → contains (nodes c) u ≡ true
unfolding contains any nodes tri_nodes quad_nodes tri_has
side_node u v (tri t) h =
    rw (eqb_swap u t.n0, eqb_swap u t.n1, eqb_swap u t.n2)
    (tri_bool (eqb t.n0 u) (eqb t.n1 u) (eqb t.n2 u) (tri_has t v) (sym (tri_side t u v) ∙ h))
side_node u v (quad q) h =
    rw (eqb_swap u q.n0, eqb_swap u q.n1, eqb_swap u q.n2, eqb_swap u q.n3)
    (quad_bool (eqb q.n0 u) (eqb q.n1 u) (eqb q.n2 u) (eqb q.n3 u) (eqb q.n0 v) (eqb q.n1 v) (eqb q.n2 v) (eqb q.n3 v) (sym (quad_side q u v) ∙ h))

-- a cell that has the edge u-v has the node v
pub side_end : (u v : ℕ) (c : Cell) → has_side (key u v) c ≡ true → contains (nodes c) v ≡ true
side_end u v c h = side_node v u c (ap (λ (e : Edge). has_side e c) (key_swap v u) ∙ h)

among_near : (u v : ℕ) (l : List Live) → filter (owns (key u v)) (filter (has_node u) l) ≡ filter (owns (key u v)) l
unfolding filter owns has_node
among_near u v [] = refl
among_near u v (x ∷ l) = go (has_node u x) refl (owns (key u v) x) refl (among_near u v l)
  where
    go : (b : Bool) → has_node u x ≡ b → (d : Bool) → owns (key u v) x ≡ d → filter (owns (key u v)) (filter (has_node u) l) ≡ filter (owns (key u v)) l
        → filter (owns (key u v)) (filter (has_node u) (x ∷ l)) ≡ filter (owns (key u v)) (x ∷ l)
    go true p true q r = ap (filter (owns (key u v))) (filter_yes (has_node u) x l p) ∙ filter_yes (owns (key u v)) x (filter (has_node u) l) q ∙ ap (λ (k : List Live). x ∷ k) r ∙ sym (filter_yes (owns (key u v)) x l q)
    go true p false q r = ap (filter (owns (key u v))) (filter_yes (has_node u) x l p) ∙ filter_no (owns (key u v)) x (filter (has_node u) l) q ∙ r ∙ sym (filter_no (owns (key u v)) x l q)
    go false p false q r = ap (filter (owns (key u v))) (filter_no (has_node u) x l p) ∙ r ∙ sym (filter_no (owns (key u v)) x l q)
    go false p true q r = absurd (false≢true (sym p ∙ side_node u v x.cell q))

pub near_owners : (m : Mesh) (u v : ℕ) → filter (owns (key u v)) (cells_at m u) ≡ owners m (key u v)
unfolding cells_at owners
near_owners m u v = among_near u v m.live

pub near_front : (m : Mesh) (u v : ℕ) → front_owners (filter (owns (key u v)) (cells_at m u)) ≡ is_front m (key u v)
unfolding is_front
near_front m u v = ap front_owners (near_owners m u v)
