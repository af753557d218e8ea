-- Whether the table has an edge: by the joints one after the other, and by the marks.
use Rattle.std.specs.Prelude.{◌≡◌, ◌+◌, ◌*◌, ◌<◌}
use Rattle.laws.specs.Kit.{sym, ◌∙◌, ap, true, false, ℕ, arith, eqb, eq-eqb, ne_eqb, eqb-true, List, get_or}
use Rattle.definition.specs.Plane.{Edge}
use Rattle.definition.specs.Cells.{same_edge, has_edge_in}
use Rattle.laws.specs.Bools.{fails, holds, never, both}
use Rattle.laws.specs.Numbers.{eqb_swap}
use Rattle.laws.specs.Tables.{none_below, below_none}
use Rattle.joints.specs.Table.{edge_in, mark, Kept}

-- joint i by its two words
pub joint_is : (j : List ℕ) (i u v x y : ℕ) → x ≡ get_or j (1025 + 2 * i) 0 → x ≡ u → y ≡ get_or j (1025 + 2 * i + 1) 0 → eqb y v ≡ same_edge (u, v) (edge_in j i)
unfolding same_edge
joint_is j i u v x y e f g =
    let h : 1025 + 2 * i + 1 ≡ 1026 + 2 * i = omega arith in
    let k : y ≡ get_or j (1026 + 2 * i) 0 = g ∙ ap (λ n. get_or j n 0) h in
    rw (← k, eq-eqb u (get_or j (1025 + 2 * i) 0) (sym f ∙ e)) (eqb_swap y v)

pub joint_other : (j : List ℕ) (i u v x : ℕ) → x ≡ get_or j (1025 + 2 * i) 0 → (x ≡ u → ⊥) → false ≡ same_edge (u, v) (edge_in j i)
unfolding same_edge
joint_other j i u v x e d = rw (ne_eqb u (get_or j (1025 + 2 * i) 0) (λ f. d (e ∙ sym f)))

module _ (j : List ℕ) (es : List Edge) (h : Kept j es) where
  -- no joint is e
  pub unlisted : (e : Edge) → ((i : ℕ) → i < get_or j 1024 0 → same_edge e (edge_in j i) ≡ false) → has_edge_in es e ≡ false
  unfolding has_edge_in
  unlisted e k = ap (λ l. has_edge_in l e) (sym h.are) ∙ none_below (same_edge e) (edge_in j) (get_or j 1024 0) k

  -- joint i is e
  pub found : (e : Edge) (i : ℕ) → i < get_or j 1024 0 → same_edge e (edge_in j i) ≡ true → has_edge_in es e ≡ true
  unfolding has_edge_in
  found e i l f = holds _ (λ g. never _ f (below_none (same_edge e) (edge_in j) (get_or j 1024 0) (ap (λ l. has_edge_in l e) h.are ∙ g) i l))

  -- a node that has no mark is in no joint
  pub unmarked_first : (u v : ℕ) → mark j u ≡ 0 → has_edge_in es (u, v) ≡ false
  unfolding same_edge
  unmarked_first u v z = unlisted (u, v) (λ i l. fails _ (λ f. (h.marked i l).first (ap (mark j) (sym (eqb-true _ _ (both (eqb u _) (eqb v _) f).0)) ∙ z)))

  pub unmarked_second : (u v : ℕ) → mark j v ≡ 0 → has_edge_in es (u, v) ≡ false
  unfolding same_edge
  unmarked_second u v z = unlisted (u, v) (λ i l. fails _ (λ f. (h.marked i l).second (ap (mark j) (sym (eqb-true _ _ (both (eqb u _) (eqb v _) f).1)) ∙ z)))
