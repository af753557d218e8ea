-- A cell seen from a node: it has no corner there, or one, whose neighbours decide whether it has an edge.
use mathlib.Core.Path.{◌≡◌, sym, ◌∙◌}
use mathlib.Core.Logic.{◌≢◌}
use mathlib.Core.Bool.{true, false, ◌||◌, and-false, and-true, or-false, or_comm}
use mathlib.Core.List.{List, [], ◌∷◌}
use Prim.Native.Nat.{ℕ, ◌+◌, ◌*◌, ◌/◌, ◌%◌, ◌<◌}
use native.Mathlib.Omega.{arith}
use lib.Dec.{eqb}
use lib.ListN.{get_or}
use borrow.Author.Tests.{eq-eqb, ne_eqb}
use Rattle.rings.specs.Rings.{Distinct}
use Rattle.rings.proofs.Lists.{Same, same, differ, decide}
use Rattle.definition.specs.Cells.{Tri, Quad, Cell, tri, quad, Live, nodes, tri_nodes, quad_nodes, key, has_side, tri_has}
use Rattle.cells.specs.Rep.{CellAt, Held, at_node, cell_corners}
use Rattle.cells.specs.Walk.{after, before, beside, node_after, node_before}
use Rattle.cells.proofs.Edges.{tri_side, quad_side}

pub data View (w : List ℕ) (s u i : ℕ) (t : Cell) : Type 0 where
  off : cell_corners u i t ≡ [] → ((v : ℕ) → u ≢ v → has_side (key u v) t ≡ false) → View w s u i t
  on : (x : ℕ) → cell_corners u i t ≡ x ∷ [] → x / 4 ≡ i → x < 4 * s → ((v : ℕ) → u ≢ v → has_side (key u v) t ≡ beside w s x v) → View w s u i t

beside_at : (w : List ℕ) (s x v i k n a b : ℕ) → x / 4 ≡ i → x % 4 ≡ k → get_or w i 0 ≡ n
    → get_or w (s + 4 * i + after k n) 0 ≡ a → get_or w (s + 4 * i + before k n) 0 ≡ b → beside w s x v ≡ (eqb a v || eqb b v)
unfolding beside
beside_at w s x v i k n a b p q r h g = rw (p, q, r, h, g)

module _ (w : List ℕ) (s u i : ℕ) (inside : i < s) where
  view_tri : (t : Tri) → Distinct (tri_nodes t) → CellAt w s i (tri t) → View w s u i (tri t)
  unfolding at_node nodes tri_nodes after before tri_has
  view_tri t o h = go0 (decide t.n0 u)
    where
      seen : (k : ℕ) (a b : ℕ) → k < 3 → get_or w (s + 4 * i + after k 3) 0 ≡ a → get_or w (s + 4 * i + before k 3) 0 ≡ b → (v : ℕ) → beside w s (4 * i + k) v ≡ (eqb a v || eqb b v)
      seen k a b l f g v = beside_at w s (4 * i + k) v i k 3 a b (omega arith) (omega arith) h.kind f g

      go2 : Same t.n2 u → t.n0 ≢ u → t.n1 ≢ u → View w s u i (tri t)
      go2 (same e) na nb =
          let za = ne_eqb t.n0 u na in let zb = ne_eqb t.n1 u nb in let zc = eq-eqb t.n2 u e in
          on (4 * i + 2) (rw (za, zb, zc)) (omega arith) (omega arith)
          (λ v n. rw (tri_side t u v, seen 2 t.n0 t.n1 (omega arith) (h.node 0 (omega arith)) (h.node 1 (omega arith)) v, za, zb, zc, ne_eqb t.n2 v (λ q. n (sym e ∙ q)))
          (simp or-false))
      go2 (differ nc) na nb =
          let za = ne_eqb t.n0 u na in let zb = ne_eqb t.n1 u nb in let zc = ne_eqb t.n2 u nc in
          off (rw (za, zb, zc)) (λ v n. rw (tri_side t u v, za, zb, zc))

      go1 : Same t.n1 u → t.n0 ≢ u → View w s u i (tri t)
      go1 (same e) na =
          let za = ne_eqb t.n0 u na in let zb = eq-eqb t.n1 u e in let zc = ne_eqb t.n2 u (λ q. o.1.0.0 (q ∙ sym e)) in
          on (4 * i + 1) (rw (za, zb, zc)) (omega arith) (omega arith)
          (λ v n. rw (tri_side t u v, seen 1 t.n2 t.n0 (omega arith) (h.node 2 (omega arith)) (h.node 0 (omega arith)) v, za, zb, ne_eqb t.n1 v (λ q. n (sym e ∙ q)))
          (simp or-false (or_comm (eqb t.n0 v) (eqb t.n2 v))))
      go1 (differ nb) na = go2 (decide t.n2 u) na nb

      go0 : Same t.n0 u → View w s u i (tri t)
      go0 (same e) =
          let za = eq-eqb t.n0 u e in let zb = ne_eqb t.n1 u (λ q. o.0.0 (q ∙ sym e)) in let zc = ne_eqb t.n2 u (λ q. o.0.1.0 (q ∙ sym e)) in
          on (4 * i + 0) (rw (za, zb, zc)) (omega arith) (omega arith)
          (λ v n. rw (tri_side t u v, seen 0 t.n1 t.n2 (omega arith) (h.node 1 (omega arith)) (h.node 2 (omega arith)) v, za, ne_eqb t.n0 v (λ q. n (sym e ∙ q))))
      go0 (differ na) = go1 (decide t.n1 u) na

  view_quad : (q : Quad) → Distinct (quad_nodes q) → CellAt w s i (quad q) → View w s u i (quad q)
  unfolding at_node nodes quad_nodes after before
  view_quad q o h = go0 (decide q.n0 u)
    where
      seen : (k : ℕ) (a b : ℕ) → k < 4 → get_or w (s + 4 * i + after k 4) 0 ≡ a → get_or w (s + 4 * i + before k 4) 0 ≡ b → (v : ℕ) → beside w s (4 * i + k) v ≡ (eqb a v || eqb b v)
      seen k a b l f g v = beside_at w s (4 * i + k) v i k 4 a b (omega arith) (omega arith) h.kind f g

      go3 : Same q.n3 u → q.n0 ≢ u → q.n1 ≢ u → q.n2 ≢ u → View w s u i (quad q)
      go3 (same e) na nb nc =
          let za = ne_eqb q.n0 u na in let zb = ne_eqb q.n1 u nb in let zc = ne_eqb q.n2 u nc in let zd = eq-eqb q.n3 u e in
          on (4 * i + 3) (rw (za, zb, zc, zd)) (omega arith) (omega arith)
          (λ v n. rw (quad_side q u v, seen 3 q.n0 q.n2 (omega arith) (h.node 0 (omega arith)) (h.node 2 (omega arith)) v, za, zb, zc, zd)
          (simp (and-false, and-true, or-false) (or_comm (eqb q.n2 v) (eqb q.n0 v))))
      go3 (differ nd) na nb nc =
          let za = ne_eqb q.n0 u na in let zb = ne_eqb q.n1 u nb in let zc = ne_eqb q.n2 u nc in let zd = ne_eqb q.n3 u nd in
          off (rw (za, zb, zc, zd)) (λ v n. rw (quad_side q u v, za, zb, zc, zd) (simp (and-false, or-false)))

      go2 : Same q.n2 u → q.n0 ≢ u → q.n1 ≢ u → View w s u i (quad q)
      go2 (same e) na nb =
          let za = ne_eqb q.n0 u na in let zb = ne_eqb q.n1 u nb in let zc = eq-eqb q.n2 u e in let zd = ne_eqb q.n3 u (λ f. o.1.1.0.0 (f ∙ sym e)) in
          on (4 * i + 2) (rw (za, zb, zc, zd)) (omega arith) (omega arith)
          (λ v n. rw (quad_side q u v, seen 2 q.n3 q.n1 (omega arith) (h.node 3 (omega arith)) (h.node 1 (omega arith)) v, za, zb, zc, zd)
          (simp (and-false, and-true, or-false) (or_comm (eqb q.n1 v) (eqb q.n3 v))))
      go2 (differ nc) na nb = go3 (decide q.n3 u) na nb nc

      go1 : Same q.n1 u → q.n0 ≢ u → View w s u i (quad q)
      go1 (same e) na =
          let za = ne_eqb q.n0 u na in let zb = eq-eqb q.n1 u e in let zc = ne_eqb q.n2 u (λ f. o.1.0.0 (f ∙ sym e)) in let zd = ne_eqb q.n3 u (λ f. o.1.0.1.0 (f ∙ sym e)) in
          on (4 * i + 1) (rw (za, zb, zc, zd)) (omega arith) (omega arith)
          (λ v n. rw (quad_side q u v, seen 1 q.n2 q.n0 (omega arith) (h.node 2 (omega arith)) (h.node 0 (omega arith)) v, za, zb, zc, zd)
          (simp (and-false, and-true, or-false) (or_comm (eqb q.n0 v) (eqb q.n2 v))))
      go1 (differ nb) na = go2 (decide q.n2 u) na nb

      go0 : Same q.n0 u → View w s u i (quad q)
      go0 (same e) =
          let za = eq-eqb q.n0 u e in let zb = ne_eqb q.n1 u (λ f. o.0.0 (f ∙ sym e)) in let zc = ne_eqb q.n2 u (λ f. o.0.1.0 (f ∙ sym e)) in let zd = ne_eqb q.n3 u (λ f. o.0.1.1.0 (f ∙ sym e)) in
          on (4 * i + 0) (rw (za, zb, zc, zd)) (omega arith) (omega arith)
          (λ v n. rw (quad_side q u v, seen 0 q.n1 q.n3 (omega arith) (h.node 1 (omega arith)) (h.node 3 (omega arith)) v, za, zb, zc, zd)
          (simp (and-false, and-true, or-false)))
      go0 (differ na) = go1 (decide q.n1 u) na

  view_cell : (t : Cell) → Distinct (nodes t) → CellAt w s i t → View w s u i t
  unfolding nodes
  view_cell (tri t) o h = view_tri t o h
  view_cell (quad q) o h = view_quad q o h

pub view : (w : List ℕ) (s p u : ℕ) (x : Live) → Held w s s p x → View w s u x.slot x.cell
view w s p u x h = view_cell w s u x.slot h.inside x.cell h.shape.distinct h.at

-- ---- what the reads give

pub read_after : (w : List ℕ) (s c n k a : ℕ) → n ≡ get_or w (c / 4) 0 → k ≡ after (c % 4) n → a ≡ get_or w (s + 4 * (c / 4) + k) 0 → a ≡ node_after w s c
read_after w s c n k a p q r = rw (← p, ← q) r

pub read_before : (w : List ℕ) (s c n k a : ℕ) → n ≡ get_or w (c / 4) 0 → k ≡ before (c % 4) n → a ≡ get_or w (s + 4 * (c / 4) + k) 0 → a ≡ node_before w s c
read_before w s c n k a p q r = rw (← p, ← q) r

pub beside_true : (w : List ℕ) (s c v a : ℕ) → a ≡ node_after w s c → a ≡ v → true ≡ beside w s c v
unfolding beside
beside_true w s c v a p e = rw (← p, eq-eqb a v e)

pub beside_rest : (w : List ℕ) (s c v a b : ℕ) → a ≡ node_after w s c → a ≢ v → b ≡ node_before w s c → eqb b v ≡ beside w s c v
unfolding beside
beside_rest w s c v a b p e q = rw (← p, ← q, ne_eqb a v e)
