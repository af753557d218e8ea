-- The four stores are those of `stampedW` at the quad's nodes.
use Rattle.laws.specs.Kit.{refl, arith, length-set}
use Rattle.definition.specs.Cells.{new_quad, quad_nodes}
use Rattle.blocked_edges.proofs.Freeing.{Below, free_kept, free_to}
use Rattle.blocked_edges.proofs.free.Goals as goal

pub returns : goal.returns
unfolding new_quad quad_nodes
returns c =
    let a = c.args in
    let h = c.requires.2 in
    let q = new_quad a.n0 a.n1 a.n2 a.n3 in
    let below : Below a.p (quad_nodes q) = (h.node0, (h.node1, (h.node2, (h.node3, tt)))) in
    record {
      kept = free_kept a.w.now _ a.b a.n a.p a.k _ q c.requires.0 c.requires.1 h.blocks below refl (omega arith);
      to = λ ever bl r. free_to a.w.now _ a.b a.n a.p a.k _ q ever bl r below refl (omega arith) h.more;
    }

pub bounds-w-at-2 : goal.bounds-w-at-2
bounds-w-at-2 c = simp length-set (omega arith)

pub bounds-w-at-3 : goal.bounds-w-at-3
bounds-w-at-3 c = simp length-set (omega arith)

pub bounds-w-at-4 : goal.bounds-w-at-4
bounds-w-at-4 c = simp length-set (omega arith)
