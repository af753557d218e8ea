-- The first node, then the second.
use Rattle.std.specs.Prelude.{◌+◌, ◌*◌, ◌<◌}
use Rattle.laws.specs.Kit.{sym, subst, ℕ, arith, List, length, get_or, set, length-set}
use Rattle.front_edges.specs.Noting.{CopyTo}
use Rattle.front_edges.proofs.Copies.{copy_done}
use Rattle.front_edges.proofs.copy_edge.Goals as goal

pub bounds-w-front_v_at : goal.bounds-w-front_v_at
bounds-w-front_v_at c =
    let a = c.args in
    let h : c.front_v_at.result + a.k < length a.w.now = omega (arith, c.front_v_at.ensures, c.requires.inside, c.requires.room.fits) in
    simp length-set h

pub returns : goal.returns
returns c =
    let a = c.args in
    subst (λ (l : List ℕ). CopyTo a.w.now l a.lay.slots a.lay.points a.u a.j a.k)
    (sym (λ i. set (set a.w.now (c.front_u_at.ensures i + a.k) a.u) (c.front_v_at.ensures i + a.k) (get_or a.w.now (c.fronts_at.ensures i + 2 * a.u + a.j) 0)))
    (copy_done a.w.now a.lay.slots a.lay.points a.u a.j a.k c.requires)
