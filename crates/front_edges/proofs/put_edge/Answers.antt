-- The first node, then the second.
use Rattle.std.specs.Prelude.{◌+◌, ◌<◌}
use Rattle.laws.specs.Kit.{sym, subst, ℕ, arith, List, length, set, length-set}
use Rattle.front_edges.specs.Runs.{PutTo}
use Rattle.front_edges.proofs.Puts.{put_done}
use Rattle.front_edges.proofs.put_edge.Goals as goal

pub bounds-w-front_v_at : goal.bounds-w-front_v_at
bounds-w-front_v_at c =
    let a = c.args in
    let h : c.front_v_at.result + a.k < length a.w.now = omega (arith, c.front_v_at.ensures, c.requires.inside, c.requires.room.fits) in
    simp length-set h

pub returns : goal.returns
returns c =
    let a = c.args in
    subst (λ (l : List ℕ). PutTo a.w.now l a.lay.slots a.lay.points a.u a.v a.k)
    (sym (λ i. set (set a.w.now (c.front_u_at.ensures i + a.k) a.u) (c.front_v_at.ensures i + a.k) a.v))
    (put_done a.w.now a.lay.slots a.lay.points a.u a.v a.k c.requires.room c.requires.inside)
