-- The invariant: the edges from place i on tell whether some edge is not blocked.
use Rattle.laws.specs.Kit.{arith}
use Rattle.edges.specs.Kept.{on_place}
use Rattle.loops.proofs.Keeping.{open_edge, asking_start, asking_end, asking_hit, asking_on}
use Rattle.loops.proofs.keep.any_open.Goals as goal

pub is_open_at-requires : goal.is_open_at-requires
is_open_at-requires c =
    let x = c.loop-i in
    let t = c.requires in
    let h = c.loop-i-test.true in
    (t.1, on_place t.3.at t.3.room x.i x.invariant.0 h, open_edge t.3 x.i x.invariant.0 h, t.3.blocked)

pub returns-then-is_open_at : goal.returns-then-is_open_at
returns-then-is_open_at c =
    λ n bl l o. asking_hit (c.loop-i.invariant.1 n bl l o) c.loop-i-test.true _ (c.is_open_at.ensures bl o.blocked) c.if-is_open_at.true

pub loop-i-preserved : goal.loop-i-preserved
loop-i-preserved c =
    let x = c.loop-i in
    (omega (arith, x.invariant.0), λ n bl l o. asking_on (x.invariant.1 n bl l o) c.loop-i-test.true _ (c.is_open_at.ensures bl o.blocked) c.if-is_open_at.false)

pub returns : goal.returns
returns c = λ n bl l o. asking_end (c.loop-i.invariant.1 n bl l o) c.loop-i-test.false

pub loop-i-init : goal.loop-i-init
loop-i-init c = (omega arith, λ n bl l o. asking_start o)

pub loop-i-smaller : goal.loop-i-smaller
loop-i-smaller c = omega (arith, c.loop-i-test.true)
