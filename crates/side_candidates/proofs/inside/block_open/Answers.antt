use Prim.Native.Nat.{◌-◌, ◌+◌}
use native.Mathlib.Omega.{arith}
use Rattle.definition.specs.Candidates.{walls, segment_inside}
use Rattle.side_candidates.proofs.Skipping.{skip_block, through_end}
use Rattle.side_candidates.proofs.inside.block_open.Goals as goal

pub returns-then-passed : goal.returns-then-passed
returns-then-passed c =
    let a = c.args in
    let e = c.passed.ensures c.if-passed.true in
    λ m g h.
    skip_block a.w.now a.q.now a.lay.slots a.lay.points a.n a.h.boxes.now a.h.size a.j a.o m g a.a a.b (segment_inside m a.a a.b (walls m g)) h.pass.hand h.boxes h.leads e.0 e.1
    a.k (a.n - a.k) h.block c.requires.k_lt_n.0 (omega (arith, c.requires.k_lt_n.0)) h.pass.from

pub cells_open-requires : goal.cells_open-requires
cells_open-requires c =
    record { can_pass = (c.requires.can_skip.0, c.requires.can_skip.1, c.requires.can_skip.2.pass); j_le_k = (omega (arith, c.requires.k_lt_n.0), omega arith) }

pub returns-then-n-k : goal.returns-then-n-k
returns-then-n-k c =
    let a = c.args in
    λ m g h.
    through_end a.w.now a.lay.slots a.lay.points a.n (a.k + a.h.size) m a.a a.b (segment_inside m a.a a.b (walls m g)) c.cells_open.result (omega (arith, c.if-n-k.true, c.requires.k_lt_n.0)) (c.cells_open.ensures m g h.pass)

pub overflow_add-k : goal.overflow_add-k
overflow_add-k c =
    let h = c.requires.can_skip.2 in
    omega (arith, c.requires.k_lt_n.0, h.boxes.few, h.pass.hand.few, h.pass.hand.rep.room.small)

pub cells_open-requires-2 : goal.cells_open-requires-2
cells_open-requires-2 c =
    record { can_pass = (c.requires.can_skip.0, c.requires.can_skip.1, c.requires.can_skip.2.pass); j_le_k = (omega arith, omega (arith, c.if-n-k.false, c.requires.k_lt_n.0)) }

pub returns : goal.returns
returns c = λ m g h. c.cells_open-2.ensures m g h.pass

pub overflow_sub-n : goal.overflow_sub-n
overflow_sub-n c = omega (arith, c.requires.k_lt_n.0)
