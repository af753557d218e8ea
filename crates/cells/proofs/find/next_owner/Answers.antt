-- The search goes on behind the corner.
use native.Mathlib.Omega.{arith}
use Rattle.cells.proofs.Owners.{at_pos, at_next}
use Rattle.cells.proofs.find.next_owner.Goals as goal

pub overflow_mul-lay : goal.overflow_mul-lay
overflow_mul-lay c =
    let a = c.args in
    let k = at_pos a.w.now a.lay.slots a.lay.points a.u a.v a.c c.requires.at.0 c.requires.at.1 c.requires.c_bound in
    omega (arith, k.1.room.fits, k.1.room.small)

pub overflow_mul-lay-2 : goal.overflow_mul-lay-2
overflow_mul-lay-2 c =
    let a = c.args in
    let k = at_pos a.w.now a.lay.slots a.lay.points a.u a.v a.c c.requires.at.0 c.requires.at.1 c.requires.c_bound in
    omega (arith, k.1.room.fits, k.1.room.small)

pub overflow_add-lay : goal.overflow_add-lay
overflow_add-lay c =
    let a = c.args in
    let k = at_pos a.w.now a.lay.slots a.lay.points a.u a.v a.c c.requires.at.0 c.requires.at.1 c.requires.c_bound in
    omega (arith, k.1.room.fits, k.1.room.small)

pub next-requires : goal.next-requires
next-requires c =
    let a = c.args in
    let k = at_pos a.w.now a.lay.slots a.lay.points a.u a.v a.c c.requires.at.0 c.requires.at.1 c.requires.c_bound in
    record { fits = omega (arith, k.1.room.fits); code = omega (arith, c.requires.c_bound) }

pub seek-requires : goal.seek-requires
seek-requires c =
    let a = c.args in
    let k = at_pos a.w.now a.lay.slots a.lay.points a.u a.v a.c c.requires.at.0 c.requires.at.1 c.requires.c_bound in
    record { pos = (k.0, rw c.next.ensures k.1); edge = c.requires.edge }

pub returns : goal.returns
returns c =
    let a = c.args in
    at_next a.w.now a.lay.slots a.lay.points a.u a.v a.c c.seek.result c.requires.at.0 c.requires.at.1 c.requires.c_bound (λ rest h. c.seek.ensures rest (rw c.next.ensures h))
