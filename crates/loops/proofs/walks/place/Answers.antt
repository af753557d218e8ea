use Rattle.laws.specs.Kit.{arith, length-set}
use Rattle.loops.proofs.Places.{change, place_room, place_to}
use Rattle.loops.proofs.walks.place.Goals as goal

pub overflow_add-w-2 : goal.overflow_add-w-2
overflow_add-w-2 c = let q = c.requires.5 in omega (arith, place_room q, q.placed.ready.front.at.few, q.placed.ready.front.room.small, c.order_at.ensures)

pub bounds-w-order_at : goal.bounds-w-order_at
bounds-w-order_at c =
    let q = c.requires.5 in
    simp length-set (omega (arith, place_room q, q.placed.ready.front.at.few, q.placed.ready.front.room.fits, c.order_at.ensures))

pub returns : goal.returns
returns c =
    let a = c.args in
    λ n k b es path q.
    let few = q.placed.ready.front.at.few in
    rw (c.front_used_at.ensures, c.order_at.ensures)
    (place_to q (change a.w.now a.lay.slots a.lay.points a.b a.c q.placed.ready.front.room (omega (arith, place_room q, few)) (omega (arith, q.inside, few))))
