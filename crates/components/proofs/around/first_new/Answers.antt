use Rattle.laws.specs.Kit.{arith}
use Rattle.components.proofs.Seeks.{ring_start}
use Rattle.components.proofs.around.first_new.Goals as goal

pub next-from-requires : goal.next-from-requires
next-from-requires c =
    record { fits = omega (arith, c.requires.room.fits); code = omega (arith, c.requires.x_lt_p) }

pub next_new-requires : goal.next_new-requires
next_new-requires c =
    let a = c.args in
    let h = c.requires.by_index in
    record { by_index = (a.x, h.0, h.1, h.2, h.1.live, rw c.next-from.ensures (ring_start a.x h.3 c.requires.x_lt_p)); room = c.requires.room }

pub returns : goal.returns
returns c = λ k m xs h.
    let a = c.args in
    c.next_new.ensures a.x k m xs m.live (rw c.next-from.ensures (ring_start a.x h c.requires.x_lt_p))
