-- The quad is placed, and where components are to stay even that is noted.
use Rattle.laws.specs.Kit.{arith}
use Rattle.pairs.proofs.Gives.{placed_plain, placed_even}
use Rattle.pairs.proofs.one.place_noted.Goals as goal

pub note_even-requires : goal.note_even-requires
note_even-requires c =
    let g = c.place_quad.ensures in
    record { room = (g.rep c.requires.0 c.requires.1 (0, 0) 0 0 c.requires.2 c.requires.3).room; le_s = omega (arith, c.requires.3.free) }

pub returns-then-even : goal.returns-then-even
returns-then-even c =
    let a = c.args in
    let g = c.place_quad in
    let n = c.note_even in
    placed_even a.w.now g.new.w a.lay.slots a.lay.points a.used a.n a.quad.a a.quad.b a.quad.d a.quad.e g.ensures n.new.w a.even (omega (arith, c.requires.3.free)) c.if-even.true n.ensures

pub returns-else-even : goal.returns-else-even
returns-else-even c =
    let a = c.args in
    let g = c.place_quad in
    placed_plain a.w.now g.new.w a.lay.slots a.lay.points a.used a.n a.quad.a a.quad.b a.quad.d a.quad.e g.ensures a.even c.if-even.false
