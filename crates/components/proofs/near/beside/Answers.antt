-- One of the region after the other: no triangle beside those passed is left.
use Rattle.laws.specs.Kit.{sym}
use Rattle.components.proofs.Looks.{looked_other, looking_start, around_can, facing, facing_tri, looking_on, looking_end}
use Rattle.components.proofs.near.beside.Goals as goal

pub listed-requires : goal.listed-requires
listed-requires c = let l = c in around_can l.loop-i.i l.requires.4 c.loop-i-test.true

pub look_tri-found-requires : goal.look_tri-found-requires
look_tri-found-requires c =
    let q = c.requires in
    (q.0, q.1, q.3, q.4.state, facing_tri (facing c.loop-i.i q.4 (c.loop-i.invariant q.0 q.1 q.2 q.3 q.4) c.loop-i-test.true c.listed.ensures))

pub returns-then-is_some : goal.returns-then-is_some
returns-then-is_some c = λ k m region xs h.
    let b = facing c.loop-i.i h (c.loop-i.invariant k m region xs h) c.loop-i-test.true c.listed.ensures in
    looked_other (c.look_tri-found.ensures k m xs h.state (facing_tri b)) (sym c.if-is_some.ensures)

pub loop-i-preserved : goal.loop-i-preserved
loop-i-preserved c = λ k m region xs h.
    let b = facing c.loop-i.i h (c.loop-i.invariant k m region xs h) c.loop-i-test.true c.listed.ensures in
    looking_on b (c.look_tri-found.ensures k m xs h.state (facing_tri b)) (sym c.if-is_some.ensures)

pub returns : goal.returns
returns c = λ k m region xs h. let l = c in looking_end l.loop-i.i h (l.loop-i.invariant k m region xs h) c.loop-i-test.false

pub loop-i-init : goal.loop-i-init
loop-i-init c = λ k m region xs a. looking_start m region xs
