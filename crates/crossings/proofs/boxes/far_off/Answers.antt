use Rattle.crossings.proofs.Noted.{beyond_left, beyond_right, beyond_low, beyond_high}
use Rattle.laws.specs.Kit.{rules}
use Rattle.crossings.proofs.boxes.far_off.Goals as goal

pub returns-then-right-l : goal.returns-then-right-l
returns-then-right-l c = λ e.
    let a = c.args in
    beyond_left a.w.now a.q.now a.lay.slots a.lay.points a.a a.l c.side_at-right.result c.side_at-right.ensures c.if-right-l.true

pub returns-then-left-l : goal.returns-then-left-l
returns-then-left-l c = λ e.
    let a = c.args in
    beyond_right a.w.now a.q.now a.lay.slots a.lay.points a.a a.l c.side_at-left.result c.side_at-left.ensures c.if-left-l.true

pub returns-then-high-l : goal.returns-then-high-l
returns-then-high-l c = λ e.
    let a = c.args in
    beyond_low a.w.now a.q.now a.lay.slots a.lay.points a.a a.l c.side_at-high.result c.side_at-high.ensures c.if-high-l.true

pub returns : goal.returns
returns c = λ e.
    let a = c.args in
    beyond_high a.w.now a.q.now a.lay.slots a.lay.points a.a a.l c.side_at-low.result c.side_at-low.ensures e
