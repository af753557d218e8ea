use Rattle.flips.proofs.Flips.{runs_first, runs_second, runs_last}
use borrow.Author.Rules.{rules}
use Rattle.flips.proofs.flip.runs.Goals as goal

pub returns-then-is_step : goal.returns-then-is_step
returns-then-is_step c =
    let a = c.args in
    runs_first a.u a.v _ _ _ c.node-a.result c.node-b.result c.node-c.result c.node-a.ensures c.node-b.ensures c.node-c.ensures
    c.is_step.result c.is_step.ensures c.if-is_step.true

pub returns-then-is_step-2 : goal.returns-then-is_step-2
returns-then-is_step-2 c =
    let a = c.args in
    runs_second a.u a.v _ _ _ c.node-a.result c.node-b.result c.node-c.result c.node-a.ensures c.node-b.ensures c.node-c.ensures
    c.is_step.result c.is_step.ensures c.is_step-2.result c.is_step-2.ensures c.if-is_step.false c.if-is_step-2.true

pub returns : goal.returns
returns c =
    let a = c.args in
    runs_last a.u a.v _ _ _ c.node-a.result c.node-b.result c.node-c.result c.node-a.ensures c.node-b.ensures c.node-c.ensures
    c.is_step.result c.is_step.ensures c.is_step-2.result c.is_step-2.ensures c.if-is_step.false c.if-is_step-2.false c.is_step-3.result c.is_step-3.ensures
