-- The smaller node first.
use Rattle.laws.specs.Kit.{sym, ◌∙◌, ap, arith}
use Rattle.laws.specs.Cells.{key_up, key_back}
use Rattle.joints.proofs.locked_between.Goals as goal

pub returns-then-a-b : goal.returns-then-a-b
returns-then-a-b c = λ k h.
    let a = c.args in
    c.locked.ensures k h ∙ ap k (sym (key_up a.a a.b (omega arith)))

pub returns : goal.returns
returns c = λ k h.
    let a = c.args in
    c.locked-2.ensures k h ∙ ap k (sym (key_back a.a a.b (omega arith)))
