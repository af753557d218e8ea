-- `root::cut_down` meets its contract, by `proofs/Cut.antt`. Assumes nothing.
use Rattle.laws.specs.Kit.{arith, rules, lit<}
use Rattle.root.proofs.Cut.{code_low_down, code_down}
use Rattle.root.proofs.cut_down.Goals as goal

pub returns-then-a-lt-ONE : goal.returns-then-a-lt-ONE
returns-then-a-lt-ONE c = (lit< tt, code_low_down c.args.a c.if-a-lt-ONE.true)

pub returns : goal.returns
returns c =
    let a = c.args.a in
    let ex = c.exponent-e in
    let sig = c.significand in
    (omega arith, code_down a sig.result ex.result c.if-a-lt-ONE.false c.requires sig.ensures ex.ensures c.cleared.result c.cleared.ensures.0)
