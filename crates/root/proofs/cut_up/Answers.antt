-- `root::cut_up` meets its contract, by `proofs/Cut.antt`. Assumes nothing.
use Rattle.std.specs.Prelude.{◌+◌, ◌^◌}
use Rattle.laws.specs.Kit.{sym, ◌∙◌, ap, ℕ, arith, rules, lit<, binary64, of_bits}
use Rattle.definition.specs.Root.{floor}
use Rattle.root.proofs.Cut.{code_zero, code_low_up, code_same, code_up}
use Rattle.root.proofs.cut_up.Goals as goal

pub returns-then-a-eq0 : goal.returns-then-a-eq0
returns-then-a-eq0 c = (lit< tt, code_zero ∙ ap (λ (x : ℕ). floor (of_bits binary64 (2 ^ 63 + x))) (sym c.if-a-eq0.true))

pub returns-then-a-lt-ONE : goal.returns-then-a-lt-ONE
returns-then-a-lt-ONE c = (lit< tt, code_low_up c.args.a (omega (arith, c.if-a-eq0.false)) c.if-a-lt-ONE.true)

pub returns-then-c-m : goal.returns-then-c-m
returns-then-c-m c =
    let a = c.args.a in
    let ex = c.exponent-e in
    let sig = c.significand-m in
    (omega arith, code_same a sig.result ex.result c.if-a-lt-ONE.false c.requires sig.ensures ex.ensures c.cleared-c.result c.cleared-c.ensures.0 c.if-c-m.true)

pub returns : goal.returns
returns c =
    let a = c.args.a in
    let ex = c.exponent-e in
    let sig = c.significand-m in
    let cl = c.cleared-c in
    (omega arith, code_up a sig.result ex.result c.if-a-lt-ONE.false c.requires sig.ensures ex.ensures cl.result c.power.result cl.ensures.0 c.if-c-m.false c.power.ensures.0)
