-- `values::digit`: one byte that is a digit.
use Rattle.laws.specs.Kit.{◌∙◌, sym}
use Rattle.laws.specs.Lists.{nothing}
use Rattle.reading.proofs.Chains.{refused}
use Rattle.reading.proofs.Digits.{digit_within, one_end, one_here, one_other}
use Rattle.reading.proofs.values.digit.Goals as goal

pub returns-in_err-c : goal.returns-in_err-c
returns-in_err-c c = refused _ _ c.from_residual.ensures (one_end c.args.s.now (nothing _ c.in_err-c.ensures.cases))

pub overflow_sub-result : goal.overflow_sub-result
overflow_sub-result c = (digit_within c.in_ok-c.c.now (sym c.is_digit.ensures ∙ c.if-is_digit.true)).0

pub returns-then-is_digit : goal.returns-then-is_digit
returns-then-is_digit c =
    let f = c.in_ok-c in
    one_here c.args.s.now f.c.now f.rest.now f.ensures.cases.0 (sym c.is_digit.ensures ∙ c.if-is_digit.true)

pub returns-else-is_digit : goal.returns-else-is_digit
returns-else-is_digit c =
    let f = c.in_ok-c in
    one_other c.args.s.now f.c.now f.rest.now f.ensures.cases.0 (sym c.is_digit.ensures ∙ c.if-is_digit.false)
