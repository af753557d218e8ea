-- `values::well_formed`: the first byte, and the one after a zero.
use Rattle.std.specs.Prelude.{not}
use Rattle.laws.specs.Kit.{◌∙◌, ap}
use Rattle.laws.specs.Lists.{nothing}
use Rattle.reading.proofs.Digits.{formed_end, formed_nonzero, formed_zero, formed_more}
use Rattle.reading.proofs.values.well_formed.Goals as goal

pub returns-in_default : goal.returns-in_default
returns-in_default c = formed_end c.args.s.now (nothing _ c.in_default.ensures.cases)

pub returns-then-first-ne48 : goal.returns-then-first-ne48
returns-then-first-ne48 c =
    let f = c.in-Some in
    rw f.ensures.cases.0 (c.is_digit.ensures ∙ formed_nonzero f.first.now f.rest.now c.if-first-ne48.true)

pub returns-in_default-split_first : goal.returns-in_default-split_first
returns-in_default-split_first c =
    let f = c.in-Some in
    rw f.ensures.cases.0 (formed_zero f.first.now f.rest.now c.if-first-ne48.false (nothing _ c.in_default-split_first.ensures.cases))

pub returns : goal.returns
returns c =
    let f = c.in-Some in
    let g = c.in-Some-split_first in
    rw f.ensures.cases.0 (ap not c.is_digit-2.ensures ∙ formed_more f.first.now f.rest.now g.next.now _ c.if-first-ne48.false g.ensures.cases.0)
