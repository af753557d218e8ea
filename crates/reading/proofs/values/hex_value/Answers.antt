-- `values::hex_value`: a digit, a letter, another byte.
use Rattle.laws.specs.Kit.{◌∙◌, sym}
use Rattle.reading.proofs.Digits.{digit_within}
use Rattle.reading.proofs.Hexes.{of_digit, of_low, of_high, of_letter}
use Rattle.reading.proofs.values.hex_value.Goals as goal

pub overflow_sub-result : goal.overflow_sub-result
overflow_sub-result c = (digit_within c.args.c (sym c.is_digit.ensures ∙ c.if-is_digit.true)).0

pub returns-then-is_digit : goal.returns-then-is_digit
returns-then-is_digit c = of_digit c.args.c (sym c.is_digit.ensures ∙ c.if-is_digit.true)

pub returns-then-c-lt97 : goal.returns-then-c-lt97
returns-then-c-lt97 c = of_low c.args.c (sym c.is_digit.ensures ∙ c.if-is_digit.false) c.if-c-lt97.true

pub returns-then-c-gt102 : goal.returns-then-c-gt102
returns-then-c-gt102 c = of_high c.args.c (sym c.is_digit.ensures ∙ c.if-is_digit.false) c.if-c-lt97.false c.if-c-gt102.true

pub returns : goal.returns
returns c = of_letter c.args.c (sym c.is_digit.ensures ∙ c.if-is_digit.false) c.if-c-lt97.false c.if-c-gt102.false
