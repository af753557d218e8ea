-- `values::is_digit`: std's test is the definition's.
use Rattle.definition.specs.Text.{is_digit}
use Rattle.reading.proofs.values.is_digit.Goals as goal

pub returns : goal.returns
unfolding is_digit
returns c = c.is_ascii_digit.ensures.value
