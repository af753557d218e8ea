-- By what is shown.
use mathlib.Core.Path.{refl}
use borrow.Author.Rules.{rules}
use Rattle.answer_numbers.proofs.Shown.{none_written}
use Rattle.answer_numbers.proofs.previews.put_shown.Goals as goal

pub returns-in-OffFront : goal.returns-in-OffFront
returns-in-OffFront c = rw (c.in-Ok.is, c.in-OffFront.is) (refl, c.write_shown.ensures)

pub returns-in-Quad : goal.returns-in-Quad
returns-in-Quad c = rw (c.in-Ok.is, c.in-Quad.is) (refl, c.write_shown-in-Quad.ensures)

pub returns-in-Refused : goal.returns-in-Refused
returns-in-Refused c = rw (c.in-Ok.is, c.in-Refused.is) (refl, rw c.kind_number.ensures at c.write_shown-in-Refused.ensures)

pub returns-in-Err : goal.returns-in-Err
returns-in-Err c = rw c.in-Err.is (c.into.ensures, none_written c.args.answer.now)
