-- The answer's number.
use mathlib.Core.Path.{ap, ◌∙◌}
use borrow.Author.Rules.{rules}
use Rattle.library.specs.Filed.{number}
use Rattle.library.proofs.orders.sedgepick_filing_order.Goals as goal

pub returns : goal.returns
returns c =
    let e = c.filing_order-answer.ensures in
    record { answer = c.number.ensures ∙ ap (λ x. number x.answer) e; first_work = ap (λ x. x.first_work) e; second_work = ap (λ x. x.second_work) e }
