-- By the attempt's end.
use mathlib.Core.Path.{sym, ap}
use borrow.Author.Rules.{rules}
use Rattle.mesher.specs.Showing.{shown_by}
use Rattle.previews.proofs.shown_by.Goals as goal

pub returns-in-Placed : goal.returns-in-Placed
returns-in-Placed c = let a = c.args in sym (ap (λ z. shown_by z a.t a.u a.v) c.in-Placed.is)

pub returns-in-Refused : goal.returns-in-Refused
returns-in-Refused c = let a = c.args in sym (ap (λ z. shown_by z a.t a.u a.v) c.in-Refused.is)
