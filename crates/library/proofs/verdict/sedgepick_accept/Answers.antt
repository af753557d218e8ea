use borrow.Author.Rules.{rules}
use Rattle.library.proofs.verdict.sedgepick_accept.Goals as goal

pub returns : goal.returns
returns c = c.judged.ensures
