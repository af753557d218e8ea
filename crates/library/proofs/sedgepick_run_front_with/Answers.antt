use borrow.Author.Rules.{rules}
use Rattle.library.proofs.sedgepick_run_front_with.Goals as goal

pub returns : goal.returns
returns c = c.answered.ensures
