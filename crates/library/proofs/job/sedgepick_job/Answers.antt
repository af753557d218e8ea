use borrow.Author.Rules.{rules}
use Rattle.library.proofs.job.sedgepick_job.Goals as goal

pub returns : goal.returns
returns c = c.meshed.ensures
