-- `counts_of`: the counts one by one.
use borrow.Author.Rules.{rules}
use Rattle.definition.specs.Text.{listed}
use Rattle.writing.specs.Answer.{columns}
use Rattle.replies.proofs.counts_of.Goals as goal

pub returns : goal.returns
unfolding listed columns
returns c = search rules
