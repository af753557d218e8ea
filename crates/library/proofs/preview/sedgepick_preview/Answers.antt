use borrow.Author.Rules.{rules}
use Rattle.library.proofs.preview.sedgepick_preview.Goals as goal

pub returns : goal.returns
returns c = c.previewed.ensures
