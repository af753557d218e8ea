-- A node that is no point has no ring, and its edge is walked around u.
use mathlib.Core.Bool.{false≢true}
use Rattle.cells.proofs.find.is_shorter.Goals as goal

pub returns-then-v-lay : goal.returns-then-v-lay
returns-then-v-lay c = λ e. absurd (false≢true e)
