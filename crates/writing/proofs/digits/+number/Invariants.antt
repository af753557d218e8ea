-- `digits::number` calls itself for a tenth of the number; the measure is the number.
use Rattle.writing.proofs.digits.+number.Given as goal

abbrev pub decreases-number : goal.decreases-number
decreases-number l = l.n
