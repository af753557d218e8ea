-- `digits::hexes` calls itself for the digits before the last; the measure is their number.
use Rattle.writing.proofs.digits.+hexes.Given as goal

abbrev pub decreases-hexes : goal.decreases-hexes
decreases-hexes l = l.k
