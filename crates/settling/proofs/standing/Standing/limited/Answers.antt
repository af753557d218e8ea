use Rattle.laws.specs.Kit.{refl}
use Rattle.definition.specs.Counts.{tally}
use Rattle.settling.proofs.Tallies.{limited_counts}
use Rattle.settling.proofs.standing.Standing.limited.Goals as goal

pub returns : goal.returns
unfolding tally
returns c =
    let a = c.args in
    record { counters = refl; counts = limited_counts a.self.tally a.self.counters.attempts; quads = refl; records = refl; words = refl }
