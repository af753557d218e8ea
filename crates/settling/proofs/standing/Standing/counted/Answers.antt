use Rattle.laws.specs.Kit.{refl}
use Rattle.definition.specs.Counts.{tally}
use Rattle.settling.proofs.Tallies.{attempted_counts}
use Rattle.settling.proofs.standing.Standing.counted.Goals as goal

pub returns : goal.returns
unfolding tally
returns c =
    let a = c.args in
    let r = c.attempted-self.ensures in
    record { counters = r; counts = attempted_counts a.self.tally a.self.counters.attempts c.attempted-self.result.attempts r.attempts; quads = refl; records = refl; words = refl }
