use Rattle.laws.specs.Kit.{refl}
use Rattle.definition.specs.Counts.{tally}
use Rattle.settling.proofs.Tallies.{emptied_counts}
use Rattle.settling.proofs.standing.Standing.emptied.Goals as goal

pub returns : goal.returns
unfolding tally
returns c =
    let a = c.args in
    record { counters = refl; counts = emptied_counts a.self.tally a.self.counters.attempts; quads = refl; records = refl; words = refl }
