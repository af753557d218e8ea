use Rattle.laws.specs.Kit.{refl}
use Rattle.definition.specs.Counts.{tally}
use Rattle.settling.proofs.Tallies.{refused_counts}
use Rattle.settling.proofs.standing.Standing.refused.Goals as goal

pub returns : goal.returns
unfolding tally
returns c =
    let a = c.args in
    λ why f. record { counters = refl; counts = refused_counts a.self.tally c.refused-self.result a.self.counters.attempts a.kind why c.refused-self.ensures f; quads = refl; records = refl; words = refl }
