use Rattle.laws.specs.Kit.{refl}
use Rattle.definition.specs.Counts.{tally}
use Rattle.settling.proofs.Tallies.{tried_counts}
use Rattle.settling.proofs.standing.Standing.tried.Goals as goal

pub returns : goal.returns
unfolding tally
returns c =
    let a = c.args in
    let few = c.requires.few_counts in
    record { counters = refl; counts = λ e f. tried_counts a.self.tally a.self.counters.attempts a.c.attempts a.n a.k f e; few = record { front = few.front; placement = few.placement; invalid = few.invalid; recovery = few.recovery; region = few.region; odd = few.odd; insertions = c.requires.n_bound; limit = few.limit; trials = c.requires.k_bound }; quads = refl; records = refl; words = refl }
