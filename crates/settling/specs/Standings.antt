-- A run's standing: what it counted, in the definition's counts.
use Rattle.std.specs.Prelude.{◌≡◌, ◌+◌, ◌^◌, ◌<◌}
use Rattle.laws.specs.Kit.{Bool, true, false, ℕ}
use Rattle.definition.specs.Counts.{Counts, ◌⊞◌, one_attempt, spending}
use Rattle.cells.specs.Counting.{Attempted}
use Rattle.outcomes.specs.Ends.{spent}
use Rattle.cells.specs.declared.counters.Counters.{Counters}
use Rattle.outcomes.specs.declared.Kind.{Kind}
use Rattle.outcomes.specs.declared.Kind.TheVariants as kinds
use Rattle.settling.specs.declared.standing.Tally.{Tally}
use Rattle.settling.specs.declared.standing.Standing.{Standing}
use Rattle.settling.specs.declared.standing.Going.{Going}
use Rattle.settling.specs.declared.standing.Going.TheVariants as goings

-- the definition's counts: the tally, and the attempts of the counters
abbrev pub counts_of : Standing → Counts
counts_of g =
    record {
      front_empty = g.tally.front_empty;
      attempts = g.counters.attempts;
      placement = g.tally.placement;
      invalid_quad = g.tally.invalid_quad;
      recovery = g.tally.recovery;
      region = g.tally.region;
      odd_region = g.tally.odd_region;
      mismatch_insertions = g.tally.mismatch_insertions;
      limit = g.tally.limit;
      trials = g.tally.trials;
    }

-- the step ended without a quad, and the run goes on
abbrev pub is_stuck : Going → Bool
is_stuck goings.Stuck = true
is_stuck goings.Progressed = false
is_stuck goings.Limited = false
is_stuck (goings.Short short) = false

-- every count is far from its type's end
pub record FewTally (t : Tally) : Type 0 where
  pub front : t.front_empty < 2 ^ 32
  pub placement : t.placement < 2 ^ 32
  pub invalid : t.invalid_quad < 2 ^ 32
  pub recovery : t.recovery < 2 ^ 32
  pub region : t.region < 2 ^ 32
  pub odd : t.odd_region < 2 ^ 32
  pub insertions : t.mismatch_insertions < 2 ^ 32
  pub limit : t.limit < 2 ^ 32
  pub trials : t.trials < 2 ^ 32

-- every count of a standing is far from its type's end
abbrev pub FewCounts : Standing → Type 0
FewCounts g = FewTally g.tally

-- one more refusal of the kind
abbrev pub tally_refused : Kind → Tally → Tally
tally_refused kinds.Placement t = record { front_empty = t.front_empty; placement = t.placement + 1; invalid_quad = t.invalid_quad; recovery = t.recovery; region = t.region; odd_region = t.odd_region; mismatch_insertions = t.mismatch_insertions; limit = t.limit; trials = t.trials }
tally_refused kinds.InvalidQuad t = record { front_empty = t.front_empty; placement = t.placement; invalid_quad = t.invalid_quad + 1; recovery = t.recovery; region = t.region; odd_region = t.odd_region; mismatch_insertions = t.mismatch_insertions; limit = t.limit; trials = t.trials }
tally_refused kinds.Recovery t = record { front_empty = t.front_empty; placement = t.placement; invalid_quad = t.invalid_quad; recovery = t.recovery + 1; region = t.region; odd_region = t.odd_region; mismatch_insertions = t.mismatch_insertions; limit = t.limit; trials = t.trials }
tally_refused kinds.Region t = record { front_empty = t.front_empty; placement = t.placement; invalid_quad = t.invalid_quad; recovery = t.recovery; region = t.region + 1; odd_region = t.odd_region; mismatch_insertions = t.mismatch_insertions; limit = t.limit; trials = t.trials }
tally_refused kinds.OddRegion t = record { front_empty = t.front_empty; placement = t.placement; invalid_quad = t.invalid_quad; recovery = t.recovery; region = t.region; odd_region = t.odd_region + 1; mismatch_insertions = t.mismatch_insertions; limit = t.limit; trials = t.trials }

-- an attempt more is counted
pub record CountedOne (g r : Standing) : Type 0 where
  pub counters : Attempted g.counters r.counters
  pub counts : counts_of r ≡ counts_of g ⊞ one_attempt
  pub quads : r.quads ≡ g.quads
  pub records : r.records ≡ g.records
  pub words : r.words ≡ g.words

-- the counts c more are counted
pub record CountsMore (g : Standing) (c : Counts) (r : Standing) : Type 0 where
  pub counters : r.counters ≡ g.counters
  pub counts : counts_of r ≡ counts_of g ⊞ c
  pub quads : r.quads ≡ g.quads
  pub records : r.records ≡ g.records
  pub words : r.words ≡ g.words

-- n insertions and k trials more, the counters are c, and `at` words of the trace are used;
-- attempts stay where c has those of g
pub record TriedMore (g : Standing) (c : Counters) (at n k : ℕ) (r : Standing) : Type 0 where
  pub counters : r.counters ≡ c
  pub counts : c.attempts ≡ g.counters.attempts → (f : ℕ) → counts_of r ≡ counts_of g ⊞ spending (spent n k f)
  pub few : FewTally r.tally
  pub quads : r.quads ≡ g.quads
  pub records : r.records ≡ g.records
  pub words : r.words ≡ at

-- a quad more
pub record Quadded (g r : Standing) : Type 0 where
  pub counters : r.counters ≡ g.counters
  pub counts : counts_of r ≡ counts_of g
  pub quads : r.quads ≡ g.quads + 1
  pub records : r.records ≡ g.records
  pub words : r.words ≡ g.words

-- n edges have a record
pub record Recorded (g : Standing) (n : ℕ) (r : Standing) : Type 0 where
  pub counters : r.counters ≡ g.counters
  pub counts : counts_of r ≡ counts_of g
  pub quads : r.quads ≡ g.quads
  pub records : r.records ≡ n
  pub words : r.words ≡ g.words
