-- Trials: a refused attempt tried exactly the smaller of its acceptable pairs and the permitted number,
-- a successful one exactly up to the pair it accepted.
-- Over a run the trials are at most the permitted number for each attempt.
use Rattle.std.specs.Prelude.{◌≡◌, ◌⊎◌, ◌&&◌, ◌+◌, ◌*◌, ◌<◌, ◌≤◌, ◌∷◌, ◌++◌}
use Rattle.laws.specs.Kit.{refl, sym, ◌∙◌, ap, subst, inl, inr, Bool, true, false, cond, Option, none, some, ℕ, suc, min, arith, ltb, List, [], length, take}
use Rattle.std.proofs.Common.{length-take}
use Rattle.definition.specs.Lists.{sort}
use Rattle.definition.specs.Numbers.{Settings}
use Rattle.definition.specs.Counts.{Counts, tally, ◌⊞◌, no_counts, emptied, one_attempt, Spent, nothing_spent, inserting, trying, spending, at_limit, Refusal, Placement, Shape, Recovery, Region, OddRegion, refused_by}
use Rattle.definition.specs.Plane.{Node, Edge}
use Rattle.definition.specs.Cells.{Tri, Quad, Live, Mesh, quad_nodes, born, tri_owner, is_front}
use Rattle.definition.specs.Components.{removing_leaves_odd_component}
use Rattle.definition.specs.Region.{region}
use Rattle.definition.specs.Trials.{Trial, trial_before}
use Rattle.definition.specs.Trace.{in_room}
use Rattle.definition.specs.Attempt.{Tried, made, failed, orphaned, lacking, recover_all, replace, try_region, try_recovered, open_sides, try_pair, Attempt, placed, refused, ended, try_pairs, try_trials, try_quad}
use Rattle.definition.specs.Front.{State, Progress, stuck, progressed, limited, stopped, counting, after, make_attempt, past_limit, attempt, front_loop, Result, ran, start, result, outcome, run_front}
use Rattle.laws.specs.Bools.{cond_ok}
use Rattle.account.specs.Valid.{Valid}
use Rattle.account.specs.Pairs.{pairs_of, turns, PairsRule}
use Rattle.account.specs.Walks.{Goes, Ends}

-- ---- what is counted
-- n trials before, then the pairs ts in turn: all of them, or those up to the one that gave the quad
abbrev pub Exactly : ℕ → List Trial → Attempt → Type 0
Exactly n ts (placed k m q) = (pre : List Trial) × (t : Trial) × (post : List Trial) × (ts ≡ pre ++ (t ∷ post)) × (k.trials ≡ n + suc (length pre)) × (quad_nodes q ≡ quad_nodes t.nodes)
Exactly n ts (refused why k m) = k.trials ≡ n + length ts
Exactly n ts (ended w k m) = k.trials ≤ n + length ts

-- of the acceptable pairs, cut to the permitted number
abbrev pub TrialsExact : Settings → List Trial → Attempt → Type 0
TrialsExact s good (placed k m q) =
    (pre : List Trial) × (t : Trial) × (post : List Trial) × (turns s good ≡ pre ++ (t ∷ post)) × (k.trials ≡ suc (length pre)) × (quad_nodes q ≡ quad_nodes t.nodes)
TrialsExact s good (refused why k m) = k.trials ≡ min (length good) s.quality.pairs
TrialsExact s good (ended w k m) = k.trials ≤ min (length good) s.quality.pairs

-- ---- every attempt whatever, and every run
-- at most the permitted number
abbrev pub FewTrials : Settings → Attempt → Type 0
FewTrials s (placed k m q) = k.trials ≤ s.quality.pairs
FewTrials s (refused why k m) = k.trials ≤ s.quality.pairs
FewTrials s (ended w k m) = k.trials ≤ s.quality.pairs
