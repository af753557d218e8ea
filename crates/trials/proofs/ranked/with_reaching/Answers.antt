-- No trial of a node whose corner is below the floor reaches it,
-- and none below the last score kept stays; those of another are inserted.
use mathlib.Core.Path.{ap, sym, ◌∙◌}
use Prim.Native.Nat.{◌-◌, ◌<◌}
use native.Mathlib.Omega.{arith}
use lib.ListN.{get_or}
use lib.Ieee.{Float, nan}
use Rattle.definition.specs.Floats.{◌≺◌}
use Rattle.trials.specs.Floors.{AllNeutral, bar}
use Rattle.trials.specs.Ranked.{length_part, part_at}
use Rattle.trials.proofs.Corners.{node_below}
use Rattle.trials.proofs.Falling.{all_numbers, trial_numbers}
use Rattle.trials.proofs.Reaching.{all_outdone, kept_above, kept_below, none_reach}
use Rattle.trials.proofs.ranked.with_reaching.Goals as goal

pub returns-then-x-floor : goal.returns-then-x-floor
unfolding ◌≺◌
returns-then-x-floor c =
    let p = c.requires.far in
    let neutral : AllNeutral c.args.w.now c.args.q.now c.args.far.at c.args.far.count c.args.a c.args.b = rw c.in-Some.is at c.requires.neutral_below in
    let h = ap (λ (t : Float). t ≺ bar c.args.floor) (sym c.corner_at-x.ensures) ∙ ap (λ (t : Float). c.corner_at-x.result ≺ t) (ap bar c.in-Some.is) ∙ c.if-x-floor.true in
    kept_below _ _ _ _ _ c.requires.count_le_pairs.2 _ c.requires.count_le_pairs.0
    (none_reach _ _
    (node_below _ _ _ _ _ _ _
    (λ j u.
    let l : j < c.args.far.count = omega (arith, length_part c.args.w.now c.args.far.at c.args.far.count p.0.stands, u) in
    rw (part_at c.args.w.now c.args.far.at c.args.far.count j l) (neutral j l))
    h))

pub returns-then-outdone : goal.returns-then-outdone
unfolding ◌≺◌
returns-then-outdone c =
    let p = c.requires.far in
    let neutral : AllNeutral c.args.w.now c.args.q.now c.args.far.at c.args.far.count c.args.a c.args.b = rw c.in-Some.is at c.requires.neutral_below in
    let o = c.outdone.ensures.0 c.if-outdone.true in
    let h = ap (λ (t : Float). t ≺ get_or c.args.scores.now (c.args.count - 1) nan) (sym c.corner_at-x.ensures) ∙ o.below_last in
    kept_above _ _ _ _ _ c.requires.count_le_pairs.2 _ _ _ _ (all_numbers _ _ (trial_numbers _ _ _ _ _))
    (all_outdone _ _ _ _ _ c.requires.count_le_pairs.2 o _
    (node_below _ _ _ _ _ _ _
    (λ j u.
    let l : j < c.args.far.count = omega (arith, length_part c.args.w.now c.args.far.at c.args.far.count p.0.stands, u) in
    rw (part_at c.args.w.now c.args.far.at c.args.far.count j l) (neutral j l))
    h))

pub returns : goal.returns
returns c =
    kept_above _ _ _ _ _ c.requires.count_le_pairs.2 _ _ _ _ (all_numbers _ _ (trial_numbers _ _ _ _ _)) c.with_node.ensures
