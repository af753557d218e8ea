-- No metrics, metrics that are outdone and metrics that do not pass change nothing;
-- others give a trial, which is inserted.
use mathlib.Core.Path.{refl, ap, sym, ◌∙◌}
use Rattle.definition.specs.Metrics.{passes, score}
use Rattle.plane.specs.Measures.{metrics_of_enum}
use Rattle.rules.specs.Settings.{quality_of}
use Rattle.trials.specs.Kept.{trial_of, quad_of}
use Rattle.trials.specs.Ranked.{metrics_at}
use Rattle.trials.proofs.Falling.{kept_outdone}
use Rattle.trials.proofs.Rating.{rated_absent, rated_fails, rated_passes, kept_same, kept_one}
use Rattle.trials.proofs.ranked.rate.Goals as goal

pub returns-in_default : goal.returns-in_default
unfolding metrics_at metrics_of_enum
returns-in_default c =
    let p = c.requires.half_at.0 in
    kept_same _ _ _ _ _ c.requires.count_le_pairs.0 (rated_absent _ _ _ (sym (c.quad_metrics_by-m.ensures p.edge p.side) ∙ ap metrics_of_enum c.in_default.is))

pub returns-then-outdone : goal.returns-then-outdone
unfolding metrics_at metrics_of_enum
returns-then-outdone c =
    let p = c.requires.half_at.0 in
    kept_outdone _ _ _ _ _ c.requires.count_le_pairs.2 (c.outdone.ensures.0 c.if-outdone.true) _ _ _ _
    (sym (c.quad_metrics_by-m.ensures p.edge p.side) ∙ ap metrics_of_enum c.in-Some.is)

pub returns-then-not-passes : goal.returns-then-not-passes
unfolding metrics_at
returns-then-not-passes c =
    let y = quality_of c.args.y in
    let e = ap metrics_of_enum (sym c.in-Some.is) ∙ c.quad_metrics_by-m.ensures c.requires.half_at.0.edge c.requires.half_at.0.side in
    kept_same _ _ _ _ _ c.requires.count_le_pairs.0 (rated_fails _ _ _ (ap (passes y) (sym e) ∙ sym (c.passes.ensures y refl refl) ∙ c.if-not-passes.true))

pub returns : goal.returns
unfolding metrics_at trial_of quad_of
returns c =
    let y = quality_of c.args.y in
    let e = ap metrics_of_enum (sym c.in-Some.is) ∙ c.quad_metrics_by-m.ensures c.requires.half_at.0.edge c.requires.half_at.0.side in
    let good = ap (passes y) (sym e) ∙ sym (c.passes.ensures y refl refl) ∙ c.if-not-passes.false in
    kept_one _ _ _ _ _ _ _ c.insert.ensures (rated_passes _ _ _ _ good (c.score.ensures ∙ ap score e))
