-- The loop's invariant: the first p come before t.
use mathlib.Core.Path.{◌≡◌, sym, ◌∙◌, subst}
use native.Mathlib.Omega.{arith}
use Rattle.trials.specs.Kept.{Place, listed, trial_of}
use Rattle.trials.proofs.Steps.{met_none, met_more, met_place, met_end}
use Rattle.trials.proofs.kept.place.Goals as goal

pub returns-then-not-before : goal.returns-then-not-before
returns-then-not-before c =
    met_place _ _ _ _ _ c.loop-p.invariant c.loop-p-test.true _ c.get.ensures (sym c.before-in-loop-p.ensures ∙ c.if-not-before.true)

pub loop-p-preserved : goal.loop-p-preserved
loop-p-preserved c =
    met_more _ _ _ _ _ c.loop-p.invariant c.loop-p-test.true _ c.get.ensures (sym c.before-in-loop-p.ensures ∙ c.if-not-before.false)

pub returns : goal.returns
returns c =
    let a = c.args in
    let e : c.loop-p.p ≡ a.count = omega arith in
    subst (Place (trial_of a.t) (listed a.scores.now a.nodes.now a.count) a.count) e (met_end _ _ _ _ _ c.loop-p.invariant c.loop-p-test.false)

pub loop-p-init : goal.loop-p-init
loop-p-init c = met_none _ _ _ _
