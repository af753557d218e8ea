use mathlib.Core.Path.{◌≡◌, ◌∙◌}
use Prim.Native.Nat.{suc, ◌-◌, ◌<◌}
use native.Mathlib.Omega.{arith}
use Rattle.trials.specs.Ranked.{length_part, part_at}
use Rattle.trials.proofs.Falling.{all_numbers, trial_numbers}
use Rattle.trials.proofs.Reaching.{above_all, above_more, above_none}
use Rattle.trials.proofs.Rounds.{best_of}
use Rattle.trials.proofs.ranked.best.Goals as goal

pub loop-i-init : goal.loop-i-init
loop-i-init c = above_none _ _ _ _ _ (length_part _ _ _ c.requires.by_index.1.near) _ _

pub loop-i-preserved : goal.loop-i-preserved
loop-i-preserved c =
    let h : c.loop-i.i - 1 < c.args.nears = omega (arith, c.loop-i.invariant.within, c.loop-i-test.true) in
    let e : c.loop-i.i ≡ suc (c.loop-i.i - 1) = omega (arith, c.loop-i-test.true) in
    above_more _ _ _ _ _ (length_part _ _ _ c.requires.by_index.1.near) _ _ _ _ _ _ _ _ e c.loop-i.invariant (rw (part_at _ _ _ _ h) c.with_reaching-k.ensures)

pub returns : goal.returns
returns c =
    λ m n e k.
    let g = above_all _ _ _ _ _ _ _ _ _ (λ i. all_numbers _ _ (trial_numbers _ _ _ _ i)) c.floor_of-floor.ensures.fair c.loop-i.invariant c.loop-i-test.false in
    record { few = g.few; list = g.list ∙ best_of _ m n _ _ _ _ _ _ _ _ e k }
