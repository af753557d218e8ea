-- The loop's invariant: the trials of c and the nodes from j on are inserted, the last one first.
use mathlib.Core.Path.{◌≡◌, refl}
use mathlib.Core.List.{[]}
use Prim.Native.Nat.{suc, ◌-◌, ◌<◌}
use native.Mathlib.Omega.{arith}
use Rattle.trials.specs.Kept.{onto}
use Rattle.trials.specs.Ranked.{length_part, part_at}
use Rattle.trials.proofs.Falling.{all_numbers, falling_kept, trial_numbers}
use Rattle.trials.proofs.Rating.{kept_same}
use Rattle.trials.proofs.Rounds.{gone_none, gone_more, gone_all}
use Rattle.trials.proofs.ranked.with_node.Goals as goal

pub loop-j-init : goal.loop-j-init
unfolding onto
loop-j-init c = gone_none _ _ _ _ _ (length_part _ _ _ c.requires.far.0.stands) _ _ _ (kept_same _ _ _ _ [] c.requires.count_le_pairs.0 refl)

pub with_pair-k-requires : goal.with_pair-k-requires
with_pair-k-requires c =
    let h : c.loop-j.j - 1 < c.args.far.count = omega (arith, c.loop-j.invariant.within, c.loop-j-test.true) in
    let p = c.requires.far in
    let so_far = c.loop-j.invariant.so_far in
    let falls = falling_kept _ _ _ _ _ _ (all_numbers _ _ (trial_numbers _ _ _ _ _)) c.requires.count_le_pairs.2 so_far in
    record { count_le_pairs = (so_far.few, c.requires.count_le_pairs.1, falls); half_at = (p.1, p.0.within _ h) }

pub loop-j-preserved : goal.loop-j-preserved
loop-j-preserved c =
    let h : c.loop-j.j - 1 < c.args.far.count = omega (arith, c.loop-j.invariant.within, c.loop-j-test.true) in
    let e : c.loop-j.j ≡ suc (c.loop-j.j - 1) = omega (arith, c.loop-j-test.true) in
    gone_more _ _ _ _ _ (length_part _ _ _ c.requires.far.0.stands) _ _ _ _ _ _ _ _ e c.loop-j.invariant (rw (part_at _ _ _ _ h) c.with_pair-k.ensures)

pub returns : goal.returns
returns c = gone_all _ _ _ _ _ _ _ _ _ c.loop-j.invariant c.loop-j-test.false
