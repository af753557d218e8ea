-- The odd ones passed are counted.
use Rattle.std.specs.Prelude.{◌≡◌, ◌%◌, length, take}
use Rattle.std.proofs.Common.{ap, ◌∙◌, arith}
use Rattle.accept.specs.Accept.{odd_ones}
use Rattle.verdicts.proofs.Odds.{none_yet, one_more}
use Rattle.verdicts.proofs.leaves.count_odd.Goals as goal

pub loop-x-init : goal.loop-x-init
loop-x-init c = (none_yet c.args.sizes.now, omega arith)

pub loop-x-preserved : goal.loop-x-preserved
loop-x-preserved c = (omega (arith, ap (λ k. k % 2) c.wide.ensures, one_more c.args.sizes.now c.loop-x.x-index (omega arith), c.loop-x.invariant.0), omega (arith, c.loop-x.invariant.1))

pub returns : goal.returns
returns c =
    let e : c.loop-x.x-index ≡ length c.args.sizes.now = omega arith in
    record { is = c.loop-x.invariant.0 ∙ ap (λ k. odd_ones (take k c.args.sizes.now)) e; most = omega (arith, c.loop-x.invariant.1) }
