-- `root::exact::by_digits` meets its contract.
-- The invariant of its loop and the steps are those of `proofs/Steps.antt`.
-- Assumes nothing.
use Rattle.std.proofs.Common.{subst₂}
use Rattle.std.specs.Prelude.{◌+◌, ◌*◌, ◌%◌, ◌^◌, ◌<◌}
use Rattle.laws.specs.Kit.{sym, ℕ, arith}
use Rattle.root.proofs.Steps.{After, start, small, zero_digit, one_digit, done}
use Rattle.root.proofs.exact.by_digits.Goals as goal
use Rattle.root.proofs.exact.by_digits.Goals.{then-next-trial, else-next-trial}

pub loop-i-init : goal.loop-i-init
loop-i-init c = start c.args.r c.requires

pub overflow_mul-next : goal.overflow_mul-next
overflow_mul-next c =
    let l = c.loop-i in
    omega (arith, small c.args.r l.w l.rest l.root l._i l.invariant (omega arith))

pub overflow_add-next : goal.overflow_add-next
overflow_add-next c =
    let l = c.loop-i in
    omega (arith, small c.args.r l.w l.rest l.root l._i l.invariant (omega arith))

pub overflow_mul-trial : goal.overflow_mul-trial
overflow_mul-trial c =
    let l = c.loop-i in
    omega (arith, small c.args.r l.w l.rest l.root l._i l.invariant (omega arith))

pub overflow_add-trial : goal.overflow_add-trial
overflow_add-trial c =
    let l = c.loop-i in
    omega (arith, small c.args.r l.w l.rest l.root l._i l.invariant (omega arith))

pub loop-i-preserved : goal.loop-i-preserved
loop-i-preserved c =
    let l = c.loop-i in
    let r = c.args.r in
    let t : l._i < 54 = omega arith in
    elim c.if-next-trial.branch [
      | then-next-trial w ↦ subst₂ (λ (x y : ℕ). After r (l.w * 2 ^ 2 % 2 ^ 64) x y (l._i + 1)) (sym w.rest-is) (sym w.root-is) (zero_digit r l.w l.rest l.root l._i l.invariant t w.if-next-trial.true)
      | else-next-trial w ↦ subst₂ (λ (x y : ℕ). After r (l.w * 2 ^ 2 % 2 ^ 64) x y (l._i + 1)) (sym w.rest-is) (sym w.root-is) (one_digit r l.w l.rest l.root l._i l.invariant t w.if-next-trial.false)
    ]

pub returns : goal.returns
returns c =
    let l = c.loop-i in
    done c.args.r l.w l.rest l.root l._i l.invariant (omega arith)
