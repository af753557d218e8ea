-- `values::digits`. Invariant: v is the number of the digits before the index, and at most `most`.
use Rattle.std.specs.Prelude.{◌≡◌, ◌+◌}
use Rattle.laws.specs.Kit.{sym, ◌∙◌, ap, arith, length, drop}
use Rattle.definition.specs.Text.{run}
use Rattle.reading.specs.Found.{limited}
use Rattle.reading.proofs.Bytes.{to_end}
use Rattle.reading.proofs.Digits.{digit_within, decimal_start, decimal_over, turn_more, turn_other, turn_end}
use Rattle.reading.proofs.values.digits.Goals as goal

pub loop-i-init : goal.loop-i-init
loop-i-init c = (omega arith, ap (limited c.args.most) (decimal_start (run c.args.s.now)))

pub returns-then-not-is_digit : goal.returns-then-not-is_digit
returns-then-not-is_digit c =
    let s = c.args.s.now in
    let l = c.loop-i in
    rw (to_end s l.i) (turn_other c.args.most s l.v l.i c.loop-i-test.true (sym c.is_digit.ensures ∙ c.if-not-is_digit.true) l.invariant.0 ∙ sym l.invariant.1)

pub overflow_sub-v : goal.overflow_sub-v
overflow_sub-v c = (digit_within _ (sym c.is_digit.ensures ∙ c.if-not-is_digit.false)).0

pub returns-then-v-most : goal.returns-then-v-most
returns-then-v-most c =
    let s = c.args.s.now in
    let l = c.loop-i in
    let m = c.args.most in
    decimal_over m _ (run (drop (l.i + 1) s)) c.if-v-most.true
    ∙ sym (l.invariant.1 ∙ ap (limited m) (turn_more s l.v l.i c.loop-i-test.true (sym c.is_digit.ensures ∙ c.if-not-is_digit.false)))

pub loop-i-preserved : goal.loop-i-preserved
loop-i-preserved c =
    let s = c.args.s.now in
    let l = c.loop-i in
    (omega arith, l.invariant.1 ∙ ap (limited c.args.most) (turn_more s l.v l.i c.loop-i-test.true (sym c.is_digit.ensures ∙ c.if-not-is_digit.false)))

pub returns : goal.returns
returns c =
    let s = c.args.s.now in
    let l = c.loop-i in
    let e : length s ≡ l.i = omega arith in
    rw (to_end s (length s), e) (turn_end c.args.most s l.v l.i (omega arith) l.invariant.0 ∙ sym l.invariant.1)
