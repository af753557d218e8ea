-- `digits::number`: the digits of a tenth of the number, then the last digit.
use Rattle.std.specs.Prelude.{◌+◌, ◌%◌}
use Rattle.laws.specs.Kit.{sym, ap, arith, length}
use Rattle.writing.proofs.Puts.{and_on, one_byte, same_text}
use Rattle.writing.proofs.Shows.{show_one, show_more, show_longer}
use Rattle.writing.proofs.digits.+number.Goals as goal

pub bounds-out-at : goal.bounds-out-at
bounds-out-at t c = omega (arith, ap length (show_one c.args.n c.if-n-lt10.true))

pub returns-then-n-lt10 : goal.returns-then-n-lt10
returns-then-n-lt10 t c = same_text (one_byte _ _ _ (omega (arith, ap length (show_one c.args.n c.if-n-lt10.true)))) (sym (show_one c.args.n c.if-n-lt10.true))

pub number-p-requires : goal.number-p-requires
number-p-requires t c = let more = show_longer c.args.n c.if-n-lt10.false in (omega (arith, c.decreases), omega (arith, more, c.requires))

pub bounds-out-p : goal.bounds-out-p
bounds-out-p t c = omega (arith, show_longer c.args.n c.if-n-lt10.false, c.number-p.ensures.next, c.number-p.auto.out, c.requires)

pub overflow_add-result-2 : goal.overflow_add-result-2
overflow_add-result-2 t c = omega (arith, show_longer c.args.n c.if-n-lt10.false, c.number-p.ensures.next, c.requires, c.well_formed)

pub returns : goal.returns
returns t c =
    let f = c.number-p in
    let more = show_longer c.args.n c.if-n-lt10.false in
    same_text (and_on f.ensures (omega (arith, more, c.requires)) (one_byte f.new.out f.result (48 + c.args.n % 10) (omega (arith, more, f.ensures.next, f.auto.out, c.requires))))
    (sym (show_more c.args.n c.if-n-lt10.false))
