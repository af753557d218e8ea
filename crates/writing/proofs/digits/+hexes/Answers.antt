-- `digits::hexes`: the digits before the last, then the last.
use Rattle.std.specs.Prelude.{◌-◌, ◌/◌, ◌<◌}
use Rattle.laws.specs.Kit.{sym, arith}
use Rattle.writing.proofs.Puts.{and_on, one_byte, no_text, same_text}
use Rattle.writing.proofs.Shows.{hex_none, hex_more, hex_long}
use Rattle.writing.proofs.digits.+hexes.Goals as goal

pub returns-then-k-eq0 : goal.returns-then-k-eq0
returns-then-k-eq0 t c = same_text (no_text _ _) (hex_none c.args.k c.args.n c.if-k-eq0.true)

pub bounds-out-p : goal.bounds-out-p
bounds-out-p t c = omega (arith, hex_long (c.args.k - 1) (c.args.n / 16), c.hexes-p.ensures.next, c.hexes-p.auto.out, c.requires, c.if-k-eq0.false)

pub overflow_add-result : goal.overflow_add-result
overflow_add-result t c = omega (arith, hex_long (c.args.k - 1) (c.args.n / 16), c.hexes-p.ensures.next, c.requires, c.if-k-eq0.false, c.well_formed)

pub returns : goal.returns
returns t c =
    let f = c.hexes-p in
    let long = hex_long (c.args.k - 1) (c.args.n / 16) in
    let some : 0 < c.args.k = omega (arith, c.if-k-eq0.false) in
    same_text (and_on f.ensures (omega (arith, long, c.requires)) (one_byte f.new.out f.result c.hex_digit.result (omega (arith, long, f.ensures.next, f.auto.out, c.requires))))
    (rw c.hex_digit.ensures (sym (hex_more c.args.k c.args.n some)))
