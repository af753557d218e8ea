-- `u32::put`: at most ten digits, then the byte.
use Rattle.laws.specs.Kit.{arith}
use Rattle.writing.proofs.Puts.{and_next, one_byte}
use Rattle.writing.proofs.Shows.{show_short}
use Rattle.writing.proofs.digits.U32Shown.put.Goals as goal

pub number-p-requires : goal.number-p-requires
number-p-requires c = omega (arith, show_short c.args.self c.ranges.self.fits)

pub bounds-out-p : goal.bounds-out-p
bounds-out-p c = omega (arith, show_short c.args.self c.ranges.self.fits, c.number-p.ensures.next, c.number-p.auto.out, c.requires)

pub overflow_add-result : goal.overflow_add-result
overflow_add-result c = omega (arith, show_short c.args.self c.ranges.self.fits, c.number-p.ensures.next, c.requires, c.well_formed.0.0)

pub returns : goal.returns
returns c =
    let f = c.number-p in
    let long = show_short c.args.self c.ranges.self.fits in
    record {
      written = and_next f.ensures (omega (arith, long, f.ensures.next, c.requires)) (one_byte f.new.out f.result c.args.b (omega (arith, long, f.ensures.next, f.auto.out, c.requires)));
      short = omega (arith, long, f.ensures.next);
    }
