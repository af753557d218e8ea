-- `u64::put`: sixteen digits, then the byte.
use Rattle.laws.specs.Kit.{arith}
use Rattle.writing.proofs.Puts.{and_next, one_byte}
use Rattle.writing.proofs.Shows.{hex_long}
use Rattle.definition.specs.Text.{show_bits}
use Rattle.writing.proofs.digits.U64Shown.put.Goals as goal

pub bounds-out-p : goal.bounds-out-p
bounds-out-p c = omega (arith, hex_long 16 c.args.self, c.hexes-p.ensures.next, c.hexes-p.auto.out, c.requires)

pub overflow_add-result : goal.overflow_add-result
overflow_add-result c = omega (arith, hex_long 16 c.args.self, c.hexes-p.ensures.next, c.requires, c.well_formed.0.0)

pub returns : goal.returns
unfolding show_bits
returns c =
    let f = c.hexes-p in
    let long = hex_long 16 c.args.self in
    record {
      written = and_next f.ensures (omega (arith, long, f.ensures.next, c.requires)) (one_byte f.new.out f.result c.args.b (omega (arith, long, f.ensures.next, f.auto.out, c.requires)));
      short = omega (arith, long, f.ensures.next);
    }
