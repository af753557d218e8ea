-- `named`: the line of names, then the table.
use Rattle.laws.specs.Kit.{sym, arith}
use Rattle.std.proofs.lemmas.List.{map-id}
use Rattle.writing.proofs.Puts.{and_next}
use Rattle.writing.proofs.named.Goals as goal

pub returns : goal.returns
returns c =
    let f = c.fixed-p in
    let g = c.table in
    record {
      written = rw (sym (map-id c.args.xs.now)) (and_next f.ensures (omega (arith, f.ensures.next, c.requires)) g.ensures.written);
      short = omega (arith, f.ensures.next, g.ensures.short);
    }
