-- `places`: the line of names, the given points, the others.
use Rattle.std.specs.Prelude.{◌≡◌, ◌-◌, ◌*◌}
use Rattle.laws.specs.Kit.{sym, arith, length, take, drop}
use lib.ListN.{length-drop}
use lib.Seq.{take_all}
use Rattle.std.proofs.lemmas.List.{map-id}
use Rattle.writing.proofs.Puts.{and_next, same_text}
use Rattle.writing.proofs.Parts.{two_tables}
use Rattle.definition.specs.Text.{bytes, show_bits, points_between}
use Rattle.writing.proofs.places.Goals as goal

pub returns : goal.returns
unfolding bytes points_between
returns c =
    let f = c.fixed-p in
    let g = c.table-q in
    let h = c.table in
    let k = 3 * c.args.k in
    let points = c.args.points.now in
    let rest : take (length points - k) (drop k points) ≡ drop k points = take_all _ _ (omega (arith, length-drop k points)) in
    let others = rw rest at h.ensures.written in
    record {
      written = rw (sym (map-id c.args.bits.now)) (same_text
          (and_next (and_next f.ensures (omega (arith, f.ensures.next, c.requires)) g.ensures.written) (omega (arith, f.ensures.next, g.ensures.short, c.requires)) others)
          (two_tables show_bits (bytes "x y z\n") _ _));
      short = omega (arith, f.ensures.next, g.ensures.short, h.ensures.short, c.requires);
    }
