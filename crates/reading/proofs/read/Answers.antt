-- `read`: the length, the line of numbers, the two lists, the end. A law for each way out.
use Rattle.laws.specs.Kit.{sym, arith, eqb-true}
use Rattle.std.proofs.Common.{false-eqb}
use Rattle.std.proofs.lemmas.List.{map-id}
use Rattle.reading.proofs.Wholes.{too_long, bad, no_start, no_triangles, no_points, more, all_read}
use Rattle.definition.specs.Text.{bytes, lit}
use Rattle.reading.specs.Found.{triangle_list, point_list}
use Rattle.reading.specs.Whole.{input_of}
use Rattle.reading.proofs.read.Goals as goal

pub returns-then-s-gt-MOST_BYTES : goal.returns-then-s-gt-MOST_BYTES
returns-then-s-gt-MOST_BYTES c = record { reads = too_long c.args.s.now c.if-s-gt-MOST_BYTES.true; kept = tt }

pub returns-in_err-h : goal.returns-in_err-h
returns-in_err-h c = bad c.from_residual.ensures (no_start c.args.s.now c.if-s-gt-MOST_BYTES.false c.in_err-h.ensures.reads)

pub returns-in_err-points : goal.returns-in_err-points
unfolding triangle_list point_list lit bytes
returns-in_err-points c =
    let h = c.in_ok-h in
    bad c.from_residual-in_err-points.ensures (no_triangles c.args.s.now c.if-s-gt-MOST_BYTES.false h.h h.lists.now h.ensures.reads c.in_err-points.ensures.reads)

pub returns-in_err-rest : goal.returns-in_err-rest
unfolding triangle_list point_list lit bytes
returns-in_err-rest c =
    let h = c.in_ok-h in
    let t = c.in_ok-points in
    bad c.from_residual-in_err-rest.ensures
    (no_points c.args.s.now c.if-s-gt-MOST_BYTES.false h.h h.lists.now h.ensures.reads _ t.points.now t.ensures.reads c.in_err-rest.ensures.reads)

pub returns-then-not-is_empty : goal.returns-then-not-is_empty
unfolding triangle_list point_list lit bytes
returns-then-not-is_empty c =
    let h = c.in_ok-h in
    let t = c.in_ok-points in
    let p = c.in_ok-rest in
    record {
      reads = more c.args.s.now c.if-s-gt-MOST_BYTES.false h.h h.lists.now h.ensures.reads _ t.points.now t.ensures.reads _ p.rest.now p.ensures.reads
          (omega (arith, false-eqb _ 0 c.if-not-is_empty.ensures));
      kept = tt;
    }

pub returns : goal.returns
unfolding input_of triangle_list point_list lit bytes
returns c =
    let h = c.in_ok-h in
    let t = c.in_ok-points in
    let p = c.in_ok-rest in
    record {
      reads = rw (sym (map-id c.list.new.into), sym (map-id c.list-2.new.into)) (all_read c.args.s.now c.if-s-gt-MOST_BYTES.false h.h h.lists.now h.ensures.reads _ t.points.now t.ensures.reads _ p.rest.now p.ensures.reads
          (eqb-true _ 0 (sym c.if-not-is_empty.ensures)));
      kept = record { few_triangles = h.ensures.few.0; few_points = h.ensures.few.1; triangles_past = t.ensures.past; points_past = p.ensures.past };
    }
