-- `lines::line`.
-- Invariant: the values before the index are written, a space after each; the last one follows the loop, with the newline.
use Rattle.std.specs.Prelude.{◌≡◌, ◌+◌, ◌-◌, ◌*◌, ◌≤◌}
use Rattle.laws.specs.Kit.{refl, sym, ◌∙◌, arith, length, take, mul-le-mul_left}
use Rattle.writing.proofs.Puts.{and_next, no_text, same_text}
use Rattle.writing.proofs.Rows.{spaced, shown_more, shown_ends}
use Rattle.writing.proofs.lines.line.Goals as goal
use lib.Seq.{length-take-le, get_or-take}

pub loop-n-init : goal.loop-n-init
unfolding spaced
loop-n-init g c = (omega arith, refl, no_text _ _)

pub loop-n-preserved : goal.loop-n-preserved
loop-n-preserved g c =
    let l = c.loop-n in
    let row = c.args.row.now in
    let most = g.T.Shown.most in
    let front : length (take (length row - 1) row) ≡ length row - 1 = length-take-le _ row (omega arith) in
    let next : most * (l.n-index + 1) ≤ most * length row = mul-le-mul_left most (omega arith) in
    let more : most * (l.n-index + 1) ≡ most * l.n-index + most = omega arith in
    let f = c.put-p in (
      omega (arith, f.ensures.short, l.invariant.0, more),
      f.auto.out ∙ l.invariant.1,
      same_text (and_next l.invariant.2 (omega (arith, c.requires, l.invariant.0, next, more)) f.ensures.written)
          (sym (shown_more g.T.Shown.text g.T.Shown.number_of row c.n-item.result l.n-index (omega arith) (c.n-item.is ∙ get_or-take (length row - 1) row l.n-index c.n-item.result (omega arith)))),
    )

pub returns : goal.returns
returns g c =
    let l = c.loop-n in
    let row = c.args.row.now in
    let most = g.T.Shown.most in
    let front : length (take (length row - 1) row) ≡ length row - 1 = length-take-le _ row (omega arith) in
    let all : l.n-index + 1 ≡ length row = omega arith in
    let next : most * (l.n-index + 1) ≤ most * length row = mul-le-mul_left most (omega arith) in
    let more : most * (l.n-index + 1) ≡ most * l.n-index + most = omega arith in
    let f = c.put in
    record {
      written = same_text (and_next l.invariant.2 (omega (arith, c.requires, l.invariant.0, next, more)) f.ensures.written)
          (shown_ends g.T.Shown.text g.T.Shown.number_of row c.index-row-last.result l.n-index _ (omega arith) (omega arith) c.index-row-last.is);
      short = omega (arith, f.ensures.short, l.invariant.0, next, more);
    }
