use native.Mathlib.Omega.{arith}
use Rattle.candidates.proofs.Words.{cleared_range}
use Rattle.candidates.proofs.marks.clear_span.Goals as goal

pub returns : goal.returns
returns c =
    let a = c.args in
    cleared_range a.w.now c.clear_range.new.w a.p a.b a.g (omega (arith, c.if-g.false)) c.requires.high_lt_p c.clear_range.ensures.only c.clear_range.ensures.by_index
