use Rattle.sheet.specs.Promise.{sheet_in}
use Rattle.sheet.proofs.Returned.{handed_on}
use Rattle.sheet.proofs.Numbers.{put_short, put_refused, put_numbers}
use Rattle.sheet.proofs.lent.put_sheet.Goals as goal

pub returns-then-answer-lt-NUMBERS : goal.returns-then-answer-lt-NUMBERS
returns-then-answer-lt-NUMBERS c = put_short _ _ _ c.if-answer-lt-NUMBERS.true c.short.ensures

pub returns-in_err-s : goal.returns-in_err-s
returns-in_err-s c =
    let h = c.in_err-s.ensures in
    rw (handed_on c.from_residual.result c.in_err-s.field-0.0 c.from_residual.ensures.1)
    (put_refused _ _ _ c.if-answer-lt-NUMBERS.false h.out _ h.answer)

pub returns : goal.returns
returns c =
    let h = c.in_ok-s.ensures in
    put_numbers _ _ _ c.if-answer-lt-NUMBERS.false h.out (sheet_in c.in_ok-s.s) _ h.answer c.write.ensures
