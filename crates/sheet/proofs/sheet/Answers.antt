-- A refusal is the whole answer; otherwise the rows are filled.
use Rattle.laws.specs.Kit.{sym}
use Rattle.sheet.specs.Refusals.{clear, readable}
use Rattle.sheet.proofs.Returned.{refused_returns, filled_returns}
use Rattle.sheet.proofs.sheet.Goals as goal

pub returns-in_err-check : goal.returns-in_err-check
returns-in_err-check c = refused_returns _ _ c.in_err-check.field-0.0 c.from_residual.ensures.1 c.in_err-check.ensures

pub fill-requires : goal.fill-requires
fill-requires c = readable _ (clear _ (sym c.in_ok-check.ensures))

pub returns : goal.returns
returns c = filled_returns _ _ _ (clear _ (sym c.in_ok-check.ensures)) c.fill.ensures
