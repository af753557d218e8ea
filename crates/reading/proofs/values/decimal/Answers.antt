-- `values::decimal`: by the form of the digits.
use Rattle.laws.specs.Kit.{◌∙◌, sym}
use Rattle.reading.proofs.Digits.{up_to_in, up_to_out}
use Rattle.reading.proofs.values.decimal.Goals as goal

pub returns-then-well_formed : goal.returns-then-well_formed
returns-then-well_formed c = rw (up_to_in c.args.most c.args.s.now (sym c.if-well_formed.true ∙ c.well_formed-2.ensures)) c.digits.ensures

pub returns-else-well_formed : goal.returns-else-well_formed
returns-else-well_formed c = up_to_out c.args.most c.args.s.now (sym c.if-well_formed.false ∙ c.well_formed-2.ensures)
