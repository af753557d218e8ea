use Rattle.retrace.proofs.Flipping.{hides_no, hides_yes}
use Rattle.retrace.proofs.turns.hides.Goals as goal

pub returns-then-not-odd : goal.returns-then-not-odd
returns-then-not-odd c = hides_no c.args.odd _ c.if-not-odd.true

pub returns : goal.returns
returns c = hides_yes c.args.odd _ c.quad_has.result c.if-not-odd.false c.quad_has.ensures
