use Rattle.laws.specs.Kit.{◌∙◌, ap, arith, leb}
use Rattle.sheet.proofs.Corners.{at_first, at_second, at_third, at_fourth}
use Rattle.sheet.proofs.conditions.unknown_in.Goals as goal

pub returns-then-wide-given : goal.returns-then-wide-given
returns-then-wide-given c = at_first _ _ _ (omega arith)

pub returns-then-wide-given-2 : goal.returns-then-wide-given-2
returns-then-wide-given-2 c = at_second _ _ _ (omega arith) (omega arith)

pub returns-then-wide-given-3 : goal.returns-then-wide-given-3
returns-then-wide-given-3 c = at_third _ _ _ (omega arith) (omega arith) (omega arith)

pub returns : goal.returns
returns c = ap (leb _) c.wide-4.ensures ∙ at_fourth _ _ _ (omega arith) (omega arith) (omega arith)
