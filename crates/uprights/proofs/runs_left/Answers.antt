-- The corner at the first node, between the third and the second, turns left where the triangle runs counterclockwise.
use Rattle.uprights.proofs.Turns.{given, turned}
use Rattle.uprights.proofs.runs_left.Goals as goal

pub invariant_of-turns_left : goal.invariant_of-turns_left
invariant_of-turns_left c =
    record { given = given _ _ _ _ _ _ _ c.wide.ensures c.wide-2.ensures c.wide-3.ensures _ _ _ c.at-here.ensures c.at-after.ensures c.at-before.ensures c.requires.0 c.requires.1 c.requires.2 }

pub returns : goal.returns
returns c = turned _ _ _ _ _ _ _ c.wide.ensures c.wide-2.ensures c.wide-3.ensures _ _ _ c.at-here.ensures c.at-after.ensures c.at-before.ensures _ c.turns_left.ensures
