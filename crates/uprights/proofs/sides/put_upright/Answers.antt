-- The sides of the triangle as it is, or turned over.
use native.Mathlib.Omega.{arith}
use mathlib.Core.Path.{sym, ◌∙◌}
use Rattle.uprights.proofs.Words.{kept_nodes, over_nodes, placed_by, small_three}
use Rattle.uprights.proofs.sides.put_upright.Goals as goal

pub put_sides-requires : goal.put_sides-requires
put_sides-requires c =
    record { least = omega arith; most = omega arith; sized = omega arith; room = omega arith; small = small_three _ _ _ c.requires.0.small c.requires.1.small c.requires.2.small }

pub returns-then-runs_left : goal.returns-then-runs_left
returns-then-runs_left c =
    placed_by (kept_nodes _ _ _ _ (sym c.runs_left.ensures ∙ c.if-runs_left.true)) c.put_sides.ensures

pub put_sides-requires-2 : goal.put_sides-requires-2
put_sides-requires-2 c =
    record { least = omega arith; most = omega arith; sized = omega arith; room = omega arith; small = small_three _ _ _ c.requires.0.small c.requires.2.small c.requires.1.small }

pub returns : goal.returns
returns c =
    placed_by (over_nodes _ _ _ _ (sym c.runs_left.ensures ∙ c.if-runs_left.false)) c.put_sides-2.ensures
