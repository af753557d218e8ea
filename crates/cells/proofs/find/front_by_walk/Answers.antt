-- The edge is the same from both ends.
use mathlib.Core.Path.{ap, sym, ◌∙◌}
use Rattle.definition.specs.Cells.{is_front}
use Rattle.cells.proofs.Edges.{key_swap}
use Rattle.cells.proofs.find.front_by_walk.Goals as goal

pub front_around-requires-then-is_shorter : goal.front_around-requires-then-is_shorter
front_around-requires-then-is_shorter c =
    record { rep = c.requires.rep; edge = record { node = c.is_shorter.ensures c.if-is_shorter.true; apart = λ e. c.requires.edge.apart (sym e) } }

pub returns-then-is_shorter : goal.returns-then-is_shorter
returns-then-is_shorter c =
    let a = c.args in
    λ m r. c.front_around-then-is_shorter.ensures m r ∙ ap (is_front m) (key_swap a.v a.u)
