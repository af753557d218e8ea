-- The edge is the same from both ends.
use mathlib.Core.Path.{ap, sym, ◌∙◌}
use Rattle.definition.specs.Plane.{Edge}
use Rattle.definition.specs.Cells.{tri_owner}
use Rattle.cells.specs.Walk.{slot_or}
use Rattle.cells.proofs.Edges.{key_swap}
use Rattle.cells.proofs.find.tri_owner.Goals as goal

pub tri_around-requires : goal.tri_around-requires
tri_around-requires c =
    record { rep = c.requires.rep; edge = record { node = c.is_shorter.ensures c.if-is_shorter.true; apart = λ e. c.requires.edge.apart (sym e) } }

pub returns-then-is_shorter : goal.returns-then-is_shorter
returns-then-is_shorter c =
    let a = c.args in
    λ m r. c.tri_around.ensures m r ∙ ap (λ (e : Edge). slot_or a.lay.slots (tri_owner m e)) (key_swap a.v a.u)
