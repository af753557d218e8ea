-- `accept_refusals::lent_cells::repeated_in` meets its contract: the mesher's test of triangles. Assumes nothing.
use mathlib.Core.Path.{refl, ap, ◌∙◌}
use mathlib.Core.List.{[]}
use Rattle.definition.specs.Call.{repeated_node, given_tris}
use Rattle.accept_refusals.proofs.Lent.{lent_of}
use Rattle.accept_refusals.proofs.lent_cells.repeated_in.Goals as goal

pub repeated_node-requires : goal.repeated_node-requires
repeated_node-requires c = rw (ap (λ z. z.count) c.standard-a.ensures) c.requires

pub returns : goal.returns
unfolding repeated_node given_tris
returns c =
    let l = lent_of [] c.args.triangles.now in
    c.repeated_node.ensures l refl ∙ ap (λ z. repeated_node z l) c.standard-a.ensures
