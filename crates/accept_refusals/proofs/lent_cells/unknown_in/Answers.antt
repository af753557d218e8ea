-- `accept_refusals::lent_cells::unknown_in` meets its contract: the mesher's test of nodes. Assumes nothing.
use mathlib.Core.Path.{refl, ap, ◌∙◌}
use mathlib.Core.List.{[]}
use Rattle.definition.specs.Call.{unknown_node, given_tris}
use Rattle.accept_refusals.proofs.Lent.{lent_of}
use Rattle.accept_refusals.proofs.lent_cells.unknown_in.Goals as goal

pub unknown_node-requires : goal.unknown_node-requires
unknown_node-requires c = rw (ap (λ z. z.count) c.standard-a.ensures) c.requires

pub returns : goal.returns
unfolding unknown_node given_tris
returns c =
    let l = lent_of [] c.args.triangles.now in
    c.unknown_node.ensures l refl ∙ ap (λ z. unknown_node z l) c.standard-a.ensures
