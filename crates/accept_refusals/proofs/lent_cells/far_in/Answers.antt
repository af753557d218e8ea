-- `accept_refusals::lent_cells::far_in` meets its contract: the mesher's test of points. Assumes nothing.
use mathlib.Core.Path.{refl, ap, ◌∙◌}
use mathlib.Core.List.{[]}
use Rattle.definition.specs.Call.{far_point, given_points}
use Rattle.accept_refusals.proofs.Lent.{lent_of}
use Rattle.accept_refusals.proofs.lent_cells.far_in.Goals as goal

pub far_point-requires : goal.far_point-requires
far_point-requires c = rw (ap (λ z. z.given) c.standard-a.ensures) c.requires

pub returns : goal.returns
unfolding far_point given_points
returns c =
    let l = lent_of c.args.points.now [] in
    c.far_point.ensures l refl ∙ ap (λ z. far_point z l) c.standard-a.ensures
