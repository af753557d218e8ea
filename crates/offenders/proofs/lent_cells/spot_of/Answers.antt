-- `offenders::lent_cells::spot_of` meets its contract. Assumes nothing.
use mathlib.Core.Path.{◌∙◌, ap}
use lib.ListN.{get_or}
use Rattle.definition.specs.Call.{point_at}
use Rattle.plane.specs.Points.{ground}
use Rattle.offenders.specs.Cells.{stands_for}
use Rattle.offenders.proofs.lent_cells.spot_of.Goals as goal

pub returns : goal.returns
returns c =
    let ps = c.args.points.now in
    stands_for ps (get_or c.args.cells.now c.args.k 0) _ (c.at.ensures ∙ ap (λ a. ground (point_at ps a)) c.wide.ensures) c.requires.near
