use mathlib.Core.Path.{◌∙◌}
use lib.ListN.{length}
use Rattle.live_regions.proofs.Steps.{corners_of}
use Rattle.candidates.proofs.Growth.{tri_grows}
use Rattle.candidates.proofs.spans.with_triangle.Goals as goal

pub returns : goal.returns
returns c =
    let a = c.args in
    λ m r k.
    let d = corners_of a.w.now a.lay.slots a.lay.points a.i m r k in
    tri_grows (length m.points) k.t a.g c.widened-one.result c.widened-two.result c.widened.result c.node.result c.node-2.result c.node-3.result
    (c.node.ensures ∙ d.read.n0) (c.node-2.ensures ∙ d.read.n1) (c.node-3.ensures ∙ d.read.n2) c.widened-one.ensures c.widened-two.ensures c.widened.ensures d.k0 d.k1 d.k2
