use Rattle.laws.specs.Kit.{sym, ◌∙◌, rules}
use Rattle.plane.proofs.Ground.{dist_ground, quad_metrics_ground}
use Rattle.plane.proofs.metrics.quad_metrics_by.Goals as goal

pub returns : goal.returns
returns c =
    λ e f.
    let ha = c.at.ensures in
    let hb = c.at-2.ensures in
    let hd = c.at-4.ensures in
    c.quad_metrics_from.ensures (e ∙ sym (dist_ground _ _ ha hb)) (f ∙ sym (dist_ground _ _ hd ha))
    ∙ quad_metrics_ground _ _ ha hb _ c.at-3.ensures _ hd
