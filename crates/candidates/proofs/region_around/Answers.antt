use mathlib.Core.Path.{subst}
use Rattle.definition.specs.Floats.{◌⊕◌, ◌⊗◌, 0·8, f64}
use Rattle.definition.specs.Numbers.{side_margin}
use Rattle.live_regions.specs.Stack.{LiveTo}
use Rattle.plane.specs.Points.{node, ground}
use Rattle.candidates.proofs.Tests.{region_read}
use Rattle.candidates.proofs.region_around.Goals as goal

pub returns : goal.returns
unfolding side_margin ◌⊕◌ ◌⊗◌ 0·8 f64 node ground
returns c =
    let a = c.args in
    λ m l h.
    subst (LiveTo a.w.now c.live_region.new.w a.lay.slots a.lay.points c.live_region.result m)
    (region_read a.q.now a.lay.points m l.pts a.seed a.aim.end h _ _ ((a.aim.quality.side_high ⊕ side_margin) ⊗ a.aim.target) c.at-o.ensures)
    (c.live_region.ensures m l)
