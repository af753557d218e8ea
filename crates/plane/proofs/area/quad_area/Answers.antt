use Rattle.definition.specs.Floats.{◌⊘◌, 2·0, f64}
use Rattle.definition.specs.Plane.{quad_area}
use Rattle.plane.proofs.Ground.{twice_area_ground}
use Rattle.laws.specs.Kit.{rules}
use Rattle.plane.proofs.area.quad_area.Goals as goal

pub returns : goal.returns
unfolding quad_area ◌⊘◌ 2·0 f64
returns c =
    rw (c.twice_area.ensures, twice_area_ground _ _ c.at.ensures c.at-2.ensures _ c.at-3.ensures _ c.at-4.ensures)
