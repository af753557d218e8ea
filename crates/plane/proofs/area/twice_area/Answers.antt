use Rattle.definition.specs.Floats.{◌⊕◌, 0·0, f64}
use Rattle.definition.specs.Plane.{twice_area}
use Rattle.laws.specs.Kit.{rules}
use Rattle.plane.proofs.area.twice_area.Goals as goal

pub returns : goal.returns
unfolding twice_area ◌⊕◌ 0·0 f64
returns c = rw (c.shoelace.ensures, c.shoelace-2.ensures, c.shoelace-3.ensures, c.shoelace-4.ensures)
