use Rattle.definition.specs.Floats.{◌⊘◌, 2·0, f64}
use Rattle.laws.specs.Kit.{rules}
use Rattle.plane.proofs.area.tri_area.Goals as goal

pub returns : goal.returns
unfolding ◌⊘◌ 2·0 f64
returns c = rw (c.abs.ensures, c.cross.ensures)
