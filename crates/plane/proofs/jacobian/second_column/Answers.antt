use Rattle.laws.specs.Kit.{ap₂, rules}
use Rattle.definition.specs.Plane.{flat}
use Rattle.definition.specs.Metrics.{corner}
use Rattle.plane.specs.Points.{node}
use Rattle.plane.specs.Vectors.{vec}
use Rattle.plane.specs.Columns.{column}
use Rattle.plane.proofs.jacobian.second_column.Goals as goal

pub returns : goal.returns
unfolding vec column corner node flat
returns c = λ z. ap₂ corner (c.second_sum.ensures z) (c.second_sum-2.ensures z)
