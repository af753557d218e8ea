-- The columns of the Jacobian of the bilinear map.
use Rattle.definition.specs.Plane.{Node, Vec}
use Rattle.definition.specs.Metrics.{Weights, corner, weighted}

-- the weighted sums of the nodes' x and y
unfoldable pub column : Weights → Node → Node → Node → Node → Vec
column w a b c d = corner (weighted w a.x b.x c.x d.x) (weighted w a.y b.y c.y d.y)
