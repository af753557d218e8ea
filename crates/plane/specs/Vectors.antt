-- A vector of the code as one of the definition.
use Rattle.definition.specs.Plane as plane
use Rattle.plane.specs.declared.vectors.Vec.{Vec}

-- its two differences
unfoldable pub vec : Vec → plane.Vec
vec v = record { dx = v.dx; dy = v.dy }
