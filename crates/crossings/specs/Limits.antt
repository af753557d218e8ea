-- What is said of the limits of a segment.
use Rattle.std.specs.Prelude.{◌≡◌}
use Rattle.laws.specs.Kit.{true, false, Float}
use Rattle.definition.specs.Floats.{◌⊘◌, ◌≺◌, ◌≼◌, 0·0}
use Rattle.definition.specs.Root.{floor}
use Rattle.definition.specs.Plane.{Node}
use Rattle.crossings.specs.Cross.{axis_meets}
use Rattle.crossings.specs.declared.buckets.Limits.{Limits}

-- the bucket of x lies before that of y, and buckets have a width
pub record InOrder (bucket x y : Float) : Type 0 where
  pub wide : (0·0 ≺ bucket) ≡ true
  pub before : (floor (x ⊘ bucket) ≺ floor (y ⊘ bucket)) ≡ true

-- what lies up to t does not meet x and y in bucket range
pub record Before (bucket x y t : Float) : Type 0 where
  pub apart : (c d : Float) → (c ≼ t) ≡ true → (d ≼ t) ≡ true → axis_meets bucket x y c d ≡ false

-- what lies from t on does not
pub record After (bucket x y t : Float) : Type 0 where
  pub apart : (c d : Float) → (t ≼ c) ≡ true → (t ≼ d) ≡ true → axis_meets bucket x y c d ≡ false

-- the limits of the segment from u to v
pub record IsLimits (bucket : Float) (u v : Node) (l : Limits) : Type 0 where
  pub left : Before bucket u.x v.x l.x0
  pub right : After bucket u.x v.x l.x1
  pub low : Before bucket u.y v.y l.y0
  pub high : After bucket u.y v.y l.y1
