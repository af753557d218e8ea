-- What the square of a distance tells of the reach r.
use Rattle.std.specs.Prelude.{◌≡◌, true, false, Float}
use Rattle.std.specs.Float.{binary64}
use Rattle.std.specs.Float.Ieee.{fits}
use Rattle.definition.specs.Floats.{◌⊕◌, ◌⊗◌, ◌≺◌}
use Rattle.definition.specs.Root.{sqrt}
use Rattle.definition.specs.Plane.{Vec}

-- the square of a vector's length, whose root is the length
abbrev pub square : Vec → Float
square d = d.dx ⊗ d.dx ⊕ d.dy ⊗ d.dy

-- what is below x has a root that is not beyond r
abbrev pub WithinReach : Float → Float → Type 0
WithinReach r x = (z : Float) → fits binary64 z ≡ true → (z ≺ x) ≡ true → (r ≺ sqrt z) ≡ false

-- what is beyond x has a root beyond r
abbrev pub BeyondReach : Float → Float → Type 0
BeyondReach r x = (z : Float) → fits binary64 z ≡ true → (x ≺ z) ≡ true → (r ≺ sqrt z) ≡ true
