-- On the grid of 1 / 1024 the float areas of triangles and quads are exact:
-- whole numbers of parts of 2 ^ -21, at most 2 ^ 29 of them.
-- Assumes nothing.
use Rattle.laws.specs.Kit.{refl, sym, ◌∙◌, ap, inl, inr, false, ℕ, arith, lit<, lit≤, ℤ, pos, negsuc, Float, binary64, of_bits, add, mul}
use Rattle.std.specs.Prelude.{nat_abs, ◌+ℤ◌, ◌≡◌, ◌+◌, ◌*◌, ◌^◌, ◌≤◌}
use Rattle.definition.specs.Floats.{f64, 0·0, 2·0}
use Rattle.definition.specs.Floats as floats
use Rattle.definition.specs.Plane.{Node}
use Rattle.definition.specs.Plane as plane
use Rattle.definition.specs.Exact.{arrow, exact_cross, twice_tri, twice_quad}
use Rattle.exact.specs.Near.{Whole, Near, Within, abs, ◌⊕◌, ◌⊖◌, ◌⊗◌, ◌⊙◌}
use Rattle.exact.specs.Units.{ofℤ, W}
use Rattle.exact.specs.Cross.{crossW}
use Rattle.exact.specs.Exactly.{Is}
use Rattle.exact.specs.Points.{At, exactly}
use Rattle.exact.specs.Grid.{GridPoint, parts_of}

-- ---- points of the grid
-- within 8, both coordinates whole multiples of 1 / 1024
pub record Placed (p : Node) : Type 0 where
  pub at : At 8 p
  pub on : GridPoint p

-- the coordinates, in parts of 1 / 1024
abbrev pub X : (p : Node) → Placed p → Whole
X p g = parts_of p.x g.on.0

abbrev pub Y : (p : Node) → Placed p → Whole
Y p g = parts_of p.y g.on.1
