-- What a split asks and gives.
use Rattle.std.specs.Prelude.{◌≡◌, List, ℕ, ◌+◌, ◌*◌, ◌<◌, ◌≤◌, length, set, Float}
use Rattle.definition.specs.Floats.{0·0}
use Rattle.definition.specs.Plane.{flat}
use Rattle.definition.specs.Cells.{Mesh}
use Rattle.definition.specs.Insertion.{split_triangle}
use Rattle.laws.specs.Frames.{Keeps}
use Rattle.cells.specs.Layout.{mesh_end}
use Rattle.cells.specs.Rep.{Rep, TriIn, Pts}

-- the slice with x, y and z 0.0 as point n
abbrev pub with_spot : List Float → ℕ → Float → Float → List Float
with_spot q n x y = set (set (set q (3 * n) x) (3 * n + 1) y) (3 * n + 2) 0·0

-- a point and two slots are free
pub record HasRoom (s p used n : ℕ) : Type 0 where
  pub point : n < p
  pub slots : used + 2 ≤ s

-- slot i holds a triangle, `used` slots were given out, and there are n points
pub record CanSplit (m : Mesh) (i used n : ℕ) : Type 0 where
  pub in_slot : TriIn m i
  pub given : m.used ≡ used
  pub count : length m.points ≡ n

-- both slices stand for the mesh with the triangle split; beyond the mesh's own areas nothing changed
pub record Splits (w w' : List ℕ) (q q' : List Float) (s p i used n : ℕ) (x y : Float) : Type 0 where
  pub rep : (m : Mesh) → Rep w s p m → (c : CanSplit m i used n) → Rep w' s p (split_triangle m i c.in_slot.t (flat x y))
  pub pts : (m : Mesh) → Pts q p m → (c : CanSplit m i used n) → Pts q' p (split_triangle m i c.in_slot.t (flat x y))
  pub text : q' ≡ with_spot q n x y
  pub keeps : Keeps w w' (mesh_end s p)
