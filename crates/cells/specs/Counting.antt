-- The counters stand for the mesh.
use Rattle.std.specs.Prelude.{◌≡◌, ℕ, ◌+◌, ◌^◌, ◌<◌, length}
use Rattle.definition.specs.Cells.{Mesh, live_tris}
use Rattle.cells.specs.declared.counters.Counters.{Counters}

-- live triangles, slots given out and points are those of the mesh
pub record Counted (c : Counters) (m : Mesh) : Type 0 where
  pub live : c.live ≡ live_tris m
  pub used : c.used ≡ m.used
  pub points : c.points ≡ length m.points

-- the counters are far from their type's end
pub record Few (c : Counters) : Type 0 where
  pub live : c.live < 2 ^ 32
  pub used : c.used < 2 ^ 32
  pub points : c.points < 2 ^ 32
  pub attempts : c.attempts < 2 ^ 32

-- one more attempt
pub record Attempted (c d : Counters) : Type 0 where
  pub live : d.live ≡ c.live
  pub used : d.used ≡ c.used
  pub points : d.points ≡ c.points
  pub attempts : d.attempts ≡ c.attempts + 1

-- a triangle became three around a new point
pub record Split (c d : Counters) : Type 0 where
  pub live : d.live ≡ c.live + 2
  pub used : d.used ≡ c.used + 2
  pub points : d.points ≡ c.points + 1
  pub attempts : d.attempts ≡ c.attempts

-- a quad took the place of so many triangles
pub record Quadded (c d : Counters) (gone : ℕ) : Type 0 where
  pub live : d.live + gone ≡ c.live
  pub used : d.used ≡ c.used + 1
  pub points : d.points ≡ c.points
  pub attempts : d.attempts ≡ c.attempts
