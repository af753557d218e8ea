-- The mesh of the given triangles, and cleared slices.
use Rattle.std.specs.Prelude.{◌≡◌, ◌*◌, ◌<◌, ◌≤◌}
use Rattle.laws.specs.Kit.{ℕ, List, [], length}
use Rattle.definition.specs.Cells.{Mesh, tri}
use Rattle.definition.specs.Call.{tri_at, first_tris}
use Rattle.definition.specs.Front.{in_slots}
use Rattle.laws.specs.Frames.{Keeps}
use Rattle.cells.specs.Layout.{mesh_end}
use Rattle.cells.specs.Rep.{Shape, Room, Rep}

-- each of the first n triangles has distinct nodes among the g given points
abbrev pub Given : List ℕ → ℕ → ℕ → Type 0
Given xs n g = (i : ℕ) → i < n → Shape g (tri (tri_at xs i))

-- the first n triangles of the slice are live, each in the slot of its place, over g points
pub record IsNew (m : Mesh) (xs : List ℕ) (n g : ℕ) : Type 0 where
  pub points : length m.points ≡ g
  pub used : m.used ≡ n
  pub live : m.live ≡ in_slots 0 (first_tris n xs)

-- the memory stands for each such mesh
pub record Builds (w w' : List ℕ) (s p : ℕ) (xs : List ℕ) (n g : ℕ) : Type 0 where
  pub rep : (m : Mesh) → IsNew m xs n g → Rep w' s p m
  pub keeps : Keeps w w' (mesh_end s p)

-- what that asks
pub record CanBuild (w : List ℕ) (s p : ℕ) (xs : List ℕ) (n g : ℕ) : Type 0 where
  pub room : Room w s p
  pub slots : n ≤ s
  pub points : g ≤ p
  pub long : 3 * n ≤ length xs
  pub given : Given xs n g

-- the memory stands for each mesh with no live cell, whatever its points and used slots
pub record Empties (w w' : List ℕ) (s p : ℕ) : Type 0 where
  pub rep : (m : Mesh) → m.used ≤ s → length m.points ≤ p → m.live ≡ [] → Rep w' s p m
  pub keeps : Keeps w w' (mesh_end s p)
