-- The meshes within an attempt: what the steps that change a mesh keep, in the words that the proofs of the code use.
use Rattle.std.specs.Prelude.{◌≡◌}
use Rattle.laws.specs.Kit.{refl, ◌∙◌, some, ℕ, List}
use Rattle.definition.specs.Plane.{Node, Edge}
use Rattle.definition.specs.Cells.{Tri, tri, Live, Mesh, all_edges}
use Rattle.definition.specs.Flips.{flip, recover}
use Rattle.definition.specs.Insertion.{split_triangle}
use Rattle.definition.specs.Attempt.{recover_all}
use Rattle.laws.specs.Lists.{In}
use Rattle.account.specs.Flips.{TriAt}
use Rattle.account.specs.Valid.{Valid}

-- a mesh that flips made of another one
pub record Turned (m m' : Mesh) : Type 0 where
  pub valid : Valid m'
  pub points : m'.points ≡ m.points
  pub used : m'.used ≡ m.used
  -- a slot with a triangle keeps one
  pub tris : (id : ℕ) → TriAt m id → TriAt m' id
