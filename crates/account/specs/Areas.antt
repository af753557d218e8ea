-- On the grid of 1 / 1024 a flip keeps the triangles' summed area, and a quad has that of the triangles it replaces.
-- Areas are exact, doubled and without sign.
use Rattle.std.specs.Prelude.{◌≡◌, ◌≢◌, ◌⊎◌, ◌&&◌, ◌+◌, ◌≤◌, ◌∷◌, ◌++◌}
use Rattle.laws.specs.Kit.{sym, ◌∙◌, ap, ap₂, inl, inr, not, some, ℕ, arith, eqb, List, []}
use Rattle.definition.specs.Plane.{Node, Edge, point}
use Rattle.definition.specs.Cells.{Tri, Quad, Live, Mesh, node_at, all_edges, tris_of}
use Rattle.definition.specs.Flips.{third, apart, convex_pair}
use Rattle.definition.specs.Region.{region}
use Rattle.definition.specs.Attempt.{replaced}
use Rattle.definition.specs.Exact.{twice_tri}
use Rattle.definition.specs.Account.{sum, tri_area, quad_area, tris_area}
use Rattle.exact.specs.Areas.{Placed}
use Rattle.exact.proofs.Areas.{tri_turned, tri_swapped}
use Rattle.exact.proofs.Diagonals.{flip_areas}
use Rattle.exact.proofs.Agrees.{agrees_exactly}
use Rattle.laws.specs.Bools.{both}
use Rattle.laws.specs.Lists.{In}
use Rattle.account.specs.Triangles.{Corners}
use Rattle.account.specs.Flips.{Flipped, TriAt}
use Rattle.account.specs.Valid.{Valid}

-- ---- a triangle by its nodes in any order
-- x is one of the three
abbrev pub Of : ℕ → ℕ → ℕ → ℕ → Type 0
Of x a b c = (x ≡ a) ⊎ (x ≡ b) ⊎ (x ≡ c)

-- the area of the nodes u, v and p
abbrev pub area_at : List Node → ℕ → ℕ → ℕ → ℕ
area_at ps u v p = twice_tri (point ps u) (point ps v) (point ps p)

-- ---- a flip
-- every node is a point of the grid
abbrev pub AllPlaced : List Node → Type 0
AllPlaced ps = (v : ℕ) → Placed (point ps v)
