-- What is promised of the filing order: it is a total order on the classes of meshes that are the
-- same, and which meshes those are.
use Rattle.std.specs.Prelude.{◌≡◌, ◌∷◌}
use Rattle.laws.specs.Kit.{true, List, [], map, eq}
use Rattle.definition.specs.Plane.{Node}
use Rattle.definition.specs.Account.{All, Rearranged}
use Rattle.refusals.specs.Refusals.{number_of}
use Rattle.filing.specs.Filing.{rotated, Input, Mesh, refused}
use Rattle.filing.specs.Coordinates.{Numeric}

-- ---- the parts
-- x and y are numbers
abbrev pub Placed : Node → Type 0
Placed p = Numeric p.x × Numeric p.y

-- x and y agree as numbers, point by point, and there are as many
abbrev pub Agree : List Node → List Node → Type 0
Agree [] [] = Unit {0}
Agree [] (q ∷ qs) = ⊥
Agree (p ∷ ps) [] = ⊥
Agree (p ∷ ps) (q ∷ qs) = ((eq p.x q.x ≡ true) × (eq p.y q.y ≡ true)) × Agree ps qs

-- every x and y of a mesh is a number; test 7 leaves only such meshes
abbrev pub Numbered : Input → Type 0
Numbered a = All Placed a.points

-- two meshes are filed as one: the points agree, and the triangles up to rotation and list order, repeats counted
pub record Alike (a b : Input) : Type 0 where
  pub points : Agree a.points b.points
  pub tris : Rearranged (map rotated a.tris) (map rotated b.tris)

-- ---- meshes that pass their tests
-- none of 1, 4, 5, 6 and 7 holds
abbrev pub Accepted : Mesh → Type 0
Accepted m = number_of (refused m) ≡ 0
