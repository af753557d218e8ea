-- What the search for a crossing edge asks and gives.
use Rattle.std.specs.Prelude.{◌≡◌, ◌*◌, ◌<◌, ◌≤◌}
use Rattle.laws.specs.Kit.{Bool, true, some, ℕ, List, length, Float}
use Rattle.definition.specs.Floats.{◌⊘◌}
use Rattle.definition.specs.Root.{floor}
use Rattle.definition.specs.Cells.{Mesh, has_edge}
use Rattle.definition.specs.Call.{first_points}
use Rattle.definition.specs.Flips.{ranges_meet, is_crossing, first_crossing}
use Rattle.cells.specs.Rep.{Rep, Pts}

-- four coordinates' buckets: the range of the first two meets that of the others
unfoldable pub axis_meets : Float → Float → Float → Float → Float → Bool
axis_meets side p q r s = ranges_meet (floor (p ⊘ side)) (floor (q ⊘ side)) (floor (r ⊘ side)) (floor (s ⊘ side))

-- work slice and points slice stand for a mesh of n points with this bucket
pub record Known (w : List ℕ) (q : List Float) (s p n : ℕ) (bucket : Float) (m : Mesh) : Type 0 where
  pub rep : Rep w s p m
  pub pts : Pts q p m
  pub count : length m.points ≡ n
  pub side : m.bucket ≡ bucket

-- the mesh's points are the first n of the slice
pub record Drawn (q : List Float) (n : ℕ) (bucket : Float) (m : Mesh) : Type 0 where
  pub are : m.points ≡ first_points n q
  pub side : m.bucket ≡ bucket

-- the ends of a segment
pub record Segment (n u v : ℕ) : Type 0 where
  pub first : u < n
  pub second : v < n
  pub apart : u ≡ v → ⊥

-- the nodes are among the n points of the slice
pub record CanTry (q : List Float) (n u v a : ℕ) : Type 0 where
  pub fits : 3 * n ≤ length q
  pub u_known : u < n
  pub v_known : v < n
  pub a_known : a < n

-- r is x where that is above a and below best and the edge a-x crosses, else best
pub data Choice (m : Mesh) (u v a x best r : ℕ) : Type 0 where
  stays : r ≡ best → (a < x → x < best → is_crossing m u v (a, x) ≡ true → ⊥) → Choice m u v a x best r
  takes : r ≡ x → x < best → a < x → is_crossing m u v (a, x) ≡ true → Choice m u v a x best r

-- the mesh has the edge a-b and it crosses u-v
pub record Meets (m : Mesh) (u v a b : ℕ) : Type 0 where
  pub up : a < b
  pub edge : has_edge m a b ≡ true
  pub crosses : is_crossing m u v (a, b) ≡ true

-- r is the least b such that a-b crosses u-v; n: there is none
pub record LeastAt (m : Mesh) (n u v a r : ℕ) : Type 0 where
  pub most : r ≤ n
  pub meets : r < n → Meets m u v a r
  pub least : (b : ℕ) → Meets m u v a b → r ≤ b

-- no edge whose smaller node is below a crosses
abbrev pub NoneBelow : Mesh → ℕ → ℕ → ℕ → Type 0
NoneBelow m u v a = (x y : ℕ) → x < a → Meets m u v x y → ⊥

-- a-b is the first crossing edge
pub record FirstAt (m : Mesh) (n u v a b : ℕ) : Type 0 where
  pub is : first_crossing m u v ≡ some (a, b)
  pub up : a < b
  pub known : b < n
  pub none_below : NoneBelow m u v a
