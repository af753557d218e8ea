-- The list of the cells reached and a mark for each slot, beyond the mesh.
use Rattle.std.specs.Prelude.{◌≡◌, ◌+◌, ◌*◌, ◌^◌, ◌<◌, ◌≤◌, ◌∷◌, ◌++◌}
use Rattle.std.specs.Prelude.{None, Some, Option as Answer}
use Rattle.laws.specs.Kit.{true, cond, Option, none, some, ℕ, List, [], length, get_or}
use Rattle.rings.specs.Rings.{Distinct}
use Rattle.definition.specs.Lists.{any}
use Rattle.definition.specs.Cells.{Live, Mesh, live_tri, in_slot}
use Rattle.laws.specs.Lists.{Stored}
use Rattle.laws.specs.Frames.{Under, Keeps}
use Rattle.cells.specs.Layout.{mesh_end, marks_at, list_at, refused_at}
use Rattle.cells.specs.Rep.{slots, Has, Rep}

-- ---- what is stored

-- the cells are triangles
abbrev pub Tris : List Live → Type 0
Tris [] = Unit {0}
Tris (x ∷ l) = (live_tri x ≡ true) × Tris l

-- the n cells xs, live triangles in slots that differ, are listed in their order
pub record Listed (w : List ℕ) (s p n : ℕ) (m : Mesh) (xs : List Live) : Type 0 where
  pub rep : Rep w s p m
  pub len : n ≡ length xs
  pub many : 1 ≤ n
  pub distinct : Distinct (slots xs)
  pub live : (x : Live) → Has x xs → Has x m.live
  pub tris : Tris xs
  pub stored : Stored w (list_at s p) (slots xs)

-- they are listed, and of the slots given out those marked are theirs
pub record State (w : List ℕ) (s p n : ℕ) (m : Mesh) (xs : List Live) : Type 0 where
  pub list : Listed w s p n m xs
  pub marks : (i : ℕ) → i < m.used → get_or w (marks_at s p + i) 0 ≡ cond (any (in_slot i) xs) 1 0

-- ---- what a function asks

-- place i of the list, or the mark of slot i
pub record CanList (w : List ℕ) (s p i : ℕ) : Type 0 where
  pub fits : 22 * s + 3 * p ≤ length w
  pub small : 4 * s + p ≤ 2 ^ 32
  pub inside : i < s

-- the marks of the first n slots are there
pub record CanMark (w : List ℕ) (s p n : ℕ) : Type 0 where
  pub fits : 22 * s + 3 * p ≤ length w
  pub small : 4 * s + p ≤ 2 ^ 32
  pub few : n ≤ s

-- the live cell x of slot j is met with xs listed
pub record Seen (w : List ℕ) (s p n j : ℕ) (m : Mesh) (xs : List Live) (x : Live) : Type 0 where
  pub state : State w s p n m xs
  pub live : Has x m.live
  pub slot : j ≡ x.slot

-- ---- what it gives

-- nothing but marks and lists changed
pub record Aside (w w' : List ℕ) (s p : ℕ) : Type 0 where
  pub under : Under w w' (mesh_end s p)
  pub keeps : Keeps w w' (refused_at s p)

-- none of the first n slots is marked, and nothing but marks changed
pub record Cleared (w w' : List ℕ) (s p n : ℕ) : Type 0 where
  pub under : Under w w' (marks_at s p)
  pub keeps : Keeps w w' (list_at s p)
  pub marks : (i : ℕ) → i < n → get_or w' (marks_at s p + i) 0 ≡ 0

-- the r cells xs are listed
pub record Grown (w w' : List ℕ) (s p r : ℕ) (m : Mesh) (xs : List Live) : Type 0 where
  pub state : State w' s p r m xs
  pub aside : Aside w w' s p

-- the answer: none, or the number of cells, which are listed behind those of done
abbrev pub Reached : List ℕ → List ℕ → ℕ → ℕ → Mesh → List Live → Option (List Live) → Answer ℕ → Type 0
Reached w w' s p m done none None = Aside w w' s p
Reached w w' s p m done none (Some r) = ⊥
Reached w w' s p m done (some xs) None = ⊥
Reached w w' s p m done (some xs) (Some r) = Grown w w' s p r m (done ++ xs)
