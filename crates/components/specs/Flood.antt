-- Triangles listed and marked, and what a flood over shared edges adds to them.
use Rattle.std.specs.Prelude.{◌≡◌, ◌⊎◌, ◌+◌, ◌<◌, ◌++◌}
use Rattle.laws.specs.Kit.{Bool, true, cond, ℕ, List, length, get_or}
use Rattle.rings.specs.Rings.{Distinct}
use Rattle.definition.specs.Lists.{any}
use Rattle.definition.specs.Cells.{Tri, Cell, tri, quad, Live, Mesh, new_tri, new_live, live_tri, in_slot}
use Rattle.laws.specs.Lists.{In, Stored}
use Rattle.account.specs.Triangles.{Has as Corner, Shares}
use Rattle.cells.specs.Layout.{marks_at, list_at}
use Rattle.cells.specs.Rep.{Rep, slots}
use Rattle.regions.specs.Listing.{Tris, Aside}

-- ---- triangles

-- the cell's triangle, where it is one
abbrev pub cell_tri : Cell → Tri
cell_tri (tri t) = t
cell_tri (quad q) = new_tri 0 0 0

-- the triangle of a live cell
abbrev pub body : Live → Tri
body x = cell_tri x.cell

-- the triangle in slot i
abbrev pub tri_live : ℕ → Tri → Live
tri_live i t = new_live i (tri t)

-- it has y or z
abbrev pub OneOf : ℕ → ℕ → Live → Type 0
OneOf y z e = Corner (body e) y ⊎ Corner (body e) z

-- a triangle at u that has y or z too
abbrev pub At : ℕ → ℕ → ℕ → Live → Type 0
At u y z e = Corner (body e) u × OneOf y z e

-- a triangle that shares an edge with t
abbrev pub Beside : Tri → Live → Type 0
Beside t e = Shares t (body e)

-- ---- what shared edges lead to

-- a set of triangles that no edge shared outside xs leaves
abbrev pub Whole : (Tri → Bool) → Mesh → List Live → Type 0
Whole c m xs =
    (y z : Live) → In y m.live → In z m.live → live_tri y ≡ true → live_tri z ≡ true → (In y xs → ⊥) → (In z xs → ⊥) → Shares (body y) (body z)
    → c (body y) ≡ c (body z)

-- of the triangles `all`, x among them, each is led to from x by edges shared outside xs;
-- across those of the ones that are done lies none but of xs and them
pub record Reach (m : Mesh) (xs : List Live) (x : Live) (done all : List Live) : Type 0 where
  pub first : In x all
  pub linked : (c : Tri → Bool) → Whole c m xs → (y : Live) → In y all → c (body y) ≡ c (body x)
  pub closed : (y z : Live) → In y done → In z m.live → live_tri z ≡ true → Shares (body y) (body z) → In z (xs ++ all)

-- ---- what is stored

-- the n cells xs, live triangles in slots that differ, are listed in their order,
-- and of the slots given out those marked are theirs
pub record Marked (w : List ℕ) (s p n : ℕ) (m : Mesh) (xs : List Live) : Type 0 where
  pub rep : Rep w s p m
  pub len : n ≡ length xs
  pub distinct : Distinct (slots xs)
  pub live : (x : Live) → In x xs → In x m.live
  pub tris : Tris xs
  pub stored : Stored w (list_at s p) (slots xs)
  pub marks : (i : ℕ) → i < m.used → get_or w (marks_at s p + i) 0 ≡ cond (any (in_slot i) xs) 1 0

-- the live cell x of slot j is met with xs listed
pub record Seen (w : List ℕ) (s p n j : ℕ) (m : Mesh) (xs : List Live) (x : Live) : Type 0 where
  pub state : Marked w s p n m xs
  pub live : In x m.live
  pub slot : j ≡ x.slot

-- ---- what a function gives

-- the cells listed are marked too
pub record MarkedTo (w w' : List ℕ) (s p n : ℕ) (m : Mesh) (xs : List Live) : Type 0 where
  pub state : Marked w' s p n m xs
  pub aside : Aside w w' s p

-- the cells that P speaks of were met with xs listed: the triangles among them are listed
pub record Met (w w' : List ℕ) (s p r : ℕ) (m : Mesh) (xs : List Live) (P : Live → Type 0) : Type 0 where
  pub new : List Live
  pub state : Marked w' s p r m (xs ++ new)
  pub aside : Aside w w' s p
  pub from : (y : Live) → In y new → P y
  pub all : (y : Live) → In y m.live → live_tri y ≡ true → P y → In y (xs ++ new)

-- a flood from x with xs listed, up to place `head` of the list:
-- done are those whose edges were crossed, todo those still to come
pub record Flooding (w₀ w : List ℕ) (s p k head : ℕ) (m : Mesh) (xs : List Live) (x : Live) : Type 0 where
  pub done : List Live
  pub todo : List Live
  pub state : Marked w s p k m (xs ++ (done ++ todo))
  pub aside : Aside w₀ w s p
  pub at : head ≡ length xs + length done
  pub reach : Reach m xs x done (done ++ todo)

-- with xs listed, the triangles that shared edges lead to from x are listed behind them
pub record Flooded (w w' : List ℕ) (s p r : ℕ) (m : Mesh) (xs : List Live) (x : Live) : Type 0 where
  pub new : List Live
  pub state : Marked w' s p r m (xs ++ new)
  pub aside : Aside w w' s p
  pub reach : Reach m xs x new new

-- slot i holds no triangle but those of xs, and nothing changed; or the component of its triangle is listed
pub data Taken (w w' : List ℕ) (s p n r i : ℕ) (m : Mesh) (xs : List Live) : Type 0 where
  nothing : r ≡ n → Marked w' s p n m xs → Aside w w' s p → ((y : Live) → In y m.live → live_tri y ≡ true → y.slot ≡ i → In y xs) → Taken w w' s p n r i m xs
  component : (x : Live) → x.slot ≡ i → Flooded w w' s p r m xs x → Taken w w' s p n r i m xs
