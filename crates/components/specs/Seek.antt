-- A walk along the ring of a node past the triangles listed, which can be taken up again.
use Rattle.std.specs.Prelude.{None, Some, Option as Answer, ◌≡◌, ◌⊎◌, ◌*◌, ◌/◌, ◌<◌}
use Rattle.laws.specs.Kit.{Bool, true, false, ℕ, List}
use Rattle.rings.specs.Rings.{Out}
use Rattle.definition.specs.Cells.{Live, Mesh, live_tri}
use Rattle.laws.specs.Lists.{In}
use Rattle.cells.specs.Rep.{slots}
use Rattle.cells.specs.Walk.{Pos}
use Rattle.components.specs.Flood.{Marked, OneOf, At}

-- whether x is a triangle that has y or z and is not listed
pub record IsNew (xs : List Live) (x : Live) (y z : ℕ) (r : Bool) : Type 0 where
  pub yes : r ≡ true → (live_tri x ≡ true) × Out x.slot (slots xs) × OneOf y z x
  pub no : r ≡ false → live_tri x ≡ true → OneOf y z x → In x xs

-- with xs listed, c is a place in the ring of u: the corners of the cells of `rest` follow
pub record Ring (w : List ℕ) (s p k u c : ℕ) (m : Mesh) (xs rest : List Live) : Type 0 where
  pub state : Marked w s p k m xs
  pub pos : Pos w s p u c rest
  pub part : (e : Live) → In e rest → In e m.live

-- in slot j is a triangle at u that has y or z and is not listed
pub record Fresh (u y z j : ℕ) (m : Mesh) (xs : List Live) : Type 0 where
  pub x : Live
  pub live : In x m.live
  pub slot : j ≡ x.slot
  pub is_tri : live_tri x ≡ true
  pub out : Out x.slot (slots xs)
  pub at : At u y z x

-- of the triangles of `rest` at u that have y or z, those before the corner r are listed
pub record Passed (w : List ℕ) (s p k u y z r : ℕ) (m : Mesh) (xs rest : List Live) : Type 0 where
  pub ahead : List Live
  pub ring : Ring w s p k u r m xs ahead
  pub all : (e : Live) → In e rest → live_tri e ≡ true → At u y z e → In e xs ⊎ In e ahead

-- and at r is one that is not, unless the ring ends there
pub record Sought (w : List ℕ) (s p k u y z r : ℕ) (m : Mesh) (xs rest : List Live) : Type 0 where
  pub passed : Passed w s p k u y z r m xs rest
  pub here : r < 4 * s → Fresh u y z (r / 4) m xs

-- r is the slot of a live triangle that is not listed; none where each that P speaks of is listed
pub data Looked (s : ℕ) (r : Answer ℕ) (m : Mesh) (xs : List Live) (P : Live → Type 0) : Type 0 where
  nobody : r ≡ None → ((y : Live) → In y m.live → live_tri y ≡ true → P y → In y xs) → Looked s r m xs P
  somebody : (y : Live) → In y m.live → live_tri y ≡ true → r ≡ Some y.slot → y.slot < s → Out y.slot (slots xs) → Looked s r m xs P
