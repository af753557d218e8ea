-- The tests that open a replay, and the mesh that it starts from.
use Rattle.std.specs.Prelude.{◌≡◌, ◌≤◌}
use Rattle.laws.specs.Kit.{false, ℕ, List, length}
use Rattle.definition.specs.Lists.{find}
use Rattle.definition.specs.Cells.{Mesh}
use Rattle.definition.specs.Front.{new_mesh}
use Rattle.definition.specs.Call.{Lent, given_points, given_tris, settings}
use Rattle.definition.specs.Replay.{Told, as_asked, replay_conditions}
use Rattle.refusals.specs.Passed.{Passed}
use Rattle.refusals.specs.Refusals.{number_of}
use Rattle.retrace.specs.Plays.{Plays}
use Rattle.retrace.specs.Plays.{State}

-- the number of the first condition that holds; 0: none does
unfoldable pub opening_number : Told → Lent → ℕ
opening_number t l = number_of (find (λ c. c.1) (replay_conditions t l))

-- what a replay has that none of them refuses: all that a call has, and the words of its trace
pub record Opened (t : Told) (l : Lent) : Type 0 where
  pub passed : Passed (as_asked t) l
  pub words : t.words ≤ length l.trace

-- the mesh of the given triangles; no edge is locked
abbrev pub first_mesh : Told → Lent → Mesh
first_mesh t l = new_mesh (settings (as_asked t)) (λ e. false) (given_tris (as_asked t) l) (given_points (as_asked t) l)

-- a replay that is not refused before its entries, and the slices that building its mesh reads and writes
pub record CanBegin (w ts : List ℕ) (t : Told) (l : Lent) : Type 0 where
  pub opened : opening_number t l ≡ 0
  pub triangles : l.triangles ≡ ts
  pub work : l.work ≡ w

-- the mesh is built, and no word is read
pub record Begins (w' : List ℕ) (t : Told) (l : Lent) (r : State) : Type 0 where
  pub plays : Plays w' l.points l.quads t.slots t.capacity l.points l.quads r (first_mesh t l)
  pub at : r.at ≡ 0
