-- The walls of a triangle: its edges that two triangles do not share.
use Rattle.std.specs.Prelude.{Bool, true, false, List, [], ◌∷◌, ℕ, zero, suc, ◌+◌, ◌*◌}
use Rattle.definition.specs.Plane.{Edge}
use Rattle.live_regions.specs.declared.stack.Tally.{Tally}
use Rattle.live_regions.specs.declared.stack.Tally.TheVariants.{None, One, Two, Other}
use Rattle.definition.specs.Cells.{Live, Mesh, edges, live_tri}
use Rattle.definition.specs.Candidates.{shared_by_tris}

-- what an edge adds to the mark of its triangle: k where it is a wall
abbrev pub counted : Bool → ℕ → ℕ
counted true k = 0
counted false k = k

-- what edges add, each twice as much as the one before
abbrev pub wall_sum : Mesh → ℕ → List Edge → ℕ
wall_sum m k [] = 0
wall_sum m k (e ∷ l) = counted (shared_by_tris m e) k + wall_sum m (2 * k) l

-- the mark of a listed triangle: 8, and 1, 2 and 4 for its walls in the order of the edges
unfoldable pub wall_mark : Mesh → Live → ℕ
wall_mark m x = 8 + wall_sum m 1 (edges x.cell)

-- ---- owners met one after the other

-- the tally k with one more, which is a triangle or not:
-- their number while all are triangles and at most two, 3 otherwise
abbrev pub tally_with : Bool → ℕ → ℕ
tally_with true zero = 1
tally_with true (suc zero) = 2
tally_with true (suc (suc k)) = 3
tally_with false k = 3

-- a tally as such a number
abbrev pub number_of : Tally → ℕ
number_of None = 0
number_of One = 1
number_of Two = 2
number_of Other = 3

-- the tally k with all of a list
abbrev pub tally : ℕ → List Live → ℕ
tally k [] = k
tally k (x ∷ l) = tally (tally_with (live_tri x) k) l
