-- The front edges of one node by its note, and the note written after a walk of the node's ring.
use Rattle.std.specs.Prelude.{◌≡◌, ◌≢◌, ◌+◌, ◌*◌, ◌%◌, ◌<◌, ◌≤◌}
use Rattle.laws.specs.Kit.{ℕ, suc, List, length, get_or}
use Rattle.definition.specs.Cells.{Mesh, front_at}
use Rattle.cells.specs.Layout.{notes_at, fronts_at, boxes_at, even_at, mesh_end, front_u_at, front_v_at, front_links_at}
use Rattle.cells.specs.Rep.{Room, Rep}
use Rattle.cells.specs.Notes.{note, noted}
use Rattle.front_edges.specs.Runs.{pairs, Run, PutTo, CanWalk}

-- ---- a note is written

-- the words that the note of node u stands in are the same
pub record SameNote (w w' : List ℕ) (s p u : ℕ) : Type 0 where
  pub word : note w' s p u ≡ note w s p u
  pub fronts : u < s → (i : ℕ) → fronts_at s p + 2 * u ≤ i → i < fronts_at s p + 2 * u + 2 → get_or w' i 0 ≡ get_or w i 0
  pub boxes : u < s → (i : ℕ) → boxes_at s p + 4 * u ≤ i → i < boxes_at s p + 4 * u + 4 → get_or w' i 0 ≡ get_or w i 0

-- what a front part of the note of u asks: there is none
pub record CanMark (w : List ℕ) (s p u : ℕ) : Type 0 where
  pub room : Room w s p
  pub known : u < p
  pub free : note w s p u % 4 ≡ 0

-- what a front part of the note of u asks, for other ends that stand in places below k
pub record CanKeep (w : List ℕ) (s p u k : ℕ) : Type 0 where
  pub mark : CanMark w s p u
  pub low : u < s
  pub inside : k ≤ 3 * s

-- the other ends vs are noted at u, and nothing else changed
pub record Marked (w w' : List ℕ) (s p u : ℕ) (vs : List ℕ) : Type 0 where
  pub len : length w' ≡ length w
  pub below : (i : ℕ) → i < notes_at s p → get_or w' i 0 ≡ get_or w i 0
  pub even : get_or w' (even_at s p) 0 ≡ get_or w (even_at s p) 0
  pub beyond : (i : ℕ) → mesh_end s p ≤ i → get_or w' i 0 ≡ get_or w i 0
  pub others : (v : ℕ) → v < p → v ≢ u → SameNote w w' s p v
  pub boxes : u < s → (i : ℕ) → boxes_at s p + 4 * u ≤ i → i < boxes_at s p + 4 * u + 4 → get_or w' i 0 ≡ get_or w i 0
  pub word : note w' s p u ≡ note w s p u + suc (length vs)
  pub are : noted w' s p u ≡ vs

-- the front edges of u, whose note has no front part, stand in the places from `from` to r
pub record CanNote (w : List ℕ) (s p u from r : ℕ) (m : Mesh) : Type 0 where
  pub rep : Rep w s p m
  pub known : u < length m.points
  pub free : note w s p u % 4 ≡ 0
  pub inside : r ≤ 3 * s
  pub vs : List ℕ
  pub run : Run w s p u from r vs
  pub are : pairs u vs ≡ front_at m u

-- nothing changed but notes, and they are true
pub record NoteTo (w w' : List ℕ) (s p : ℕ) (m : Mesh) : Type 0 where
  pub len : length w' ≡ length w
  pub below : (i : ℕ) → i < notes_at s p → get_or w' i 0 ≡ get_or w i 0
  pub beyond : (i : ℕ) → mesh_end s p ≤ i → get_or w' i 0 ≡ get_or w i 0
  pub rep : Rep w' s p m

-- ---- a note is read

-- what the copy of noted edge j of u to place k asks
pub record CanCopy (w : List ℕ) (s p u j k : ℕ) : Type 0 where
  pub room : Room w s p
  pub known : u < p
  pub low : u < s
  pub one : j < 2
  pub inside : k < 3 * s

-- noted edge j of u stands in place k
abbrev pub CopyTo : List ℕ → List ℕ → ℕ → ℕ → ℕ → ℕ → ℕ → Type 0
CopyTo w w' s p u j k = PutTo w w' s p u (get_or w (fronts_at s p + 2 * u + j) 0) k

-- what the copy of the noted edges of u asks: x is the front part of the note, and there is one
pub record CanRepeat (w : List ℕ) (s p u from x : ℕ) (m : Mesh) : Type 0 where
  pub walk : CanWalk w s p u from m
  pub is : x ≡ note w s p u % 4
  pub some : x ≢ 0

-- what the walk around u asks: there is no front part of its note
pub record CanSearch (w : List ℕ) (s p u from : ℕ) (m : Mesh) : Type 0 where
  pub walk : CanWalk w s p u from m
  pub free : note w s p u % 4 ≡ 0

-- ---- the edges of one node

-- nothing changed but notes and edges in the places from `from` on
pub record Past (w w' : List ℕ) (s p from : ℕ) : Type 0 where
  pub len : length w' ≡ length w
  pub below : (i : ℕ) → i < notes_at s p → get_or w' i 0 ≡ get_or w i 0
  pub firsts : (i : ℕ) → mesh_end s p ≤ i → i < front_u_at s p + from → get_or w' i 0 ≡ get_or w i 0
  pub seconds : (i : ℕ) → front_v_at s p ≤ i → i < front_v_at s p + from → get_or w' i 0 ≡ get_or w i 0
  pub behind : (i : ℕ) → front_links_at s p ≤ i → get_or w' i 0 ≡ get_or w i 0

-- the front edges of u stand in the places from `from` to r, and the notes are true
pub record EdgesTo (w w' : List ℕ) (s p u from r : ℕ) (m : Mesh) : Type 0 where
  pub vs : List ℕ
  pub run : Run w' s p u from r vs
  pub are : pairs u vs ≡ front_at m u
  pub past : Past w w' s p from
  pub rep : Rep w' s p m
