-- The replay of a trace: the given mesh, changed by the trace's entries one after the other.
use Rattle.std.specs.Prelude.{Bool, true, false, not, ◌&&◌, cond, List, [], ◌∷◌, ℕ, zero, suc, ◌+◌, leb, ltb, eqb, length, get_or, take, drop}
use Rattle.std.proofs.Math.Option.{Option, none, some}
use Rattle.definition.specs.Lists.{any, all, find, flat_map, contains}
use Rattle.definition.specs.Floats.{0·0}
use Rattle.definition.specs.Numbers.{Settings, base}
use Rattle.definition.specs.Counts.{number, of_slots}
use Rattle.definition.specs.Plane.{Node, flat}
use Rattle.definition.specs.Cells.{Quad, Live, Event, was_split, was_flipped, was_placed, Mesh, quad_nodes, live_tri, cell_of, triangles}
use Rattle.definition.specs.Trace.{double_of, quads_placed}
use Rattle.definition.specs.Flips.{flip}
use Rattle.definition.specs.Insertion.{Inserted, nowhere, inserted, full, holds, split}
use Rattle.definition.specs.Components.{component_sizes}
use Rattle.definition.specs.Attempt.{replaced}
use Rattle.definition.specs.Front.{new_mesh}
use Rattle.definition.specs.Call.{Asked, Lent, Lengths, given_points, given_tris, over_limit, too_short, unknown_node, repeated_node, far_point, settings, written}

-- ---- reading an entry

-- what an entry says, and the words after it
pub record Read : Type 0 where
  pub event : Event
  pub rest : List ℕ

-- an entry was read
unfoldable pub reading : Event → List ℕ → Option Read
reading v ws = some (record { event = v; rest = ws })

-- the word at a place
unfoldable pub word : List ℕ → ℕ → ℕ
word ws i = get_or ws i 0

-- the words begin with this kind, and so many words are there
unfoldable pub is_kind : ℕ → ℕ → List ℕ → Bool
is_kind k n ws = eqb (word ws 0) k && leb n (length ws)

-- the quad of an entry; it replaced as many triangles as the entry has slots
unfoldable pub entered_quad : List ℕ → Quad
entered_quad ws =
    record { n0 = word ws 1; n1 = word ws 2; n2 = word ws 3; n3 = word ws 4; edge = (word ws 5, word ws 6); round = word ws 7; replaced = word ws 8 }

-- the entry that the words begin with; none where it is cut short or of another kind
unfoldable pub read_entry : List ℕ → Option Read
read_entry ws =
    let split_one = was_split (word ws 1) (flat (double_of (word ws 2) (word ws 3)) (double_of (word ws 4) (word ws 5))) in
    let n = word ws 8 in
    let tail = drop 9 ws in
    let placed_one = was_placed (entered_quad ws) (take n tail) in
    let quad_entry = cond (is_kind 4 9 ws && leb n (length tail)) (reading placed_one (drop n tail)) none in
    let flip_entry = cond (is_kind 2 3 ws) (reading (was_flipped (word ws 1, word ws 2)) (drop 3 ws)) quad_entry in
    cond (is_kind 1 6 ws) (reading split_one (drop 6 ws)) flip_entry

-- ---- one entry

-- the mesh after it, or the number of the refusal that stops the replay: 12 before 8 and 9
pub data Redone : Type 0 where
  redone : Mesh → Redone
  balked : ℕ → Redone

-- the entry cannot have been made
unfoldable pub unsound : ℕ
unsound = 12

-- what a split entry does, as the split ends
unfoldable pub redo_inserted : Inserted → Redone
redo_inserted nowhere = balked unsound
redo_inserted (inserted v m) = redone m
redo_inserted (full w) = balked (number w)

-- the slot's cell is a triangle that holds the point
unfoldable pub redo_split : Settings → Mesh → Node → Option Live → Redone
redo_split s m p none = balked unsound
redo_split s m p (some x) = let go = redo_inserted (split s m p x.slot x.cell) in cond (holds m p x.cell) go (balked unsound)

-- what a flip entry does, as the flip ends
unfoldable pub redo_flipped : Option Mesh → Redone
redo_flipped none = balked unsound
redo_flipped (some m) = redone m

-- the cells of some slots, in their order
unfoldable pub cells_in : Mesh → List ℕ → List Live
cells_in m ids = flat_map (λ id. elim (cell_of m id) [ none ↦ [] | some x ↦ x ∷ [] ]) ids

-- no number stands twice
unfoldable pub all_different : List ℕ → Bool
all_different [] = true
all_different (n ∷ ns) = let rest = all_different ns in not (contains ns n) && rest

-- every slot has a triangle
unfoldable pub triangles_in : Mesh → List ℕ → Bool
triangles_in m ids = all (λ id. any live_tri (cells_in m (id ∷ []))) ids

-- what an entry does
unfoldable pub redo : Settings → Mesh → Event → Redone
redo s m (was_split id p) = redo_split s m p (cell_of m id)
redo s m (was_flipped e) = let go = redo_flipped (flip m e) in cond (ltb e.0 e.1 && ltb e.1 (length m.points)) go (balked unsound)
redo s m (was_placed q ids) =
    let known = all (λ v. ltb v (length m.points)) (quad_nodes q) in
    let there = triangles_in m ids && all_different ids in
    let go = cond (ltb s.slots (m.used + 1)) (balked (number of_slots)) (redone (replaced m q (cells_in m ids))) in
    cond (known && there) go (balked unsound)

-- ---- the whole trace

-- the mesh after every entry, or the refusal's number and the mesh before the entry that was refused
pub data Replayed : Type 0 where
  whole : Mesh → Replayed
  broken : ℕ → Mesh → Replayed

-- at most n entries
unfoldable pub replay_in : ℕ → Settings → Mesh → List ℕ → Replayed
replay_in zero s m ws = whole m
replay_in (suc n) s m [] = whole m
replay_in (suc n) s m (w ∷ ws) =
    elim (read_entry (w ∷ ws)) [
      | none ↦ broken unsound m
      | some r ↦ elim (redo s m r.event) [
        | redone m' ↦ replay_in n s m' r.rest
        | balked k ↦ broken k m
      ]
    ]

-- an entry has a word at least
unfoldable pub replay_words : Settings → Mesh → List ℕ → Replayed
replay_words s m ws = replay_in (length ws) s m ws

-- ---- the call

-- the numbers that the caller states: given points, point capacity, triangles, slots, words of the trace
pub record Told : Type 0 where
  pub given : ℕ
  pub capacity : ℕ
  pub count : ℕ
  pub slots : ℕ
  pub words : ℕ

-- a replay knows no joints, size, stop rule, quality set or profile
unfoldable pub as_asked : Told → Asked
as_asked t =
    record {
      given = t.given;
      capacity = t.capacity;
      count = t.count;
      slots = t.slots;
      joints = 0;
      size = 0·0;
      stop = 0;
      quality = base;
      grid = false;
    }

-- the lengths of the lists, or a refusal's number
pub data ReplayAnswer : Type 0 where
  rebuilt : Lengths → ReplayAnswer
  unplayed : ℕ → ReplayAnswer

-- the answer, and the contents of the slices at exit
pub record ReplayReturned : Type 0 where
  pub answer : ReplayAnswer
  pub lent : Lent

-- 1 and 4 to 7 open a replay
unfoldable pub replay_conditions : Told → Lent → List (ℕ × Bool)
replay_conditions t l =
    let a = as_asked t in
    (1, over_limit a) ∷ (4, too_short a l) ∷ (4, ltb (length l.trace) t.words)
    ∷ (5, unknown_node a l) ∷ (6, repeated_node a l) ∷ (7, far_point a l) ∷ []

-- a replay writes what the run wrote, and no trace: 0 words;
-- one that breaks off leaves the points added and the quads written before
unfoldable pub after_replay : Lent → Replayed → ReplayReturned
after_replay l (whole m) =
    let left = triangles m in
    let quads = quads_placed m.history in
    let sizes = component_sizes left in
    record {
      answer = rebuilt (record { quads = length quads; triangles = length left; points = length m.points; components = length sizes; words = 0 });
      lent = written m.points quads left sizes [] l;
    }
after_replay l (broken k m) = record { answer = unplayed k; lent = written m.points (quads_placed m.history) [] [] [] l }

-- the first condition that holds refuses the call;
-- where none does, the trace's words are replayed, and no edge is locked
unfoldable pub replay : Told → Lent → ReplayReturned
replay t l =
    let a = as_asked t in
    let s = settings a in
    let first = new_mesh s (λ e. false) (given_tris a l) (given_points a l) in
    elim (find (λ c. c.1) (replay_conditions t l)) [
      | none ↦ after_replay l (replay_words s first (take t.words l.trace))
      | some c ↦ record { answer = unplayed c.0; lent = l }
    ]
