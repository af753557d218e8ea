-- The trace: what happened to a mesh, as words.
use Rattle.std.specs.Prelude.{Bool, List, [], ◌∷◌, ◌++◌, ℕ, zero, suc, ◌+◌, ◌*◌, ◌/◌, ◌%◌, leb, length, Float}
use Rattle.std.specs.Float.{binary64}
use Rattle.std.specs.Float.Ieee.{to_bits}
use Rattle.definition.specs.Lists.{flat_map}
use Rattle.definition.specs.Floats.{f64}
use Rattle.definition.specs.Cells.{Quad, Event, was_split, was_flipped, was_placed, Mesh}

-- 2 ^ 32
unfoldable pub word_limit : ℕ
word_limit = 4294967296

-- a double's bits, the low word first
unfoldable pub two_words : Float → List ℕ
two_words c = to_bits binary64 c % word_limit ∷ to_bits binary64 c / word_limit ∷ []

-- the double of two words
unfoldable pub double_of : ℕ → ℕ → Float
double_of low high = f64 (low + word_limit * high)

-- an entry: its kind, then its fields; slots come after their count
unfoldable pub entry : Event → List ℕ
entry (was_split id p) = 1 ∷ id ∷ (two_words p.x ++ two_words p.y)
entry (was_flipped e) = 2 ∷ e.0 ∷ e.1 ∷ []
entry (was_placed q slots) = 4 ∷ q.n0 ∷ q.n1 ∷ q.n2 ∷ q.n3 ∷ q.edge.0 ∷ q.edge.1 ∷ q.round ∷ length slots ∷ slots

-- the entries in order
unfoldable pub trace : List Event → List ℕ
trace vs = flat_map entry vs

-- the words for a trace of so much room; without room none is lent
unfoldable pub words_in : ℕ → List Event → List ℕ
words_in zero vs = []
words_in (suc room) vs = trace vs

-- the words written to the lent trace
unfoldable pub traced : Mesh → List ℕ
traced m = words_in m.room m.history

-- the entries fit the lent trace
unfoldable pub in_room : Mesh → Bool
in_room m = leb (length (traced m)) m.room

-- the quads that were placed, in order
unfoldable pub quads_placed : List Event → List Quad
quads_placed [] = []
quads_placed (was_split id p ∷ vs) = quads_placed vs
quads_placed (was_flipped e ∷ vs) = quads_placed vs
quads_placed (was_placed q slots ∷ vs) = q ∷ quads_placed vs
