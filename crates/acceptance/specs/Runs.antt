-- The calls of a list, one for each setting, and the hash of what they return.
use Rattle.std.specs.Prelude.{false, List, [], ◌∷◌, ℕ, zero, suc, ◌/◌, ◌%◌, length, get_or, replicate, Float}
use Rattle.std.specs.Float.{nan}
use Rattle.definition.specs.Lists.{concat}
use Rattle.definition.specs.Numbers.{base}
use Rattle.definition.specs.Call.{Asked, Lent, Returned, call, onto}
use Rattle.hashing.specs.Hash.{basis}
use Rattle.refusals.specs.Stated.{asked_for}
use Rattle.mesher.specs.Promise.{lent_of}
use Rattle.acceptance.specs.Folded.{folded}
use Rattle.acceptance.specs.Positions.{plus, coordinates, placed}

-- the definition's call
abbrev pub the_call : Asked → Lent → Returned
the_call a l = call a l

-- ---- setting s: ample and scarce memory change first, then the stop rule, the size and the position

-- points that there is room for
unfoldable pub capacity : ℕ → ℕ
capacity s = get_or (24 ∷ 8 ∷ []) (s % 2) 0

-- slots
unfoldable pub slots : ℕ → ℕ
slots s = get_or (48 ∷ 9 ∷ []) (s % 2) 0

-- 0, 1/4, 1 and 3
unfoldable pub size : ℕ → Float
size s = get_or (plus 0 ∷ plus 4 ∷ plus 16 ∷ plus 48 ∷ []) (s / 4 % 4) nan

-- the stated numbers, for so many points and triangles, with the standard set, no joints and off the grid
unfoldable pub asked : ℕ → ℕ → ℕ → Asked
asked given count s = asked_for given (capacity s) count (slots s) 0 (size s) (s / 2 % 2) base false

-- what a lent slice holds beforehand; no node has this number
unfoldable pub unused : ℕ
unused = 4294967295

-- the lent slices, with these points and nodes of triangles
unfoldable pub lent : List Float → List ℕ → Lent
lent points nodes = lent_of points nodes [] (replicate 384 unused) (replicate 144 unused) (replicate 48 unused) (replicate 3264 0) (replicate 192 (plus 0)) []

-- ---- the runs

-- what the call in setting s returns
unfoldable pub returned : ℕ → ℕ → List ℕ → ℕ → Returned
returned given count nodes s = the_call (asked given count s) (lent (placed (coordinates (s / 16))) nodes)

-- the hash of what the calls in the first k settings return, one after the other
unfoldable pub hashed : ℕ → ℕ → List ℕ → ℕ → ℕ
hashed given count nodes zero = basis
hashed given count nodes (suc s) = folded (hashed given count nodes s) (returned given count nodes s)

-- the triangles of a list in a slice of nine, zeros behind them
unfoldable pub nodes_of : List (List ℕ) → List ℕ
nodes_of l = onto (concat l) (replicate 9 0)

-- the hash of a list on so many points: all 128 settings
unfoldable pub list_hash : ℕ → List (List ℕ) → ℕ
list_hash given l = hashed given (length l) (nodes_of l) 128
