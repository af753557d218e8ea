-- The area of the refused edges: at b, with room for n records and p nodes, 3 n + 2 p numbers.
-- A record stands in one of p lists, by the sum of its edge's nodes; it holds the larger node,
-- its birth and the next record of the list.
use Rattle.std.specs.Prelude.{◌≡◌, ◌&&◌, ◌+◌, ◌-◌, ◌*◌, ◌^◌, ◌<◌, ◌≤◌, ◌∷◌}
use Rattle.laws.specs.Kit.{Bool, false, cond, ℕ, eqb, ltb, leb, List, [], length, get_or}
use Rattle.definition.specs.Plane.{Edge}
use Rattle.definition.specs.Cells.{same_edge, has_edge_in}
use Rattle.laws.specs.Frames.{Only, Stays}

-- ---- the area's parts

-- the larger node of record i's edge
abbrev pub other : List ℕ → ℕ → ℕ → ℕ
other w b i = get_or w (b + i) 0

-- the number of quads when the edge of record i was last refused
abbrev pub birth : List ℕ → ℕ → ℕ → ℕ → ℕ
birth w b n i = get_or w (b + n + i) 0

-- the record after record i in its list; n: none
abbrev pub next : List ℕ → ℕ → ℕ → ℕ → ℕ
next w b n i = get_or w (b + 2 * n + i) 0

-- the first record of list v; n: none
abbrev pub head : List ℕ → ℕ → ℕ → ℕ → ℕ
head w b n v = get_or w (b + 3 * n + v) 0

-- the number of the last quad that has node v; 0: none has
abbrev pub touched : List ℕ → ℕ → ℕ → ℕ → ℕ → ℕ
touched w b n p v = get_or w (b + 3 * n + p + v) 0

-- how many numbers the area has
abbrev pub size : ℕ → ℕ → ℕ
size n p = 3 * n + 2 * p

-- the slice has the area, and its numbers fit
pub record Room (w : List ℕ) (b n p : ℕ) : Type 0 where
  pub fits : b + size n p ≤ length w
  pub few_records : n < 2 ^ 32
  pub few_nodes : p ≤ 2 ^ 32

-- nothing changed but the m numbers from b on
abbrev pub Kept : List ℕ → List ℕ → ℕ → ℕ → Type 0
Kept w w' b m = Only w w' b (b + m)

-- the m numbers from b on are the same
abbrev pub Same : List ℕ → List ℕ → ℕ → ℕ → Type 0
Same w w' b m = Stays w w' b (b + m)

-- ---- the records of a list of edges, newest first: a record's number is how many are older

-- the list of an edge of p nodes: with the larger node it tells the smaller
unfoldable pub list_of : ℕ → Edge → ℕ
list_of p e = cond (ltb (e.0 + e.1) p) (e.0 + e.1) (e.0 + e.1 - p)

-- the newest record in list u; n: there is none
unfoldable pub newest : ℕ → ℕ → ℕ → List Edge → ℕ
newest n p u [] = n
newest n p u (e ∷ es) = cond (eqb (list_of p e) u) (length es) (newest n p u es)

-- the record of e; n: there is none
unfoldable pub place : ℕ → Edge → List Edge → ℕ
place n e [] = n
place n e (x ∷ es) = cond (same_edge e x) (length es) (place n e es)

-- the edge has its smaller node first, and both are among p nodes
pub record IsEdge (p : ℕ) (e : Edge) : Type 0 where
  pub order : e.0 < e.1
  pub below : e.1 < p

-- each is an edge of p nodes, and none is there twice
abbrev pub Distinct : ℕ → List Edge → Type 0
Distinct p [] = Unit {0}
Distinct p (e ∷ es) = IsEdge p e × (has_edge_in es e ≡ false) × Distinct p es

-- each edge has its record: the larger node, and before which record it came into its list
abbrev pub Written : (ℕ → ℕ) → (ℕ → ℕ) → ℕ → ℕ → List Edge → Type 0
Written other next n p [] = Unit {0}
Written other next n p (e ∷ es) = (other (length es) ≡ e.1) × (next (length es) ≡ newest n p (list_of p e) es) × Written other next n p es

-- the area's lists are those of the records of ever
pub record Lists (w : List ℕ) (b n p : ℕ) (ever : List Edge) : Type 0 where
  pub room : Room w b n p
  pub count : length ever ≤ n
  pub distinct : Distinct p ever
  pub heads : (v : ℕ) → v < p → head w b n v ≡ newest n p v ever
  pub written : Written (other w b) (next w b n) n p ever

-- e has a record whose birth is at least `touched` of both its nodes
unfoldable pub stands : List ℕ → ℕ → ℕ → ℕ → List Edge → Edge → Bool
stands w b n p ever e =
    let i = place n e ever in
    ltb i n && leb (touched w b n p e.0) (birth w b n i) && leb (touched w b n p e.1) (birth w b n i)
