-- Where each area of the lent u32 work slice stands, for s slots and p points of capacity:
-- the mesh's own areas first, then those of the crates above.
-- Each area's offset is linear in s and p; an area ends where the next begins.
use Rattle.std.specs.Prelude.{◌≡◌, List, [], ◌∷◌, ℕ, ◌+◌, ◌*◌, ◌^◌, ◌≤◌}
use Rattle.std.proofs.Common.{arith}

-- numbers of slots and points with which an offset is no large number
pub record Sizes (s p : ℕ) : Type 0 where
  pub slots : s ≤ 2 ^ 32
  pub points : p ≤ 2 ^ 32

-- ---- the mesh

-- kind of the cell in each slot: 0 none, 3, 4; s words from 0 on
abbrev pub kinds_at : ℕ → ℕ → ℕ
kinds_at s p = 0

-- four nodes a slot; corner k of slot i has the code 4 i + k
abbrev pub nodes_at : ℕ → ℕ
nodes_at s = s

-- rings of corners: next and prev of 4 s + p codes each; the sentinel of node v is 4 s + v
abbrev pub rings_at : ℕ → ℕ
rings_at s = 5 * s

-- how many codes the rings have
abbrev pub codes : ℕ → ℕ → ℕ
codes s p = 4 * s + p

-- a note for each point: what is known of its front edges and of its neighbours
abbrev pub notes_at : ℕ → ℕ → ℕ
notes_at s p = 13 * s + 2 * p

-- for a point below s two other ends of front edges
abbrev pub fronts_at : ℕ → ℕ → ℕ
fronts_at s p = 13 * s + 3 * p

-- for a point below s four nodes that bound it and its neighbours: left, right, below, above
abbrev pub boxes_at : ℕ → ℕ → ℕ
boxes_at s p = 15 * s + 3 * p

-- a word that is 1 only where no component of the triangles is odd; the first of s words, which without a slot are none
abbrev pub even_at : ℕ → ℕ → ℕ
even_at s p = 19 * s + 3 * p

-- the end of the mesh's own areas
abbrev pub mesh_end : ℕ → ℕ → ℕ
mesh_end s p = 20 * s + 3 * p

-- ---- marks and lists

-- a mark for each slot
abbrev pub marks_at : ℕ → ℕ → ℕ
marks_at s p = 20 * s + 3 * p

-- the region in hand: a list of slots
abbrev pub list_at : ℕ → ℕ → ℕ
list_at s p = 21 * s + 3 * p

-- ---- refused edges, three a slot: other node, birth, next record of the same node

-- other node
abbrev pub refused_at : ℕ → ℕ → ℕ
refused_at s p = 22 * s + 3 * p

-- how many quads there were when the edge was refused
abbrev pub birth_at : ℕ → ℕ → ℕ
birth_at s p = 25 * s + 3 * p

-- next record
abbrev pub after_at : ℕ → ℕ → ℕ
after_at s p = 28 * s + 3 * p

-- the first record of each point
abbrev pub first_at : ℕ → ℕ → ℕ
first_at s p = 31 * s + 3 * p

-- how many quads there were when one last touched the point
abbrev pub touched_at : ℕ → ℕ → ℕ
touched_at s p = 31 * s + 4 * p

-- ---- front edges, three a slot, and their loops

-- first node
abbrev pub front_u_at : ℕ → ℕ → ℕ
front_u_at s p = 31 * s + 5 * p

-- second node
abbrev pub front_v_at : ℕ → ℕ → ℕ
front_v_at s p = 34 * s + 5 * p

-- lists of the front edges at each node: two links an edge
abbrev pub front_links_at : ℕ → ℕ → ℕ
front_links_at s p = 37 * s + 5 * p

-- the edge is in a loop already
abbrev pub front_used_at : ℕ → ℕ → ℕ
front_used_at s p = 43 * s + 5 * p

-- the edges loop after loop
abbrev pub order_at : ℕ → ℕ → ℕ
order_at s p = 46 * s + 5 * p

-- where each loop starts
abbrev pub starts_at : ℕ → ℕ → ℕ
starts_at s p = 49 * s + 5 * p

-- the loops in the order of their turns
abbrev pub done_at : ℕ → ℕ → ℕ
done_at s p = 52 * s + 5 * p

-- the edge was tried
abbrev pub tried_at : ℕ → ℕ → ℕ
tried_at s p = 55 * s + 5 * p

-- ---- by point

-- the first front edge of each point, and at other times a mark for each point
abbrev pub heads_at : ℕ → ℕ → ℕ
heads_at s p = 58 * s + 5 * p

-- candidates at the first end of an edge, a word for each point
abbrev pub near_at : ℕ → ℕ → ℕ
near_at s p = 58 * s + 6 * p

-- candidates at the second end of an edge, a word for each point
abbrev pub far_at : ℕ → ℕ → ℕ
far_at s p = 58 * s + 7 * p

-- ---- the stack of `live_region`, last

-- 2 s + 2 words: a ring of the s slots with one sentinel, s; without a slot there is no run to need it
abbrev pub stack_at : ℕ → ℕ → ℕ
stack_at s p = 58 * s + 8 * p

-- the end of all areas
abbrev pub all_end : ℕ → ℕ → ℕ
all_end s p = 60 * s + 8 * p + 2

-- ---- the f64 work slice

-- perimeters of the loops, three a slot
abbrev pub perimeters_at : ℕ → ℕ → ℕ
perimeters_at s p = 0

-- the end of all areas
abbrev pub floats_end : ℕ → ℕ
floats_end s = 3 * s

-- ---- they fit

-- an area: where it begins and how many words it has
pub record Area : Type 0 where
  pub from : ℕ
  pub size : ℕ

abbrev pub area : ℕ → ℕ → Area
area a n = record { from = a; size = n }

-- the areas follow each other from a to z with no gap
abbrev pub Row : ℕ → List Area → ℕ → Type 0
Row a [] z = a ≡ z
Row a (x ∷ l) z = (a ≡ x.from) × Row (a + x.size) l z

-- all areas in their order
abbrev pub areas : ℕ → ℕ → List Area
areas s p =
    area (kinds_at s p) s ∷ area (nodes_at s) (4 * s) ∷ area (rings_at s) (codes s p + codes s p)
    ∷ area (notes_at s p) p ∷ area (fronts_at s p) (2 * s) ∷ area (boxes_at s p) (4 * s)
    ∷ area (even_at s p) s
    ∷ area (marks_at s p) s ∷ area (list_at s p) s
    ∷ area (refused_at s p) (3 * s) ∷ area (birth_at s p) (3 * s) ∷ area (after_at s p) (3 * s) ∷ area (first_at s p) p ∷ area (touched_at s p) p
    ∷ area (front_u_at s p) (3 * s) ∷ area (front_v_at s p) (3 * s) ∷ area (front_links_at s p) (6 * s) ∷ area (front_used_at s p) (3 * s)
    ∷ area (order_at s p) (3 * s) ∷ area (starts_at s p) (3 * s) ∷ area (done_at s p) (3 * s) ∷ area (tried_at s p) (3 * s)
    ∷ area (heads_at s p) p ∷ area (near_at s p) p ∷ area (far_at s p) p
    ∷ area (stack_at s p) (2 * s + 2) ∷ []

-- the areas of the work slice are apart
pub in_a_row : (s p : ℕ) → Row 0 (areas s p) (all_end s p)
in_a_row s p = omega arith

-- all areas but the stack fit 64 words a slot and 8 a point, for every s and p
pub fits_below : (s p : ℕ) → stack_at s p ≤ 64 * s + 8 * p
fits_below s p = omega arith

-- with a slot the stack fits too
pub fits : (s p : ℕ) → 1 ≤ s → all_end s p ≤ 64 * s + 8 * p
fits s p h = omega arith

-- the perimeters fit 4 a slot
pub floats_fit : (s : ℕ) → floats_end s ≤ 4 * s
floats_fit s = omega arith
