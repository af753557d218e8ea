-- The front's edges and its loops in the lent work slice, for s slots and p points of capacity.
use Rattle.std.specs.Prelude.{◌≡◌, ◌+◌, ◌*◌, ◌<◌, ◌≤◌, ◌∷◌}
use Rattle.laws.specs.Kit.{false, cond, ℕ, zero, suc, eqb, List, [], length, get_or, Float}
use Rattle.definition.specs.Lists.{concat}
use Rattle.definition.specs.Floats.{0·0}
use Rattle.definition.specs.Plane.{Node, Edge}
use Rattle.definition.specs.Cells.{has_edge_in}
use Rattle.definition.specs.Loops.{loop_perimeter}
use Rattle.cells.specs.Layout.{front_u_at, front_v_at, order_at, starts_at, tried_at, perimeters_at}

-- ---- edges

-- each has its smaller node first and both among n nodes, and none is there twice
abbrev pub Edges : ℕ → List Edge → Type 0
Edges n [] = Unit {0}
Edges n (e ∷ es) = (e.0 < e.1) × (e.1 < n) × (has_edge_in es e ≡ false) × Edges n es

-- edge number i of the front
abbrev pub edge_in : List ℕ → ℕ → ℕ → ℕ → Edge
edge_in w s p i = (get_or w (front_u_at s p + i) 0, get_or w (front_v_at s p + i) 0)

-- the k edges of the front are es
pub record EdgesAt (w : List ℕ) (s p k : ℕ) (es : List Edge) : Type 0 where
  pub len : length es ≡ k
  pub few : k ≤ 3 * s
  pub each : (i : ℕ) → i < k → edge_in w s p i ≡ get_or es i (0, 0)

-- ---- loops: the numbers of the edges one loop after the other, and the place where each loop starts

-- the edge at place i of the loops' order
abbrev pub edge_on : List ℕ → ℕ → ℕ → ℕ → Edge
edge_on w s p i = edge_in w s p (get_or w (order_at s p + i) 0)

-- the edges at n places from b on
abbrev pub edges_on : List ℕ → ℕ → ℕ → ℕ → ℕ → List Edge
edges_on w s p b zero = []
edges_on w s p b (suc n) = edge_on w s p b ∷ edges_on w s p (suc b) n

-- the loops ls from loop j on: that one starts at place b, and the next where it ends; none is empty
abbrev pub LoopsAt : List ℕ → ℕ → ℕ → ℕ → ℕ → List (List Edge) → Type 0
LoopsAt w s p j b [] = Unit {0}
LoopsAt w s p j b (l ∷ ls) =
    (get_or w (starts_at s p + j) 0 ≡ b) × (edges_on w s p b (length l) ≡ l) × (1 ≤ length l) × LoopsAt w s p (suc j) (b + length l) ls

-- r loops of k edges of the front, over n nodes
pub record LoopList (w : List ℕ) (s p n k r : ℕ) (ls : List (List Edge)) : Type 0 where
  pub len : length ls ≡ r
  pub total : length (concat ls) ≡ k
  pub few : k ≤ 3 * s
  pub edges : Edges n (concat ls)
  pub places : (i : ℕ) → i < k → get_or w (order_at s p + i) 0 < 3 * s
  pub at : LoopsAt w s p 0 0 ls

-- the perimeters of the loops ls, from loop j on
abbrev pub Perimeters : List Float → ℕ → ℕ → List Node → ℕ → List (List Edge) → Type 0
Perimeters f s p ps j [] = Unit {0}
Perimeters f s p ps j (l ∷ ls) = (get_or f (perimeters_at s p + j) 0·0 ≡ loop_perimeter ps l) × Perimeters f s p ps (suc j) ls

-- those of r loops, where they are more than one
abbrev pub Measured : List Float → ℕ → ℕ → ℕ → List Node → List (List Edge) → Type 0
Measured f s p r ps ls = 2 ≤ r → Perimeters f s p ps 0 ls

-- ---- what waits for its turn

-- of the edges at n places from b on, those that were not tried
abbrev pub waiting : List ℕ → ℕ → ℕ → ℕ → ℕ → List Edge
waiting w s p b zero = []
waiting w s p b (suc n) = let rest = waiting w s p (suc b) n in cond (eqb (get_or w (tried_at s p + b) 0) 0) (edge_on w s p b ∷ rest) rest
