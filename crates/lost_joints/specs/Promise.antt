-- What `lost_joint` promises.
use Rattle.std.specs.Prelude.{◌≡◌, Bool, true, false, not, ◌||◌, List, ℕ, ◌+◌, ◌*◌, ◌≤◌, ◌<◌, length, Option, None, Some}
use Rattle.std.proofs.Math.Option as definition
use Rattle.definition.specs.Lists.{flat_map, table, below}
use Rattle.definition.specs.Plane.{Edge}
use Rattle.definition.specs.Cells.{tri_edges, has_edge_in}
use Rattle.definition.specs.Call.{first_tris, joint_at}
use Rattle.balance.specs.Codes.{edge}
use Rattle.balance.specs.Places.{Small}
use Rattle.balance.specs.Promise.{four_at, first_fours}
use Rattle.balance.specs.Runs.{Ordered}
use Rattle.accept.specs.Accept.{failing, stands}
use Rattle.accept.specs.Call.{Handed, judged, corners_at}
use Rattle.lost_joints.specs.Filed.{has_key, cell_edges}

-- ---- by numbers

-- the edge is not among the first numbers, or is among the second
unfoldable pub stands_in : (ℕ → ℕ) → ℕ → (ℕ → ℕ) → ℕ → Edge → Bool
stands_in f g h m e = not (has_key f g (edge e.0 e.1)) || has_key h m (edge e.0 e.1)

-- two lists of ascending numbers, and n joints of nodes below 2^20
pub record Searchable (given : List ℕ) (g : ℕ) (result : List ℕ) (m : ℕ) (joints : List ℕ) (n : ℕ) : Type 0 where
  pub given_in : Ordered given g
  pub result_in : Ordered result m
  pub sized : 2 * n ≤ length joints
  pub nodes : Small joints (2 * n)

-- the first i below n that fails the test
abbrev pub Names : (ℕ → Bool) → ℕ → Option ℕ → Type 0
Names p n None = (i : ℕ) → i < n → p i ≡ true
Names p n (Some r) = (r < n) × (p r ≡ false) × ((i : ℕ) → i < r → p i ≡ true)

-- ---- by cells

-- the edge is one of no given triangle, or one of a cell of the result
unfoldable pub survives : List ℕ → ℕ → List ℕ → ℕ → List ℕ → ℕ → Edge → Bool
survives given n quads q left t e = not (has_edge_in (flat_map tri_edges (first_tris n given)) e) || has_edge_in (cell_edges quads q left t) e

-- cells and joints of nodes below 2^20, and four words of work for each side of a cell
pub record Readable (given : List ℕ) (n : ℕ) (quads : List ℕ) (q : ℕ) (left : List ℕ) (t : ℕ) (joints : List ℕ) (k : ℕ) (w : List ℕ) : Type 0 where
  pub given_sized : 3 * n ≤ length given
  pub quads_sized : 4 * q ≤ length quads
  pub left_sized : 3 * t ≤ length left
  pub joints_sized : 2 * k ≤ length joints
  pub given_nodes : Small given (3 * n)
  pub quads_nodes : Small quads (4 * q)
  pub left_nodes : Small left (3 * t)
  pub joints_nodes : Small joints (2 * k)
  pub work : 4 * (3 * n + 4 * q + 3 * t) ≤ length w

-- the code's answer in the definition's words
abbrev pub option : {A : Type 0} → Option A → definition.Option A
option None = definition.none
option (Some x) = definition.some x

-- the first of k joints that does not survive
abbrev pub Answers : List ℕ → ℕ → List ℕ → ℕ → List ℕ → ℕ → List ℕ → ℕ → Option ℕ → Type 0
Answers given n quads q left t joints k r = failing (survives given n quads q left t) 0 (table (joint_at joints) (below k)) ≡ option r

-- It is the joint that the verdict names, of what an acceptance is handed.
pub lost_is : (h : Handed) (r : Option ℕ)
    → Answers h.triangle_slice h.count h.quad_slice h.quads h.left_slice h.left h.joint_slice h.joints r
    → failing (stands (judged h)) 0 (judged h).joints ≡ option r
unfolding survives cell_edges stands judged first_fours four_at corners_at
lost_is h r e = e
