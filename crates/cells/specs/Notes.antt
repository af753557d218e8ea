-- What is noted of a node: the front edges whose smaller node it is, and a box around it and its neighbours.
-- A note holds until a cell at the node comes or goes.
use Rattle.std.specs.Prelude.{◌≡◌, ◌⊎◌, true, List, [], ◌∷◌, ℕ, zero, suc, ◌+◌, ◌*◌, ◌%◌, ◌<◌, ◌≤◌, length, get_or}
use Rattle.definition.specs.Floats.{◌≼◌}
use Rattle.definition.specs.Lists.{contains}
use Rattle.definition.specs.Cells.{Mesh, key, is_front, has_edge, node_at}
use Rattle.definition.specs.Account.{Pairwise}
use Rattle.cells.specs.Layout.{notes_at, fronts_at, boxes_at}

-- ---- what stands in the memory

-- the note of node u: its last two binary digits for the front edges,
-- what is above them for the box; 0: nothing is known
abbrev pub note : List ℕ → ℕ → ℕ → ℕ → ℕ
note w s p u = get_or w (notes_at s p + u) 0

-- by the last two digits there is no front edge, one, or two
abbrev pub ends : ℕ → ℕ → ℕ → List ℕ
ends zero a b = []
ends (suc zero) a b = []
ends (suc (suc zero)) a b = a ∷ []
ends (suc (suc (suc n))) a b = a ∷ b ∷ []

-- the other ends that are noted at u
abbrev pub noted : List ℕ → ℕ → ℕ → ℕ → List ℕ
noted w s p u = ends (note w s p u % 4) (get_or w (fronts_at s p + 2 * u) 0) (get_or w (fronts_at s p + 2 * u + 1) 0)

-- side k of the box of u
abbrev pub bound : List ℕ → ℕ → ℕ → ℕ → ℕ → ℕ
bound w s p u k = get_or w (boxes_at s p + 4 * u + k) 0

-- ---- what it says of the mesh

-- the front edges whose smaller node is u have the other ends vs, which ascend
pub record Fronts (m : Mesh) (u : ℕ) (vs : List ℕ) : Type 0 where
  pub up : Pairwise (λ a b. a < b) (u ∷ vs)
  pub all : (v : ℕ) → u < v → is_front m (key u v) ≡ contains vs v

-- v is u or has an edge with it
abbrev pub Near : Mesh → ℕ → ℕ → Type 0
Near m u v = (v ≡ u) ⊎ (has_edge m u v ≡ true)

-- the nodes a and b bound u and its neighbours on the left and on the right, c and d below and above
pub record Box (m : Mesh) (u a b c d : ℕ) : Type 0 where
  pub a_known : a < length m.points
  pub b_known : b < length m.points
  pub c_known : c < length m.points
  pub d_known : d < length m.points
  pub known : (v : ℕ) → Near m u v → v < length m.points
  pub left : (v : ℕ) → Near m u v → ((node_at m a).x ≼ (node_at m v).x) ≡ true
  pub right : (v : ℕ) → Near m u v → ((node_at m v).x ≼ (node_at m b).x) ≡ true
  pub low : (v : ℕ) → Near m u v → ((node_at m c).y ≼ (node_at m v).y) ≡ true
  pub high : (v : ℕ) → Near m u v → ((node_at m v).y ≼ (node_at m d).y) ≡ true

-- the note of u is true
pub record NoteAt (w : List ℕ) (s p : ℕ) (m : Mesh) (u : ℕ) : Type 0 where
  pub inside : 1 < note w s p u → u < s
  pub fronts : 0 < note w s p u % 4 → Fronts m u (noted w s p u)
  pub box : 4 ≤ note w s p u → Box m u (bound w s p u 0) (bound w s p u 1) (bound w s p u 2) (bound w s p u 3)

-- `known`, the last two digits of the note of u, tells its front edges, and v is above u
pub record IsNoted (w : List ℕ) (s p u v known : ℕ) : Type 0 where
  pub above : u < v
  pub is : known ≡ note w s p u % 4
  pub some : 0 < known
