-- What the functions over the refused edges ask and promise.
use Rattle.std.specs.Prelude.{◌≡◌, ◌+◌, ◌^◌, ◌<◌, ◌≤◌, ◌∷◌}
use Rattle.laws.specs.Kit.{cond, ℕ, List, [], length}
use Rattle.definition.specs.Plane.{Edge}
use Rattle.definition.specs.Cells.{has_edge_in, new_quad}
use Rattle.definition.specs.Front.{freed}
use Rattle.blocked_edges.specs.Records.{birth, touched, size, Kept, IsEdge, Lists, stands}

-- After k quads: ever are the edges that were ever refused, newest first; bl has the blocked ones.
-- Of bl the area keeps what `has_edge_in` tells of edges of the p nodes.
pub record Blocks (w : List ℕ) (b n p k : ℕ) (ever bl : List Edge) : Type 0 where
  pub lists : Lists w b n p ever
  pub quads : k < 2 ^ 32
  pub births : (i : ℕ) → i < length ever → birth w b n i ≤ k
  pub touches : (v : ℕ) → v < p → touched w b n p v ≤ k
  pub blocked : (e : Edge) → IsEdge p e → has_edge_in bl e ≡ stands w b n p ever e

-- ever with e, where it was not there
unfoldable pub with_edge : Edge → List Edge → List Edge
with_edge e ever = cond (has_edge_in ever e) ever (e ∷ ever)

-- `open`: nothing refused, no quad
pub record OpenTo (w w' : List ℕ) (b n p : ℕ) : Type 0 where
  pub kept : Kept w w' b (size n p)
  pub blocks : Blocks w' b n p 0 [] []

-- `block` asks room for the edges ever refused, u-v among them; c is their number so far
pub record CanBlock (w : List ℕ) (b n p c k u v : ℕ) (ever bl : List Edge) : Type 0 where
  pub blocks : Blocks w b n p k ever bl
  pub count : c ≡ length ever
  pub edge : IsEdge p (u, v)
  pub enough : length (with_edge (u, v) ever) ≤ n

-- what `block` makes of ever and bl; r is the new number of edges ever refused
pub record Refused (w' : List ℕ) (b n p k u v r : ℕ) (ever bl : List Edge) : Type 0 where
  pub count : r ≡ length (with_edge (u, v) ever)
  pub blocks : Blocks w' b n p k (with_edge (u, v) ever) ((u, v) ∷ bl)

-- `block`
pub record BlockTo (w w' : List ℕ) (b n p c k u v r : ℕ) : Type 0 where
  pub kept : Kept w w' b (size n p)
  pub to : (ever bl : List Edge) → Blocks w b n p k ever bl → c ≡ length ever → Refused w' b n p k u v r ever bl

-- `free` asks that the quad's nodes are among the p, and that its number fits
pub record CanFree (w : List ℕ) (b n p k n0 n1 n2 n3 : ℕ) (ever bl : List Edge) : Type 0 where
  pub blocks : Blocks w b n p k ever bl
  pub more : k + 1 < 2 ^ 32
  pub node0 : n0 < p
  pub node1 : n1 < p
  pub node2 : n2 < p
  pub node3 : n3 < p

-- `free`: the quad is number k + 1
pub record FreeTo (w w' : List ℕ) (b n p k n0 n1 n2 n3 : ℕ) : Type 0 where
  pub kept : Kept w w' b (size n p)
  pub to : (ever bl : List Edge) → Blocks w b n p k ever bl → Blocks w' b n p (k + 1) ever (freed (new_quad n0 n1 n2 n3) bl)
