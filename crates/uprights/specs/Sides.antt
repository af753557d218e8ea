-- What `balance_upright` promises.
use Rattle.std.specs.Prelude.{List, ℕ, ◌+◌, ◌*◌, ◌/◌, ◌%◌, ◌≤◌, ◌<◌, length, get_or, Float}
use Rattle.definition.specs.Lists.{table, below}
use Rattle.definition.specs.Cells.{tri_nodes}
use Rattle.definition.specs.Call.{tri_at}
use Rattle.balance.specs.Places.{Small}
use Rattle.uprights.specs.Promise.{Near, upright_at}

-- word j of the n triangles turned upright
unfoldable pub upright_word : List Float → List ℕ → ℕ → ℕ
upright_word q ts j = get_or (tri_nodes (upright_at q (tri_at ts (j / 3)))) (j % 3) 0

-- all their words: a list that is nowhere stored
unfoldable pub upright_words : List Float → List ℕ → ℕ → List ℕ
upright_words q ts n = table (upright_word q ts) (below (3 * n))

-- a node of a triangle
pub record Corner (q : List Float) (a : ℕ) : Type 0 where
  pub near : Near q a
  pub small : a < 1048576

-- n triangles of such nodes
abbrev pub Corners : List Float → List ℕ → ℕ → Type 0
Corners q ts n = (i : ℕ) → i < 3 * n → Corner q (get_or ts i 0)

pub record Puttable (q : List Float) (ts : List ℕ) (n : ℕ) (w : List ℕ) (at : ℕ) : Type 0 where
  pub sized : 3 * n ≤ length ts
  pub nodes : Corners q ts n
  pub room : 2 * (at + 3 * n) ≤ length w

-- triangles whose nodes are points within 8, quads whose nodes are below 2^20, and four words of work for each side
pub record Readable (p : List Float) (given : List ℕ) (n : ℕ) (q : List Float) (quads : List ℕ) (k : ℕ) (left : List ℕ) (t : ℕ) (w : List ℕ) : Type 0 where
  pub given_sized : 3 * n ≤ length given
  pub quads_sized : 4 * k ≤ length quads
  pub left_sized : 3 * t ≤ length left
  pub given_nodes : Corners p given n
  pub quads_nodes : Small quads (4 * k)
  pub left_nodes : Corners q left t
  pub work : 4 * (3 * n + 4 * k + 3 * t) ≤ length w
