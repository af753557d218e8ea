-- The table of the joints, 1,537 words: words 0 to 1023 mark the nodes of joints by their remainder by 1,024,
-- word 1024 is the number of joints, and from word 1025 on each joint has two words, the smaller node first.
use Rattle.std.specs.Prelude.{◌≡◌, ◌+◌, ◌*◌, ◌%◌, ◌<◌, ◌≤◌}
use Rattle.laws.specs.Kit.{refl, Bool, ℕ, List, length, get_or}
use Rattle.definition.specs.Lists.{table, below}
use Rattle.definition.specs.Plane.{Edge}
use Rattle.definition.specs.Cells.{has_edge_in}

-- joint i of the table
abbrev pub edge_in : List ℕ → ℕ → Edge
edge_in j i = (get_or j (1025 + 2 * i) 0, get_or j (1026 + 2 * i) 0)

-- the mark that node v shares with all nodes of its remainder
abbrev pub mark : List ℕ → ℕ → ℕ
mark j v = get_or j (v % 1024) 0

-- both nodes of an edge are marked
pub record Marked (j : List ℕ) (e : Edge) : Type 0 where
  pub first : mark j e.0 ≡ 0 → ⊥
  pub second : mark j e.1 ≡ 0 → ⊥

-- the table has the edges es
pub record Kept (j : List ℕ) (es : List Edge) : Type 0 where
  pub long : 1537 ≤ length j
  pub few : get_or j 1024 0 ≤ 256
  pub are : table (edge_in j) (below (get_or j 1024 0)) ≡ es
  pub marked : (i : ℕ) → i < get_or j 1024 0 → Marked j (edge_in j i)

-- the edges that pass the test are those of the table
pub record Locks (j : List ℕ) (locked : Edge → Bool) : Type 0 where
  pub es : List Edge
  pub kept : Kept j es
  pub is : (e : Edge) → locked e ≡ has_edge_in es e

-- the test that the table stands for
pub locks_of : (j : List ℕ) (es : List Edge) → Kept j es → Locks j (has_edge_in es)
locks_of j es h = record { es = es; kept = h; is = λ e. refl }
