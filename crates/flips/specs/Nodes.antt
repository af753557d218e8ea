-- Nodes of an edge and of a cell as they are read.
use Rattle.std.specs.Prelude.{List, ℕ, ◌<◌}
use Rattle.definition.specs.Cells.{Tri, new_tri}
use Rattle.cells.specs.Walk.{node_in}

-- the triangle in slot i
abbrev pub tri_read : List ℕ → ℕ → ℕ → Tri
tri_read w s i = new_tri (node_in w s i 0) (node_in w s i 1) (node_in w s i 2)

-- an edge by its nodes, the smaller first; it has a ring
pub record Up (p u v : ℕ) : Type 0 where
  pub node : u < p
  pub up : u < v
