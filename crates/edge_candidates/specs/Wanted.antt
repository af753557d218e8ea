-- Ideals asked one at a time.
use Rattle.std.specs.Prelude.{◌&&◌, ◌<◌}
use Rattle.laws.specs.Kit.{Bool, true, false, not, ℕ, length, Float}
use Rattle.definition.specs.Lists.{any, below, flat_map}
use Rattle.definition.specs.Floats.{◌⊗◌, ◌≺◌, ◌≼◌}
use Rattle.definition.specs.Numbers.{Turn, leftward, rightward, edge_low, edge_high, edge_dot, tiny_length}
use Rattle.definition.specs.Plane.{Vec, norm, over, dot}
use Rattle.definition.specs.Cells.{Mesh, cells_at}
use Rattle.definition.specs.Candidates.{toward, ideal_by, ideals, edge_candidate}

-- the ideal i is near the unit e
abbrev pub near : Vec → Vec → Bool
near e i = edge_dot ≼ dot e i

-- the front edge from a to v gives an ideal that passes the test; u is the unit from a to other
abbrev pub wanted_by : (Vec → Bool) → Mesh → ℕ → ℕ → Vec → ℕ → Bool
wanted_by f m a other u v = any f (ideal_by m a other u (cells_at m a) v)

-- every ideal passes
abbrev pub every : Vec → Bool
every i = true

-- it gives an ideal
abbrev pub gives : Mesh → ℕ → ℕ → Vec → ℕ → Bool
gives m a other u v = wanted_by every m a other u v

-- some front edge at a gives an ideal that passes
abbrev pub some_wanted : (Vec → Bool) → Mesh → ℕ → ℕ → Vec → Bool
some_wanted f m a other u = any f (flat_map (ideal_by m a other u (cells_at m a)) (below (length m.points)))

-- a quarter turn by its flag
abbrev pub turn : Bool → Turn
turn true = leftward
turn false = rightward

-- a and v are nodes of the mesh
pub record At (m : Mesh) (a v : ℕ) : Type 0 where
  pub node : a < length m.points
  pub end : v < length m.points

-- the unit e is near an ideal; u is the unit from a to other
abbrev pub near_ideal : Turn → Mesh → ℕ → ℕ → Vec → Vec → Bool
near_ideal t m a other u e = any (near e) (ideals t m a other u (cells_at m a))

-- a length between the edge factors
abbrev pub edge_reach : Float → Float → Bool
edge_reach d target = not (d ≺ edge_low ⊗ target) && not (edge_high ⊗ target ≺ d)

-- v is an edge candidate at a; with a and other in one place there is none
abbrev pub by_edge : Turn → Mesh → ℕ → ℕ → Float → ℕ → Bool
by_edge t m a other target v =
    let u = toward m a other in
    let un = norm u in
    let near = cells_at m a in
    not (un ≼ tiny_length) && edge_candidate m a other target near (ideals t m a other (over u un) near) v
