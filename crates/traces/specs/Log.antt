-- The lent trace stands for what happened to a mesh.
use Rattle.std.specs.Prelude.{◌≡◌, ◌+◌, ◌^◌, ◌<◌, ◌≤◌, ◌∷◌, ◌++◌}
use Rattle.laws.specs.Kit.{true, ℕ, List, [], length, take, drop}
use Rattle.definition.specs.Cells.{Quad, Event, was_placed, Mesh}
use Rattle.definition.specs.Trace.{traced, in_room}
use Rattle.definition.specs.Call.{onto}
use Rattle.traces.specs.declared.Grown.{Grown}

-- the words of the mesh's entries stand at the front of the slice t,
-- and behind them what the slice held before, base; `at` words are used
pub record Logged (base t : List ℕ) (at : ℕ) (m : Mesh) : Type 0 where
  pub room : m.room ≡ length base
  pub words : t ≡ onto (traced m) base
  pub used : at ≡ length (traced m)
  pub fits : length (traced m) ≤ length base

-- the mesh m' is one event further than m
pub record Notes (v : Event) (m m' : Mesh) : Type 0 where
  pub room : m'.room ≡ m.room
  pub history : m'.history ≡ m.history ++ (v ∷ [])

-- one event further, and its entry fits
pub record Enters (v : Event) (m m' : Mesh) : Type 0 where
  pub notes : Notes v m m'
  pub fits : in_room m' ≡ true

-- the quad of the numbers g, and nothing of how many triangles it replaced
pub record IsGrown (q : Quad) (g : Grown) : Type 0 where
  pub node0 : q.n0 ≡ g.n0
  pub node1 : q.n1 ≡ g.n1
  pub node2 : q.n2 ≡ g.n2
  pub node3 : q.n3 ≡ g.n3
  pub edge : q.edge ≡ (g.u, g.v)
  pub round : q.round ≡ g.round

-- the entry of such a quad on n slots, up to their number
abbrev pub heads : Grown → ℕ → List ℕ
heads g n = 4 ∷ g.n0 ∷ g.n1 ∷ g.n2 ∷ g.n3 ∷ g.u ∷ g.v ∷ g.round ∷ n ∷ []

-- each number fits a word
pub record Words (g : Grown) : Type 0 where
  pub node0 : g.n0 < 2 ^ 32
  pub node1 : g.n1 < 2 ^ 32
  pub node2 : g.n2 < 2 ^ 32
  pub node3 : g.n3 < 2 ^ 32
  pub first : g.u < 2 ^ 32
  pub second : g.v < 2 ^ 32
  pub round : g.round < 2 ^ 32

-- the slots are the n words of w from `from` on
pub record Slots (w : List ℕ) (from n : ℕ) (ids : List ℕ) : Type 0 where
  pub fits : from + n ≤ length w
  pub are : take n (drop from w) ≡ ids

-- a quad's event, of such a quad and such slots
pub record Placing (w : List ℕ) (from n : ℕ) (g : Grown) (q : Quad) (ids : List ℕ) (m m' : Mesh) : Type 0 where
  pub quad : IsGrown q g
  pub slots : Slots w from n ids
  pub enters : Enters (was_placed q ids) m m'
