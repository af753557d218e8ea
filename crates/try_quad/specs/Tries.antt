-- What one attempt asks and gives.
use Rattle.std.specs.Prelude.{◌≡◌, Bool, List, ℕ, ◌≤◌, ◌<◌, Float}
use Rattle.definition.specs.Plane.{Vec}
use Rattle.definition.specs.Cells.{Mesh, this_round}
use Rattle.definition.specs.Attempt.{Attempt, Stance, Sides, found, missing, overfull}
use Rattle.joints.specs.Table.{Locks}
use Rattle.traces.specs.Log.{Logged}
use Rattle.rules.specs.declared.Rules.{Rules}
use Rattle.cells.specs.Layout.{near_at, far_at}
use Rattle.cells.specs.declared.counters.Counters.{Counters}
use Rattle.side_nodes.specs.Sides.{Goes, ListedAt, SidesAre, sides_mesh}
use Rattle.side_nodes.specs.declared.side.Side.{Side}
use Rattle.trials.specs.Kept.{room}
use Rattle.outcomes.specs.Ready.{Ready, Beyond}
use Rattle.outcomes.specs.Ends.{AttemptTo, attempt_mesh}
use Rattle.outcomes.specs.declared.Tried.{Tried}

-- the slices and counters stand for the mesh; u-v is an edge of its nodes, the smaller first;
-- no more pairs are asked for than there is room for
pub record CanAttempt (w : List ℕ) (q : List Float) (rules : Rules) (c : Counters) (u v : ℕ) (m : Mesh) : Type 0 where
  pub ready : Ready w q rules c m
  pub up : u < v
  pub known : v < c.points
  pub pairs : rules.quality.pairs ≤ room

-- the attempt ended as the definition says; refused edges and the front's areas are as they were;
-- what happened to the mesh is in the trace
pub record TriedTo (w w' : List ℕ) (q q' : List Float) (base t' : List ℕ) (rules : Rules) (c : Counters) (x : Attempt) (r : Tried) : Type 0 where
  pub is : AttemptTo w' q q' rules c x r
  pub beyond : Beyond w w' rules.lay.slots rules.lay.points
  pub log : Logged base t' r.at (attempt_mesh x)

-- the edge u-v and its ends a and b, two nodes below n
pub record Ends (n u v a b : ℕ) : Type 0 where
  pub up : u < v
  pub known : v < n
  pub first : a < n
  pub second : b < n
  pub apart : a ≡ b → ⊥

-- what an attempt goes by, its edge and ends too
pub record Stands (f : Stance) (u v a b seed : ℕ) (normal : Vec) (target : Float) (mismatch : Bool) : Type 0 where
  pub edge : f.edge ≡ (u, v)
  pub first : f.a ≡ a
  pub second : f.b ≡ b
  pub goes : Goes f seed normal target mismatch

-- the side nodes cs at a are listed, and those at b are x;
-- q₀ and c₀ were the points and the counters before the attempt
pub record Both (w : List ℕ) (q₀ q : List Float) (rules : Rules) (c₀ : Counters) (u v a b nears : ℕ) (far : Side) (cs : List ℕ) (x : Sides) : Type 0 where
  pub is : SidesAre w q₀ q rules (far_at rules.lay.slots rules.lay.points) c₀ x far
  pub near : ListedAt w (near_at rules.lay.slots rules.lay.points) nears far.counters.points cs
  pub ends : Ends far.counters.points u v a b
  pub pairs : rules.quality.pairs ≤ room

-- the side nodes at a are x; the seed is a slot
pub record First (w : List ℕ) (q₀ q : List Float) (rules : Rules) (c₀ : Counters) (u v a b seed : ℕ) (near : Side) (x : Sides) : Type 0 where
  pub is : SidesAre w q₀ q rules (near_at rules.lay.slots rules.lay.points) c₀ x near
  pub ends : Ends c₀.points u v a b
  pub seeded : seed < rules.lay.slots
  pub few : near.inserted < 2
  pub pairs : rules.quality.pairs ≤ room

-- the locked edges of the mesh that the side nodes leave are those of the table
abbrev pub LocksIn : List ℕ → Sides → Type 0
LocksIn j (found cs n m) = Locks j m.locked
LocksIn j (missing n m) = Locks j m.locked
LocksIn j (overfull w n m) = Locks j m.locked

-- the trace is that of the mesh that the side nodes leave, and a quad would be placed in that round
pub record LogsIn (base t : List ℕ) (at round : ℕ) (x : Sides) : Type 0 where
  pub log : Logged base t at (sides_mesh x)
  pub in_round : round ≡ this_round (sides_mesh x)
