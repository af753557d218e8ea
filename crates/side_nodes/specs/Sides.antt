-- What is said of the side nodes at one end.
use Rattle.std.specs.Prelude.{◌≡◌, ◌+◌, ◌^◌, ◌<◌, ◌≤◌, Some, None, Ok, Err}
use Rattle.laws.specs.Kit.{Bool, ℕ, List, length, get_or, take, drop, Float}
use Rattle.definition.specs.Counts.{Spent}
use Rattle.definition.specs.Plane.{Vec}
use Rattle.definition.specs.Cells.{Mesh}
use Rattle.definition.specs.Attempt.{Stance, Sides, found, missing, overfull}
use Rattle.rules.specs.declared.Rules.{Rules}
use Rattle.cells.specs.Layout.{refused_at, near_at, stack_at}
use Rattle.cells.specs.declared.counters.Counters.{Counters}
use Rattle.traces.specs.Log.{Logged}
use Rattle.outcomes.specs.Ready.{Ready, Behind}
use Rattle.outcomes.specs.Ends.{only_inserted, shortage_of}
use Rattle.side_nodes.specs.declared.side.Side.{Side}
use Rattle.side_nodes.specs.declared.side.Stance as sides
use Rattle.plane.specs.Vectors.{vec}

-- the slices and counters stand for the mesh; a and other are two of its nodes, the seed is a slot,
-- and the nodes found come to `near`
pub record CanSeek (w : List ℕ) (q : List Float) (rules : Rules) (c : Counters) (near a other seed inserted : ℕ) (m : Mesh) : Type 0 where
  pub ready : Ready w q rules c m
  pub first : a < c.points
  pub second : other < c.points
  pub apart : a ≡ other → ⊥
  pub seeded : seed < rules.lay.slots
  pub from : near_at rules.lay.slots rules.lay.points ≤ near
  pub to : near + rules.lay.points ≤ stack_at rules.lay.slots rules.lay.points
  pub few : inserted < 2 ^ 32

-- what an attempt goes by
pub record Goes (f : Stance) (seed : ℕ) (normal : Vec) (target : Float) (mismatch : Bool) : Type 0 where
  pub from : f.seed ≡ seed
  pub along : f.normal ≡ normal
  pub far : f.target ≡ target
  pub off : f.mismatch ≡ mismatch

-- what an attempt goes by, as handed on
abbrev pub GoesBy : Stance → sides.Stance → Type 0
GoesBy f g = Goes f g.seed (vec g.normal) g.target g.mismatch

-- the k numbers from `at` on are cs, nodes below n
pub record ListedAt (w : List ℕ) (at k n : ℕ) (cs : List ℕ) : Type 0 where
  pub are : take k (drop at w) ≡ cs
  pub few : k ≤ n
  pub below : (i : ℕ) → i < k → get_or w (at + i) 0 < n

-- the slices and counters stand for the mesh m after n was spent; c were the counters before
pub record LeftAt (w' : List ℕ) (q q' : List Float) (rules : Rules) (c : Counters) (n : Spent) (m : Mesh) (r : Side) : Type 0 where
  pub ready : Ready w' q' rules r.counters m
  pub spent : only_inserted r.inserted ≡ n
  pub attempts : r.counters.attempts ≡ c.attempts
  pub more : c.points ≤ r.counters.points
  pub behind : Behind q q' (length m.points)

-- the mesh that the side nodes leave
abbrev pub sides_mesh : Sides → Mesh
sides_mesh (found cs n m) = m
sides_mesh (missing n m) = m
sides_mesh (overfull w n m) = m

-- by cases
abbrev pub SidesAre : List ℕ → List Float → List Float → Rules → ℕ → Counters → Sides → Side → Type 0
SidesAre w' q q' rules near c (found cs n m) r =
    ((k : ℕ) × (r.found ≡ Ok (Some k)) × ListedAt w' near k r.counters.points cs) × LeftAt w' q q' rules c n m r
SidesAre w' q q' rules near c (missing n m) r = (r.found ≡ Ok None) × LeftAt w' q q' rules c n m r
SidesAre w' q q' rules near c (overfull wt n m) r = (r.found ≡ Err (shortage_of wt)) × LeftAt w' q q' rules c n m r

-- the refused edges, the front's areas and all up to `near` are as they were; what happened to the mesh is in the trace
pub record SidesTo (w w' : List ℕ) (q q' : List Float) (base t' : List ℕ) (rules : Rules) (near : ℕ) (c : Counters) (x : Sides) (r : Side) : Type 0 where
  pub is : SidesAre w' q q' rules near c x r
  pub len : length w' ≡ length w
  pub before : (i : ℕ) → refused_at rules.lay.slots rules.lay.points ≤ i → i < near → get_or w' i 0 ≡ get_or w i 0
  pub log : Logged base t' r.at (sides_mesh x)
