-- One attempt: `try_quad` of the Rust, from its last step to its first.
use Rattle.std.specs.Prelude.{Bool, true, false, not, ◌&&◌, ◌||◌, cond, List, [], ◌∷◌, map, ℕ, ◌+◌, ltb, length, Float}
use Rattle.std.proofs.Math.Option.{Option, none, some}
use Rattle.std.specs.Float.Ieee.{neg}
use Rattle.definition.specs.Floats.{◌⊘◌, ◌≺◌, ◌≼◌, 0·0}
use Rattle.definition.specs.Numbers.{Settings, Turn, first_turn, second_turn, tiny_length}
use Rattle.definition.specs.Counts.{Refusal, Placement, Shape, Recovery, Region, OddRegion, Want, of_slots, of_trace, Spent, nothing_spent, inserting, trying}
use Rattle.definition.specs.Plane.{Vec, Edge, cross, norm, from_to, edge_length, size_mismatch}
use Rattle.definition.specs.Cells.{Tri, Quad, Cell, tri, quad, Live, was_placed, Mesh, born, node_at, tri_owner, this_round, noting, remove_cells, push_cell}
use Rattle.definition.specs.Trace.{in_room}
use Rattle.definition.specs.Flips.{third, Recovered, recover}
use Rattle.definition.specs.Candidates.{candidates}
use Rattle.definition.specs.Insertion.{Inserted, nowhere, inserted, full, insert_along}
use Rattle.definition.specs.Components.{removing_leaves_odd_component}
use Rattle.definition.specs.Region.{region}
use Rattle.definition.specs.Trials.{Trial, trials}

-- ---- one pair

-- How a pair ends: the quad stands; the pair failed, and the next one's turn comes;
-- no triangle owns the edge any more;
-- lent memory is wanting.
-- The number is that of the pair's flips; those of a pair that failed stay.
pub data Tried : Type 0 where
  made : ℕ → Quad → Mesh → Tried
  failed : ℕ → Refusal → Mesh → Tried
  orphaned : Tried
  lacking : Want → ℕ → Mesh → Tried

-- k flips more
unfoldable pub flipping : ℕ → Recovered → Recovered
flipping k r = record { there = r.there; short = r.short; flips = k + r.flips; mesh = r.mesh }

-- the sides one after the other, until one cannot be recovered
unfoldable pub recover_all : Mesh → List Edge → Recovered
recover_all m [] = record { there = true; short = false; flips = 0; mesh = m }
recover_all m (e ∷ es) =
    let r = recover m e.0 e.1 in
    elim r.there [ true ↦ flipping r.flips (recover_all r.mesh es) | false ↦ r ]

-- the quad in place of the region's cells, in a slot of its own
unfoldable pub replaced : Mesh → Quad → List Live → Mesh
replaced m q cells = noting (was_placed q (map (λ x. x.slot) cells)) (push_cell (remove_cells m cells) (quad q))

-- with its birth, if a slot is left and the entry fits the trace; k flips were made
unfoldable pub replace : Settings → ℕ → Mesh → Quad → List Live → Tried
replace s k m q cells =
    let b = born (this_round m) (length cells) q in
    let done = replaced m b cells in
    let entered = cond (in_room done) (made k b done) (lacking of_trace k m) in
    cond (ltb s.slots (m.used + 1)) (lacking of_slots k m) entered

-- the region is refused, or is refused as odd, or gives way to the quad, after k flips
unfoldable pub try_region : Settings → ℕ → Mesh → Quad → Option (List Live) → Tried
try_region s k m q none = failed k Region m
try_region s k m q (some cells) =
    let odd = removing_leaves_odd_component m cells in
    cond (s.even && odd) (failed k OddRegion m) (replace s k m q cells)

-- the seed was taken before the recovery
unfoldable pub try_recovered : Settings → ℕ → Quad → Recovered → Tried
try_recovered s seed q r =
    let next = try_region s r.flips r.mesh q (region r.mesh seed q) in
    cond r.there next (cond r.short (lacking of_trace r.flips r.mesh) (failed r.flips Recovery r.mesh))

-- the sides of the quad a b d c that are not the front edge a b, in the order in which they are recovered
unfoldable pub open_sides : Quad → List Edge
open_sides q = (q.n0, q.n3) ∷ (q.n1, q.n2) ∷ (q.n2, q.n3) ∷ []

-- the open sides are recovered; the seed is the triangle that owns the front edge now
unfoldable pub try_pair : Settings → Mesh → Quad → Option Live → Tried
try_pair s m q none = orphaned
try_pair s m q (some seed) = try_recovered s seed.slot q (recover_all m (open_sides q))

-- ---- one attempt

-- a quad placed; refused; or the run ends for want of memory. What was spent stays.
pub data Attempt : Type 0 where
  placed : Spent → Mesh → Quad → Attempt
  refused : Refusal → Spent → Mesh → Attempt
  ended : Want → Spent → Mesh → Attempt

-- the pairs in their order; last is what the pair before was refused under
unfoldable pub try_pairs : Settings → Spent → Mesh → Edge → Refusal → List Trial → Attempt
try_pairs s n m e last [] = refused last n m
try_pairs s n m e last (t ∷ ts) =
    elim (try_pair s m t.nodes (tri_owner m e)) [
      | made k q m' ↦ placed (trying k n) m' q
      | failed k why m' ↦ try_pairs s (trying k n) m' e why ts
      | orphaned ↦ refused Placement n m
      | lacking w k m' ↦ ended w (trying k n) m'
    ]

-- without a pair the attempt is refused under the shape
unfoldable pub try_trials : Settings → Spent → Mesh → Edge → List Trial → Attempt
try_trials s n m e [] = refused Shape n m
try_trials s n m e (t ∷ ts) = try_pairs s n m e Recovery (t ∷ ts)

-- what an attempt goes by: the edge; its ends, with the seed's triangle on the left from a to b; the seed's slot;
-- the unit normal into the triangle; the target, and whether the edge's length is off it
pub record Stance : Type 0 where
  pub edge : Edge
  pub a : ℕ
  pub b : ℕ
  pub seed : ℕ
  pub normal : Vec
  pub target : Float
  pub mismatch : Bool

-- side nodes at one end: found; missing; or the run ends
pub data Sides : Type 0 where
  found : List ℕ → Spent → Mesh → Sides
  missing : Spent → Mesh → Sides
  overfull : Want → Spent → Mesh → Sides

-- what an insertion gives: its node is the only side node
unfoldable pub sides_by : Spent → Mesh → Inserted → Sides
sides_by n m nowhere = missing n m
sides_by n m (inserted v m') = found (v ∷ []) (inserting n) m'
sides_by n m (full w) = overfull w n m

-- a node is inserted only where there is no candidate and the edge's length is off the target
unfoldable pub sides_from : Settings → Stance → Spent → Mesh → ℕ → List ℕ → Sides
sides_from s f n m p (c ∷ cs) = found (c ∷ cs) n m
sides_from s f n m p [] =
    let by_insertion = sides_by n m (insert_along s m f.seed (node_at m p) f.normal f.target) in
    cond f.mismatch by_insertion (missing n m)

-- the side nodes at the end p of the edge from p to other
unfoldable pub side_nodes : Settings → Turn → Stance → Spent → Mesh → ℕ → ℕ → Sides
side_nodes s t f n m p other = sides_from s f n m p (candidates s.quality t m p other f.seed f.normal f.target)

-- with the side nodes cs at a, and those at b: the pairs
unfoldable pub try_both : Settings → Stance → List ℕ → Sides → Attempt
try_both s f cs (missing n m) = refused Placement n m
try_both s f cs (overfull w n m) = ended w n m
try_both s f cs (found ds n m) = try_trials s n m f.edge (trials s.quality m f.a f.b cs ds)

-- with the side nodes at a: those at b
unfoldable pub try_first : Settings → Stance → Sides → Attempt
try_first s f (missing n m) = refused Placement n m
try_first s f (overfull w n m) = ended w n m
try_first s f (found cs n m) = try_both s f cs (side_nodes s second_turn f n m f.b f.a)

-- the size, or the edge's own length where there is no size
unfoldable pub target_of : Settings → Float → Float
target_of s span = cond (tiny_length ≺ s.size) s.size span

-- the direction of a vector, turned a quarter left: the unit normal into the triangle on its left
unfoldable pub inward_normal : Vec → Float → Vec
inward_normal tangent long = record { dx = neg tangent.dy ⊘ long; dy = tangent.dx ⊘ long }

-- how an attempt on the edge stands, with the seed's triangle on the left from a to b
unfoldable pub stance : Settings → Mesh → Edge → ℕ → ℕ → ℕ → Stance
stance s m e seed a b =
    let span = edge_length m.points (a, b) in
    let tangent = from_to (node_at m a) (node_at m b) in
    record {
      edge = e;
      a = a;
      b = b;
      seed = seed;
      normal = inward_normal tangent (norm tangent);
      target = target_of s span;
      mismatch = size_mismatch span (target_of s span);
    }

-- refused where the target or the edge has no length
unfoldable pub try_along : Settings → Mesh → Edge → ℕ → ℕ → ℕ → Attempt
try_along s m e seed a b =
    let f = stance s m e seed a b in
    let long = norm (from_to (node_at m a) (node_at m b)) in
    let go = try_first s f (side_nodes s first_turn f nothing_spent m a b) in
    cond (f.target ≼ tiny_length || long ≼ tiny_length) (refused Placement nothing_spent m) go

-- the seed's triangle lies on the left of the edge, from its first node to its second
unfoldable pub lies_left : Mesh → Edge → Tri → Bool
lies_left m e t = 0·0 ≺ cross (node_at m e.0) (node_at m e.1) (node_at m (third t e))

-- the edge is taken in the direction that has the seed's triangle on its left
unfoldable pub try_seed : Settings → Mesh → Edge → ℕ → Cell → Attempt
try_seed s m e seed (quad q) = refused Placement nothing_spent m
try_seed s m e seed (tri t) = elim (lies_left m e t) [ true ↦ try_along s m e seed e.0 e.1 | false ↦ try_along s m e seed e.1 e.0 ]

-- the seed is the triangle that owns the edge
unfoldable pub try_owner : Settings → Mesh → Edge → Option Live → Attempt
try_owner s m e none = refused Placement nothing_spent m
try_owner s m e (some x) = try_seed s m e x.slot x.cell

-- the seed is the first triangle that owns the edge
unfoldable pub try_quad : Settings → Mesh → Edge → Attempt
try_quad s m e = try_owner s m e (tri_owner m e)
