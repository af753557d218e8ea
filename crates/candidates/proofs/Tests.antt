-- One node: too far, by an edge, or from the region.
use mathlib.Core.Path.{◌≡◌, ap, sym, ◌∙◌}
use mathlib.Core.Bool.{Bool, true, false, and-false}
use mathlib.Core.List.{List}
use Prim.Native.Nat.{ℕ, ◌<◌}
use lib.ListN.{length}
use lib.Ieee.{Float}
use Rattle.definition.specs.Lists.{filter, below}
use Rattle.definition.specs.Floats.{◌≺◌, ◌⊗◌, ◌⊕◌}
use Rattle.definition.specs.Numbers.{Quality, Turn, side_margin, edge_high}
use Rattle.definition.specs.Plane.{Node, Vec, flat, norm, from_to}
use Rattle.definition.specs.Cells.{Live, Mesh, node_at}
use Rattle.definition.specs.Candidates.{ahead, walls, side_candidate, toward, edge_candidate, live_region, candidates}
use Rattle.definition.specs.Call.{point_at}
use Rattle.laws.specs.Bools.{and_left, and_right}
use Rattle.cells.specs.Rep.{Pts}
use Rattle.live_regions.proofs.Steps.{region_flat}
use Rattle.side_candidates.specs.Hand.{in_view}
use Rattle.side_candidates.proofs.Aheads.{side_ahead}
use Rattle.plane.specs.Points.{node_of}
use Rattle.edge_candidates.specs.Wanted.{by_edge}
use Rattle.candidates.specs.Choice.{too_far, is_choice}

module _ (y : Quality) (t : Turn) (m : Mesh) (a other : ℕ) (n : Vec) (target : Float) (g : List Live) (v : ℕ) where
  edge_off : (edge_high ⊗ target ≺ norm (toward m a v)) ≡ true → by_edge t m a other target v ≡ false
  unfolding edge_candidate
  edge_off h = rw h (simp and-false)

  side_off : (y.side_high ⊗ target ≺ norm (toward m a v)) ≡ true → side_candidate y m a other n target g (walls m g) v ≡ false
  unfolding side_candidate ahead toward
  side_off h = rw h (simp and-false)

  side_back : false ≡ ahead y n (from_to (node_at m a) (node_at m v)) target → side_candidate y m a other n target g (walls m g) v ≡ false
  unfolding side_candidate
  side_back h = rw (← h) (simp and-false)

  pub choice_far : true ≡ too_far y (norm (toward m a v)) target → false ≡ is_choice y t m a other n target g v
  choice_far h =
      let e = and_left (edge_high ⊗ target ≺ norm (toward m a v)) (y.side_high ⊗ target ≺ norm (toward m a v)) (sym h) in
      let s = and_right (edge_high ⊗ target ≺ norm (toward m a v)) (y.side_high ⊗ target ≺ norm (toward m a v)) (sym h) in
      rw (edge_off e, side_off s)

  pub choice_edge : true ≡ by_edge t m a other target v → true ≡ is_choice y t m a other n target g v
  choice_edge h = rw (← h)

  pub choice_behind : false ≡ by_edge t m a other target v → false ≡ ahead y n (from_to (node_at m a) (node_at m v)) target → false ≡ is_choice y t m a other n target g v
  choice_behind h k = rw (← h, side_back k)

  pub choice_side : (x : Bool) → false ≡ by_edge t m a other target v → true ≡ ahead y n (from_to (node_at m a) (node_at m v)) target → x ≡ in_view m a other g v
      → x ≡ is_choice y t m a other n target g v
  choice_side x h k e = rw (← h) (e ∙ side_ahead m a other g v y n target k)

-- the region around a node, by its point as it is read
pub region_read : (q : List Float) (p : ℕ) (m : Mesh) → Pts q p m → (seed a : ℕ) → a < length m.points → (x y r : Float) → flat x y ≡ flat (point_at q a).x (point_at q a).y
    → live_region m seed (flat x y) r ≡ live_region m seed (node_at m a) r
region_read q p m k seed a h x y r e =
    let z : point_at q a ≡ node_at m a = sym (node_of m (length m.points) q k.are a h) in
    ap (λ (o : Node). live_region m seed o r) (e ∙ ap (λ (o : Node). flat o.x o.y) z) ∙ sym (region_flat m seed (node_at m a) r)

-- the region that the side nodes of a are looked for in
abbrev pub region_of : Quality → Mesh → ℕ → ℕ → Float → List Live
region_of y m seed a target = live_region m seed (node_at m a) ((y.side_high ⊕ side_margin) ⊗ target)

-- the side nodes are those chosen among all nodes, in their order
pub chosen_are : (y : Quality) (t : Turn) (m : Mesh) (a other seed k : ℕ) (n : Vec) (target : Float) → k ≡ length m.points
    → filter (is_choice y t m a other n target (region_of y m seed a target)) (below k) ≡ candidates y t m a other seed n target
unfolding candidates
chosen_are y t m a other seed k n target e = ap (λ (j : ℕ). filter (is_choice y t m a other n target (region_of y m seed a target)) (below j)) e
