-- A node in view, test after test, and side candidates.
use mathlib.Core.Path.{◌≡◌, ap, sym, ◌∙◌}
use mathlib.Core.Logic.{◌≢◌}
use mathlib.Core.Bool.{Bool, true, false, not, ◌&&◌, and-true}
use mathlib.Core.List.{List}
use Prim.Native.Nat.{ℕ}
use lib.Dec.{eqb}
use lib.ListN.{length}
use lib.Ieee.{Float}
use borrow.Author.Tests.{eq-eqb, ne_eqb}
use Rattle.definition.specs.Plane.{Node, Vec, from_to}
use Rattle.definition.specs.Numbers.{Quality}
use Rattle.definition.specs.Lists.{any}
use Rattle.definition.specs.Cells.{Live, Mesh, node_at, has_node}
use Rattle.definition.specs.Candidates.{ahead, walls, segment_inside, side_candidate}
use Rattle.definition.specs.Call.{point_at}
use Rattle.cells.specs.Rep.{Pts}
use Rattle.plane.specs.Points.{node_of}
use Rattle.side_candidates.specs.Hand.{Ends, in_view}

-- the way from a to v, by the points as they are read
pub ahead_read : (y : Quality) (q : List Float) (p : ℕ) (m : Mesh) → Pts q p m → (a v : ℕ) → Ends m a v → (n d : Vec) (target : Float) → d ≡ from_to (point_at q a) (point_at q v)
    → ahead y n d target ≡ ahead y n (from_to (node_at m a) (node_at m v)) target
ahead_read y q p m k a v e n d target h =
    let r = node_of m (length m.points) q k.are in
    ap (λ (z : Vec). ahead y n z target) (h ∙ ap (λ (z : Node). from_to z (point_at q v)) (sym (r a e.first)) ∙ ap (from_to (node_at m a)) (sym (r v e.second)))

module _ (m : Mesh) (a other : ℕ) (g : List Live) (v : ℕ) where
  pub view_same : v ≡ a → false ≡ in_view m a other g v
  unfolding in_view
  view_same e = rw (eq-eqb v a e)

  pub view_other : v ≢ a → v ≡ other → false ≡ in_view m a other g v
  unfolding in_view
  view_other d e = rw (ne_eqb v a d, eq-eqb v other e)

  pub view_inside : (x : Bool) → v ≢ a → v ≢ other → any (has_node v) g ≡ true → x ≡ segment_inside m a v (walls m g) → x ≡ in_view m a other g v
  unfolding in_view
  view_inside x d e f k = rw (ne_eqb v a d, ne_eqb v other e, f) k

  -- a side candidate, where it is ahead
  pub side_ahead : (y : Quality) (n : Vec) (target : Float) → true ≡ ahead y n (from_to (node_at m a) (node_at m v)) target
      → in_view m a other g v ≡ side_candidate y m a other n target g (walls m g) v
  unfolding in_view side_candidate
  side_ahead y n target h = rw (← h, and-true (not (eqb v a) && not (eqb v other) && any (has_node v) g))
