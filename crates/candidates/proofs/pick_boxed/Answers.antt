-- The boxes are those of the triangles in hand, which stay in hand.
use Prim.Native.Nat.{ℕ, ◌+◌, ◌/◌, ◌<◌, ◌≤◌}
use native.Mathlib.Omega.{arith}
use Rattle.definition.specs.Lists.{filter}
use Rattle.side_candidates.specs.Hand.{fenced}
use Rattle.candidates.proofs.pick_boxed.Goals as goal

some : (k : ℕ) → 0 < k / 64 + 4
some k = omega arith

few : (k : ℕ) → 64 ≤ k → k / 64 + 4 ≤ k + 1
few k h = omega arith

pub overflow_add-size : goal.overflow_add-size
overflow_add-size c =
    let h = c.requires.can_pick.2.hand in
    omega (arith, few c.args.k c.requires.le_k, h.few, h.rep.room.small)

pub box_walls-requires : goal.box_walls-requires
box_walls-requires c =
    let y = c.requires.can_pick in
    record { in_hand = (y.0, filter (fenced y.0) y.1, y.2.hand); size_nonzero = (some c.args.k, few c.args.k c.requires.le_k) }

pub pick_among-requires : goal.pick_among-requires
pick_among-requires c =
    let y = c.requires.can_pick in
    (y.0, y.1, y.2, record { some = some c.args.k; few = few c.args.k c.requires.le_k; boxed = c.box_walls.ensures y.0 (filter (fenced y.0) y.1) y.2.hand })

pub shape_of-w : goal.shape_of-w
shape_of-w c = c.pick_among.auto.w

pub returns : goal.returns
returns c =
    λ m g h.
    c.pick_among.ensures m g h (record { some = some c.args.k; few = few c.args.k c.requires.le_k; boxed = c.box_walls.ensures m (filter (fenced m) g) h.hand })
