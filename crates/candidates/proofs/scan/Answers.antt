-- The nodes of the span are marked, the triangles without a wall leave the list, and then the side nodes are picked.
use mathlib.Core.Path.{sym, ◌∙◌, subst}
use mathlib.Core.List.{List}
use Prim.Native.Nat.{ℕ, ◌<◌}
use native.Mathlib.Omega.{arith}
use lib.ListN.{length}
use Rattle.definition.specs.Lists.{filter, below}
use Rattle.definition.specs.Cells.{Live, Mesh}
use Rattle.plane.specs.Vectors.{vec}
use Rattle.rules.specs.Settings.{quality_of}
use Rattle.edge_candidates.specs.Wanted.{turn}
use Rattle.side_candidates.specs.Hand.{InHand}
use Rattle.candidates.specs.Spans.{Spans}
use Rattle.candidates.specs.Words.{MarkedTo}
use Rattle.candidates.specs.Choice.{is_choice, CanScan, ScannedTo}
use Rattle.candidates.proofs.Lists.{hand_kept, can_pick, scanned_from}
use Rattle.candidates.proofs.scan.Goals as goal
use Rattle.candidates.proofs.scan.Goals.{After-mark_nodes}

-- the span, what the words tell of it, and the region still in hand
module _ (c : After-mark_nodes) (m : Mesh) (g : List Live)
    (h : CanScan c.args.w.now c.args.q.now c.args.lay.slots c.args.lay.points c.args.k c.args.n c.args.b c.args.aim.end c.args.aim.other c.args.i c.args.o m g) where
  end : c.args.aim.end < length m.points
  end = omega (arith, h.first, h.count)

  spans : Spans m c.args.aim.end g c.span_for-g.result
  spans = c.span_for-g.ensures c.args.q.now m g h.hand end

  marked : MarkedTo c.args.w.now c.mark_nodes.new.w c.args.lay.points c.args.b m c.args.aim.end g c.span_for-g.result
  marked = c.mark_nodes.ensures c.args.q.now m g h.hand end spans.known

  hand : InHand c.mark_nodes.new.w c.args.q.now c.args.lay.slots c.args.lay.points c.args.k m g
  hand = let a = c.args in hand_kept a.w.now c.mark_nodes.new.w a.q.now a.lay.slots a.lay.points a.k a.b a.lay.points m g h.hand h.from marked.besides

pub span_for-g-requires : goal.span_for-g-requires
span_for-g-requires c = let h = c.requires.2 in (c.args.q.now, c.requires.0, c.requires.1, h.hand, omega (arith, h.first, h.count))

pub mark_nodes-requires : goal.mark_nodes-requires
mark_nodes-requires c =
    let m = c.requires.0 in
    let g = c.requires.1 in
    let h = c.requires.2 in
    let e : c.args.aim.end < length m.points = omega (arith, h.first, h.count) in
    record {
      can_mark = record { spare = record { fits = omega (arith, h.to, h.wish.to); small = omega (arith, h.hand.rep.room.small) }; from = h.from };
      in_hand = (c.args.q.now, m, g, h.hand, e, (c.span_for-g.ensures c.args.q.now m g h.hand e).known);
    }

pub keep_walls-fenced-requires : goal.keep_walls-fenced-requires
keep_walls-fenced-requires c =
    let m = c.requires.0 in
    let g = c.requires.1 in
    (c.args.q.now, m, g, hand (goal.at.keep_walls-fenced-requires c).After-mark_nodes m g c.requires.2)

pub pick-requires : goal.pick-requires
pick-requires c =
    let a = c.args in
    let m = c.requires.0 in
    let g = c.requires.1 in
    let h = c.requires.2 in
    let k = (goal.at.pick-requires c).After-mark_nodes in (
      m,
      g,
      can_pick a.w.now c.mark_nodes.new.w c.keep_walls-fenced.new.w a.q.now a.lay.slots a.lay.points a.k c.keep_walls-fenced.result a.n a.b a.aim.end a.aim.other a.i a.o m g h c.span_for-g.result (marked k m g h)
          (c.keep_walls-fenced.ensures a.q.now m g (hand k m g h)) (spans k m g h),
    )

pub shape_of-w : goal.shape_of-w
shape_of-w c = c.pick.auto.w ∙ c.keep_walls-fenced.auto.w ∙ c.mark_nodes.auto.w

pub returns : goal.returns
returns c =
    let a = c.args in
    let w1 = c.mark_nodes.new.w in
    let w2 = c.keep_walls-fenced.new.w in
    let w3 = c.pick.new.w in
    let j = c.keep_walls-fenced.result in
    let k = (goal.at.returns c).After-mark_nodes in
    λ m g h.
    let z = c.keep_walls-fenced.ensures a.q.now m g (hand k m g h) in
    let y = marked k m g h in
    let f = is_choice (quality_of a.aim.quality) (turn a.aim.left) m a.aim.end a.aim.other (vec a.aim.normal) a.aim.target g in
    let o = can_pick a.w.now w1 w2 a.q.now a.lay.slots a.lay.points a.k j a.n a.b a.aim.end a.aim.other a.i a.o m g h c.span_for-g.result y z (spans k m g h) in
    scanned_from a.w.now w1 w2 a.q.now a.lay.slots a.lay.points a.k j a.n a.b a.aim.end a.aim.other a.i a.o m g h c.span_for-g.result y z w3 c.pick.result (filter f (below a.n))
    (subst (λ (n : ℕ). ScannedTo w2 w3 a.lay.slots a.lay.points n a.b c.pick.result (filter f (below n))) (sym h.count) (c.pick.ensures m g o))
