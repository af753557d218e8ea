-- The nodes from place k on decide.
use Rattle.laws.specs.Kit.{refl, true, false, arith}
use Rattle.definition.specs.Plane.{flat}
use Rattle.cells.proofs.Slots.{rep_see}
use Rattle.live_regions.proofs.Steps.{within}
use Rattle.insertion.proofs.Clears.{clearing_start, clearing_here, clearing_stop, clearing_more, clearing_end, far_read}
use Rattle.insertion.proofs.clear.is_clear.Goals as goal

pub loop-k-init : goal.loop-k-init
loop-k-init c =
    let a = c.args in
    (omega arith, λ m d. clearing_start a.w.now a.lay.slots a.lay.points m d.rep a.i c.kind-n.result c.requires.i_lt_s c.kind-n.ensures (flat a.x a.y) a.spacing)

pub node-requires : goal.node-requires
node-requires c =
    let a = c.args in
    let m = c.requires.drawn.0 in
    let d = c.requires.drawn.1 in
    record { can_see = rep_see a.w.now a.lay.slots a.lay.points m d.rep a.i c.requires.i_lt_s; k_bound = omega (arith, c.loop-k-test.true, (c.loop-k.invariant.1 m d).left.most) }

pub dist-requires : goal.dist-requires
dist-requires c =
    let a = c.args in
    let m = c.requires.drawn.0 in
    let d = c.requires.drawn.1 in
    let h = c.loop-k.invariant.1 m d in
    let g = clearing_here a.w.now a.lay.slots a.i c.kind-n.result c.loop-k.k m (flat a.x a.y) a.spacing h c.node.result c.loop-k-test.true c.node.ensures in
    within a.q.now a.lay.points m d.pts c.node.result c.node.result refl g.known

pub returns-then-dist-spacing : goal.returns-then-dist-spacing
returns-then-dist-spacing c =
    let a = c.args in
    λ m d.
    let h = c.loop-k.invariant.1 m d in
    let g = clearing_here a.w.now a.lay.slots a.i c.kind-n.result c.loop-k.k m (flat a.x a.y) a.spacing h c.node.result c.loop-k-test.true c.node.ensures in
    clearing_stop a.w.now a.lay.slots a.i c.kind-n.result c.loop-k.k m (flat a.x a.y) a.spacing h c.node.result g
    (far_read a.q.now a.lay.points m d.pts (flat a.x a.y) a.spacing c.node.result c.dist.result g.known c.dist.ensures.1 true c.if-dist-spacing.true)

pub loop-k-preserved : goal.loop-k-preserved
loop-k-preserved c =
    let a = c.args in (
      omega (arith, c.loop-k-test.true),
      λ m d.
          let h = c.loop-k.invariant.1 m d in
          let g = clearing_here a.w.now a.lay.slots a.i c.kind-n.result c.loop-k.k m (flat a.x a.y) a.spacing h c.node.result c.loop-k-test.true c.node.ensures in
          clearing_more a.w.now a.lay.slots a.i c.kind-n.result c.loop-k.k m (flat a.x a.y) a.spacing h c.node.result g
          (far_read a.q.now a.lay.points m d.pts (flat a.x a.y) a.spacing c.node.result c.dist.result g.known c.dist.ensures.1 false c.if-dist-spacing.false),
    )

pub returns : goal.returns
returns c =
    let a = c.args in
    λ m d. clearing_end a.w.now a.lay.slots a.i c.kind-n.result c.loop-k.k m (flat a.x a.y) a.spacing (c.loop-k.invariant.1 m d) c.loop-k-test.false
