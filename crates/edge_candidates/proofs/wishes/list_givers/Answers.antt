-- The loop's invariant: all nodes that give an ideal but those whose edges with a the cells to come have are listed.
-- The measure is how many links are left.
use Rattle.laws.specs.Kit.{refl, sym, ◌∙◌, subst, ℕ, arith}
use Rattle.plane.specs.Vectors.{vec}
use Rattle.edge_candidates.proofs.Givers.{Gather, gather_start, gather_read, gather_less, gather_one, gather_two, gather_more, gather_end}
use Rattle.edge_candidates.proofs.wishes.list_givers.Goals as goal

pub next-c-requires : goal.next-c-requires
next-c-requires c =
    record { fits = omega (arith, c.requires.1.rep.room.fits); code = omega (arith, c.requires.1.ends.node, c.requires.1.rep.points) }

pub loop-c-init : goal.loop-c-init
loop-c-init c =
    let a = c.args in (
      refl,
      λ m k.
          subst (λ (z : ℕ). Gather a.w.now a.w.now a.q.now a.lay.slots a.lay.points a.b (record { count = 0; kept = 0 }) z m a.a a.other (vec a.u)) (sym c.next-c.ensures)
          (gather_start a.w.now a.q.now a.lay.slots a.lay.points a.a a.other a.b m k (vec a.u)),
    )

pub node_after-x-requires : goal.node_after-x-requires
node_after-x-requires c =
    let x = c.loop-c in
    let a = c.args in
    let m = c.requires.0 in
    let k = c.requires.1 in
    let z = x.invariant.1 m k in
    gather_read a.w.now a.q.now a.lay.slots a.lay.points a.a a.other a.b m k (vec a.u) x.w x.g x.c z c.loop-c-test.true

pub node_before-y-requires : goal.node_before-y-requires
node_before-y-requires c =
    let x = c.loop-c in
    let a = c.args in
    let m = c.requires.0 in
    let k = c.requires.1 in
    let z = x.invariant.1 m k in
    gather_read a.w.now a.q.now a.lay.slots a.lay.points a.a a.other a.b m k (vec a.u) x.w x.g x.c z c.loop-c-test.true

pub next-d-requires : goal.next-d-requires
next-d-requires c =
    let x = c.loop-c in
    let a = c.args in
    record { fits = omega (arith, x.invariant.0, c.requires.1.rep.room.fits); code = omega (arith, c.loop-c-test.true) }

pub list_node-one-requires : goal.list_node-one-requires
list_node-one-requires c =
    let x = c.loop-c in
    let a = c.args in
    let m = c.requires.0 in
    let k = c.requires.1 in
    let z = x.invariant.1 m k in
    (m, gather_one a.w.now a.q.now a.lay.slots a.lay.points a.a a.other a.b m k (vec a.u) x.w x.g x.c z c.loop-c-test.true c.node_after-x.result c.node_before-y.result c.next-d.result c.node_after-x.ensures c.node_before-y.ensures c.next-d.ensures)

pub list_node-g-requires : goal.list_node-g-requires
list_node-g-requires c =
    let x = c.loop-c in
    let a = c.args in
    let m = c.requires.0 in
    let k = c.requires.1 in
    let z = x.invariant.1 m k in
    let o = gather_one a.w.now a.q.now a.lay.slots a.lay.points a.a a.other a.b m k (vec a.u) x.w x.g x.c z c.loop-c-test.true c.node_after-x.result c.node_before-y.result c.next-d.result c.node_after-x.ensures c.node_before-y.ensures c.next-d.ensures in (
      m,
      gather_two a.w.now a.q.now a.lay.slots a.lay.points a.a a.other a.b m k (vec a.u) x.w x.g x.c z c.loop-c-test.true c.node_after-x.result c.node_before-y.result c.next-d.result c.node_after-x.ensures c.node_before-y.ensures c.next-d.ensures
          c.list_node-one.new.w c.list_node-one.result (c.list_node-one.ensures m o),
    )

pub loop-c-smaller : goal.loop-c-smaller
loop-c-smaller c =
    let x = c.loop-c in
    let a = c.args in
    let m = c.requires.0 in
    let k = c.requires.1 in
    let z = x.invariant.1 m k in
    gather_less a.w.now a.q.now a.lay.slots a.lay.points a.a a.other a.b m k (vec a.u) x.w x.g x.c z c.loop-c-test.true c.node_after-x.result c.node_before-y.result c.next-d.result c.node_after-x.ensures c.node_before-y.ensures c.next-d.ensures

pub loop-c-preserved : goal.loop-c-preserved
loop-c-preserved c =
    let x = c.loop-c in
    let a = c.args in (
      c.list_node-g.auto.w ∙ c.list_node-one.auto.w ∙ x.invariant.0,
      λ m k.
          let z = x.invariant.1 m k in
          let o = c.list_node-one.ensures m (gather_one a.w.now a.q.now a.lay.slots a.lay.points a.a a.other a.b m k (vec a.u) x.w x.g x.c z c.loop-c-test.true c.node_after-x.result c.node_before-y.result c.next-d.result c.node_after-x.ensures c.node_before-y.ensures c.next-d.ensures) in
          let d = c.list_node-g.ensures m
          (gather_two a.w.now a.q.now a.lay.slots a.lay.points a.a a.other a.b m k (vec a.u) x.w x.g x.c z c.loop-c-test.true c.node_after-x.result c.node_before-y.result c.next-d.result c.node_after-x.ensures c.node_before-y.ensures c.next-d.ensures
          c.list_node-one.new.w c.list_node-one.result o) in
          gather_more a.w.now a.q.now a.lay.slots a.lay.points a.a a.other a.b m k (vec a.u) x.w x.g x.c z c.loop-c-test.true c.node_after-x.result c.node_before-y.result c.next-d.result c.node_after-x.ensures c.node_before-y.ensures c.next-d.ensures
          c.list_node-one.new.w c.list_node-one.result o c.list_node-g.new.w c.list_node-g.result d,
    )

pub returns : goal.returns
returns c =
    let x = c.loop-c in
    let a = c.args in
    λ m k. gather_end a.w.now a.q.now a.lay.slots a.lay.points a.a a.other a.b m k (vec a.u) x.w x.g x.c (x.invariant.1 m k) c.loop-c-test.false

pub shape_of-w : goal.shape_of-w
shape_of-w c = c.loop-c.invariant.0
