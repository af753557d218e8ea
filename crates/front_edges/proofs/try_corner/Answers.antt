-- A corner of a quad adds nothing; at a corner of a triangle both of its edges are tried.
use Rattle.laws.specs.Kit.{sym, ◌∙◌}
use Rattle.front_edges.proofs.Corners.{here_see, here_read, quad_step, can_x, can_y, tri_step}
use Rattle.front_edges.proofs.try_corner.Goals as goal

pub kind-requires : goal.kind-requires
kind-requires c =
    let a = c.args in
    here_see a.w.now a.lay.slots a.lay.points a.u c.requires.by_index.1 a.k a.c c.requires.by_index.0 c.requires.by_index.2 c.requires.c_bound

pub returns-then-kind-ne3 : goal.returns-then-kind-ne3
returns-then-kind-ne3 c = λ m from h.
    let a = c.args in
    quad_step a.w.now a.lay.slots a.lay.points a.u from a.k a.c m h c.requires.c_bound (λ e. c.if-kind-ne3.true (c.kind.ensures ∙ e))

pub node_after-x-requires : goal.node_after-x-requires
node_after-x-requires c =
    let a = c.args in
    here_read a.w.now a.lay.slots a.lay.points a.u c.requires.by_index.1 a.k a.c c.requires.by_index.0 c.requires.by_index.2 c.requires.c_bound

pub node_before-y-requires : goal.node_before-y-requires
node_before-y-requires c =
    let a = c.args in
    here_read a.w.now a.lay.slots a.lay.points a.u c.requires.by_index.1 a.k a.c c.requires.by_index.0 c.requires.by_index.2 c.requires.c_bound

pub try_edge-one-requires : goal.try_edge-one-requires
try_edge-one-requires c =
    let a = c.args in (
      c.requires.by_index.0,
      can_x a.w.now a.lay.slots a.lay.points a.u c.requires.by_index.1 a.k a.c c.requires.by_index.0 c.requires.by_index.2 c.requires.c_bound (sym c.kind.ensures ∙ c.if-kind-ne3.false)
          c.node_after-x.result c.node_before-y.result c.node_after-x.ensures c.node_before-y.ensures,
    )

pub try_edge-requires : goal.try_edge-requires
try_edge-requires c =
    let a = c.args in
    let q = sym c.kind.ensures ∙ c.if-kind-ne3.false in
    let m = c.requires.by_index.0 in
    let from = c.requires.by_index.1 in
    let h = c.requires.by_index.2 in (
      m,
      can_y a.w.now a.lay.slots a.lay.points a.u from a.k a.c m h c.requires.c_bound q c.node_after-x.result c.node_before-y.result c.node_after-x.ensures c.node_before-y.ensures
          c.try_edge-one.new.w c.try_edge-one.result
          (c.try_edge-one.ensures m
          (can_x a.w.now a.lay.slots a.lay.points a.u from a.k a.c m h c.requires.c_bound q c.node_after-x.result c.node_before-y.result c.node_after-x.ensures c.node_before-y.ensures)),
    )

pub shape_of-w : goal.shape_of-w
shape_of-w c = c.try_edge.auto.w ∙ c.try_edge-one.auto.w

pub returns : goal.returns
returns c = λ m from h.
    let a = c.args in
    let q = sym c.kind.ensures ∙ c.if-kind-ne3.false in
    let one = c.try_edge-one.ensures m
    (can_x a.w.now a.lay.slots a.lay.points a.u from a.k a.c m h c.requires.c_bound q c.node_after-x.result c.node_before-y.result c.node_after-x.ensures c.node_before-y.ensures) in
    let two = c.try_edge.ensures m
    (can_y a.w.now a.lay.slots a.lay.points a.u from a.k a.c m h c.requires.c_bound q c.node_after-x.result c.node_before-y.result c.node_after-x.ensures c.node_before-y.ensures
    c.try_edge-one.new.w c.try_edge-one.result one) in
    tri_step a.w.now a.lay.slots a.lay.points a.u from a.k a.c m h c.requires.c_bound q c.node_after-x.result c.node_before-y.result c.node_after-x.ensures c.node_before-y.ensures
    c.try_edge-one.new.w c.try_edge-one.result one c.try_edge.new.w c.try_edge.result two
