use mathlib.Core.Path.{◌≡◌, sym, ◌∙◌}
use mathlib.Core.Bool.{true, false}
use Rattle.live_regions.proofs.Steps.{corners_of, near, near_is, within, reach_0, reach_1, reach_2}
use Rattle.live_regions.proofs.live.is_near.Goals as goal

pub near_node-requires : goal.near_node-requires
near_node-requires c =
    let a = c.args in
    let m = c.requires.rep.0 in
    let rep = c.requires.rep.1 in
    let pts = c.requires.rep.2 in
    let k = c.requires.rep.3 in
    let d = corners_of a.w.now a.lay.slots a.lay.points a.i m rep k in
    within a.q.now a.lay.points m pts c.node.result k.t.n0 (c.node.ensures ∙ d.read.n0) d.k0

pub returns-then-near_node : goal.returns-then-near_node
returns-then-near_node c =
    let a = c.args in
    λ m rep pts k.
    let d = corners_of a.w.now a.lay.slots a.lay.points a.i m rep k in
    let b0 : true ≡ near m a.o.at.x a.o.at.y a.o.r k.t.n0 = near_is a.q.now a.lay.points m pts a.o.at.x a.o.at.y a.o.r c.node.result k.t.n0 true (c.node.ensures ∙ d.read.n0) d.k0 (sym c.if-near_node.true ∙ c.near_node.ensures) in
    reach_0 m a.o.at.x a.o.at.y a.o.r k.t b0

pub near_node-requires-2 : goal.near_node-requires-2
near_node-requires-2 c =
    let a = c.args in
    let m = c.requires.rep.0 in
    let rep = c.requires.rep.1 in
    let pts = c.requires.rep.2 in
    let k = c.requires.rep.3 in
    let d = corners_of a.w.now a.lay.slots a.lay.points a.i m rep k in
    within a.q.now a.lay.points m pts c.node-2.result k.t.n1 (c.node-2.ensures ∙ d.read.n1) d.k1

pub returns-then-near_node-2 : goal.returns-then-near_node-2
returns-then-near_node-2 c =
    let a = c.args in
    λ m rep pts k.
    let d = corners_of a.w.now a.lay.slots a.lay.points a.i m rep k in
    let b0 : false ≡ near m a.o.at.x a.o.at.y a.o.r k.t.n0 = near_is a.q.now a.lay.points m pts a.o.at.x a.o.at.y a.o.r c.node.result k.t.n0 false (c.node.ensures ∙ d.read.n0) d.k0 (sym c.if-near_node.false ∙ c.near_node.ensures) in
    let b1 : true ≡ near m a.o.at.x a.o.at.y a.o.r k.t.n1 = near_is a.q.now a.lay.points m pts a.o.at.x a.o.at.y a.o.r c.node-2.result k.t.n1 true (c.node-2.ensures ∙ d.read.n1) d.k1 (sym c.if-near_node-2.true ∙ c.near_node-2.ensures) in
    reach_1 m a.o.at.x a.o.at.y a.o.r k.t b0 b1

pub near_node-requires-3 : goal.near_node-requires-3
near_node-requires-3 c =
    let a = c.args in
    let m = c.requires.rep.0 in
    let rep = c.requires.rep.1 in
    let pts = c.requires.rep.2 in
    let k = c.requires.rep.3 in
    let d = corners_of a.w.now a.lay.slots a.lay.points a.i m rep k in
    within a.q.now a.lay.points m pts c.node-3.result k.t.n2 (c.node-3.ensures ∙ d.read.n2) d.k2

pub returns : goal.returns
returns c =
    let a = c.args in
    λ m rep pts k.
    let d = corners_of a.w.now a.lay.slots a.lay.points a.i m rep k in
    let b0 : false ≡ near m a.o.at.x a.o.at.y a.o.r k.t.n0 = near_is a.q.now a.lay.points m pts a.o.at.x a.o.at.y a.o.r c.node.result k.t.n0 false (c.node.ensures ∙ d.read.n0) d.k0 (sym c.if-near_node.false ∙ c.near_node.ensures) in
    let b1 : false ≡ near m a.o.at.x a.o.at.y a.o.r k.t.n1 = near_is a.q.now a.lay.points m pts a.o.at.x a.o.at.y a.o.r c.node-2.result k.t.n1 false (c.node-2.ensures ∙ d.read.n1) d.k1 (sym c.if-near_node-2.false ∙ c.near_node-2.ensures) in
    let b2 : c.near_node-3.result ≡ near m a.o.at.x a.o.at.y a.o.r k.t.n2 = near_is a.q.now a.lay.points m pts a.o.at.x a.o.at.y a.o.r c.node-3.result k.t.n2 c.near_node-3.result (c.node-3.ensures ∙ d.read.n2) d.k2 c.near_node-3.ensures in
    reach_2 m a.o.at.x a.o.at.y a.o.r k.t c.near_node-3.result b0 b1 b2
