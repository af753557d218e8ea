use Rattle.std.specs.Prelude.{◌≡◌}
use Rattle.laws.specs.Kit.{rules, not-true, not-false}
use Rattle.definition.specs.Plane.{segments_cross}
use Rattle.definition.specs.Call.{point_at}
use Rattle.crossings.proofs.Tests.{parts_side, cross_rest, shares_a, shares_b, parts_not, parts_rest}
use Rattle.crossings.proofs.cross.is_crossing.Statement.{statement}
use Rattle.crossings.proofs.cross.is_crossing.Tie as tie

abbrev top : tie.After-other_side → tie.Start
top x = x.before.before.before.before.before.before.before

-- the first test passed before, and this is the second
crosses : (x : tie.After-other_side)
    → x.other_side.result ≡ segments_cross (point_at (top x).args.q.now (top x).args.u) (point_at (top x).args.q.now (top x).args.v) (point_at (top x).args.q.now (top x).args.a) (point_at (top x).args.q.now (top x).args.b)
crosses x =
    let t = top x in
    let p = point_at t.args.q.now in
    cross_rest (p t.args.u) (p t.args.v) (p t.args.a) (p t.args.b) x.other_side.result t.requires.1
    (parts_side (p t.args.a) (p t.args.b) (p t.args.u) (p t.args.v) x.other_side.result x.side.result x.side.ensures x.other_side.ensures)

returns : tie.Need-returns-then-not-off_edge
returns c = λ m e f.
    let o = c in
    let a = o.args in
    shares_a m a.u a.v a.a a.b o.off_edge.result o.off_edge.ensures c.if-not-off_edge.true

returns_2 : tie.Need-returns-then-not-off_edge-2
returns_2 c = λ m e f.
    let o2 = c in
    let a = o2.args in
    shares_b m a.u a.v a.a a.b o2.off_edge-2.result o2.off_edge-2.ensures c.if-not-off_edge-2.true

returns_3 : tie.Need-returns-then-not-other_side
returns_3 c = λ m e f.
    let x = c in
    let e2 = x in
    let o2 = e2 in
    let e1 = o2 in
    let o = e1 in
    let a = o.args in
    parts_not m a.u a.v a.a a.b o.off_edge.result o.off_edge.ensures e1.if-not-off_edge.false
    o2.off_edge-2.result o2.off_edge-2.ensures e2.if-not-off_edge-2.false
    a.q.now f x.other_side.result (crosses x.before) c.if-not-other_side.true

returns_4 : tie.Need-returns
returns_4 c = λ m e f.
    let e3 = c in
    let x = e3 in
    let e2 = x in
    let o2 = e2 in
    let e1 = o2 in
    let o = e1 in
    let a = o.args in
    parts_rest m a.u a.v a.a a.b o.off_edge.result o.off_edge.ensures e1.if-not-off_edge.false
    o2.off_edge-2.result o2.off_edge-2.ensures e2.if-not-off_edge-2.false
    a.q.now f x.other_side.result (crosses x.before.before) e3.if-not-other_side.false
    c.overlaps.result (c.overlaps.ensures m e f)

pub is_crossing_spec : {M : Type 1} → statement M
is_crossing_spec =
    tie.close
    (tie.spec
    (λ c κs. search rules) returns (λ c κs. search rules) returns_2 (λ c κs. search rules) (λ c κs. search rules) returns_3 (λ c κs. search rules) returns_4)
