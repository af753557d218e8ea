use mathlib.Core.Path.{◌∙◌}
use Rattle.cells.proofs.Points.{node_within}
use Rattle.side_candidates.proofs.Fences.{passes_ua, passes_va, passes_ub, passes_vb, passes_clear, crosses_read}
use Rattle.side_candidates.proofs.inside.passes_by.Goals as goal

pub returns-then-u-a : goal.returns-then-u-a
returns-then-u-a c =
    let a = c.args in
    λ m k e f. passes_ua m a.a a.b a.u a.v c.if-u-a.true

pub returns-then-v-a : goal.returns-then-v-a
returns-then-v-a c =
    let a = c.args in
    λ m k e f. passes_va m a.a a.b a.u a.v c.if-u-a.false c.if-v-a.true

pub returns-then-u-b : goal.returns-then-u-b
returns-then-u-b c =
    let a = c.args in
    λ m k e f. passes_ub m a.a a.b a.u a.v c.if-u-a.false c.if-v-a.false c.if-u-b.true

pub returns-then-v-b : goal.returns-then-v-b
returns-then-v-b c =
    let a = c.args in
    λ m k e f. passes_vb m a.a a.b a.u a.v c.if-u-a.false c.if-v-a.false c.if-u-b.false c.if-v-b.true

pub segments_cross-requires : goal.segments_cross-requires
segments_cross-requires c =
    let a = c.args in
    let m = c.requires.0 in
    let k = c.requires.1 in
    let y = node_within a.q.now a.p m k in
    (y a.a c.requires.2.first, y a.b c.requires.2.second, y a.u c.requires.3.first, y a.v c.requires.3.second)

pub returns : goal.returns
returns c =
    let a = c.args in
    λ m k e f. passes_clear m a.a a.b a.u a.v c.segments_cross.result c.if-u-a.false c.if-v-a.false c.if-u-b.false c.if-v-b.false (c.segments_cross.ensures ∙ crosses_read a.q.now a.p m k a.a a.b a.u a.v e f)
