use Rattle.std.specs.Prelude.{◌≡◌}
use Rattle.laws.specs.Kit.{sym, ◌∙◌, ap, subst, true, false, arith, Float}
use Rattle.definition.specs.Floats.{◌≺◌, ◌≼◌, 0·2, 1e-12, f64}
use Rattle.definition.specs.Numbers.{ideal_sum, tiny_length}
use Rattle.definition.specs.Plane.{Vec, norm, over}
use Rattle.definition.specs.Cells.{is_front}
use Rattle.definition.specs.Candidates.{toward, plus}
use Rattle.cells.proofs.Points.{node_within}
use Rattle.cells.proofs.Edges.{key_swap}
use Rattle.plane.specs.Vectors.{vec}
use Rattle.edge_candidates.specs.Wanted.{every}
use Rattle.edge_candidates.proofs.Halves.{half_gives, by_same, by_other, by_inner, by_tiny, by_half, toward_read, half_is, not_given, given}
use Rattle.edge_candidates.proofs.wishes.ideal_of.Goals as goal

pub returns-then-v-a : goal.returns-then-v-a
returns-then-v-a c =
    let a = c.args in
    λ m r k y. not_given a.q.now m a.a a.other (vec a.u) a.v (by_same every m a.a a.other (vec a.u) a.v c.if-v-a.true)

pub returns-then-v-other : goal.returns-then-v-other
returns-then-v-other c =
    let a = c.args in
    λ m r k y. not_given a.q.now m a.a a.other (vec a.u) a.v (by_other every m a.a a.other (vec a.u) a.v c.if-v-a.false c.if-v-other.true)

pub is_front_around-requires : goal.is_front_around-requires
is_front_around-requires c =
    let a = c.args in
    record { rep = (c.requires.0, c.requires.1); edge = record { node = omega (arith, c.requires.3.end, c.requires.1.points); apart = c.if-v-a.false } }

pub from_to-d-requires : goal.from_to-d-requires
from_to-d-requires c =
    let a = c.args in
    let y = node_within a.q.now a.lay.points c.requires.0 c.requires.2 in
    (y a.a c.requires.3.node, y a.v c.requires.3.end)

pub returns-then-n : goal.returns-then-n
unfolding tiny_length ◌≼◌ 1e-12 f64
returns-then-n c =
    let a = c.args in
    λ m r k y.
    let d : vec c.from_to-d.result ≡ toward m a.a a.v = toward_read a.q.now a.lay.points m k a.a a.v y (vec c.from_to-d.result) c.from_to-d.ensures in
    let n : c.norm-n.result ≡ norm (toward m a.a a.v) = c.norm-n.ensures ∙ ap norm d in
    not_given a.q.now m a.a a.other (vec a.u) a.v
    (by_tiny every m a.a a.other (vec a.u) a.v c.if-v-a.false c.if-v-other.false (ap (is_front m) (key_swap a.a a.v) ∙ sym (c.is_front_around.ensures m r) ∙ c.if-not-is_front_around.false) (subst (λ (x : Float). (x ≼ tiny_length) ≡ true) n c.if-n.true))

pub returns-then-l : goal.returns-then-l
unfolding tiny_length ideal_sum ◌≺◌ ◌≼◌ 0·2 1e-12 f64
returns-then-l c =
    let a = c.args in
    λ m r k y.
    let d : vec c.from_to-d.result ≡ toward m a.a a.v = toward_read a.q.now a.lay.points m k a.a a.v y (vec c.from_to-d.result) c.from_to-d.ensures in
    let n : c.norm-n.result ≡ norm (toward m a.a a.v) = c.norm-n.ensures ∙ ap norm d in
    let o : vec c.over.result ≡ over (toward m a.a a.v) (norm (toward m a.a a.v)) = c.over.ensures ∙ ap (λ (x : Vec). over x c.norm-n.result) d ∙ ap (over (toward m a.a a.v)) n in
    let e = by_half every m a.a a.other (vec a.u) a.v (ideal_sum ≺ c.norm-l.result) c.if-v-a.false c.if-v-other.false (ap (is_front m) (key_swap a.a a.v) ∙ sym (c.is_front_around.ensures m r) ∙ c.if-not-is_front_around.false) (subst (λ (x : Float). (x ≼ tiny_length) ≡ false) n c.if-n.false)
    (half_gives (vec a.u) (over (toward m a.a a.v) (norm (toward m a.a a.v))) (vec c.plus-h.result) c.norm-l.result (c.plus-h.ensures ∙ ap (plus (vec a.u)) o) c.norm-l.ensures) in
    given a.q.now m a.a a.other (vec a.u) a.v _ (sym c.if-l.true ∙ e)
    (half_is a.q.now a.a a.v (vec a.u) (vec c.from_to-d.result) (vec c.over.result) (vec c.plus-h.result) (vec c.over-then-l.result) c.norm-n.result c.norm-l.result
    c.from_to-d.ensures c.norm-n.ensures c.over.ensures c.plus-h.ensures c.norm-l.ensures c.over-then-l.ensures)

pub returns : goal.returns
unfolding tiny_length ideal_sum ◌≺◌ ◌≼◌ 0·2 1e-12 f64
returns c =
    let a = c.args in
    λ m r k y.
    let d : vec c.from_to-d.result ≡ toward m a.a a.v = toward_read a.q.now a.lay.points m k a.a a.v y (vec c.from_to-d.result) c.from_to-d.ensures in
    let n : c.norm-n.result ≡ norm (toward m a.a a.v) = c.norm-n.ensures ∙ ap norm d in
    let o : vec c.over.result ≡ over (toward m a.a a.v) (norm (toward m a.a a.v)) = c.over.ensures ∙ ap (λ (x : Vec). over x c.norm-n.result) d ∙ ap (over (toward m a.a a.v)) n in
    let e = by_half every m a.a a.other (vec a.u) a.v (ideal_sum ≺ c.norm-l.result) c.if-v-a.false c.if-v-other.false (ap (is_front m) (key_swap a.a a.v) ∙ sym (c.is_front_around.ensures m r) ∙ c.if-not-is_front_around.false) (subst (λ (x : Float). (x ≼ tiny_length) ≡ false) n c.if-n.false)
    (half_gives (vec a.u) (over (toward m a.a a.v) (norm (toward m a.a a.v))) (vec c.plus-h.result) c.norm-l.result (c.plus-h.ensures ∙ ap (plus (vec a.u)) o) c.norm-l.ensures) in
    not_given a.q.now m a.a a.other (vec a.u) a.v (sym c.if-l.false ∙ e)

pub returns-then-not-is_front_around : goal.returns-then-not-is_front_around
returns-then-not-is_front_around c =
    let a = c.args in
    λ m r k y. not_given a.q.now m a.a a.other (vec a.u) a.v
    (by_inner every m a.a a.other (vec a.u) a.v c.if-v-a.false c.if-v-other.false (ap (is_front m) (key_swap a.a a.v) ∙ sym (c.is_front_around.ensures m r) ∙ c.if-not-is_front_around.true))
