use Rattle.std.specs.Prelude.{◌≡◌}
use Rattle.laws.specs.Kit.{sym, ◌∙◌, ap, Float}
use Rattle.definition.specs.Plane.{Edge, Vec, norm, over}
use Rattle.definition.specs.Cells.{tri, new_live, key, tri_owner}
use Rattle.definition.specs.Candidates.{toward}
use Rattle.cells.proofs.Points.{node_within}
use Rattle.cells.specs.Walk.{slot_or}
use Rattle.cells.proofs.Edges.{key_swap}
use Rattle.cells.proofs.Slots.{owner_found, owner_none}
use Rattle.plane.specs.Vectors.{vec}
use Rattle.edge_candidates.specs.Wanted.{turn, edge_reach, near_ideal}
use Rattle.edge_candidates.proofs.Halves.{toward_read}
use Rattle.edge_candidates.proofs.Closes.{edge_same, edge_other, edge_far, edge_bare, edge_tiny, edge_near}
use Rattle.edge_candidates.proofs.edge_candidate.Goals as goal

pub returns-then-o : goal.returns-then-o
returns-then-o c =
    let a = c.args in
    λ m r k z y. edge_tiny (turn a.left) m a.a a.other a.target a.v (sym z.near ∙ c.if-o.true)

pub returns-then-v-a : goal.returns-then-v-a
returns-then-v-a c =
    let a = c.args in
    λ m r k z y. edge_same (turn a.left) m a.a a.other a.target a.v c.if-v-a.true

pub returns-then-v-other : goal.returns-then-v-other
returns-then-v-other c =
    let a = c.args in
    λ m r k z y. edge_other (turn a.left) m a.a a.other a.target a.v c.if-v-a.false c.if-v-other.true

pub returns-then-tri_around-lay : goal.returns-then-tri_around-lay
returns-then-tri_around-lay c =
    let a = c.args in
    λ m r k z y. edge_bare (turn a.left) m a.a a.other a.target a.v c.if-v-a.false c.if-v-other.false
    (owner_none a.w.now a.lay.slots a.lay.points m r (key a.a a.v) c.tri_around.result (c.tri_around.ensures m r ∙ ap (λ (x : Edge). slot_or a.lay.slots (tri_owner m x)) (key_swap a.v a.a)) c.if-tri_around-lay.true)

pub from_to-d-requires : goal.from_to-d-requires
from_to-d-requires c =
    let a = c.args in
    let y = node_within a.q.now a.lay.points c.requires.0 c.requires.2 in
    (y a.a c.requires.4.node, y a.v c.requires.4.end)

pub returns-then-not-edge_reach : goal.returns-then-not-edge_reach
returns-then-not-edge_reach c =
    let a = c.args in
    λ m r k z y.
    let d : vec c.from_to-d.result ≡ toward m a.a a.v = toward_read a.q.now a.lay.points m k a.a a.v y (vec c.from_to-d.result) c.from_to-d.ensures in
    let n : c.norm-n.result ≡ norm (toward m a.a a.v) = c.norm-n.ensures ∙ ap norm d in
    edge_far (turn a.left) m a.a a.other a.target a.v c.if-v-a.false c.if-v-other.false
    (sym c.if-not-edge_reach.true ∙ c.edge_reach.ensures ∙ ap (λ (x : Float). edge_reach x a.target) n)

pub returns : goal.returns
returns c =
    let a = c.args in
    λ m r k z y.
    let d : vec c.from_to-d.result ≡ toward m a.a a.v = toward_read a.q.now a.lay.points m k a.a a.v y (vec c.from_to-d.result) c.from_to-d.ensures in
    let n : c.norm-n.result ≡ norm (toward m a.a a.v) = c.norm-n.ensures ∙ ap norm d in
    let o : vec c.over.result ≡ over (toward m a.a a.v) (norm (toward m a.a a.v)) = c.over.ensures ∙ ap (λ (x : Vec). over x c.norm-n.result) d ∙ ap (over (toward m a.a a.v)) n in
    let f = owner_found a.w.now a.lay.slots a.lay.points m r (key a.a a.v) c.tri_around.result (c.tri_around.ensures m r ∙ ap (λ (x : Edge). slot_or a.lay.slots (tri_owner m x)) (key_swap a.v a.a)) c.if-tri_around-lay.false in
    edge_near (turn a.left) m a.a a.other a.target a.v c.near_ideal.result (new_live c.tri_around.result (tri f.t)) c.if-v-a.false c.if-v-other.false
    (sym c.if-not-edge_reach.false ∙ c.edge_reach.ensures ∙ ap (λ (x : Float). edge_reach x a.target) n) f.is
    (sym z.near ∙ c.if-o.false)
    (c.near_ideal.ensures m a.lay.points a.other k z ∙ ap (λ (x : Vec). near_ideal (turn a.left) m a.a a.other x (vec c.over.result)) z.unit
    ∙ ap (near_ideal (turn a.left) m a.a a.other (over (toward m a.a a.other) (norm (toward m a.a a.other)))) o)
