-- The edge comes in where it passes both tests.
use Rattle.std.specs.Prelude.{◌≡◌}
use Rattle.laws.specs.Kit.{refl, sym, ◌∙◌, ap, false≢true, ℕ, arith}
use Rattle.definition.specs.Cells.{Mesh, key, is_front}
use Rattle.cells.proofs.Edges.{key_swap}
use Rattle.front_edges.specs.Runs.{passed, taken}
use Rattle.front_edges.proofs.try_edge.Goals as goal

-- an edge is the same from either end
front_swap : (m : Mesh) (u v : ℕ) → is_front m (key u v) ≡ is_front m (key v u)
front_swap m u v = ap (is_front m) (key_swap u v)

pub returns-then-v-u : goal.returns-then-v-u
returns-then-v-u c = λ m h. passed refl refl (λ g. omega (arith, g.up, c.if-v-u.true))

pub is_front_around-requires : goal.is_front_around-requires
is_front_around-requires c =
    record { rep = (c.requires.0, c.requires.1.rep); edge = record { node = c.requires.1.second; apart = λ e. omega (arith, e, c.if-v-u.false) } }

pub returns-then-not-is_front_around : goal.returns-then-not-is_front_around
returns-then-not-is_front_around c = λ m h.
    passed refl refl (λ g. false≢true (sym c.if-not-is_front_around.true ∙ c.is_front_around.ensures m h.rep ∙ front_swap m c.args.v c.args.u ∙ g.front))

pub put_edge-requires : goal.put_edge-requires
put_edge-requires c =
    let h = c.requires.1 in
    record {
      room = h.rep.room;
      inside = h.inside (record { up = omega (arith, c.if-v-u.false); front = front_swap c.requires.0 c.args.u c.args.v ∙ sym (c.is_front_around.ensures c.requires.0 h.rep) ∙ c.if-not-is_front_around.false });
      first = h.first;
      second = h.second;
    }

pub overflow_add-result : goal.overflow_add-result
overflow_add-result c =
    let h = c.requires.1 in
    omega (arith, h.rep.room.small, h.inside (record { up = omega (arith, c.if-v-u.false); front = front_swap c.requires.0 c.args.u c.args.v ∙ sym (c.is_front_around.ensures c.requires.0 h.rep) ∙ c.if-not-is_front_around.false }))

pub returns : goal.returns
returns c = λ m h.
    taken refl (record { up = omega (arith, c.if-v-u.false); front = front_swap m c.args.u c.args.v ∙ sym (c.is_front_around.ensures m h.rep) ∙ c.if-not-is_front_around.false }) c.put_edge.ensures

pub shape_of-w : goal.shape_of-w
shape_of-w c = c.put_edge.auto.w
