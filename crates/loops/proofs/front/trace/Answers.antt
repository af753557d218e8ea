use Rattle.std.specs.Prelude.{◌+◌, ◌∷◌}
use Rattle.laws.specs.Kit.{refl, ◌∙◌, ap, ℕ, arith, [], get_or, set, length-set}
use Rattle.edges.specs.Parts.{edge_of}
use Rattle.loops.proofs.Tracing.{started, trace_start, trace_place, trace_walk, trace_to}
use Rattle.loops.proofs.front.trace.Goals as goal

pub place-requires : goal.place-requires
place-requires c =
    let a = c.args in
    let q = c.requires.2 in
    let e = started a.w.now a.lay.slots a.lay.points a.j a.b c.starts_at.result c.starts_at.ensures (trace_start q) in
    (c.requires.0, a.k, a.b, c.requires.1, [], trace_place q e)

pub walk-requires : goal.walk-requires
walk-requires c =
    let a = c.args in
    let w1 = set a.w.now (c.starts_at.result + a.j) a.b in
    let n = c.requires.0 in
    let es = c.requires.1 in
    let q = c.requires.2 in
    let e = started a.w.now a.lay.slots a.lay.points a.j a.b c.starts_at.result c.starts_at.ensures (trace_start q) in
    let f = c.place.ensures n a.k a.b es [] (trace_place q e) in
    let qu = c.wide-u.ensures ∙ ap (λ (x : ℕ). get_or w1 (x + a.i) 0) c.front_u_at.ensures in
    let qv = c.wide-v.ensures ∙ ap (λ (x : ℕ). get_or w1 (x + a.i) 0) c.front_v_at.ensures in
    (n, a.b, es, edge_of es a.i ∷ [], trace_walk q e f qu qv)

pub shape_of-w : goal.shape_of-w
shape_of-w c =
    c.walk.auto.w ∙ c.place.auto.w ∙ simp length-set refl

pub returns : goal.returns
returns c =
    let a = c.args in
    let w1 = set a.w.now (c.starts_at.result + a.j) a.b in
    λ n es q.
    let e = started a.w.now a.lay.slots a.lay.points a.j a.b c.starts_at.result c.starts_at.ensures (trace_start q) in
    let f = c.place.ensures n a.k a.b es [] (trace_place q e) in
    let qu = c.wide-u.ensures ∙ ap (λ (x : ℕ). get_or w1 (x + a.i) 0) c.front_u_at.ensures in
    let qv = c.wide-v.ensures ∙ ap (λ (x : ℕ). get_or w1 (x + a.i) 0) c.front_v_at.ensures in
    trace_to q e f qu qv (c.walk.ensures n a.b es (edge_of es a.i ∷ []) (trace_walk q e f qu qv))

pub bounds-w-front_u_at : goal.bounds-w-front_u_at
bounds-w-front_u_at c = simp length-set (omega arith)

pub bounds-w-front_v_at : goal.bounds-w-front_v_at
bounds-w-front_v_at c = simp length-set (omega arith)
