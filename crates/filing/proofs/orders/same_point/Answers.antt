-- Both coordinates are the same.
use Rattle.std.specs.Ordering.{is_eq}
use Rattle.std.specs.Prelude.{◌+◌, ◌*◌}
use Rattle.laws.specs.Kit.{sym, ◌∙◌, ap, arith, get_or, nan}
use Rattle.filing.specs.Filing.{order_floats}
use Rattle.filing.proofs.Marks.{decides, passes_on, read_points}
use Rattle.filing.proofs.orders.same_point.Goals as goal

pub returns-then-same_floats : goal.returns-then-same_floats
returns-then-same_floats c =
    let s = c.args in
    let o = order_floats (get_or s.a.now (3 * s.i) nan) (get_or s.b.now (3 * s.i) nan) in
    let p = order_floats (get_or s.a.now (3 * s.i + 1) nan) (get_or s.b.now (3 * s.i + 1) nan) in
    c.same_floats-then-same_floats.ensures
    ∙ ap is_eq (passes_on o p (sym c.same_floats.ensures ∙ c.if-same_floats.true) ∙ sym (read_points s.a.now s.b.now s.i (omega arith) (omega arith)))

pub returns-else-same_floats : goal.returns-else-same_floats
returns-else-same_floats c =
    let s = c.args in
    let o = order_floats (get_or s.a.now (3 * s.i) nan) (get_or s.b.now (3 * s.i) nan) in
    let p = order_floats (get_or s.a.now (3 * s.i + 1) nan) (get_or s.b.now (3 * s.i + 1) nan) in
    c.same_floats.ensures ∙ ap is_eq (decides o p (sym c.same_floats.ensures ∙ c.if-same_floats.false) ∙ sym (read_points s.a.now s.b.now s.i (omega arith) (omega arith)))
