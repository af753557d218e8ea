-- By x, and by y where x is the same.
use Rattle.std.specs.Ordering.{ordering_then}
use Rattle.std.specs.Prelude.{◌+◌, ◌*◌}
use Rattle.laws.specs.Kit.{sym, ◌∙◌, arith, get_or, nan}
use Rattle.filing.specs.Filing.{order_floats}
use Rattle.filing.proofs.Marks.{decides, passes_on, read_points}
use Rattle.filing.proofs.orders.order_point.Goals as goal

pub returns-then-is_eq : goal.returns-then-is_eq
returns-then-is_eq c =
    passes_on c.order_floats-x.result c.order_floats.result (sym c.is_eq.ensures ∙ c.if-is_eq.true)
    ∙ (λ k. ordering_then (c.order_floats-x.ensures k) (c.order_floats.ensures k))
    ∙ sym (read_points c.args.a.now c.args.b.now c.args.i (omega arith) (omega arith))

pub returns : goal.returns
returns c =
    decides _ (order_floats (get_or c.args.a.now (3 * c.args.i + 1) nan) (get_or c.args.b.now (3 * c.args.i + 1) nan)) (sym c.is_eq.ensures ∙ c.if-is_eq.false)
    ∙ (λ k. ordering_then (c.order_floats-x.ensures k) (order_floats (get_or c.args.a.now (3 * c.args.i + 1) nan) (get_or c.args.b.now (3 * c.args.i + 1) nan)))
    ∙ sym (read_points c.args.a.now c.args.b.now c.args.i (omega arith) (omega arith))
