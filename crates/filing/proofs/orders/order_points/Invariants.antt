use Rattle.std.specs.Prelude.{◌≡◌, ◌≤◌}
use Rattle.definition.specs.Call.{point_at}
use Rattle.filing.specs.Filing.{order_points}
use Rattle.filing.proofs.Marks.{whole, rest}
use Rattle.filing.proofs.orders.order_points.Given as goal

abbrev pub invariant-loop-i : goal.invariant-loop-i
invariant-loop-i l = (l.i ≤ l.n) × (whole order_points (point_at l.a) (point_at l.b) l.n ≡ rest order_points (point_at l.a) (point_at l.b) l.n l.i)
