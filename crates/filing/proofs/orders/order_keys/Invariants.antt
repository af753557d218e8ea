use Rattle.std.specs.Prelude.{◌≡◌, ◌≤◌}
use Rattle.sorting.specs.Places.{key_at}
use Rattle.filing.specs.Filing.{order_numbers}
use Rattle.filing.proofs.Marks.{whole, rest}
use Rattle.filing.proofs.orders.order_keys.Given as goal

abbrev pub invariant-loop-i : goal.invariant-loop-i
invariant-loop-i l = (l.i ≤ l.n) × (whole order_numbers (key_at l.a) (key_at l.b) l.n ≡ rest order_numbers (key_at l.a) (key_at l.b) l.n l.i)
