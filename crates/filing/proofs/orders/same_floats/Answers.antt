-- Neither is below the other.
use Rattle.laws.specs.Kit.{◌∙◌, ap, not, lt}
use Rattle.definition.specs.Floats.{◌≺◌}
use Rattle.filing.specs.Filing.{order_floats}
use Rattle.filing.proofs.Marks.{later_same}
use Rattle.filing.proofs.orders.same_floats.Goals as goal
use Rattle.filing.proofs.orders.same_floats.Goals.{then-x-y, else-x-y}

pub returns : goal.returns
unfolding order_floats ◌≺◌
returns c =
    let a = c.args in
    elim c.if-x-y.branch [
      | then-x-y w ↦ rw (w.result-is, w.if-x-y.true)
      | else-x-y w ↦ rw (w.if-x-y.false) (ap not w.result-is ∙ later_same (lt a.y a.x))
    ]
