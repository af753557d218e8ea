-- Floats that `partial_cmp` can't order are neither below the other, and so the same.
use Rattle.std.specs.Prelude.{◌≡◌, unwrap_or}
use Rattle.std.specs.Ordering.{float_partial_cmp}
use Rattle.std.specs.declared.cmp.Ordering.TheVariants.{Equal}
use Rattle.std.proofs.lemmas.Float.{eq_flip, eq-not_lt}
use Rattle.laws.specs.Kit.{◌∙◌, ap, inl, inr, Float, eq, lt}
use Rattle.laws.specs.Bools.{which, to_T, refuted}
use Rattle.definition.specs.Floats.{◌≺◌}
use Rattle.filing.specs.Filing.{order_floats}
use Rattle.filing.proofs.orders.order_floats.Goals as goal

partial_is : (x y : Float) → unwrap_or (float_partial_cmp x y) Equal ≡ order_floats x y
unfolding order_floats ◌≺◌
partial_is x y = elim (which (lt x y)) [
  | inl l ↦ rw l
  | inr l ↦ elim (which (eq x y)) [
    | inl e ↦ rw (l, e, refuted (lt y x) (eq-not_lt y x (eq_flip x y (to_T e))))
    | inr e ↦ elim (which (lt y x)) [ inl m ↦ rw (l, e, m) | inr m ↦ rw (l, e, m) ]
  ]
]

pub returns : goal.returns
returns c = c.unwrap_or.ensures ∙ ap (λ o. unwrap_or o Equal) c.partial_cmp.ensures ∙ partial_is _ _
