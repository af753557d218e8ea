-- Refused by the first mesh, by the second, or filed.
use Rattle.std.specs.Prelude.{Ok}
use Rattle.laws.specs.Kit.{sym, ◌∙◌}
use Rattle.filing.proofs.Refusals.{first_returned, second_returned, both_filed, readable}
use Rattle.filing.specs.Filing.{filed, input}
use Rattle.filing.specs.Promise.{returned}
use Rattle.filing.proofs.Files.{cleared}
use Rattle.filing.proofs.filing_order.Goals as goal

pub returns-in_err-check : goal.returns-in_err-check
returns-in_err-check c = first_returned _ _ _ c.in_err-check.field-0.0 c.from_residual.ensures.1 c.in_err-check.ensures

pub returns-in_err-check-2 : goal.returns-in_err-check-2
returns-in_err-check-2 c =
    second_returned _ _ (sym c.in_ok-check.ensures) _ c.in_err-check-2.field-0.0 c.from_residual-in_err-check-2.ensures.1 c.in_err-check-2.ensures

pub order_meshes-order-requires : goal.order_meshes-order-requires
order_meshes-order-requires c = (readable _ (sym c.in_ok-check.ensures), readable _ (sym c.in_ok-check-2.ensures))

pub returns : goal.returns
unfolding filed input
returns c =
    let e = c.order_meshes-order.ensures.order in
    let v = c.clear.ensures ∙ cleared _ _ c.order_meshes-order.ensures.first in
    let w = c.clear-2.ensures ∙ cleared _ _ c.order_meshes-order.ensures.second in
    (λ i. returned (Ok (e i)) (v i) (w i)) ∙ sym (both_filed _ _ (sym c.in_ok-check.ensures) (sym c.in_ok-check-2.ensures))
