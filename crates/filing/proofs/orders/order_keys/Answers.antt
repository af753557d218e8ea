-- The places passed are the same: the order is that of what follows.
use Rattle.std.specs.Ordering.{is_eq}
use Rattle.laws.specs.Kit.{sym, ◌∙◌, ap, arith}
use Rattle.sorting.specs.Places.{key_at}
use Rattle.filing.specs.Filing.{order_numbers}
use Rattle.filing.proofs.Totals.{equal_is, cmp_is}
use Rattle.filing.proofs.Marks.{differ, rows_start, rows_decide, rows_go_on, rows_end}
use Rattle.filing.proofs.orders.order_keys.Goals as goal

pub loop-i-init : goal.loop-i-init
loop-i-init c = (omega arith, rows_start order_numbers (key_at _) (key_at _) _)

pub returns-then-x-y : goal.returns-then-x-y
returns-then-x-y c =
    let e = c.key_at-x.ensures in
    let f = c.key_at-y.ensures in
    c.cmp.ensures ∙ cmp_is _ _ ∙ (λ k. order_numbers (e k) (f k))
    ∙ rows_decide order_numbers (key_at _) (key_at _) _ c.loop-i.i (omega arith) c.loop-i.invariant.1 (differ _ _ (λ q. c.if-x-y.true (e ∙ q ∙ sym f)))

pub loop-i-preserved : goal.loop-i-preserved
loop-i-preserved c =
    let e = c.key_at-x.ensures in
    let f = c.key_at-y.ensures in
    (omega arith, rows_go_on order_numbers (key_at _) (key_at _) _ c.loop-i.i (omega arith) c.loop-i.invariant.1 (ap is_eq (equal_is _ _ (sym e ∙ c.if-x-y.false ∙ f))))

pub returns : goal.returns
returns c = let g = c in rows_end order_numbers (key_at _) (key_at _) _ g.loop-i.i (omega arith) g.loop-i.invariant.1
