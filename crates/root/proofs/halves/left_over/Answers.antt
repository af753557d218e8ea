-- `root::halves::left_over` meets its contract.
-- Nothing is known of the guess: what is left over is exact whatever it is.
-- Assumes nothing.
use Rattle.laws.specs.Kit.{arith, rules}
use Rattle.root.proofs.Squares.{whole}
use Rattle.root.proofs.halves.left_over.Goals as goal

pub returns-then-left-lt-MUCH : goal.returns-then-left-lt-MUCH
returns-then-left-lt-MUCH c κ =
    let third = c in
    let second = third in
    let first = second in
    let start = first.args in
    whole start.r start.t first.product.result second.product-then-over-lt-MUCH.result third.product-then-left-lt-MUCH.result
    second.wrapping_sub_u64-over.result third.wrapping_sub_u64-left.result c.wrapping_sub_u64.result
    first.product.ensures.0 second.product-then-over-lt-MUCH.ensures.0 third.product-then-left-lt-MUCH.ensures.0
    first.product.ensures.1 second.product-then-over-lt-MUCH.ensures.1 third.product-then-left-lt-MUCH.ensures.1 (omega arith)
    second.wrapping_sub_u64-over.ensures.value second.if-over-lt-MUCH.true
    third.wrapping_sub_u64-left.ensures.value third.if-left-lt-MUCH.true
    c.wrapping_sub_u64.ensures.value κ
