use native.Mathlib.Omega.{arith}
use Rattle.side_candidates.proofs.blocks.box_from.Goals as goal

pub returns-then-n-k : goal.returns-then-n-k
returns-then-n-k c = λ m g h e l k i f u. c.block_box.ensures m g h i f (omega arith)

pub returns : goal.returns
returns c = λ m g h e l k i f u. c.block_box-2.ensures m g h i f (omega arith)

pub overflow_add-k : goal.overflow_add-k
overflow_add-k c =
    omega (arith, c.requires.k_lt_n.0, c.requires.k_lt_n.1, c.requires.in_hand.2.few, c.requires.in_hand.2.rep.room.small)

pub block_box-requires-2 : goal.block_box-requires-2
block_box-requires-2 c = record { in_hand = c.requires.in_hand; j_le_k = (omega arith, omega (arith, c.requires.k_lt_n.0, c.if-n-k.false)) }
