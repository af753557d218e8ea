-- After the last corner of a cell comes its first.
use native.Mathlib.Nat.{mod-le}
use Rattle.laws.specs.Kit.{sym, arith}
use Rattle.balance.proofs.Corners.{next_last, next_inner}
use Rattle.balance.proofs.places.next.Goals as goal

pub overflow_add-j : goal.overflow_add-j
overflow_add-j c = omega (arith, mod-le c.args.j c.args.c)

pub overflow_sub-result : goal.overflow_sub-result
overflow_sub-result c = let s = c in omega (arith, mod-le s.args.j s.args.c)

pub returns-then-j-c : goal.returns-then-j-c
returns-then-j-c c = sym (next_last _ _ c.if-j-c.true)

pub returns : goal.returns
returns c = sym (next_inner _ _ c.if-j-c.false)
