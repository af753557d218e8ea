-- Twelve stores within the slice.
use native.Mathlib.Omega.{arith}
use lib.ListN.{length-set}
use borrow.Author.Rules.{rules}
use Rattle.answer_numbers.proofs.Shown.{written}
use Rattle.answer_numbers.proofs.previews.write_shown.Goals as goal

pub returns : goal.returns
returns c = written c.args.answer.now c.args.what c.args.kind c.args.cost c.args.quad c.requires

pub bounds-answer-1 : goal.bounds-answer-1
bounds-answer-1 c = simp length-set (omega (arith, c.requires))

pub bounds-answer-2 : goal.bounds-answer-2
bounds-answer-2 c = simp length-set (omega (arith, c.requires))

pub bounds-answer-3 : goal.bounds-answer-3
bounds-answer-3 c = simp length-set (omega (arith, c.requires))

pub bounds-answer-4 : goal.bounds-answer-4
bounds-answer-4 c = simp length-set (omega (arith, c.requires))

pub bounds-answer-5 : goal.bounds-answer-5
bounds-answer-5 c = simp length-set (omega (arith, c.requires))

pub bounds-answer-6 : goal.bounds-answer-6
bounds-answer-6 c = simp length-set (omega (arith, c.requires))

pub bounds-answer-7 : goal.bounds-answer-7
bounds-answer-7 c = simp length-set (omega (arith, c.requires))

pub bounds-answer-8 : goal.bounds-answer-8
bounds-answer-8 c = simp length-set (omega (arith, c.requires))

pub bounds-answer-9 : goal.bounds-answer-9
bounds-answer-9 c = simp length-set (omega (arith, c.requires))

pub bounds-answer-10 : goal.bounds-answer-10
bounds-answer-10 c = simp length-set (omega (arith, c.requires))

pub bounds-answer-11 : goal.bounds-answer-11
bounds-answer-11 c = simp length-set (omega (arith, c.requires))
