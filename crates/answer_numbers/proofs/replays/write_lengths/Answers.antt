-- Four stores within the slice.
use native.Mathlib.Omega.{arith}
use lib.ListN.{length-set}
use borrow.Author.Rules.{rules}
use Rattle.std.specs.Prelude.{Ok}
use Rattle.retrace.specs.Replaying.{answered}
use Rattle.answer_numbers.proofs.Lengths.{written}
use Rattle.answer_numbers.proofs.replays.write_lengths.Goals as goal

pub returns : goal.returns
returns c = written c.args.answer.now (answered (Ok c.args.r)) c.requires

pub bounds-answer-1 : goal.bounds-answer-1
bounds-answer-1 c = simp length-set (omega (arith, c.requires))

pub bounds-answer-2 : goal.bounds-answer-2
bounds-answer-2 c = simp length-set (omega (arith, c.requires))

pub bounds-answer-3 : goal.bounds-answer-3
bounds-answer-3 c = simp length-set (omega (arith, c.requires))
