-- Five stores within the slice.
use native.Mathlib.Omega.{arith}
use lib.ListN.{length-set}
use borrow.Author.Rules.{rules}
use Rattle.answer_numbers.proofs.States.{written}
use Rattle.answer_numbers.proofs.jobs.write_job.Goals as goal

pub returns : goal.returns
returns c = written c.args.job.now c.args.next c.args.charged c.requires

pub bounds-job-1 : goal.bounds-job-1
bounds-job-1 c = simp length-set (omega (arith, c.requires))

pub bounds-job-2 : goal.bounds-job-2
bounds-job-2 c = simp length-set (omega (arith, c.requires))

pub bounds-job-3 : goal.bounds-job-3
bounds-job-3 c = simp length-set (omega (arith, c.requires))

pub bounds-job-4 : goal.bounds-job-4
bounds-job-4 c = simp length-set (omega (arith, c.requires))
