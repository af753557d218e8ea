-- The five stores at i.
use native.Mathlib.Omega.{arith}
use lib.ListN.{length-set}
use Rattle.trials.proofs.Steps.{all_stored}
use Rattle.trials.proofs.kept.store.Goals as goal

pub returns : goal.returns
returns c = all_stored _ _ _ _ c.requires.0 c.requires.1 c.requires.2

pub bounds-nodes-at-2 : goal.bounds-nodes-at-2
bounds-nodes-at-2 c = simp length-set (omega arith)

pub bounds-nodes-at-3 : goal.bounds-nodes-at-3
bounds-nodes-at-3 c = simp length-set (omega arith)

pub bounds-nodes-at-4 : goal.bounds-nodes-at-4
bounds-nodes-at-4 c = simp length-set (omega arith)
