use Rattle.std.proofs.Common.{◌≡◌, take}
use Rattle.hashing.specs.Hash.{hash}
use Rattle.hashing.proofs.mixed_all.Given as goal

abbrev pub invariant-loop-x : goal.invariant-loop-x
invariant-loop-x g l = l.h ≡ hash g.T.Numbered.number_of l.start (take l.x-index l.front)
