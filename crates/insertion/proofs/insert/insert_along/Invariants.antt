use Rattle.std.specs.Prelude.{◌≤◌}
use Rattle.plane.specs.Vectors.{vec}
use Rattle.insertion.proofs.Shares.{Trying}
use Rattle.insertion.proofs.insert.insert_along.Given as goal

abbrev pub invariant-loop-k : goal.invariant-loop-k
invariant-loop-k l = (l.k ≤ 8) × Trying l.initial.w l.w l.initial.q l.q l.initial.t l.t l.lay.slots l.lay.points l.used l.n l.bucket l.at l.seed l.a (vec l.normal) l.target l.k
