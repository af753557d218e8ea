use Rattle.laws.specs.Kit.{List}
use Rattle.definition.specs.Plane.{Edge}
use Rattle.blocked_edges.specs.Records.{Lists}
use Rattle.blocked_edges.proofs.Walks.{Rest, turns}
use Rattle.blocked_edges.proofs.seek.Given as goal

abbrev pub invariant-loop-i : goal.invariant-loop-i
invariant-loop-i l = (ever : List Edge) → Lists l.w l.b l.n l.p ever → Rest l.w l.b l.n l.p l.u l.v l.i ever

abbrev pub decreases-loop-i : goal.decreases-loop-i
decreases-loop-i l = turns l.n l.i
