use mathlib.Core.List.{[]}
use native.Mathlib.Omega.{arith}
use Rattle.plane.specs.Vectors.{vec}
use Rattle.rules.specs.Settings.{quality_of}
use Rattle.edge_candidates.specs.Wanted.{turn}
use Rattle.candidates.proofs.Growth.{edge_none}
use Rattle.candidates.proofs.by_edge.Goals as goal

pub returns-then-here-lt2 : goal.returns-then-here-lt2
returns-then-here-lt2 c =
    let a = c.args in
    λ m r k y e f. edge_none (quality_of a.o.aim.quality) (turn a.o.aim.left) m a.o.aim.end a.o.aim.other (vec a.o.aim.normal) a.o.aim.target [] a.v (λ h. let z = f h in omega (arith, z, c.if-here-lt2.true))

pub edge_candidate-requires : goal.edge_candidate-requires
edge_candidate-requires c =
    c.requires

pub returns : goal.returns
returns c =
    λ m r k y e f. c.edge_candidate.ensures m r k y e
