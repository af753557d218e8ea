use Rattle.laws.specs.Kit.{arith}
use Rattle.plane.specs.Vectors.{vec}
use Rattle.edge_candidates.proofs.vec_at.Goals as goal

pub get-requires : goal.get-requires
get-requires c =
    record { at_in_bounds = omega (arith, c.requires.at_in_bounds); at_value = c.requires.numbers.dx }

pub get-requires-2 : goal.get-requires-2
get-requires-2 c =
    record { at_in_bounds = omega (arith, c.requires.at_in_bounds); at_value = c.requires.numbers.dy }

pub returns : goal.returns
unfolding vec
returns c = rw (c.get.ensures, c.get-2.ensures)
