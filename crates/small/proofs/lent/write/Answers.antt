-- `lent::write`: the stores of each kind of list, within the slice.
use Rattle.std.specs.Prelude.{◌∷◌}
use Rattle.laws.specs.Kit.{ap, lit≤, []}
use Rattle.definition.specs.Lists.{concat, flat_map}
use Rattle.small.specs.Small.{mesh, triangles_of, nodes}
use Rattle.small.specs.Lent.{numbers}
use Rattle.small.proofs.Slices.{list_stored}
use Rattle.small.proofs.lent.write.Goals as goal

pub returns-in-One : goal.returns-in-One
unfolding numbers concat flat_map
returns-in-One c =
    list_stored (nodes c.in-One.a ∷ []) c.args.list.now (ap (λ x. mesh (triangles_of x)) c.in-One.is) (lit≤ tt) c.requires

pub returns-in-Two : goal.returns-in-Two
unfolding numbers concat flat_map
returns-in-Two c =
    list_stored (nodes c.in-Two.a ∷ nodes c.in-Two.b ∷ []) c.args.list.now (ap (λ x. mesh (triangles_of x)) c.in-Two.is) (lit≤ tt) c.requires

pub returns-in-Three : goal.returns-in-Three
unfolding numbers concat flat_map
returns-in-Three c =
    list_stored (nodes c.in-Three.a ∷ nodes c.in-Three.b ∷ nodes c.in-Three.c ∷ []) c.args.list.now (ap (λ x. mesh (triangles_of x)) c.in-Three.is) (lit≤ tt) c.requires
