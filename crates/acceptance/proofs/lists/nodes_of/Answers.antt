-- `lists::nodes_of`, kind by kind.
use mathlib.Core.Path.{refl, ap}
use borrow.Author.Rules.{rules}
use Rattle.definition.specs.Lists.{concat, flat_map}
use Rattle.definition.specs.Call.{onto}
use Rattle.small.specs.Small.{triangles_of}
use Rattle.acceptance.specs.Runs.{nodes_of}
use Rattle.acceptance.proofs.Counting.{like_listed}
use Rattle.acceptance.proofs.lists.nodes_of.Goals as goal

pub returns-in-One : goal.returns-in-One
unfolding nodes_of onto concat flat_map
returns-in-One c = like_listed (ap triangles_of c.in-One.is) (record { count = refl; nodes = refl })

pub returns-in-Two : goal.returns-in-Two
unfolding nodes_of onto concat flat_map
returns-in-Two c = like_listed (ap triangles_of c.in-Two.is) (record { count = refl; nodes = refl })

pub returns-in-Three : goal.returns-in-Three
unfolding nodes_of onto concat flat_map
returns-in-Three c = like_listed (ap triangles_of c.in-Three.is) (record { count = refl; nodes = refl })
