-- `small::small_mesh`: other numbers of points are refused, behind the last place the order has ended.
use Rattle.laws.specs.Kit.{sym, inl, inr, arith}
use Rattle.small.proofs.Theorems.{refuses}
use Rattle.small.proofs.Counting.{triangles_few, triangles_some}
use Rattle.small.proofs.Answers.{past}
use Rattle.small.proofs.small_mesh.Goals as goal

pub returns-then-points-lt3 : goal.returns-then-points-lt3
returns-then-points-lt3 c = sym (refuses c.args.points c.args.place (inl (omega arith)))

pub returns-then-points-gt5 : goal.returns-then-points-gt5
returns-then-points-gt5 c = sym (refuses c.args.points c.args.place (inr (omega arith)))

pub pairs-requires : goal.pairs-requires
pairs-requires c = omega (arith, triangles_few c.args.points (omega arith))

pub triples-requires : goal.triples-requires
triples-requires c = omega (arith, triangles_few c.args.points (omega arith))

pub overflow_sub-last : goal.overflow_sub-last
overflow_sub-last c = omega (arith, triangles_some c.args.points (omega arith) (omega arith))

pub returns-then-place-last : goal.returns-then-place-last
returns-then-place-last c =
    past c.args.points c.triples-m.result (omega arith) (omega arith) c.triples-m.ensures.counted c.args.place
    (omega (arith, triangles_some c.args.points (omega arith) (omega arith)))

pub list_at-requires : goal.list_at-requires
list_at-requires c =
    let n = c.args.points in
    omega (arith, triangles_few n (omega arith), triangles_some n (omega arith) (omega arith))

pub returns : goal.returns
returns c = c.list_at.ensures
