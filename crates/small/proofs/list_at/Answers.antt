-- `small::list_at`: the answer in each of the three parts of the order.
use Rattle.laws.specs.Kit.{arith}
use Rattle.small.proofs.Answers.{one_there, two_there, three_there}
use Rattle.small.proofs.list_at.Goals as goal

pub returns-then-place-m : goal.returns-then-place-m
returns-then-place-m c =
    one_there c.args.points c.args.m c.requires.least c.requires.most c.requires.triangles c.args.place c.triple_at.result (omega arith) c.triple_at.ensures

pub returns-then-beyond-two : goal.returns-then-beyond-two
returns-then-beyond-two c =
    two_there c.args.points c.args.m c.requires.least c.requires.most c.requires.triangles c.args.place
    c.pair_at-first.result c.triple_at-then-beyond-two.result c.triple_at-then-beyond-two-2.result
    (omega arith) (omega arith) c.pair_at-first.ensures c.triple_at-then-beyond-two.ensures c.triple_at-then-beyond-two-2.ensures

pub returns : goal.returns
returns c =
    three_there c.args.points c.args.m c.requires.least c.requires.most c.requires.triangles c.args.place c.pairs-two.result
    c.triple_at-t.result c.triple_at-2.result c.triple_at-3.result c.triple_at-4.result
    c.pairs-two.ensures.counted (omega arith) (omega arith)
    c.triple_at-t.ensures c.triple_at-2.ensures c.triple_at-3.ensures c.triple_at-4.ensures
