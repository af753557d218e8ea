-- `runs::mixed_run`: the call's promise, with the points that were placed, and the two parts of the hash.
use lib.Ieee.{round, of_bits}
use borrow.Author.Rules.{rules}
use Rattle.mesher.specs.Promise as promise
use Rattle.acceptance.specs.Positions.{plus}
use Rattle.acceptance.specs.Runs.{capacity, slots, size, asked, unused, lent, returned}
use Rattle.acceptance.proofs.Folding.{as_returned, stated_as, with_points}
use Rattle.acceptance.proofs.runs.mixed_run.Goals as goal

pub returns : goal.returns
unfolding asked capacity slots size lent unused plus round of_bits
returns c =
    let a = c.args in
    as_returned a.start c.mixed_answer-h.result c.mixed_slices.result (returned a.given a.list.count a.list.nodes a.s) (promise.answered c.run_front-a.result) _
    (with_points a.given a.list.count a.list.nodes a.s c.placed-points.ensures (stated_as (lent c.placed-points.result a.list.nodes) c.standard-stated.ensures c.run_front-a.ensures.returns))
    c.mixed_answer-h.ensures
    c.mixed_slices.ensures
