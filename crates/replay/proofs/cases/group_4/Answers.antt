-- `cases::group_4`: its stored answers one after the other; written by tools/replay-cases.
use Rattle.definition.specs.Text.{bytes}
use Rattle.replay.specs.Stored.{group_4}
use Rattle.replay.proofs.Counting.{counted, one_more, all_counted, first, next}
use Rattle.replay.proofs.cases.group_4.Goals as goal

pub returns : goal.returns
unfolding group_4 bytes
returns c =
    let a1 = c.agrees-n.ensures in
    let a2 = c.agrees-n-2.ensures in
    let a3 = c.agrees-n-3.ensures in
    let a4 = c.agrees-n-4.ensures in
    let a5 = c.agrees-n-5.ensures in
    let a6 = c.agrees-n-6.ensures in
    let a7 = c.agrees-n-7.ensures in
    let a8 = c.agrees-n-8.ensures in
    (all_counted (one_more a1.value (one_more a2.value (one_more a3.value (one_more a4.value (one_more a5.value (one_more a6.value (one_more a7.value (one_more a8.value counted)))))))), next 7 a8.upper_bound (next 6 a7.upper_bound (next 5 a6.upper_bound (next 4 a5.upper_bound (next 3 a4.upper_bound (next 2 a3.upper_bound (next 1 a2.upper_bound (first a1.upper_bound))))))))
