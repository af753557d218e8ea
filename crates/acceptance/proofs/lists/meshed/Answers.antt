-- `lists::meshed`. Invariant: what the places before this one have.
use native.Mathlib.Omega.{arith}
use Rattle.acceptance.proofs.Counting.{begun, and_this, all_places}
use Rattle.acceptance.proofs.lists.meshed.Goals as goal

pub loop-place-init : goal.loop-place-init
loop-place-init c = begun c.args.points c.args.stored.now

pub loop-place-preserved : goal.loop-place-preserved
loop-place-preserved c =
    let l = c.loop-place in
    let a = c.args in
    and_this a.points a.stored.now l.place l.made l.agreed c.met-t.result l.invariant c.met-t.ensures

pub returns : goal.returns
returns c =
    let l = c.loop-place in
    let a = c.args in
    all_places a.points a.stored.now l.place l.made l.agreed (omega arith) l.invariant
