-- `runs::list_hash`. Invariant: h is the hash of the first s settings.
use Rattle.std.specs.Prelude.{◌≡◌}
use Rattle.std.proofs.Common.{refl, ap, ◌∙◌, arith}
use Rattle.hashing.specs.Hash.{basis}
use Rattle.acceptance.specs.Runs.{hashed}
use Rattle.acceptance.proofs.Folding.{one_more}
use Rattle.acceptance.proofs.runs.list_hash.Goals as goal

pub loop-s-init : goal.loop-s-init
unfolding hashed basis
loop-s-init c = refl

pub loop-s-preserved : goal.loop-s-preserved
loop-s-preserved c =
    let l = c.loop-s in
    let a = c.args in
    one_more l.h c.mixed_run-h.result a.given a.list.count a.list.nodes l.s l.invariant c.mixed_run-h.ensures

pub returns : goal.returns
returns c =
    let l = c.loop-s in
    let a = c.args in
    let e : l.s ≡ 128 = omega arith in
    l.invariant ∙ ap (hashed a.given a.list.count a.list.nodes) e
