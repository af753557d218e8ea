use Rattle.laws.specs.Kit.{ap, false}
use Rattle.refusals.specs.Stated.{asked_for}
use Rattle.refusals.proofs.standard.Goals as goal

pub returns : goal.returns
returns c =
    let a = c.args in
    ap (λ y. asked_for a.given a.capacity a.count a.slots 0 a.size a.stop y false) c.standard_quality-quality.ensures
