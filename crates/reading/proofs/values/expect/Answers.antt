-- `values::expect`: std's test of the front, bytes against bytes.
use Rattle.laws.specs.Kit.{◌∙◌, ap}
use Rattle.reading.specs.Found.{taken}
use Rattle.reading.proofs.Bytes.{at_front, not_at_front}
use Rattle.reading.proofs.Chains.{retold}
use Rattle.reading.proofs.values.expect.Goals as goal

pub returns : goal.returns
returns c =
    let s = c.args.s.now in
    let t = c.args.text.now in
    retold c.strip_prefix.result (not_at_front t s) (λ rest h. ap (taken tt) h.1 ∙ at_front t s h.0) c.strip_prefix.ensures.cases
