-- `values::ended`: the value that was read, then the byte.
use Rattle.std.specs.Prelude.{◌≡◌}
use Rattle.std.proofs.Math.Option.{none}
use Rattle.reading.specs.Found.{taken}
use Rattle.reading.proofs.Chains.{refused, lost, got, then_off, then_other, then_both}
use Rattle.reading.proofs.values.ended.Goals as goal

pub returns-in_err-v : goal.returns-in_err-v
returns-in_err-v g c = λ number r s h. refused _ _ c.from_residual.ensures (then_off c.args.b r s (lost _ (λ t. taken (number t.0) t.1.now ≡ r s) c.in_err-v.was h))

pub returns-in_err-rest : goal.returns-in_err-rest
returns-in_err-rest g c = λ number r s h.
    let v = c.in_ok-v in
    refused _ _ c.from_residual-in_err-rest.ensures (then_other c.args.b r s (number v.v) v.after.now (got (none ≡ r s) (λ t. taken (number t.0) t.1.now ≡ r s) v.was h) c.in_err-rest.ensures)

pub returns : goal.returns
returns g c = λ number r s h.
    let v = c.in_ok-v in
    then_both c.args.b r s (number v.v) v.after.now (got (none ≡ r s) (λ t. taken (number t.0) t.1.now ≡ r s) v.was h) c.in_ok-rest.rest.now c.in_ok-rest.ensures
