-- A rule above 1 is neither 0 nor 1.
use Rattle.laws.specs.Kit.{sym, ◌∙◌, arith, dec_lt, lt-ltb, le-ltb}
use Rattle.laws.specs.Bools.{holds}
use Rattle.refusals.specs.Passed.{ruled, rule_passes}
use Rattle.refusals.proofs.bad_stop.Goals as goal

pub returns : goal.returns
returns c = elim (dec_lt 1 c.args.a.stop) [
  | yes l ↦ lt-ltb 1 _ l ∙ sym (holds _ (λ e. let h = ruled _ e in omega arith))
  | no l ↦ le-ltb 1 _ (omega arith) ∙ sym (rule_passes _ (omega arith))
]
