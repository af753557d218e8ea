-- A share and what is left are no more than the allowance.
use Rattle.laws.specs.Kit.{refl, arith}
use Rattle.definition.specs.Job.{share, entitled}
use Rattle.allowances.specs.States.{job_of}
use Rattle.allowances.proofs.Passed.{Good, good, entitled_few}
use Rattle.allowances.proofs.entitled.Statement.{statement}
use Rattle.allowances.proofs.entitled.Tie as tie

allowed : (t : tie.Start) → Good (job_of t.args.j)
allowed t = good (job_of t.args.j) t.requires

div_result : tie.Need-nonzero_div-result
div_result c = omega (arith, (allowed c.before).some)

add_result : tie.Need-overflow_add-result
unfolding entitled share
add_result c = let t = c in omega (arith, entitled_few (job_of t.args.j) (allowed t.before.before))

returns : tie.Need-returns
unfolding entitled share
returns c = refl

pub entitled_spec : {M : Type 1} → statement M
entitled_spec =
    tie.close
    (tie.spec
    div_result add_result returns)
