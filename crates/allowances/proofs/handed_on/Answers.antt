-- One more is done, and the rest is left.
use Rattle.std.specs.Prelude.{◌≡◌, ◌+◌, ◌-◌}
use Rattle.laws.specs.Kit.{ℕ, suc, arith, rules}
use Rattle.definition.specs.Job as defined
use Rattle.definition.specs.Job.{handed_on}
use Rattle.allowances.specs.States.{job_of}
use Rattle.allowances.proofs.Passed.{good}
use Rattle.allowances.proofs.handed_on.Goals as goal

pub overflow_add-result : goal.overflow_add-result
overflow_add-result c =
    let g = good (job_of c.args.j) c.requires.j_value in
    omega (arith, g.going, g.few)

pub returns : goal.returns
unfolding handed_on
returns c =
    let a = c.args in
    let job : ℕ → ℕ → defined.Job = λ done left. record { meshes = a.j.meshes; allowance = a.j.allowance; done = done; left = left } in
    let more : a.j.done + 1 ≡ suc a.j.done = omega arith in
    λ i. job (more i) (c.entitled-own.ensures i - a.charged)
