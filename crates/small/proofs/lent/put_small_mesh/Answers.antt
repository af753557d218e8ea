-- `lent::put_small_mesh`: a slice of fewer than ten numbers is too short, into any other the list is written.
use Rattle.std.specs.Prelude.{◌≡◌, Result, Ok, Err, IsErrAnd}
use Rattle.laws.specs.Kit.{sym, ◌∙◌, ap}
use Rattle.refusals.specs.declared.named.Refusal.{Refusal}
use Rattle.refusals.specs.Numbers.{number, number_or_0}
use Rattle.small.specs.Small.{said}
use Rattle.small.proofs.Slices.{refused_first, too_short, long_enough, not_refused, none_stored}
use Rattle.small.proofs.lent.put_small_mesh.Goals as goal

-- a refusal is handed on as it is
handed_on : {A : Type 0} (r : Result A Refusal) (k : Refusal) → IsErrAnd r (λ e. e ≡ k) → number k ≡ number_or_0 r
handed_on (Ok x) k h = absurd h
handed_on (Err e) k h = ap number (sym h)

pub returns-in_err-found : goal.returns-in_err-found
returns-in_err-found c =
    rw (sym (handed_on c.from_residual.result c.in_err-found.field-0.0 c.from_residual.ensures.1))
    (refused_first (number c.in_err-found.field-0.0) c.args.list.now c.in_err-found.ensures)

pub returns-then-list-lt-NUMBERS : goal.returns-then-list-lt-NUMBERS
returns-then-list-lt-NUMBERS c = too_short c.in_ok-found.ensures (not_refused c.in_ok-found.found) c.if-list-lt-NUMBERS.true

pub returns-in-Some : goal.returns-in-Some
returns-in-Some c = long_enough (sym (ap (λ x. said (Ok x)) c.in-Some.is) ∙ c.in_ok-found.ensures) c.write.ensures c.if-list-lt-NUMBERS.false

pub returns-in-None : goal.returns-in-None
returns-in-None c = long_enough c.in_ok-found.ensures (none_stored c.args.list.now (ap (λ x. said (Ok x)) c.in-None.is) c.if-list-lt-NUMBERS.false) c.if-list-lt-NUMBERS.false
