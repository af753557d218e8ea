-- `verdicts::accept` meets its contract: a refusal is the whole answer, and else the verdict is asked for.
-- Assumes nothing.
use Rattle.std.specs.Prelude.{◌≡◌, Result, Ok, Err, IsErrAnd}
use mathlib.Core.Path.{sym, subst}
use Prim.{absurd}
use Rattle.refusals.specs.Numbers.{number}
use Rattle.refusals.specs.Refusals.{number_of}
use Rattle.refusals.specs.declared.named.Refusal.{Refusal}
use Rattle.accept.specs.Call.{Handed, refused}
use Rattle.accept_refusals.specs.Stated.{handed}
use Rattle.verdicts.specs.declared.Answered.{Answered}
use Rattle.verdicts.specs.Promise.{Answers}
use Rattle.verdicts.proofs.Returns.{refused_so}
use Rattle.verdicts.proofs.accept.Goals as goal

-- `?` hands the refusal on
handed_on : (h : Handed) (e : Refusal) (r : Result Answered Refusal) → number e ≡ number_of (refused h) → IsErrAnd r (λ f. f ≡ e) → Answers h r h.components h.work h.parents
handed_on h e (Ok x) g k = absurd k
handed_on h e (Err f) g k = subst (λ z. Answers h (Err z) h.components h.work h.parents) (sym k) (refused_so h e g)

pub returns-in_err-refusal : goal.returns-in_err-refusal
returns-in_err-refusal c =
    let a = c.args in
    let hand = handed a.given.now a.triangles.now a.points.now a.quads.now a.left.now a.joints.now a.components.now a.work.now a.parents.now a.a in
    handed_on hand c.in_err-refusal.field-0.0 c.from_residual.result c.in_err-refusal.ensures c.from_residual.ensures.1

pub answer-requires : goal.answer-requires
answer-requires c = sym c.in_ok-refusal.ensures
