-- What an answer means: without a refusal and without an offender, it has accepted the mesh.
use Rattle.std.specs.Prelude.{◌≡◌, List, ℕ, Ok}
use Rattle.std.proofs.Math.Path.{sym}
use Rattle.std.proofs.Common.{ap}
use Rattle.accept.specs.Call.{Handed, judged, found, call}
use Rattle.accept.specs.Passed.{InDoubles}
use Rattle.accept.specs.Theorems.{Clean}
use Rattle.accept.specs.Upright.{AcceptedEither}
use Rattle.accept.proofs.Upright.{accepted}
use Rattle.verdicts.specs.declared.Answered.{Answered}
use Rattle.verdicts.specs.Promise.{verdict_of, Answers}

module _ (h : Handed) (r : Answered) (components work parents : List ℕ) (a : Answers h (Ok r) components work parents) where
  -- the definition's answer is the verdict read back
  pub verdict_read : (call h).answer ≡ found (verdict_of r components)
  verdict_read = sym (ap (λ x. x.answer) a)

  pub accepts : InDoubles h.given_slice → InDoubles h.point_slice → Clean (verdict_of r components) → AcceptedEither (judged h)
  accepts dg dp c = accepted h (verdict_of r components) dg dp verdict_read c
