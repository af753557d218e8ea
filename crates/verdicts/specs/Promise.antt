-- What `accept` promises: its answer, read back, and its slices at exit are the definition's call.
use Rattle.std.specs.Prelude.{◌≡◌, List, ℕ, take, Result, Ok, Err}
use Rattle.refusals.specs.Numbers.{number}
use Rattle.refusals.specs.declared.named.Refusal.{Refusal}
use Rattle.lost_joints.specs.Promise.{option}
use Rattle.accept.specs.Accept.{Verdict}
use Rattle.accept.specs.Call.{Handed, Answer, Returned, found, refusal, call}
use Rattle.verdicts.specs.declared.Answered.{Answered}

-- the verdict that the answer and the sizes in their slice say
unfoldable pub verdict_of : Answered → List ℕ → Verdict
verdict_of r components =
    record {
      moved = option r.moved;
      added = r.added;
      folded = option r.folded;
      sharp = option r.sharp;
      given_turned = option r.given_turned;
      left_turned = option r.left_turned;
      thin = option r.thin;
      uneven = option r.uneven;
      lost = option r.lost;
      sizes = take r.groups components;
      odd = r.odd;
    }

-- the answer read back: a verdict, or a refusal by its number
abbrev pub answer_of : Result Answered Refusal → List ℕ → Answer
answer_of (Ok r) components = found (verdict_of r components)
answer_of (Err e) components = refusal (number e)

-- and the slices that may change
abbrev pub returned : Result Answered Refusal → List ℕ → List ℕ → List ℕ → Returned
returned r components work parents = record { answer = answer_of r components; components = components; work = work; parents = parents }

abbrev pub Answers : Handed → Result Answered Refusal → List ℕ → List ℕ → List ℕ → Type 0
Answers h r components work parents = returned r components work parents ≡ call h
