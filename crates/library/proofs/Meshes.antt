-- The promise of a mesh of a job by the room of the slices and by its state.
use mathlib.Core.Path.{◌≡◌, refl, sym, subst, ◌∙◌}
use mathlib.Core.Bool.{true, false, true≢false}
use mathlib.Core.List.{List}
use Prim.{⊥, absurd}
use Prim.Native.Nat.{ℕ, ◌<◌, ◌≤◌}
use native.Mathlib.Omega.{arith}
use lib.ListN.{length}
use Rattle.definition.specs.Call.{Asked, Lent, onto}
use Rattle.definition.specs.Job as defined
use Rattle.definition.specs.Job.{bad_job, job_limit, job}
use Rattle.mesher.specs.Promise.{answered, KeptAccountWithin, KeptJoints, KeptArea}
use Rattle.jobs.specs.declared.Mesh.{Mesh}
use Rattle.jobs.specs.Jobs.{JobReturns}
use Rattle.answer_numbers.specs.Jobs.{state_in}
use Rattle.library.specs.Exported.{handed}
use Rattle.library.specs.Jobs.{job_numbers, Meshed, ExportedJob}

-- a test of the state has one answer
not_both : (j : defined.Job) → bad_job j ≡ true → bad_job j ≡ false → ⊥
not_both j t f = true≢false (sym t ∙ f)

-- no room for the state
pub without_state : (a : Asked) (l : Lent) (js old : List ℕ) → length js < 5 → ExportedJob a l js old 4 js old l
without_state a l js old h =
    record {
      no_state = λ _. record { number = refl; state = refl; answer = refl; lent = refl };
      bad_state = λ s _. absurd (omega (arith, h, s));
      short = λ s _ _. absurd (omega (arith, h, s));
      roomy = λ s _ _. absurd (omega (arith, h, s));
    }

-- a state that 16 refuses
pub refused_state : (j : defined.Job) (a : Asked) (l : Lent) (js old : List ℕ) → j ≡ state_in js → 5 ≤ length js → bad_job j ≡ true → ExportedJob a l js old 16 js old l
refused_state j a l js old e h b =
    let bad : bad_job (state_in js) ≡ true = subst (λ v. bad_job v ≡ true) e b in
    record {
      no_state = λ s. absurd (omega (arith, h, s));
      bad_state = λ _ _. record { number = refl; state = refl; answer = refl; lent = refl };
      short = λ _ g _. absurd (not_both (state_in js) bad g);
      roomy = λ _ g _. absurd (not_both (state_in js) bad g);
    }

-- no room for the numbers
pub without_answer : (j : defined.Job) (a : Asked) (l : Lent) (js old : List ℕ) → j ≡ state_in js → 5 ≤ length js → bad_job j ≡ false → length old < 15 → ExportedJob a l js old 4 js old l
without_answer j a l js old e h b d =
    let good : bad_job (state_in js) ≡ false = subst (λ v. bad_job v ≡ false) e b in
    record {
      no_state = λ s. absurd (omega (arith, h, s));
      bad_state = λ _ g. absurd (not_both (state_in js) g good);
      short = λ _ _ _. record { number = refl; state = refl; answer = refl; lent = refl };
      roomy = λ _ _ s. absurd (omega (arith, d, s));
    }

-- What came back of a mesh by the state j that the slice has.
pub record Came (j : defined.Job) (a : Asked) (l : Lent) (m : Mesh) (exit : Lent) : Type 0 where
  pub returns : JobReturns (job j a l) m exit
  pub keeps : KeptAccountWithin (job_limit j a) a l (answered m.answer) exit
  pub joints : KeptJoints a l (answered m.answer) exit
  pub area : KeptArea a l (answered m.answer) exit

-- room for both
pub with_both : (j : defined.Job) (a : Asked) (l : Lent) (js old : List ℕ) (k : ℕ) (ks new : List ℕ) (exit : Lent) (m : Mesh) → j ≡ state_in js → 5 ≤ length js → bad_job j ≡ false → 15 ≤ length old
    → Came j a l m exit → k ≡ (answered m.answer).refusal → ks ≡ onto (job_numbers m) js → new ≡ handed (answered m.answer) old → ExportedJob a l js old k ks new exit
with_both j a l js old k ks new exit m e h b d c number state answer =
    let good : bad_job (state_in js) ≡ false = subst (λ v. bad_job v ≡ false) e b in
    let x = subst (λ (v : defined.Job). Came v a l m exit) e c in
    let is : Meshed a l js old k ks new exit m =
    record { returns = x.returns; keeps = x.keeps; joints = x.joints; area = x.area; number = number; state = state; answer = answer } in
    record {
      no_state = λ s. absurd (omega (arith, h, s));
      bad_state = λ _ g. absurd (not_both (state_in js) g good);
      short = λ _ _ s. absurd (omega (arith, d, s));
      roomy = λ _ _ _. (m, is);
    }
