-- The promise of an acceptance by whether the slice has room.
use mathlib.Core.Path.{◌≡◌, refl, ap, subst}
use mathlib.Core.List.{List}
use Prim.{absurd}
use Prim.Native.Nat.{ℕ, ◌<◌, ◌≤◌}
use native.Mathlib.Omega.{arith}
use lib.Ieee.{Float}
use lib.ListN.{length}
use Rattle.std.specs.Prelude.{Result, Ok, Err}
use Rattle.refusals.specs.declared.named.Refusal.{Refusal}
use Rattle.refusals.specs.Refusals.{number_of}
use Rattle.accept.specs.Call.{Handed, refused, call}
use Rattle.accept_refusals.specs.declared.Stated.{Stated}
use Rattle.verdicts.specs.declared.Answered.{Answered}
use Rattle.verdicts.specs.Promise.{answer_of, Answers}
use Rattle.accept_refusals.specs.Stated.{handed}
use Rattle.accept_numbers.specs.Numbers.{listed, up_to_4, Tells}
use Rattle.accept_numbers.specs.Said.{counts}
use Rattle.library.specs.Verdicts.{ExportedVerdict}

-- without room for the numbers
pub without_room : (h : Handed) (old : List ℕ) (k : ℕ) → length old < 13 → k ≡ up_to_4 (number_of (refused h)) → ExportedVerdict h old k old h.components h.work h.parents
without_room h old k l e =
    record { roomy = λ s. absurd (omega (arith, l, s)); short = λ _. record { number = e; answer = refl; components_are = refl; work_is = refl; parents_are = refl } }

module _ (gs : List Float) (ts : List ℕ) (ps : List Float) (qs ls js cs ws fs : List ℕ) (a : Stated) where
  abbrev h : Handed
  h = handed gs ts ps qs ls js cs ws fs a

  -- what is told by the stated numbers is told of all that is handed in
  of_all : (r : Result Answered Refusal) (components old : List ℕ) (k : ℕ) (new : List ℕ) → Tells (counts a) (answer_of r components) old k new → Tells h (answer_of r components) old k new
  unfolding listed
  of_all (Ok v) components old k new t = record { number_is = t.number_is; answer_is = t.answer_is }
  of_all (Err e) components old k new t = record { number_is = t.number_is; answer_is = t.answer_is }

  -- with it
  pub with_room : (old : List ℕ) (k : ℕ) (new components work parents : List ℕ) (r : Result Answered Refusal) → 13 ≤ length old → Answers h r components work parents
      → Tells (counts a) (answer_of r components) old k new → ExportedVerdict h old k new components work parents
  with_room old k new components work parents r l e t =
      record {
        roomy = λ _. record {
          tells = subst (λ x. Tells h x.answer old k new) e (of_all r components old k new t);
          components_are = ap (λ x. x.components) e;
          work_is = ap (λ x. x.work) e;
          parents_are = ap (λ x. x.parents) e;
        };
        short = λ s. absurd (omega (arith, l, s));
      }
