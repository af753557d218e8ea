-- The promise of a preview by whether the slice has room.
use mathlib.Core.Path.{◌≡◌, refl, sym, ap, ◌∙◌}
use mathlib.Core.List.{List}
use Prim.{absurd}
use Prim.Native.Nat.{ℕ, ◌<◌, ◌≤◌}
use native.Mathlib.Omega.{arith}
use lib.ListN.{length}
use Rattle.definition.specs.Call.{Asked, Lent, onto}
use Rattle.definition.specs.Preview.{preview}
use Rattle.refusals.specs.Refusals.{first_refusal}
use Rattle.std.specs.Prelude.{Result}
use Rattle.refusals.specs.declared.named.Refusal.{Refusal}
use Rattle.mesher.specs.declared.preview.Shown.{Shown}
use Rattle.mesher.specs.Previews.{shown_of, Previews}
use Rattle.answer_numbers.specs.Runs.{up_to_4}
use Rattle.answer_numbers.specs.Previews.{shown_numbers, refusal_number}
use Rattle.library.specs.Previews.{ExportedPreview}

-- without room for the numbers
pub without_room : (a : Asked) (l : Lent) (u v : ℕ) (old : List ℕ) (k : ℕ) → length old < 12 → k ≡ up_to_4 (first_refusal a l) → ExportedPreview a l u v old k old l
without_room a l u v old k h e =
    record { roomy = λ s. absurd (omega (arith, h, s)); short = λ _. record { number = e; answer = refl; lent = refl } }

-- with it
pub with_room : (a : Asked) (l : Lent) (u v : ℕ) (old : List ℕ) (k : ℕ) (new : List ℕ) (exit : Lent) (r : Result Shown Refusal) → 12 ≤ length old → Previews (preview a l u v) r exit
    → k ≡ refusal_number (shown_of r) → new ≡ onto (shown_numbers (shown_of r)) old → ExportedPreview a l u v old k new exit
with_room a l u v old k new exit r h p number answer =
    record {
      roomy = λ _. record { number = number ∙ ap refusal_number p.shown; answer = answer ∙ ap (λ s. onto (shown_numbers s) old) p.shown; lent = sym p.lent };
      short = λ s. absurd (omega (arith, h, s));
    }
