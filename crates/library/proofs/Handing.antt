-- What the slice of an answer holds, and the promise by whether it has room.
use mathlib.Core.Path.{◌≡◌, refl, subst}
use mathlib.Core.Logic.{◌≢◌}
use mathlib.Core.List.{List, []}
use Prim.{absurd}
use Prim.Native.Nat.{ℕ, ◌<◌, ◌≤◌}
use native.Mathlib.Omega.{arith}
use lib.ListN.{length}
use borrow.Author.Tests.{eq-eqb, ne_eqb}
use Rattle.definition.specs.Call.{Asked, Lent, onto}
use Rattle.laws.specs.Lists.{nothing}
use Rattle.refusals.specs.Refusals.{first_refusal}
use Rattle.mesher.specs.Promise.{Reply}
use Rattle.answer_numbers.specs.Runs.{numbers, up_to_4}
use Rattle.library.specs.Exported.{handed, Roomy, Exported}

-- after a refusal what was there
pub kept : (r : Reply) (old : List ℕ) → r.refusal ≢ 0 → old ≡ handed r old
kept r old h = rw (ne_eqb r.refusal 0 h)

-- after a finished run its numbers
pub put : (r : Reply) (old new : List ℕ) → r.refusal ≡ 0 → new ≡ onto (numbers r) old → new ≡ handed r old
put r old new h e = rw (eq-eqb r.refusal 0 h) e

-- ---- the promise

-- with room the call, whatever the slice holds then
pub with_room : (a : Asked) (l : Lent) (old : List ℕ) (k : ℕ) (new : List ℕ) (exit : Lent) (r : Reply)
    → 15 ≤ length old → Roomy a l old k new exit r → Exported a l old k new exit
with_room a l old k new exit r h d = record { roomy = λ _. (r, d); short = λ s. absurd (omega (arith, h, s)) }

-- without it the refusal
pub without_room : (a : Asked) (l : Lent) (old : List ℕ) (k : ℕ)
    → length old < 15 → k ≡ up_to_4 (first_refusal a l) → Exported a l old k old l
without_room a l old k h e =
    record { roomy = λ s. absurd (omega (arith, h, s)); short = λ _. record { number = e; answer = refl; lent = refl } }

-- of the same numbers
pub stated_as : {a b : Asked} {l : Lent} {old : List ℕ} {k : ℕ} {new : List ℕ} {exit : Lent} → a ≡ b → Exported a l old k new exit → Exported b l old k new exit
stated_as {l = l} {old = old} {k = k} {new = new} {exit = exit} e h = subst (λ a. Exported a l old k new exit) e h

-- a trace of no words stays one
pub untraced : {a : Asked} {l : Lent} {old : List ℕ} {k : ℕ} {new : List ℕ} (exit : List ℕ → Lent) (t : List ℕ) → length t ≡ 0
    → Exported a l old k new (exit t) → Exported a l old k new (exit [])
untraced {a = a} {l = l} {old = old} {k = k} {new = new} exit t e h = subst (λ s. Exported a l old k new (exit s)) (nothing t e) h
