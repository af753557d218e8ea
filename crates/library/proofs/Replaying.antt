-- The promise of a replay by whether the slice has room.
use mathlib.Core.Path.{◌≡◌, refl, sym, ap, ◌∙◌}
use mathlib.Core.Bool.{cond}
use mathlib.Core.Logic.{◌≢◌}
use mathlib.Core.List.{List, [], ◌∷◌}
use Prim.{absurd}
use Prim.Native.Nat.{ℕ, ◌<◌, ◌≤◌}
use native.Mathlib.Decide.{ℕ_discrete}
use native.Mathlib.Omega.{arith}
use lib.ListN.{length}
use borrow.Author.Tests.{eq-eqb, ne_eqb}
use Rattle.definition.specs.Call.{Lent, over_limit, onto}
use Rattle.definition.specs.Replay.{Told, as_asked, ReplayAnswer, rebuilt, unplayed, replay}
use Rattle.retrace.specs.Replaying as retrace
use Rattle.retrace.specs.Replaying.{Reply, answer_number, answer_lengths, lengths_in}
use Rattle.answer_numbers.specs.Replays.{lengths_listed, lengths_put}
use Rattle.library.specs.Replays.{replay_numbers, ExportedReplay}
use Rattle.library.proofs.Unplayed.{numbered_answer}

-- without room the refusal
pub without_room : (t : Told) (l : Lent) (old : List ℕ) (k : ℕ) → length old < 4 → k ≡ cond (over_limit (as_asked t)) 1 4 → ExportedReplay t l old k old l
without_room t l old k h e =
    record { roomy = λ s. absurd (omega (arith, h, s)); short = λ _. record { number = e; answer = refl; lent = refl } }

module _ (t : Told) (l : Lent) (old : List ℕ) (r : Reply) (exit : Lent) (room : 4 ≤ length old) (is : retrace.Replays (replay t l) r exit) where
  with_room : (k : ℕ) (new : List ℕ) → k ≡ r.refusal → new ≡ onto (replay_numbers (replay t l).answer) old → ExportedReplay t l old k new exit
  with_room k new number answer =
      record { roomy = λ _. record { number = number ∙ is.number; answer = answer; lent = sym is.lent }; short = λ s. absurd (omega (arith, room, s)) }

  no_lengths : (x : ReplayAnswer) → r.refusal ≡ answer_number x → r.refusal ≢ 0 → old ≡ onto (replay_numbers x) old
  unfolding answer_number onto
  no_lengths (rebuilt n) e h = absurd (h e)
  no_lengths (unplayed k) e h = refl

  its_lengths : (x : ReplayAnswer) → ((k : ℕ) → x ≡ unplayed k → 0 < k) → r.refusal ≡ answer_number x → lengths_in r ≡ answer_lengths x → r.refusal ≡ 0
      → lengths_listed r ≡ replay_numbers x
  unfolding answer_number answer_lengths
  its_lengths (rebuilt n) h e f z = ap (λ m. m.quads ∷ m.triangles ∷ m.points ∷ m.components ∷ []) f
  its_lengths (unplayed k) h e f z = absurd (let g = h k refl in omega (arith, e, z, g))

  -- by the number, whatever the slice holds then
  pub with_number : (k : ℕ) (new : List ℕ) → k ≡ r.refusal → new ≡ lengths_put r old → ExportedReplay t l old k new exit
  with_number k new number answer = elim (ℕ_discrete r.refusal 0) [
    | yes z ↦ with_room k new number (answer ∙ rw (eq-eqb r.refusal 0 z) (ap (λ ns. onto ns old) (its_lengths (replay t l).answer (numbered_answer t l) is.number is.lengths z)))
    | no h ↦ with_room k new number (answer ∙ rw (ne_eqb r.refusal 0 h) (no_lengths (replay t l).answer is.number h))
  ]
