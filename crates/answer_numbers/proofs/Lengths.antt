-- The lengths of a replay as four stores, and the number of one whose answer is too short.
use mathlib.Core.Path.{◌≡◌, refl, sym, ◌∙◌}
use mathlib.Core.Bool.{Bool, true, false, cond}
use mathlib.Core.Logic.{◌≢◌}
use mathlib.Core.List.{List}
use Prim.{absurd}
use Prim.Native.Nat.{ℕ, ◌≤◌}
use native.Mathlib.Omega.{arith}
use lib.ListN.{length, set}
use lib.Seq.{sets-eq}
use borrow.Author.Tests.{eq-eqb, ne_eqb}
use Rattle.definition.specs.Call.{Asked, Lent, over_limit, bad_size, bad_stop, bad_quality, too_short, unknown_node, repeated_node, far_point, bad_grid, bad_joints, onto}
use Rattle.refusals.specs.Refusals.{first_refusal, in_turn}
use Rattle.retrace.specs.Replaying.{Reply}
use Rattle.answer_numbers.specs.Replays.{lengths_listed, lengths_put}

-- ---- the lengths

pub written : (xs : List ℕ) (r : Reply) → 4 ≤ length xs → set (set (set (set xs 0 r.quads) 1 r.triangles) 2 r.points) 3 r.components ≡ onto (lengths_listed r) xs
unfolding onto
written xs r h = sets-eq (lengths_listed r) xs 0 (omega (arith, h))

-- after a refusal what was there
pub kept : (r : Reply) (old : List ℕ) → r.refusal ≢ 0 → old ≡ lengths_put r old
kept r old h = rw (ne_eqb r.refusal 0 h)

-- after the whole trace its lengths
pub put : (r : Reply) (old new : List ℕ) → r.refusal ≡ 0 → new ≡ onto (lengths_listed r) old → new ≡ lengths_put r old
put r old new h e = rw (eq-eqb r.refusal 0 h) e

-- ---- the number of a replay whose answer is too short

other : (b : Bool) (k n : ℕ) → k ≢ 1 → n ≢ 1 → cond b k n ≢ 1
other true k n h g = h
other false k n h g = g

-- no test after the first has the number 1
taken : (b : Bool) (n : ℕ) → n ≢ 1 → cond b 1 n ≡ 1 → ◌≡◌ {A = ℕ} 1 (cond b 1 4)
taken true n h e = refl
taken false n h e = absurd (h e)

passed_by : (b : Bool) (n : ℕ) → cond b 1 n ≢ 1 → ◌≡◌ {A = ℕ} 4 (cond b 1 4)
passed_by true n h = absurd (h refl)
passed_by false n h = refl

pub one : (a : Asked) (l : Lent) → first_refusal a l ≡ 1 → ◌≡◌ {A = ℕ} 1 (cond (over_limit a) 1 4)
one a l e =
    taken (over_limit a) _
    (other (bad_size a) 2 _ (omega arith) (other (bad_stop a) 3 _ (omega arith) (other (bad_quality a) 14 _ (omega arith) (other (too_short a l) 4 _ (omega arith)
    (other (unknown_node a l) 5 _ (omega arith) (other (repeated_node a l) 6 _ (omega arith) (other (far_point a l) 7 _ (omega arith)
    (other (bad_grid a l) 15 _ (omega arith) (other (bad_joints a l) 13 0 (omega arith) (omega arith))))))))))
    (sym (in_turn a l) ∙ e)

pub four : (a : Asked) (l : Lent) → first_refusal a l ≢ 1 → ◌≡◌ {A = ℕ} 4 (cond (over_limit a) 1 4)
four a l h = passed_by (over_limit a) _ (λ e. h (in_turn a l ∙ e))
