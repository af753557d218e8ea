-- The numbers of the refusals, and of an answer that is one or none.
use Rattle.std.specs.Prelude.{◌≡◌, ◌≢◌, ◌<◌, ◌≤◌, Result, Ok, Err}
use Rattle.laws.specs.Kit.{refl, sym, ◌∙◌, ap, cond, ℕ, eqb, arith}
use Rattle.outcomes.specs.declared.Shortage.{Shortage}
use Rattle.outcomes.specs.declared.Shortage.TheVariants as short
use Rattle.refusals.specs.declared.named.Refusal.{Refusal}
use Rattle.refusals.specs.declared.named.Refusal.TheVariants.{OverLimit, BadSize, BadStop, TooShort, UnknownNode, RepeatedNode, FarPoint, NoPoint, NoSlots, NoTrace, BadTrace, BadJoint, BadQuality, OffGrid, BadJob}

-- a refusal's number
abbrev pub number : Refusal → ℕ
number OverLimit = 1
number BadSize = 2
number BadStop = 3
number TooShort = 4
number UnknownNode = 5
number RepeatedNode = 6
number FarPoint = 7
number NoPoint = 8
number NoSlots = 9
number NoTrace = 11
number BadTrace = 12
number BadJoint = 13
number BadQuality = 14
number OffGrid = 15
number BadJob = 16

-- the refusal that stands for what is left too little of
abbrev pub refusal_of : Shortage → Refusal
refusal_of short.NoPoint = NoPoint
refusal_of short.NoSlots = NoSlots
refusal_of short.NoTrace = NoTrace

-- the number of a refusal, and 0 where there is none
abbrev pub number_or_0 : {A : Type 0} → Result A Refusal → ℕ
number_or_0 (Ok x) = 0
number_or_0 (Err r) = number r

-- ---- laws

-- no refusal has the number 0
pub number_positive : (r : Refusal) → 0 < number r
number_positive OverLimit = omega arith
number_positive BadSize = omega arith
number_positive BadStop = omega arith
number_positive TooShort = omega arith
number_positive UnknownNode = omega arith
number_positive RepeatedNode = omega arith
number_positive FarPoint = omega arith
number_positive NoPoint = omega arith
number_positive NoSlots = omega arith
number_positive NoTrace = omega arith
number_positive BadTrace = omega arith
number_positive BadJoint = omega arith
number_positive BadQuality = omega arith
number_positive OffGrid = omega arith
number_positive BadJob = omega arith

pub not_0 : (r : Refusal) → number r ≢ 0
not_0 r e = omega (arith, number_positive r, e)

pub number_at_most : (r : Refusal) → number r ≤ 16
number_at_most OverLimit = omega arith
number_at_most BadSize = omega arith
number_at_most BadStop = omega arith
number_at_most TooShort = omega arith
number_at_most UnknownNode = omega arith
number_at_most RepeatedNode = omega arith
number_at_most FarPoint = omega arith
number_at_most NoPoint = omega arith
number_at_most NoSlots = omega arith
number_at_most NoTrace = omega arith
number_at_most BadTrace = omega arith
number_at_most BadJoint = omega arith
number_at_most BadQuality = omega arith
number_at_most OffGrid = omega arith
number_at_most BadJob = omega arith

-- the refusal of a number
numbered : ℕ → Refusal
numbered n =
    cond (eqb n 1) OverLimit (
    cond (eqb n 2) BadSize (
    cond (eqb n 3) BadStop (
    cond (eqb n 4) TooShort (
    cond (eqb n 5) UnknownNode (
    cond (eqb n 6) RepeatedNode (
    cond (eqb n 7) FarPoint (
    cond (eqb n 8) NoPoint (
    cond (eqb n 9) NoSlots (
    cond (eqb n 11) NoTrace (
    cond (eqb n 12) BadTrace (
    cond (eqb n 13) BadJoint (
    cond (eqb n 14) BadQuality (
    cond (eqb n 15) OffGrid (
    BadJob))))))))))))))

numbered_number : (r : Refusal) → numbered (number r) ≡ r
unfolding numbered
numbered_number OverLimit = refl
numbered_number BadSize = refl
numbered_number BadStop = refl
numbered_number TooShort = refl
numbered_number UnknownNode = refl
numbered_number RepeatedNode = refl
numbered_number FarPoint = refl
numbered_number NoPoint = refl
numbered_number NoSlots = refl
numbered_number NoTrace = refl
numbered_number BadTrace = refl
numbered_number BadJoint = refl
numbered_number BadQuality = refl
numbered_number OffGrid = refl
numbered_number BadJob = refl

-- no two refusals have one number
pub number_injective : (r s : Refusal) → number r ≡ number s → r ≡ s
number_injective r s e = sym (numbered_number r) ∙ ap numbered e ∙ numbered_number s

module _ {A : Type 0} where
  -- 0 is no refusal's
  pub ok_of_0 : (a : Result A Refusal) → number_or_0 a ≡ 0 → (x : A) × (a ≡ Ok x)
  ok_of_0 (Ok x) e = (x, refl)
  ok_of_0 (Err r) e = absurd (omega (arith, number_positive r))

  -- another number is that of the refusal
  pub err_of : (a : Result A Refusal) → number_or_0 a ≢ 0 → (r : Refusal) × (a ≡ Err r)
  err_of (Ok x) d = absurd (d refl)
  err_of (Err r) d = (r, refl)
