-- The promise of the exported filing order: the call of its definition, the answer as one number.
use Rattle.std.specs.Prelude.{◌≡◌, List, ℕ}
use Rattle.std.specs.declared.cmp.Ordering.{Ordering}
use Rattle.std.specs.declared.cmp.Ordering.TheVariants.{Less, Equal, Greater}
use Rattle.filing.specs.Filing.{Answer, Filed, Refused, Returned}

-- three numbers that no refusal has
abbrev pub order_number : Ordering → ℕ
order_number Less = 100
order_number Equal = 101
order_number Greater = 102

-- a refusal keeps its own
abbrev pub number : Answer → ℕ
number (Filed o) = order_number o
number (Refused k) = k

-- k is returned of a call that gives c, and the work slices hold v and w then
pub record FiledAs (c : Returned) (k : ℕ) (v w : List ℕ) : Type 0 where
  pub answer : k ≡ number c.answer
  pub first_work : v ≡ c.first_work
  pub second_work : w ≡ c.second_work
