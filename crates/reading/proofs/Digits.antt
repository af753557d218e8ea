-- Digits read at a position: a run of decimal ones, and sixteen hexadecimal ones one after the other.
use Rattle.std.specs.Prelude.{◌≡◌, ◌+◌, ◌-◌, ◌*◌, ◌<◌, ◌≤◌, ◌∷◌}
use Rattle.laws.specs.Kit.{refl, Bool, true, false, not, Option, none, some, ℕ, arith, leb, eq-eqb, ne_eqb, lt-leb, le-leb, [], foldl, length, get_or, drop}
use native.Mathlib.Nat.{le_trans}
use borrow.Author.Tests.{leb-true}
use Rattle.laws.specs.Bools.{both}
use Rattle.definition.specs.Lists.{empty}
use Rattle.definition.specs.Text.{Bytes, Taken, is_digit, one_more, run, decimal, dec, well_formed, one_digit}
use Rattle.reading.specs.Found.{taken, limited, up_to}
use Rattle.reading.proofs.Bytes.{from, past}

-- a digit's code
pub digit_within : (c : ℕ) → is_digit c ≡ true → (48 ≤ c) × (c ≤ 57)
unfolding is_digit
digit_within c e = let k = both (leb 48 c) (leb c 57) e in (leb-true 48 c k.0, leb-true c 57 k.1)

-- ---- decimal

-- the number of the digits that follow v
unfoldable pub decimal_on : ℕ → Taken Bytes → Option (Taken ℕ)
decimal_on v t = some (record { value = foldl (λ n d. 10 * n + (d - 48)) v t.value; rest = t.rest })

-- a digit that is there is the next of the run
pub run_digit : (c : ℕ) (s : Bytes) → is_digit c ≡ true → run (c ∷ s) ≡ one_more c (run s)
unfolding run
run_digit c s h = rw h

-- the run ends before any other byte
pub run_other : (c : ℕ) (s : Bytes) → is_digit c ≡ false → run (c ∷ s) ≡ record { value = []; rest = c ∷ s }
unfolding run
run_other c s h = rw h

pub decimal_start : (t : Taken Bytes) → decimal t ≡ decimal_on 0 t
unfolding decimal decimal_on
decimal_start t = refl

pub decimal_more : (v c : ℕ) (s : Bytes) → is_digit c ≡ true → decimal_on v (run (c ∷ s)) ≡ decimal_on (10 * v + (c - 48)) (run s)
unfolding decimal_on one_more
decimal_more v c s h = rw (run_digit c s h)

pub decimal_done : (v c : ℕ) (s : Bytes) → is_digit c ≡ false → decimal_on v (run (c ∷ s)) ≡ some (record { value = v; rest = c ∷ s })
unfolding decimal_on
decimal_done v c s h = rw (run_other c s h)

pub decimal_end : (v : ℕ) → decimal_on v (run []) ≡ some (record { value = v; rest = [] })
unfolding decimal_on run
decimal_end v = refl

-- further digits make no number smaller
grows : (v : ℕ) (ds : Bytes) → v ≤ foldl (λ n d. 10 * n + (d - 48)) v ds
grows v [] = omega arith
grows v (d ∷ ds) = le_trans (omega arith) (grows (10 * v + (d - 48)) ds)

-- a number that has passed the limit is refused, whatever follows
pub decimal_over : (m v : ℕ) (t : Taken Bytes) → m < v → none ≡ limited m (decimal_on v t)
unfolding decimal_on limited
decimal_over m v t h = rw (lt-leb (foldl (λ n d. 10 * n + (d - 48)) v t.value) m (le_trans h (grows v t.value)))

pub limited_in : (m v : ℕ) (s : Bytes) → v ≤ m → some (record { value = v; rest = s }) ≡ limited m (some (record { value = v; rest = s }))
unfolding limited
limited_in m v s h = rw (le-leb v m h)

-- a decimal number goes by its digits, where these are well formed
module _ (m : ℕ) (s : Bytes) where
  pub up_to_in : true ≡ well_formed (run s).value → up_to m s ≡ limited m (decimal (run s))
  unfolding up_to dec
  up_to_in h = rw (← h)

  pub up_to_out : false ≡ well_formed (run s).value → none ≡ up_to m s
  unfolding up_to dec limited
  up_to_out h = rw (← h)

-- ---- at least one digit, and no zero before another

pub formed_end : (s : Bytes) → s ≡ [] → false ≡ well_formed (run s).value
unfolding run well_formed
formed_end s e = rw e

module _ (c : ℕ) (s : Bytes) where
  pub formed_nonzero : (c ≡ 48 → ⊥) → is_digit c ≡ well_formed (run (c ∷ s)).value
  unfolding well_formed one_more
  formed_nonzero n = go (is_digit c) refl
    where
      go : (b : Bool) → is_digit c ≡ b → is_digit c ≡ well_formed (run (c ∷ s)).value
      go true e = rw (run_digit c s e, ne_eqb c 48 n) e
      go false e = rw (run_other c s e) e

  zero_first : c ≡ 48 → well_formed (run (c ∷ s)).value ≡ empty (run s).value
  unfolding well_formed one_more is_digit
  zero_first z = rw (run_digit c s (rw z), eq-eqb c 48 z)

  pub formed_zero : c ≡ 48 → s ≡ [] → true ≡ well_formed (run (c ∷ s)).value
  unfolding run empty
  formed_zero z e = rw (zero_first z, e)

  pub formed_more : (d : ℕ) (t : Bytes) → c ≡ 48 → s ≡ d ∷ t → not (is_digit d) ≡ well_formed (run (c ∷ s)).value
  unfolding empty one_more
  formed_more d t z k = rw (zero_first z, k) (go (is_digit d) refl)
    where
      go : (b : Bool) → is_digit d ≡ b → not (is_digit d) ≡ empty (run (d ∷ t)).value
      go true f = rw (f, run_digit d t f)
      go false f = rw (f, run_other d t f)

-- ---- a turn: v is the number of the digits before p

module _ (s : Bytes) (v p : ℕ) where
  pub turn_more : p < length s → is_digit (get_or s p 0) ≡ true → decimal_on v (run (drop p s)) ≡ decimal_on (10 * v + (get_or s p 0 - 48)) (run (drop (p + 1) s))
  turn_more h e = rw (from s p h) (decimal_more v (get_or s p 0) (drop (p + 1) s) e)

module _ (m : ℕ) (s : Bytes) (v p : ℕ) where
  pub turn_other : p < length s → is_digit (get_or s p 0) ≡ false → v ≤ m → taken v (drop p s) ≡ limited m (decimal_on v (run (drop p s)))
  turn_other h e l = rw (from s p h, decimal_done v (get_or s p 0) (drop (p + 1) s) e) (limited_in m v (get_or s p 0 ∷ drop (p + 1) s) l)

  pub turn_end : length s ≤ p → v ≤ m → taken v (drop p s) ≡ limited m (decimal_on v (run (drop p s)))
  turn_end h l = rw (past s p h, decimal_end v) (limited_in m v [] l)

-- ---- one digit

pub one_end : (s : Bytes) → s ≡ [] → none ≡ one_digit s
unfolding one_digit
one_end s e = rw e

module _ (s : Bytes) (c : ℕ) (t : Bytes) (k : s ≡ c ∷ t) where
  pub one_here : is_digit c ≡ true → taken (c - 48) t ≡ one_digit s
  unfolding one_digit
  one_here e = rw (k, e)

  pub one_other : is_digit c ≡ false → none ≡ one_digit s
  unfolding one_digit
  one_other e = rw (k, e)
