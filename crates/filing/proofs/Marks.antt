-- Orders that decide by themselves, and rows compared entry by entry.
use Rattle.std.specs.Ordering.{ordering_then, is_eq, is_lt}
use Rattle.std.specs.Prelude.{◌≡◌, ◌≢◌, ◌+◌, ◌-◌, ◌*◌, ◌<◌, ◌≤◌}
use Rattle.laws.specs.Kit.{refl, sym, ◌∙◌, ap, inl, inr, Bool, true, false, not, cond, ℕ, arith, ltb, List, length, get_or, Float, nan}
use Rattle.definition.specs.Floats.{0·0}
use Rattle.definition.specs.Call.{point_at}
use Rattle.laws.specs.Bools.{which}
use Rattle.laws.specs.Lists.{get_d_any}
use Rattle.std.specs.declared.cmp.Ordering.{Ordering}
use Rattle.std.specs.declared.cmp.Ordering.TheVariants.{Less, Equal, Greater}
use Rattle.sorting.specs.Rows.{row, row_next, row_none}
use Rattle.filing.specs.Totals.{less, equal, more}
use Rattle.filing.proofs.Totals.{stand}
use Rattle.filing.specs.Filing.{earlier, order_numbers, order_floats, order_points, order_lists}

-- an order that is not the same decides
pub decides : (o p : Ordering) → is_eq o ≡ false → o ≡ ordering_then o p
decides Less p h = refl
decides Equal p h = absurd (let z : ◌≡◌ {A = ℕ} 0 1 = cc in omega arith)
decides Greater p h = refl

pub passes_on : (o p : Ordering) → is_eq o ≡ true → p ≡ ordering_then o p
passes_on Less p h = absurd (let z : ◌≡◌ {A = ℕ} 0 1 = cc in omega arith)
passes_on Equal p h = refl
passes_on Greater p h = absurd (let z : ◌≡◌ {A = ℕ} 0 1 = cc in omega arith)

-- a number before another is the lesser one
pub earlier_is : (a b : ℕ) → ltb a b ≡ earlier order_numbers a b
unfolding order_numbers
earlier_is a b = elim (which (ltb a b)) [ inl e ↦ rw e | inr e ↦ rw e (later (ltb b a)) ]
  where
    later : (t : Bool) → false ≡ is_lt (cond t Greater Equal)
    later true = refl
    later false = refl

-- what is not before is the same where it is not after
pub later_same : (t : Bool) → not t ≡ is_eq (cond t Greater Equal)
later_same true = refl
later_same false = refl

-- numbers that differ are not the same
pub differ : (a b : ℕ) → a ≢ b → is_eq (order_numbers a b) ≡ false
differ a b d = elim (stand a b) [
  | less l e ↦ ap is_eq e
  | equal l e ↦ absurd (d l)
  | more l e ↦ ap is_eq e
]

-- the order of two points whose x and y are read from slices
pub read_points : (a b : List Float) (i : ℕ) → 3 * i + 1 < length a → 3 * i + 1 < length b
    → order_points (point_at a i) (point_at b i) ≡ ordering_then (order_floats (get_or a (3 * i) nan) (get_or b (3 * i) nan)) (order_floats (get_or a (3 * i + 1) nan) (get_or b (3 * i + 1) nan))
unfolding order_points point_at
read_points a b i h k = rw (get_d_any a (3 * i) nan 0·0 (omega arith), get_d_any b (3 * i) nan 0·0 (omega arith), get_d_any a (3 * i + 1) nan 0·0 h, get_d_any b (3 * i + 1) nan 0·0 k)

-- ---- two rows

module _ {A : Type 0} (o : A → A → Ordering) (f g : ℕ → A) (n : ℕ) where
  abbrev pub whole : Ordering
  whole = order_lists o (row f 0 n) (row g 0 n)

  -- what follows from place i on
  abbrev pub rest : ℕ → Ordering
  rest i = order_lists o (row f i (n - i)) (row g i (n - i))

  pub rows_start : whole ≡ rest 0
  rows_start = let e : n ≡ n - 0 = omega arith in ap (λ m. order_lists o (row f 0 m) (row g 0 m)) e

  -- where the places passed are the same, the next one decides unless it is the same too
  module _ (i : ℕ) (l : i < n) (h : whole ≡ rest i) where
    next : rest i ≡ ordering_then (o (f i) (g i)) (rest (i + 1))
    unfolding order_lists
    next = rw (row_next f i n l, row_next g i n l)

    pub rows_decide : is_eq (o (f i) (g i)) ≡ false → o (f i) (g i) ≡ whole
    rows_decide d = decides (o (f i) (g i)) (rest (i + 1)) d ∙ sym next ∙ sym h

    pub rows_go_on : is_eq (o (f i) (g i)) ≡ true → whole ≡ rest (i + 1)
    rows_go_on d = h ∙ next ∙ sym (passes_on (o (f i) (g i)) (rest (i + 1)) d)

  pub rows_end : (i : ℕ) → n ≤ i → whole ≡ rest i → Equal ≡ whole
  unfolding order_lists
  rows_end i l h = sym (h ∙ rw (row_none f i n l, row_none g i n l))
