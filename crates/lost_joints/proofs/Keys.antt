-- Numbers that ascend: whether one of them is that of an edge.
use mathlib.Core.Path.{◌≡◌, sym, ap₂, ◌∙◌, subst}
use mathlib.Core.Logic.{inl, inr}
use mathlib.Core.Bool.{true, false}
use Prim.Native.Nat.{ℕ, ◌+◌, ◌*◌, ◌/◌, ◌≤◌, ◌<◌, min, max}
use native.Mathlib.Decide.{dec_lt}
use native.Mathlib.Omega.{arith}
use lib.Dec.{ltb, eqb}
use borrow.Author.Tests.{lt-ltb, le-ltb, eq-eqb, ne_eqb}
use Rattle.definition.specs.Lists.{any, below}
use Rattle.laws.specs.Bools.{which, never}
use Rattle.laws.specs.Tables.{none_below, below_none}
use Rattle.sorting.specs.Rows.{row}
use Rattle.balance.specs.Codes.{edge}
use Rattle.lost_joints.specs.Filed.{has_key, Sought}

-- no number is the edge's
absent : (f : ℕ → ℕ) (n k : ℕ) → ((j : ℕ) → j < n → f j / 2 ≡ k → ⊥) → has_key f n k ≡ false
unfolding has_key below
absent f n k h = none_below (λ x. eqb (x / 2) k) f n (λ j l. ne_eqb (f j / 2) k (h j l))

-- one is
present : (f : ℕ → ℕ) (n k j : ℕ) → j < n → f j / 2 ≡ k → has_key f n k ≡ true
unfolding has_key below
present f n k j l e = elim (which (any (λ x. eqb (x / 2) k) (row f 0 n))) [
  | inl y ↦ y
  | inr y ↦ never (eqb (f j / 2) k) (eq-eqb (f j / 2) k e) (below_none (λ x. eqb (x / 2) k) f n y j l)
]

module _ (f : ℕ → ℕ) (n k r : ℕ) (ascends : (i j : ℕ) → i ≤ j → j < n → f i ≤ f j) (s : Sought f n (2 * k) r) where
  -- the number sought tells
  pub tells : r < n → ltb (f r) (2 * k + 2) ≡ has_key f n k
  tells l = elim (dec_lt (f r) (2 * k + 2)) [
    | yes h ↦ lt-ltb (f r) (2 * k + 2) h ∙ sym (present f n k r l (omega (arith, s.from r (omega arith) l)))
    | no h ↦ le-ltb (f r) (2 * k + 2) (omega arith) ∙ sym (absent f n k (λ j m e. elim (dec_lt j r) [
      | yes q ↦ omega (arith, s.before j q)
      | no q ↦ omega (arith, ascends r j (omega arith) m)
    ]))
  ]

  -- where the number sought is past the end, there is none
  pub misses : n ≤ r → has_key f n k ≡ false
  misses l = absent f n k (λ j m e. omega (arith, s.before j (omega arith)))

-- ---- as the code has the numbers

pub keyed : (u v a b x y x' y' : ℕ) → u ≡ min x y → v ≡ max x' y' → x ≡ a → y ≡ b → x' ≡ a → y' ≡ b → 2 * (u * 1048576 + v) ≡ 2 * edge (min a b) (max a b)
keyed u v a b x y x' y' e f ea eb fa fb = omega arith

module _ (f : ℕ → ℕ) (n e k r : ℕ) (is : k ≡ 2 * e) (s : Sought f n k r) where
  there : Sought f n (2 * e) r
  there = subst (λ z. Sought f n z r) is s

  pub found : (z : ℕ) → ((i j : ℕ) → i ≤ j → j < n → f i ≤ f j) → z ≡ f r → r < n → ltb z (k + 2) ≡ has_key f n e
  found z ascends q l = ap₂ (λ x y. ltb x (y + 2)) q is ∙ tells f n e r ascends there l

  pub lacking : ((i j : ℕ) → i ≤ j → j < n → f i ≤ f j) → n ≤ r → false ≡ has_key f n e
  lacking ascends l = sym (misses f n e r ascends there l)
