-- The worst values stand in the rows that are written: a caller who knows the quad finds its value there.
use Rattle.std.specs.Prelude.{◌≡◌, ◌+◌, ◌*◌, ◌<◌, ◌∷◌, ◌++◌}
use Rattle.laws.specs.Kit.{refl, ◌∙◌, ap, some, ℕ, suc, arith, List, [], length, get_or, drop, Float}
use Rattle.std.proofs.Math.ListN.{get_or-append}
use Rattle.definition.specs.Lists.{flat_map}
use Rattle.definition.specs.Floats.{0·0}
use Rattle.definition.specs.Metrics.{Metrics, absent, measured}
use Rattle.definition.specs.Call.{onto}
use Rattle.definition.specs.Account.{All}
use Rattle.definition.specs.Sheet.{Value, values, worst_jacobian, worst_cosine, line}
use Rattle.sheet.specs.Worst.{all_map, all_mid}
use Rattle.sheet.specs.Theorems.{jacobian_first, cosine_first}

-- the value of quad i + k stands p behind the start of line k
pub record Stands (p i : ℕ) (ms : List Metrics) (v : Value) : Type 0 where
  pub row : ℕ
  pub quad : v.0 ≡ i + row
  pub within : row < length ms
  pub value : get_or (flat_map line ms) (2 * row + p) 0·0 ≡ v.1

module _ (f : Float → Float → Float) (p : ℕ) (here : (sj k : Float) (xs : List Float) → get_or (sj ∷ k ∷ xs) p 0·0 ≡ f sj k) where
  past : (a b : Float) (xs : List Float) (j : ℕ) → get_or (a ∷ b ∷ xs) (2 * suc j + p) 0·0 ≡ get_or xs (2 * j + p) 0·0
  past a b xs j = ap (λ n. get_or (a ∷ b ∷ xs) n 0·0) e
    where
      e : 2 * suc j + p ≡ suc (suc (2 * j + p))
      e = omega arith

  later : (i : ℕ) (m : Metrics) (ms : List Metrics) (v : Value) → Stands p (suc i) ms v → Stands p i (m ∷ ms) v
  unfolding flat_map line
  later i absent ms v s =
      record { row = suc s.row; quad = s.quad ∙ omega arith; within = omega (arith, s.within); value = past 0·0 0·0 (flat_map line ms) s.row ∙ s.value }
  later i (measured sj k) ms v s =
      record { row = suc s.row; quad = s.quad ∙ omega arith; within = omega (arith, s.within); value = past sj k (flat_map line ms) s.row ∙ s.value }

  now : (i : ℕ) (sj k : Float) (ms : List Metrics) → Stands p i (measured sj k ∷ ms) (i, f sj k)
  unfolding flat_map line
  now i sj k ms =
      let e : 2 * 0 + p ≡ p = omega arith in
      record { row = 0; quad = omega arith; within = omega arith; value = ap (λ n. get_or (sj ∷ k ∷ flat_map line ms) n 0·0) e ∙ here sj k (flat_map line ms) }

  stand : (i : ℕ) (ms : List Metrics) → All (Stands p i ms) (values f i ms)
  unfolding values
  stand i [] = tt
  stand i (absent ∷ ms) = all_map (Stands p (suc i) ms) (Stands p i (absent ∷ ms)) (later i absent ms) (values f (suc i) ms) (stand (suc i) ms)
  stand i (measured sj k ∷ ms) =
      (now i sj k ms, all_map (Stands p (suc i) ms) (Stands p i (measured sj k ∷ ms)) (later i (measured sj k) ms) (values f (suc i) ms) (stand (suc i) ms))

module _ (ms : List Metrics) (v : Value) where
  pub jacobian_stands : worst_jacobian ms ≡ some v → Stands 0 0 ms v
  jacobian_stands e =
      let w = jacobian_first ms v e in
      all_mid (Stands 0 0 ms) w.before v w.after (rw w.there at (stand (λ sj k. sj) 0 (λ sj k xs. refl) 0 ms))

  pub cosine_stands : worst_cosine ms ≡ some v → Stands 1 0 ms v
  cosine_stands e =
      let w = cosine_first ms v e in
      all_mid (Stands 1 0 ms) w.before v w.after (rw w.there at (stand (λ sj k. k) 1 (λ sj k xs. refl) 0 ms))

-- two numbers a quad
pub lines_length : (ms : List Metrics) → length (flat_map line ms) ≡ 2 * length ms
unfolding flat_map line
lines_length [] = refl
lines_length (absent ∷ ms) = omega (arith, lines_length ms)
lines_length (measured sj k ∷ ms) = omega (arith, lines_length ms)

-- where the lines are at the front of a slice
pub stands_at : (p : ℕ) (ms : List Metrics) (v : Value) (old : List Float) → p < 2 → Stands p 0 ms v
    → (v.0 < length ms) × (get_or (onto (flat_map line ms) old) (2 * v.0 + p) 0·0 ≡ v.1)
unfolding onto
stands_at p ms v old l s =
    let xs = flat_map line ms in
    let rest = drop (length xs) old in
    let h : 2 * s.row + p < length xs = omega (arith, lines_length ms, s.within) in
    let e : 2 * v.0 + p ≡ 2 * s.row + p = omega (arith, s.quad) in
    (omega (arith, s.quad, s.within), ap (λ n. get_or (xs ++ rest) n 0·0) e ∙ get_or-append xs rest 0·0 (2 * s.row + p) h ∙ s.value)
