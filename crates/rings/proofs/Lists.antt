-- Lists of numbers: out, distinct, below, without; how long a list of distinct numbers below n can be.
use Rattle.std.specs.Prelude.{◌≡◌, ◌+◌, ◌≤◌, ◌∷◌, ◌++◌}
use Rattle.laws.specs.Kit.{refl, sym, ◌∙◌, ap, subst, Bool, true, false, cond, ℕ, zero, suc, arith, eqb, eq-eqb, ne_eqb, eqb-true, eqb-false, List, [], length}
use Rattle.rings.specs.Rings.{Out, Distinct, Below, without}

pub out_append : (c : ℕ) (l k : List ℕ) → Out c l → Out c k → Out c (l ++ k)
out_append c [] k h g = g
out_append c (x ∷ l) k h g = (h.0, out_append c l k h.1 g)

pub below_append : (n : ℕ) (l k : List ℕ) → Below n l → Below n k → Below n (l ++ k)
below_append n [] k h g = g
below_append n (x ∷ l) k h g = (h.0, below_append n l k h.1 g)

pub distinct_snoc : (l : List ℕ) (c : ℕ) → Distinct l → Out c l → Distinct (l ++ c ∷ [])
distinct_snoc [] c d h = (tt, tt)
distinct_snoc (x ∷ l) c d h = (out_append x l (c ∷ []) d.0 ((λ e. h.0 (sym e)), tt), distinct_snoc l c d.1 h.1)

-- without, by cases
pub without_hit : (c x : ℕ) (l : List ℕ) → x ≡ c → without c (x ∷ l) ≡ without c l
unfolding without
without_hit c x l e = rw (eq-eqb x c e)

pub without_miss : (c x : ℕ) (l : List ℕ) → (x ≡ c → ⊥) → without c (x ∷ l) ≡ x ∷ without c l
unfolding without
without_miss c x l e = rw (ne_eqb x c e)

pub data Same (x c : ℕ) : Type 0 where
  same : x ≡ c → Same x c
  differ : (x ≡ c → ⊥) → Same x c

pub decide : (x c : ℕ) → Same x c
decide x c = go (eqb x c) refl
  where
    go : (b : Bool) → eqb x c ≡ b → Same x c
    go true e = same (eqb-true x c e)
    go false e = differ (eqb-false x c e)

pub without_out : (c : ℕ) (l : List ℕ) → Out c l → without c l ≡ l
unfolding without
without_out c [] h = refl
without_out c (x ∷ l) h = without_miss c x l h.0 ∙ ap (λ (k : List ℕ). x ∷ k) (without_out c l h.1)

pub without_append : (c : ℕ) (l k : List ℕ) → without c (l ++ k) ≡ without c l ++ without c k
unfolding without
without_append c [] k = refl
without_append c (x ∷ l) k = go (eqb x c) (without_append c l k)
  where
    go : (b : Bool) → without c (l ++ k) ≡ without c l ++ without c k → cond b (without c (l ++ k)) (x ∷ without c (l ++ k)) ≡ cond b (without c l) (x ∷ without c l) ++ without c k
    go true h = h
    go false h = ap (λ (m : List ℕ). x ∷ m) h

-- what holds of every element holds of those that are left
pub out_without : (c d : ℕ) (l : List ℕ) → Out d l → Out d (without c l)
unfolding without
out_without c d [] h = tt
out_without c d (x ∷ l) h = go (eqb x c) (out_without c d l h.1)
  where
    go : (b : Bool) → Out d (without c l) → Out d (cond b (without c l) (x ∷ without c l))
    go true g = g
    go false g = (h.0, g)

pub below_without : (c n : ℕ) (l : List ℕ) → Below n l → Below n (without c l)
unfolding without
below_without c n [] h = tt
below_without c n (x ∷ l) h = go (eqb x c) (below_without c n l h.1)
  where
    go : (b : Bool) → Below n (without c l) → Below n (cond b (without c l) (x ∷ without c l))
    go true g = g
    go false g = (h.0, g)

pub distinct_without : (c : ℕ) (l : List ℕ) → Distinct l → Distinct (without c l)
unfolding without
distinct_without c [] h = tt
distinct_without c (x ∷ l) h = go (eqb x c) (distinct_without c l h.1)
  where
    go : (b : Bool) → Distinct (without c l) → Distinct (cond b (without c l) (x ∷ without c l))
    go true g = g
    go false g = (out_without c x l h.0, g)

-- a list of distinct numbers loses at most one
pub without_length : (c : ℕ) (l : List ℕ) → Distinct l → length l ≤ length (without c l) + 1
unfolding without
without_length c [] h = omega arith
without_length c (x ∷ l) h = go (decide x c) (without_length c l h.1)
  where
    go : Same x c → length l ≤ length (without c l) + 1 → suc (length l) ≤ length (without c (x ∷ l)) + 1
    go (same e) r = rw (without_hit c x l e, without_out c l (subst (λ (y : ℕ). Out y l) e h.0)) (omega arith)
    go (differ e) r = rw (without_miss c x l e) (omega arith)

pub below_less : (n : ℕ) (l : List ℕ) → Below (suc n) l → Below n (without n l)
unfolding without
below_less n [] h = tt
below_less n (x ∷ l) h = go (decide x n) (below_less n l h.1)
  where
    go : Same x n → Below n (without n l) → Below n (without n (x ∷ l))
    go (same e) g = rw (without_hit n x l e) g
    go (differ e) g = rw (without_miss n x l e) ((omega (arith, h.0), g))

-- distinct numbers below n are at most n
pub room : (n : ℕ) (l : List ℕ) → Distinct l → Below n l → length l ≤ n
room zero [] d b = omega arith
room zero (x ∷ l) d b = omega (arith, b.0)
room (suc n) l d b = omega (arith, without_length n l d, room n (without n l) (distinct_without n l d) (below_less n l b))

pub out_self : (c : ℕ) (l : List ℕ) → Out c (without c l)
unfolding without
out_self c [] = tt
out_self c (x ∷ l) = go (decide x c) (out_self c l)
  where
    go : Same x c → Out c (without c l) → Out c (without c (x ∷ l))
    go (same e) r = rw (without_hit c x l e) r
    go (differ e) r = rw (without_miss c x l e) ((e, r))
