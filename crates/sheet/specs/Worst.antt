-- The worst of a list of values: it is there where a value is, it is one of them,
-- none is worse, and none before it is as bad.
use Rattle.std.specs.Prelude.{◌≡◌, ◌∷◌, ◌++◌}
use Rattle.laws.specs.Kit.{refl, sym, ◌∙◌, ap, subst, inl, inr, Bool, true, false, none, some, ℕ, suc, List, [], foldl, append-nil, append_assoc, Float}
use Rattle.laws.specs.Numbers.{clash}
use Rattle.definition.specs.Floats.{◌≺◌, ◌≼◌}
use Rattle.definition.specs.Metrics.{Metrics, absent, measured}
use Rattle.definition.specs.Account.{All}
use Rattle.definition.specs.Sheet.{Value, values, worse, worst}
use Rattle.laws.specs.Bools.{which, never, fails}
use Rattle.laws.specs.Lists.{no_some, all_append}
use Rattle.rounding.proofs.Keys.{lt_le, lt_not_le, le_lt_trans, lt_le_trans}

-- ---- lists

module _ {A : Type 0} (P : A → Type 0) where
  pub all_map : (Q : A → Type 0) → ((x : A) → P x → Q x) → (xs : List A) → All P xs → All Q xs
  all_map Q f [] h = tt
  all_map Q f (x ∷ xs) h = (f x h.0, all_map Q f xs h.1)

  -- of one in the middle
  pub all_mid : (xs : List A) (x : A) (ys : List A) → All P (xs ++ x ∷ ys) → P x
  all_mid [] x ys h = h.0
  all_mid (z ∷ xs) x ys h = all_mid xs x ys h.1

-- ---- which values there are

module _ (f : Float → Float → Float) where
  -- none where no quad has metrics
  pub no_values : (i : ℕ) (ms : List Metrics) → All (λ m. m ≡ absent) ms → values f i ms ≡ []
  unfolding values
  no_values i [] h = refl
  no_values i (m ∷ ms) h = rw h.0 (no_values (suc i) ms h.1)

  pub values_none : (i : ℕ) (ms : List Metrics) → values f i ms ≡ [] → All (λ m. m ≡ absent) ms
  unfolding values
  values_none i [] e = tt
  values_none i (absent ∷ ms) e = (refl, values_none (suc i) ms e)
  values_none i (measured sj k ∷ ms) e = clash cc

  -- what holds of each quad's metrics holds of the values
  pub all_values : (Q : Metrics → Type 0) (P : Float → Type 0) → ((sj k : Float) → Q (measured sj k) → P (f sj k))
      → (i : ℕ) (ms : List Metrics) → All Q ms → All (λ v. P v.1) (values f i ms)
  unfolding values
  all_values Q P g i [] h = tt
  all_values Q P g i (absent ∷ ms) h = all_values Q P g (suc i) ms h.1
  all_values Q P g i (measured sj k ∷ ms) h = (g sj k h.0, all_values Q P g (suc i) ms h.1)

-- ---- the worst of any order

module _ (than : Float → Float → Bool) where
  taken : (v w : Value) → than w.1 v.1 ≡ true → worse than (some v) w ≡ some w
  unfolding worse
  taken v w e = rw e

  left : (v w : Value) → than w.1 v.1 ≡ false → worse than (some v) w ≡ some v
  unfolding worse
  left v w e = rw e

  -- once there, it stays
  stays : (v : Value) (vs : List Value) → foldl (worse than) (some v) vs ≡ none → ⊥
  stays v [] e = no_some v (sym e)
  stays v (w ∷ ws) e = elim (which (than w.1 v.1)) [
    | inl t ↦ stays w ws (ap (λ o. foldl (worse than) o ws) (sym (taken v w t)) ∙ e)
    | inr t ↦ stays v ws (ap (λ o. foldl (worse than) o ws) (sym (left v w t)) ∙ e)
  ]

  -- none exactly where there is no value
  pub worst_none : (vs : List Value) → worst than vs ≡ none → vs ≡ []
  unfolding worst worse
  worst_none [] e = refl
  worst_none (v ∷ vs) e = absurd (stays v vs e)

  pub none_worst : worst than [] ≡ none
  unfolding worst
  none_worst = refl

-- the first of the worst: it stands among the values, those before it are better, and none is worse
pub record FirstWorst (than as_bad : Float → Float → Bool) (vs : List Value) (v : Value) : Type 0 where
  pub before : List Value
  pub after : List Value
  pub there : vs ≡ before ++ v ∷ after
  pub better : All (λ w. as_bad w.1 v.1 ≡ false) before
  pub none_worse : All (λ w. than w.1 v.1 ≡ false) vs

module _
    (than as_bad : Float → Float → Bool)
    (never_itself : (x : Float) → than x x ≡ false)
    (through : (x y z : Float) → as_bad x y ≡ true → than y z ≡ true → than x z ≡ true)
    (worse_bad : (x y : Float) → than x y ≡ true → as_bad x y ≡ true) where
  abbrev First : List Value → Value → Type 0
  First = FirstWorst than as_bad

  one : (v : Value) → First (v ∷ []) v
  one v = record { before = []; after = []; there = refl; better = tt; none_worse = (never_itself v.1, tt) }

  -- a value that is not worse
  kept : (vs : List Value) (v w : Value) → First vs v → than w.1 v.1 ≡ false → First (vs ++ w ∷ []) v
  kept vs v w f e =
      record {
        before = f.before;
        after = f.after ++ w ∷ [];
        there = ap (λ l. l ++ w ∷ []) f.there ∙ append_assoc f.before (v ∷ f.after) (w ∷ []);
        better = f.better;
        none_worse = all_append (λ u. than u.1 v.1 ≡ false) vs (w ∷ []) f.none_worse (e, tt);
      }

  -- one that is worse than the worst so far is worse than all so far
  replaced : (vs : List Value) (v w : Value) → First vs v → than w.1 v.1 ≡ true → First (vs ++ w ∷ []) w
  replaced vs v w f e =
      record {
        before = vs;
        after = [];
        there = refl;
        better = all_map (λ u. than u.1 v.1 ≡ false) (λ u. as_bad u.1 w.1 ≡ false)
            (λ u h. fails (as_bad u.1 w.1) (λ b. never (than u.1 v.1) (through u.1 w.1 v.1 b e) h)) vs f.none_worse;
        none_worse = all_append (λ u. than u.1 w.1 ≡ false) vs (w ∷ [])
            (all_map (λ u. than u.1 v.1 ≡ false) (λ u. than u.1 w.1 ≡ false)
            (λ u h. fails (than u.1 w.1) (λ b. never (than u.1 v.1) (through u.1 w.1 v.1 (worse_bad u.1 w.1 b) e) h)) vs f.none_worse)
            (never_itself w.1, tt);
      }

  onward : (vs ws : List Value) (u v : Value) → First vs u → foldl (worse than) (some u) ws ≡ some v → First (vs ++ ws) v
  onward vs [] u v f e = let g : u ≡ v = cc in subst (First (vs ++ [])) g (subst (λ l. First l u) (sym (append-nil vs)) f)
  onward vs (w ∷ ws) u v f e = subst (λ l. First l v) (append_assoc vs (w ∷ []) ws) (elim (which (than w.1 u.1)) [
    | inl t ↦ onward (vs ++ w ∷ []) ws w v (replaced vs u w f t) (ap (λ o. foldl (worse than) o ws) (sym (taken than u w t)) ∙ e)
    | inr t ↦ onward (vs ++ w ∷ []) ws u v (kept vs u w f t) (ap (λ o. foldl (worse than) o ws) (sym (left than u w t)) ∙ e)
  ])

  pub first_worst : (vs : List Value) (v : Value) → worst than vs ≡ some v → First vs v
  unfolding worst worse
  first_worst [] v e = no_some v e
  first_worst (w ∷ ws) v e = onward (w ∷ []) ws w v (one w) e

-- ---- the least and the largest

never_below : (x : Float) → (x ≺ x) ≡ false
never_below x = fails (x ≺ x) (λ t. never (x ≼ x) (lt_le x x t) (lt_not_le x x t))

-- of the least
pub least_first : (vs : List Value) (v : Value) → worst (λ x y. x ≺ y) vs ≡ some v → FirstWorst (λ x y. x ≺ y) (λ x y. x ≼ y) vs v
least_first = first_worst (λ x y. x ≺ y) (λ x y. x ≼ y) never_below le_lt_trans lt_le

-- of the largest
pub largest_first : (vs : List Value) (v : Value) → worst (λ x y. y ≺ x) vs ≡ some v → FirstWorst (λ x y. y ≺ x) (λ x y. y ≼ x) vs v
largest_first = first_worst (λ x y. y ≺ x) (λ x y. y ≼ x) never_below (λ x y z h k. lt_le_trans z y x k h) (λ x y h. lt_le y x h)
