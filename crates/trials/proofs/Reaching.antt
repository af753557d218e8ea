-- The trials that reach a floor: what insertion, the first n and appending leave of them;
-- and that the best are among them.
use mathlib.Core.Path.{◌≡◌, refl, ap, sym, subst, ◌∙◌}
use mathlib.Core.Bool.{Bool, true, false, not}
use mathlib.Core.Logic.{inl, inr}
use mathlib.Core.List.{List, [], ◌∷◌, ◌++◌}
use Prim.Native.Nat.{ℕ, zero, suc, ◌-◌, ◌≤◌, ◌<◌}
use native.Mathlib.Nat.{le_of_suc-le-suc, not-suc-le-zero}
use native.Mathlib.Omega.{arith}
use borrow.Author.Tests.{not-true}
use lib.ListN.{length, take, drop, get_or, length-append}
use lib.Seq.{drop-length, length-take-le, take_all, take-nil}
use lib.Ieee.{Float, nan, inf, fin, lt}
use Rattle.definition.specs.Account.{All}
use Rattle.definition.specs.Floats.{◌≺◌, ◌≼◌}
use Rattle.definition.specs.Lists.{filter, insert, flat_map, table, numbers, below}
use Rattle.definition.specs.Trials.{Trial, trial_before}
use Rattle.laws.specs.Bools.{fails, never, to_T, which}
use Rattle.laws.specs.Sorts.{insert_no, insert_yes}
use Rattle.rounding.proofs.Keys.{le_not_lt, lt_le, lt_le_trans, le_lt_trans, lt_not_le}
use Rattle.rounding.proofs.Order.{real_right}
use Rattle.trials.specs.Kept.{Falling, Keeps, NoBetter, Number, Outdone, length_listed, listed, listed_at, onto, row}
use Rattle.trials.specs.Floors.{Fair, KeepsAbove, reaches, reaching}
use Rattle.trials.proofs.Falling.{all_get, all_numbers, dropped, falling_onto, falling_take, not_below}
use Rattle.trials.proofs.Insertion.{insert_take, one_more}
use Rattle.trials.proofs.Rounds.{cons_map}

module _ (z : Float) where
  -- ---- one trial

  reaches_not : (x : Trial) → (x.score ≺ z) ≡ true → reaches z x ≡ false
  unfolding reaches
  reaches_not x h = rw h

  below_of : (x : Trial) → reaches z x ≡ false → (x.score ≺ z) ≡ true
  unfolding reaches
  below_of x h = elim (which (x.score ≺ z)) [ inl e ↦ e | inr e ↦ never (not (x.score ≺ z)) (rw e) h ]

  above_of : (x : Trial) → reaches z x ≡ true → (x.score ≺ z) ≡ false
  unfolding reaches
  above_of x h = not-true _ h

  -- one that reaches the floor does not come behind one that does not
  in_order : (x y : Trial) → Number x → Number y → reaches z x ≡ true → reaches z y ≡ false → trial_before y x ≡ false
  unfolding trial_before ◌≼◌
  in_order x y nx ny h k =
      let u = below_of y k in
      let v = not_below x.score z nx (real_right y.score z (to_T (lt_le y.score z u))) (above_of x h) in
      let w = lt_le_trans y.score z x.score u v in
      rw (le_not_lt y.score x.score (lt_le y.score x.score w), w)

  -- ---- lists

  with_it : (x : Trial) (l : List Trial) → reaches z x ≡ true → reaching z (x ∷ l) ≡ x ∷ reaching z l
  unfolding reaching filter
  with_it x l h = rw h

  without_it : (x : Trial) (l : List Trial) → reaches z x ≡ false → reaching z (x ∷ l) ≡ reaching z l
  unfolding reaching filter
  without_it x l h = rw h

  -- behind one that does not reach it none does
  none_after : (x : Trial) (l : List Trial) → reaches z x ≡ false → All (NoBetter x) l → reaching z l ≡ []
  unfolding reaching filter
  none_after x [] h k = refl
  none_after x (y ∷ l) h k = without_it y l (reaches_not y (le_lt_trans y.score x.score z k.0 (below_of x h))) ∙ none_after x l h k.1

  pub reaching_append : (xs ys : List Trial) → reaching z (xs ++ ys) ≡ reaching z xs ++ reaching z ys
  unfolding reaching filter
  reaching_append [] ys = refl
  reaching_append (x ∷ xs) ys = elim (which (reaches z x)) [
    | inl e ↦ with_it x (xs ++ ys) e ∙ ap (λ (t : List Trial). x ∷ t) (reaching_append xs ys) ∙ ap (λ (t : List Trial). t ++ reaching z ys) (sym (with_it x xs e))
    | inr e ↦ without_it x (xs ++ ys) e ∙ reaching_append xs ys ∙ ap (λ (t : List Trial). t ++ reaching z ys) (sym (without_it x xs e))
  ]

  fewer : (l : List Trial) → length (reaching z l) ≤ length l
  unfolding reaching filter
  fewer [] = omega arith
  fewer (x ∷ l) = elim (which (reaches z x)) [
    | inl e ↦ rw (with_it x l e) (omega (arith, fewer l))
    | inr e ↦ rw (without_it x l e) (omega (arith, fewer l))
  ]

  -- where they are as many, all reach it
  as_many : (l : List Trial) → length l ≤ length (reaching z l) → reaching z l ≡ l
  unfolding reaching filter
  as_many [] h = refl
  as_many (x ∷ l) h = elim (which (reaches z x)) [
    | inl e ↦ with_it x l e ∙ ap (λ (t : List Trial). x ∷ t) (as_many l (le_of_suc-le-suc (subst (λ (t : List Trial). suc (length l) ≤ length t) (with_it x l e) h)))
    | inr e ↦ absurd (let k : suc (length l) ≤ length (reaching z l) = subst (λ (t : List Trial). suc (length l) ≤ length t) (without_it x l e) h in omega (arith, k, fewer l))
  ]

  -- all that do
  all_reach : (l : List Trial) → All (λ x. reaches z x ≡ true) l → reaching z l ≡ l
  unfolding reaching filter
  all_reach [] h = refl
  all_reach (x ∷ l) h = with_it x l h.0 ∙ ap (λ (t : List Trial). x ∷ t) (all_reach l h.1)

  pub none_reach : (l : List Trial) → All (λ x. (x.score ≺ z) ≡ true) l → reaching z l ≡ []
  unfolding reaching filter
  none_reach [] h = refl
  none_reach (x ∷ l) h = without_it x l (reaches_not x h.0) ∙ none_reach l h.1

  -- ---- insertion

  insert_out : (x : Trial) (l : List Trial) → reaches z x ≡ false → reaching z (insert trial_before x l) ≡ reaching z l
  unfolding insert reaching filter
  insert_out x [] h = without_it x [] h
  insert_out x (y ∷ l) h = go (trial_before y x) refl (insert_out x l h)
    where
      go : (b : Bool) → trial_before y x ≡ b → reaching z (insert trial_before x l) ≡ reaching z l → reaching z (insert trial_before x (y ∷ l)) ≡ reaching z (y ∷ l)
      go true e r =
          ap (reaching z) (insert_yes trial_before x y l e) ∙ elim (which (reaches z y)) [
            | inl k ↦ with_it y (insert trial_before x l) k ∙ ap (λ (t : List Trial). y ∷ t) r ∙ sym (with_it y l k)
            | inr k ↦ without_it y (insert trial_before x l) k ∙ r ∙ sym (without_it y l k)
          ]
      go false e r = ap (reaching z) (insert_no trial_before x y l e) ∙ without_it x (y ∷ l) h

  insert_in : (x : Trial) (l : List Trial) → reaches z x ≡ true → Number x → Falling l → reaching z (insert trial_before x l) ≡ insert trial_before x (reaching z l)
  unfolding insert reaching filter
  insert_in x [] h n f = with_it x [] h
  insert_in x (y ∷ l) h n f = go (trial_before y x) refl (insert_in x l h n f.2)
    where
      go : (b : Bool) → trial_before y x ≡ b → reaching z (insert trial_before x l) ≡ insert trial_before x (reaching z l)
          → reaching z (insert trial_before x (y ∷ l)) ≡ insert trial_before x (reaching z (y ∷ l))
      go true e r =
          ap (reaching z) (insert_yes trial_before x y l e) ∙ elim (which (reaches z y)) [
            | inl k ↦ with_it y (insert trial_before x l) k ∙ ap (λ (t : List Trial). y ∷ t) r ∙ sym (insert_yes trial_before x y (reaching z l) e) ∙ ap (insert trial_before x) (sym (with_it y l k))
            | inr k ↦ never (trial_before y x) e (in_order x y n f.0 h k)
          ]
      go false e r =
          ap (reaching z) (insert_no trial_before x y l e) ∙ with_it x (y ∷ l) h ∙ elim (which (reaches z y)) [
            | inl k ↦ ap (λ (t : List Trial). x ∷ t) (with_it y l k) ∙ sym (insert_no trial_before x y (reaching z l) e) ∙ ap (insert trial_before x) (sym (with_it y l k))
            | inr k ↦ let w : reaching z (y ∷ l) ≡ [] = without_it y l k ∙ none_after y l k f.1 in ap (λ (t : List Trial). x ∷ t) w ∙ sym (ap (insert trial_before x) w)
          ]

  pub reaching_onto : (xs l : List Trial) → All Number xs → Falling l → reaching z (onto trial_before xs l) ≡ onto trial_before (reaching z xs) (reaching z l)
  unfolding onto reaching filter
  reaching_onto [] l n f = refl
  reaching_onto (x ∷ xs) l n f = elim (which (reaches z x)) [
    | inl e ↦
        insert_in x (onto trial_before xs l) e n.0 (falling_onto xs l n.1 f)
        ∙ ap (insert trial_before x) (reaching_onto xs l n.1 f)
        ∙ ap (λ (t : List Trial). onto trial_before t (reaching z l)) (sym (with_it x xs e))
    | inr e ↦
        insert_out x (onto trial_before xs l) e
        ∙ reaching_onto xs l n.1 f
        ∙ ap (λ (t : List Trial). onto trial_before t (reaching z l)) (sym (without_it x xs e))
  ]

  -- ---- the first n

  pub reaching_take : (n : ℕ) (l : List Trial) → Falling l → reaching z (take n l) ≡ take n (reaching z l)
  unfolding reaching filter
  reaching_take zero l f = refl
  reaching_take (suc n) [] f = refl
  reaching_take (suc n) (x ∷ l) f = elim (which (reaches z x)) [
    | inl e ↦ with_it x (take n l) e ∙ ap (λ (t : List Trial). x ∷ t) (reaching_take n l f.2) ∙ ap (take (suc n)) (sym (with_it x l e))
    | inr e ↦
        without_it x (take n l) e
        ∙ reaching_take n l f.2
        ∙ ap (take n) (none_after x l e f.1)
        ∙ take-nil n
        ∙ ap (take (suc n)) (sym (without_it x l e ∙ none_after x l e f.1))
  ]

  first_reach : (n : ℕ) (l : List Trial) → Falling l → n ≤ length (reaching z l) → take n (reaching z l) ≡ take n l
  unfolding reaching filter
  first_reach zero l f h = refl
  first_reach (suc n) [] f h = refl
  first_reach (suc n) (x ∷ l) f h = elim (which (reaches z x)) [
    | inl e ↦
        ap (take (suc n)) (with_it x l e)
        ∙ ap (λ (t : List Trial). x ∷ t) (first_reach n l f.2 (le_of_suc-le-suc (subst (λ (t : List Trial). suc n ≤ length t) (with_it x l e) h)))
    | inr e ↦ absurd (not-suc-le-zero (subst (λ (t : List Trial). suc n ≤ length t) (without_it x l e ∙ none_after x l e f.1) h))
  ]
  -- ---- how many

length_insert : (x : Trial) (l : List Trial) → length (insert trial_before x l) ≡ suc (length l)
unfolding insert
length_insert x [] = refl
length_insert x (y ∷ l) = elim (which (trial_before y x)) [
  | inl e ↦ ap length (insert_yes trial_before x y l e) ∙ ap suc (length_insert x l)
  | inr e ↦ ap length (insert_no trial_before x y l e)
]

length_take_most : (n : ℕ) (l : List Trial) → length (take n l) ≤ length l
length_take_most zero l = omega arith
length_take_most (suc n) [] = omega arith
length_take_most (suc n) (x ∷ l) = omega (arith, length_take_most n l)

length_onto : (xs : List Trial) → length (onto trial_before xs []) ≡ length xs
unfolding onto
length_onto [] = refl
length_onto (x ∷ xs) = length_insert x (onto trial_before xs []) ∙ ap suc (length_onto xs)

module _ (z : Float) where
  -- a list of those that are appended reaches it no more often than all
  pub part_reaches : (f : ℕ → List Trial) (xs : List ℕ) (i : ℕ) → i < length xs → length (reaching z (f (get_or xs i 0))) ≤ length (reaching z (flat_map f xs))
  unfolding flat_map
  part_reaches f [] i h = absurd (not-suc-le-zero h)
  part_reaches f (x ∷ xs) zero h = rw (reaching_append z (f x) (flat_map f xs), length-append (reaching z (f x)) (reaching z (flat_map f xs))) (omega arith)
  part_reaches f (x ∷ xs) (suc i) h =
      let k = part_reaches f xs i (le_of_suc-le-suc h) in
      rw (reaching_append z (f x) (flat_map f xs), length-append (reaching z (f x)) (reaching z (flat_map f xs))) (omega (arith, k))

  -- the best of all are the best of those that reach a fair floor
  pub best_reach : (pairs k : ℕ) (l xs : List Trial) → All Number xs → length l ≡ k → k ≤ pairs → Fair z pairs xs
      → reaching z l ≡ take pairs (onto trial_before (reaching z xs) []) → l ≡ take pairs (onto trial_before xs [])
  unfolding reaching filter
  best_reach pairs k l xs n e h (inl f) g = sym (f l) ∙ g ∙ ap (λ (t : List Trial). take pairs (onto trial_before t [])) (f xs)
  best_reach pairs k l xs n e h (inr f) g =
      let r = onto trial_before (reaching z xs) [] in
      let many : pairs ≤ length r = rw (length_onto (reaching z xs)) f in
      let full : length (reaching z l) ≡ pairs = ap length g ∙ length-take-le pairs r many in
      let here : reaching z l ≡ l = as_many z l (omega (arith, full, e, h)) in
      let there : reaching z (onto trial_before xs []) ≡ r = reaching_onto z xs [] n tt in
      sym here ∙ g ∙ ap (take pairs) (sym there) ∙ first_reach z pairs (onto trial_before xs []) (falling_onto xs [] n tt) (rw there many)

-- ---- floors

-- nothing is below minus infinity
pub all_above : (x : Float) → (x ≺ inf true) ≡ false
unfolding ◌≺◌ lt
all_above nan = refl
all_above (inf true) = refl
all_above (inf false) = refl
all_above (fin s m e) = refl

all_kept : (l : List Trial) → reaching (inf true) l ≡ l
unfolding reaching filter reaches
all_kept [] = refl
all_kept (x ∷ l) = rw (all_above x.score) (ap (λ (t : List Trial). x ∷ t) (all_kept l))

pub fair_none : (pairs : ℕ) (xs : List Trial) → Fair (inf true) pairs xs
fair_none pairs xs = inl all_kept

not_itself : (x : Float) → (x ≺ x) ≡ false
not_itself x = fails (x ≺ x) (λ e. never (x ≼ x) (lt_le x x e) (lt_not_le x x e))

-- each reaches the last one's score
reach_last : (l : List Trial) (i : ℕ) (d : Trial) → length l ≡ suc i → Falling l → All (λ x. reaches (get_or l i d).score x ≡ true) l
unfolding reaches
reach_last [] i d e f = tt
reach_last (x ∷ []) zero d e f = (rw (not_itself x.score), tt)
reach_last (x ∷ y ∷ l) zero d e f = absurd (omega arith)
reach_last (x ∷ l) (suc i) d e f =
    let u : i < length l = omega arith in
    (rw (le_not_lt _ x.score (all_get (NoBetter x) l i d u f.1)), reach_last l i d (omega arith) f.2)

-- the last of so many as are wanted is a fair floor for every list that has theirs among its own
pub fair_last : (s : List Float) (v : List ℕ) (pairs k i : ℕ) (f : ℕ → List Trial) (xs : List ℕ) → i < length xs → ((n : ℕ) → All Number (f n)) → k ≡ pairs → 0 < k
    → Keeps s v pairs k (take pairs (onto trial_before (f (get_or xs i 0)) [])) → Fair (get_or s (k - 1) nan) pairs (flat_map f xs)
unfolding row reaching filter
fair_last s v pairs k i f xs u n e p h =
    let l = listed s v k in
    let z = get_or s (k - 1) nan in
    let d = row s v 0 in
    let xs' = f (get_or xs i 0) in
    let falls = falling_onto xs' [] (n (get_or xs i 0)) tt in
    let falls_l : Falling l = rw h.list (falling_take pairs (onto trial_before xs' []) falls) in
    let size : length l ≡ suc (k - 1) = omega (arith, length_listed s v k, p) in
    let last : (get_or l (k - 1) d).score ≡ z = ap (λ (t : Trial). t.score) (listed_at s v k (k - 1) d (omega (arith, p))) in
    let each : reaching z l ≡ l = all_reach z l (subst (λ (w : Float). All (λ x. reaches w x ≡ true) l) last (reach_last l (k - 1) d size falls_l)) in
    let taken : reaching z l ≡ take pairs (onto trial_before (reaching z xs') []) =
    ap (reaching z) h.list ∙ reaching_take z pairs (onto trial_before xs' []) falls ∙ ap (take pairs) (reaching_onto z xs' [] (n (get_or xs i 0)) tt) in
    let few : length (take pairs (onto trial_before (reaching z xs') [])) ≤ length (onto trial_before (reaching z xs') []) = length_take_most pairs (onto trial_before (reaching z xs') []) in
    let many : pairs ≤ length (reaching z xs') = omega (arith, ap length taken, ap length each, length_listed s v k, few, length_onto (reaching z xs'), e) in
    inr (let g = part_reaches z f xs i u in omega (arith, g, many))

-- ---- what is kept

pub listed_none : (s : List Float) (v : List ℕ) → listed s v 0 ≡ []
unfolding listed below numbers table
listed_none s v = refl

pub fair_kept : (s : List Float) (v : List ℕ) (pairs k i : ℕ) (f : ℕ → List Trial) (xs : List ℕ) (c : ℕ) (s₀ : List Float) (v₀ : List ℕ) → i < length xs → ((n : ℕ) → All Number (f n)) → k ≡ pairs → 0 < k
    → get_or xs i 0 ≡ c → Keeps s v pairs k (take pairs (onto trial_before (f c) (listed s₀ v₀ 0))) → Fair (get_or s (k - 1) nan) pairs (flat_map f xs)
fair_kept s v pairs k i f xs c s₀ v₀ u n e p g r =
    fair_last s v pairs k i f xs u n e p
    (subst (λ (t : ℕ). Keeps s v pairs k (take pairs (onto trial_before (f t) []))) (sym g) (subst (λ (t : List Trial). Keeps s v pairs k (take pairs (onto trial_before (f c) t))) (listed_none s₀ v₀) r))

pub falling_none : (s : List Float) (v : List ℕ) → Falling (listed s v 0)
falling_none s v = rw (listed_none s v) tt

module _ (z : Float) (s : List Float) (v : List ℕ) (pairs k : ℕ) (falls : Falling (listed s v k)) where
  -- without a trial that reaches the floor all stay
  pub kept_below : (xs : List Trial) → k ≤ pairs → reaching z xs ≡ [] → KeepsAbove z s v pairs k (take pairs (onto trial_before (reaching z xs) (reaching z (listed s v k))))
  unfolding onto
  kept_below xs h e =
      let few : length (reaching z (listed s v k)) ≤ pairs = omega (arith, fewer z (listed s v k), length_listed s v k, h) in
      record { few = h; falls = falls; list = rw e (sym (take_all pairs (reaching z (listed s v k)) few)) }

  -- with trials those that reach it are inserted
  pub kept_above : (s' : List Float) (v' : List ℕ) (k' : ℕ) (xs : List Trial) → All Number xs → Keeps s' v' pairs k' (take pairs (onto trial_before xs (listed s v k)))
      → KeepsAbove z s' v' pairs k' (take pairs (onto trial_before (reaching z xs) (reaching z (listed s v k))))
  kept_above s' v' k' xs n h =
      let down = falling_onto xs (listed s v k) n falls in
      record {
        few = h.few;
        falls = rw h.list (falling_take pairs (onto trial_before xs (listed s v k)) down);
        list = ap (reaching z) h.list ∙ reaching_take z pairs (onto trial_before xs (listed s v k)) down ∙ ap (take pairs) (reaching_onto z xs (listed s v k) n falls);
      }

-- ---- backward through the list

module _ (z : Float) (f : ℕ → List Trial) (xs : List ℕ) (pairs n : ℕ) where
  pub record GoneAbove (s : List Float) (v : List ℕ) (k j : ℕ) : Type 0 where
    pub within : j ≤ n
    pub so_far : KeepsAbove z s v pairs k (take pairs (onto trial_before (reaching z (flat_map f (drop j xs))) []))

  module _ (w : length xs ≡ n) where
    pub above_none : (s : List Float) (v : List ℕ) → GoneAbove s v 0 n
    unfolding flat_map onto reaching filter
    above_none s v =
        record {
          within = omega arith;
          so_far =
              record {
                few = omega arith;
                falls = falling_none s v;
                list = rw (← w, drop-length xs) (ap (reaching z) (listed_none s v) ∙ sym (take-nil pairs));
              };
        }

    pub above_more : (s : List Float) (v : List ℕ) (k : ℕ) (s' : List Float) (v' : List ℕ) (k' j i : ℕ) → j ≡ suc i → GoneAbove s v k j
        → KeepsAbove z s' v' pairs k' (take pairs (onto trial_before (reaching z (f (get_or xs i 0))) (reaching z (listed s v k)))) → GoneAbove s' v' k' i
    above_more s v k s' v' k' j i e g h =
        let u : i < length xs = omega arith in
        let before = g.so_far.list ∙ ap (λ (t : ℕ). take pairs (onto trial_before (reaching z (flat_map f (drop t xs))) [])) e in
        record {
          within = omega arith;
          so_far =
              record {
                few = h.few;
                falls = h.falls;
                list =
                    one_more trial_before pairs (reaching z (f (get_or xs i 0))) (reaching z (flat_map f (drop (suc i) xs))) [] before h.list
                    ∙ ap (λ (t : List Trial). take pairs (onto trial_before t [])) (sym (reaching_append z (f (get_or xs i 0)) (flat_map f (drop (suc i) xs))) ∙ ap (reaching z) (cons_map f xs i u));
              };
        }

  pub above_all : (s : List Float) (v : List ℕ) (k j : ℕ) → ((c : ℕ) → All Number (f c)) → Fair z pairs (flat_map f xs) → GoneAbove s v k j → j ≤ 0
      → Keeps s v pairs k (take pairs (onto trial_before (flat_map f xs) []))
  above_all s v k (suc j) m r g h = absurd (not-suc-le-zero h)
  above_all s v k zero m r g h =
      let so_far = g.so_far in
      record { few = so_far.few; list = best_reach z pairs k (listed s v k) (flat_map f xs) (all_numbers f xs m) (length_listed s v k) so_far.few r so_far.list }

-- ---- trials below the last score kept

module _ (s : List Float) (v : List ℕ) (count pairs : ℕ) (x : Float) (f : Falling (listed s v count)) (o : Outdone s count pairs x) where
  pub all_outdone : (xs : List Trial) → All (λ t. (t.score ≺ get_or s (count - 1) nan) ≡ true) xs → Keeps s v pairs count (take pairs (onto trial_before xs (listed s v count)))
  unfolding onto
  all_outdone [] h = record { few = omega (arith, o.full); list = sym (take_all pairs (listed s v count) (omega (arith, length_listed s v count, o.full))) }
  all_outdone (t ∷ xs) h =
      let l = listed s v count in
      record {
        few = omega (arith, o.full);
        list =
            (dropped s v count pairs x f o t h.0).list
            ∙ ap (λ (k : List Trial). take pairs (insert trial_before t k)) (all_outdone xs h.1).list
            ∙ insert_take trial_before pairs t (onto trial_before xs l);
      }
