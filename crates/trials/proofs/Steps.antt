-- What the arrays list, and what the two loops of an insertion keep, step by step.
use mathlib.Core.Path.{◌≡◌, refl, ap, sym, ◌∙◌}
use mathlib.Core.Bool.{true, false}
use mathlib.Core.List.{List, ◌++◌}
use Prim.Native.Nat.{ℕ, suc, ◌+◌, ◌*◌, ◌≤◌, ◌<◌}
use native.Mathlib.Numerals.{add-one}
use native.Mathlib.Omega.{arith}
use native.Mathlib.Decide.{ℕ_discrete}
use lib.ListN.{length, take, drop, get_or, set, length-set}
use lib.Seq.{get_or-set_same, get_or-set_other, length-take-le, get_or-take, take-take, take_all, ext_get_or}
use lib.Ieee.{Float, nan}
use Rattle.definition.specs.Lists.{insert}
use Rattle.definition.specs.Trials as trials
use Rattle.definition.specs.Trials.{trial_before}
use Rattle.laws.specs.Frames.{on, off}
use Rattle.trials.specs.declared.kept.Trial.{Trial}
use Rattle.trials.specs.Kept.{Keeps, Place, all, length_listed, listed, listed_at, put, quad_at, quad_of, room, row, trial_of}
use Rattle.trials.proofs.Insertion.{passed, stopped, ended, pushed, stored, dropped, put_take, length_put}

-- ---- the listed trials

-- fewer of them
pub listed_take : (s : List Float) (n : List ℕ) (k j : ℕ) → j ≤ k → take j (listed s n k) ≡ listed s n j
listed_take s n k j h =
    let d = row s n 0 in
    let l : length (take j (listed s n k)) ≡ j = length-take-le j (listed s n k) (rw length_listed h) in
    ext_get_or d (take j (listed s n k)) (listed s n j) (l ∙ sym (length_listed s n j)) (λ i u.
    let v : i < j = omega arith in
    get_or-take j (listed s n k) i d v ∙ listed_at s n k i d (omega arith) ∙ sym (listed_at s n j i d v))

-- ---- a trial stored

-- the four nodes stored one after the other
module _ (n : List ℕ) (b : ℕ) (t : Trial) where
  abbrev one : List ℕ
  one = set n b t.n0

  abbrev two : List ℕ
  two = set one (b + 1) t.n1

  abbrev three : List ℕ
  three = set two (b + 2) t.n2

  abbrev four : List ℕ
  four = set three (b + 3) t.n3

  four_on : b + 3 < length n → (get_or four b 0 ≡ t.n0) × (get_or four (b + 1) 0 ≡ t.n1) × (get_or four (b + 2) 0 ≡ t.n2) × (get_or four (b + 3) 0 ≡ t.n3)
  four_on h = (
    off three (b + 3) t.n3 b (omega arith) ∙ off two (b + 2) t.n2 b (omega arith) ∙ off one (b + 1) t.n1 b (omega arith) ∙ on n b t.n0 (omega arith),
    off three (b + 3) t.n3 (b + 1) (omega arith) ∙ off two (b + 2) t.n2 (b + 1) (omega arith) ∙ on one (b + 1) t.n1 (simp length-set (omega arith)),
    off three (b + 3) t.n3 (b + 2) (omega arith) ∙ on two (b + 2) t.n2 (simp length-set (omega arith)),
    on three (b + 3) t.n3 (simp length-set (omega arith)),
  )

  four_off : (j : ℕ) → ((k : ℕ) → k ≤ 3 → j ≡ b + k → ⊥) → get_or four j 0 ≡ get_or n j 0
  four_off j f =
      off three (b + 3) t.n3 j (f 3 (omega arith))
      ∙ off two (b + 2) t.n2 j (f 2 (omega arith))
      ∙ off one (b + 1) t.n1 j (f 1 (omega arith))
      ∙ off n b t.n0 j (λ e. f 0 (omega arith) (omega arith))

module _ (s : List Float) (n : List ℕ) (i : ℕ) (t : Trial) (h : i < room) (ls : room ≤ length s) (ln : 4 * room ≤ length n) where
  -- at i it is the one that is read
  here : row (set s i t.score) (four n (4 * i) t) i ≡ trial_of t
  unfolding row trial_of quad_at quad_of
  here =
      let e = four_on n (4 * i) t (omega arith) in
      rw (get_or-set_same s i t.score nan (omega arith), e.0, e.1, e.2, e.3)

  -- elsewhere nothing changed
  there : (j : ℕ) → (j ≡ i → ⊥) → row (set s i t.score) (four n (4 * i) t) j ≡ row s n j
  unfolding row quad_at
  there j f =
      let apart : (b k : ℕ) → b ≤ 3 → k ≤ 3 → 4 * j + b ≡ 4 * i + k → ⊥ = λ b k u v e. f (omega arith) in
      let e0 = four_off n (4 * i) t (4 * j) (λ k u e. apart 0 k (omega arith) u (omega arith)) in
      let e1 = four_off n (4 * i) t (4 * j + 1) (λ k. apart 1 k (omega arith)) in
      let e2 = four_off n (4 * i) t (4 * j + 2) (λ k. apart 2 k (omega arith)) in
      let e3 = four_off n (4 * i) t (4 * j + 3) (λ k. apart 3 k (omega arith)) in
      rw (get_or-set_other s i j t.score nan f, e0, e1, e2, e3)

  pub all_stored : all (set s i t.score) (four n (4 * i) t) ≡ set (all s n) i (trial_of t)
  all_stored =
      let s' = set s i t.score in
      let n' = four n (4 * i) t in
      let d = row s n 0 in
      let new = set (all s n) i (trial_of t) in
      ext_get_or d (all s' n') new (simp (length-set, length_listed)) (λ j u.
      let v : j < room = omega (arith, length_listed s' n' room) in
      listed_at s' n' room j d v ∙ elim (ℕ_discrete j i) [
        | yes e ↦ ap (row s' n') e ∙ here ∙ sym (get_or-set_same (all s n) i (trial_of t) d (rw length_listed h)) ∙ ap (λ (k : ℕ). get_or new k d) (sym e)
        | no f ↦ there j f ∙ sym (listed_at s n room j d v) ∙ sym (get_or-set_other (all s n) i j (trial_of t) d f)
      ])

-- ---- on the way to a place

-- the first p come before t
pub record Met (s : List Float) (n : List ℕ) (count : ℕ) (t : Trial) (p : ℕ) : Type 0 where
  pub within : p ≤ count
  pub so_far : insert trial_before (trial_of t) (listed s n count) ≡ take p (listed s n count) ++ insert trial_before (trial_of t) (drop p (listed s n count))

module _ (s : List Float) (n : List ℕ) (count : ℕ) (t : Trial) where
  pub met_none : Met s n count t 0
  met_none = record { within = omega arith; so_far = refl }

  module _ (p : ℕ) (m : Met s n count t p) where
    module _ (h : p < count) (x : trials.Trial) (e : x ≡ row s n p) where
      short : p < length (listed s n count)
      short = rw length_listed h

      at : get_or (listed s n count) p x ≡ x
      at = listed_at s n count p x h ∙ sym e

      pub met_more : trial_before x (trial_of t) ≡ true → Met s n count t (p + 1)
      met_more b =
          record {
            within = omega arith;
            so_far = m.so_far
                ∙ passed trial_before (trial_of t) (listed s n count) p x short (rw at b)
                ∙ ap (λ (k : ℕ). take k (listed s n count) ++ insert trial_before (trial_of t) (drop k (listed s n count))) (sym (add-one p));
          }

      pub met_place : trial_before x (trial_of t) ≡ false → Place (trial_of t) (listed s n count) count p
      met_place b = record { within = omega arith; there = m.so_far ∙ stopped trial_before (trial_of t) (listed s n count) p x short (rw at b) }

    pub met_end : count ≤ p → Place (trial_of t) (listed s n count) count p
    met_end h = record { within = omega arith; there = m.so_far ∙ ended trial_before (trial_of t) (listed s n count) p (rw length_listed h) }

-- ---- pushing back

-- those from p to i were pushed back, and the last of them is carried
pub record Pushed (s₀ : List Float) (n₀ : List ℕ) (count p : ℕ) (t : Trial) (s : List Float) (n : List ℕ) (carried : Trial) (i : ℕ) : Type 0 where
  pub within : i ≤ count
  pub so_far : put i (trial_of carried) (all s n) ≡ put p (trial_of t) (all s₀ n₀)

pub pushed_none : (s : List Float) (n : List ℕ) (count p : ℕ) (t : Trial) → p ≤ count → Pushed s n count p t s n t p
pushed_none s n count p t h = record { within = h; so_far = refl }

module _ (s₀ : List Float) (n₀ : List ℕ) (count pairs p : ℕ) (t : Trial) (s : List Float) (n : List ℕ) (carried : Trial) (i : ℕ)
    (m : Pushed s₀ n₀ count p t s n carried i) (few : count ≤ pairs) (fits : pairs ≤ room) where
  pub pushed_more : (s' : List Float) (n' : List ℕ) (next : Trial) → i < count → trial_of next ≡ row s n i → all s' n' ≡ set (all s n) i (trial_of carried)
      → Pushed s₀ n₀ count p t s' n' next (i + 1)
  pushed_more s' n' next h e f =
      let l : i < length (all s n) = rw length_listed (omega arith) in
      record {
        within = omega arith;
        so_far =
            rw (add-one i, f, e, ← listed_at s n room i (row s n 0) (omega arith)) (sym (pushed (all s n) i (trial_of carried) (row s n 0) l) ∙ m.so_far);
      }

  module _ (h : p ≤ count) (over : count ≤ i) where
    -- the first of them with t among them
    first : put p (trial_of t) (listed s₀ n₀ count) ≡ take (suc count) (put count (trial_of carried) (all s n))
    first =
        ap (put p (trial_of t)) (sym (listed_take s₀ n₀ room count (omega arith)))
        ∙ put_take (all s₀ n₀) p count (trial_of t) h
        ∙ ap (take (suc count)) (sym m.so_far)
        ∙ ap (λ (k : ℕ). take (suc count) (put k (trial_of carried) (all s n))) (omega arith)

    -- there is room for the last
    pub put_room : (s' : List Float) (n' : List ℕ) → count < pairs → all s' n' ≡ set (all s n) count (trial_of carried)
        → Keeps s' n' pairs (count + 1) (take pairs (put p (trial_of t) (listed s₀ n₀ count)))
    put_room s' n' l f =
        record {
          few = omega arith;
          list =
              sym (listed_take s' n' room (count + 1) (omega arith))
              ∙ rw (add-one count, f) (sym (stored (all s n) count (trial_of carried) (rw length_listed (omega arith))))
              ∙ sym first
              ∙ sym (take_all pairs (put p (trial_of t) (listed s₀ n₀ count)) (rw (length_put, length_listed) (omega arith)));
        }

    -- there is none
    pub put_full : count ≡ pairs → Keeps s n pairs count (take pairs (put p (trial_of t) (listed s₀ n₀ count)))
    put_full e =
        record {
          few = few;
          list =
              sym (listed_take s n room count (omega arith))
              ∙ sym (dropped (all s n) count (trial_of carried) (rw length_listed (omega arith)))
              ∙ sym (take-take count (suc count) (put count (trial_of carried) (all s n)) (omega arith))
              ∙ ap (take count) (sym first)
              ∙ ap (λ (k : ℕ). take k (put p (trial_of t) (listed s₀ n₀ count))) e;
        }

-- put in its place it is inserted
pub inserted : (s : List Float) (n : List ℕ) (pairs k : ℕ) (x : trials.Trial) (l : List trials.Trial) (count p : ℕ) → Place x l count p
    → Keeps s n pairs k (take pairs (put p x l)) → Keeps s n pairs k (take pairs (insert trial_before x l))
inserted s n pairs k x l count p h g = rw h.there g
