-- A list against its stored hash, and the sums over places.
use mathlib.Core.Path.{◌≡◌, refl, sym, ap, subst, ◌∙◌}
use mathlib.Core.Logic.{◌≢◌}
use mathlib.Core.List.{List, [], ◌∷◌}
use Prim.Native.Nat.{ℕ, ◌+◌, ◌≤◌}
use native.Mathlib.Numerals.{add-one}
use native.Mathlib.Omega.{arith}
use borrow.Author.Tests.{eq-eqb, ne_eqb}
use lib.ListN.{length, get_or}
use Rattle.acceptance.specs.Runs.{nodes_of, hashed, list_hash}
use Rattle.acceptance.specs.Tallies.{Lists, list_at, present, agrees, sum_below, lists, agreeing, Met, Tallies}
use Rattle.acceptance.specs.declared.runs.Triangles.{Triangles}
use Rattle.acceptance.specs.declared.lists.Tally.{Tally}

pub like_listed : {l m : List (List ℕ)} {t : Triangles} → l ≡ m → Lists m t → Lists l t
like_listed {l} {m} {t} e h = subst (λ k. Lists k t) (sym e) h

-- ---- one list

pub no_list : (n : ℕ) (l : List (List ℕ)) {t : Triangles} (h : ℕ) → Lists l t → t.count ≡ 0 → Met n l h (record { made = 0; agreed = 0 })
unfolding present agrees
no_list n [] h is e = record { made = refl; agreed = refl; one = omega arith; within = omega arith }
no_list n (x ∷ l) h is e = absurd (omega (arith, e, is.count))

-- the code's hash of the triangles is the hash of the list
is_hash : (n : ℕ) (l : List (List ℕ)) {t : Triangles} {r : ℕ} → Lists l t → r ≡ hashed n t.count t.nodes 128 → list_hash n l ≡ r
unfolding list_hash
is_hash n l {t} is e = ap (λ c. hashed n c (nodes_of l) 128) (sym is.count) ∙ ap (λ ns. hashed n t.count ns 128) (sym is.nodes) ∙ sym e

pub same_hash : (n : ℕ) (l : List (List ℕ)) {t : Triangles} {r h : ℕ} → Lists l t → t.count ≢ 0 → r ≡ hashed n t.count t.nodes 128 → r ≡ h → Met n l h (record { made = 1; agreed = 1 })
unfolding present agrees
same_hash n [] is c e f = absurd (c is.count)
same_hash n (x ∷ l) {h = h} is c e f =
    let q = eq-eqb (list_hash n (x ∷ l)) h (is_hash n (x ∷ l) is e ∙ f) in
    record { made = refl; agreed = rw q refl; one = omega arith; within = omega arith }

pub other_hash : (n : ℕ) (l : List (List ℕ)) {t : Triangles} {r h : ℕ} → Lists l t → t.count ≢ 0 → r ≡ hashed n t.count t.nodes 128 → r ≢ h → Met n l h (record { made = 1; agreed = 0 })
unfolding present agrees
other_hash n [] is c e f = absurd (c is.count)
other_hash n (x ∷ l) {h = h} is c e f =
    let q = ne_eqb (list_hash n (x ∷ l)) h (λ g. f (sym (is_hash n (x ∷ l) is e) ∙ g)) in
    record { made = refl; agreed = rw q refl; one = omega arith; within = omega arith }

-- ---- sums

one_more_place : (f : ℕ → ℕ) (a b k : ℕ) → a ≡ sum_below f k → b ≡ f k → a + b ≡ sum_below f (k + 1)
unfolding sum_below
one_more_place f a b k e g = ap (λ x. x + b) e ∙ ap (λ y. sum_below f k + y) g ∙ ap (sum_below f) (sym (add-one k))

-- what the first k places have
pub record SoFar (n : ℕ) (hs : List ℕ) (k made agreed : ℕ) : Type 0 where
  pub lists : made ≡ lists n k
  pub agreeing : agreed ≡ agreeing n hs k
  pub few : made ≤ k
  pub within : agreed ≤ made

pub begun : (n : ℕ) (hs : List ℕ) → SoFar n hs 0 0 0
unfolding lists agreeing sum_below
begun n hs = record { lists = refl; agreeing = refl; few = omega arith; within = omega arith }

pub and_this : (n : ℕ) (hs : List ℕ) (k made agreed : ℕ) (t : Tally) → SoFar n hs k made agreed → Met n (list_at n k) (get_or hs k 0) t → SoFar n hs (k + 1) (made + t.made) (agreed + t.agreed)
unfolding lists agreeing
and_this n hs k made agreed t s m =
    record {
      lists = one_more_place (λ p. present (list_at n p)) made t.made k s.lists m.made;
      agreeing = one_more_place (λ p. agrees n (list_at n p) (get_or hs p 0)) agreed t.agreed k s.agreeing m.agreed;
      few = omega (arith, s.few, m.one);
      within = omega (arith, s.within, m.within);
    }

pub all_places : (n : ℕ) (hs : List ℕ) (k made agreed : ℕ) → k ≡ length hs → SoFar n hs k made agreed → Tallies n hs (record { made = made; agreed = agreed })
all_places n hs k made agreed e s =
    record { made = s.lists ∙ ap (lists n) e; agreed = s.agreeing ∙ ap (agreeing n hs) e; few = omega (arith, s.few, e); within = s.within }
