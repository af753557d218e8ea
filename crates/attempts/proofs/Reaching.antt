-- What holds of every state that a run reaches, and of what an attempt leaves:
-- points grow behind and lie within the limit.
use mathlib.Core.Path.{◌≡◌, refl, ap, sym, ◌∙◌, subst}
use mathlib.Core.Bool.{true, false, cond}
use mathlib.Core.Logic.{inl, inr}
use mathlib.Core.List.{List, [], ◌∷◌, ◌++◌, append_assoc, append-nil}
use Prim.{Unit, tt}
use Prim.Native.Nat.{ℕ, ◌+◌}
use native.Mathlib.Omega.{arith}
use lib.ListN.{length, length-append}
use Rattle.definition.specs.Numbers.{Settings}
use Rattle.definition.specs.Counts.{Counts, tally, ◌⊞◌, no_counts, emptied, one_attempt, Spent, spending, at_limit, Placement, Shape, Recovery, Region, OddRegion, refused_by}
use Rattle.definition.specs.Plane.{Node, Edge}
use Rattle.definition.specs.Cells.{Tri, Mesh, tri}
use Rattle.definition.specs.Insertion.{holds}
use Rattle.definition.specs.Attempt.{Attempt, placed, refused, ended}
use Rattle.definition.specs.Front.{State, Progress, stuck, progressed, limited, stopped, counting, after, make_attempt, past_limit, attempt, start, new_mesh}
use Rattle.definition.specs.Call.{Asked, bad_size}
use Rattle.laws.specs.Lists.{In, all_from, all_at, in_either}
use Rattle.laws.specs.Bools.{cond_ok}
use Rattle.account.proofs.Counting.{added_refused}
use Rattle.rules.specs.Settings.{settings_of}
use Rattle.account.proofs.Flips.{flip_points}
use Rattle.account.proofs.QuadKeeps.{replaced_points}
use Rattle.account.specs.Steps.{OnNormal}
use Rattle.account.proofs.Steps.{split_grows}
use Rattle.account.specs.Run.{Rule, ProgressOk}
use Rattle.account.proofs.Run.{attempt_ok}
use Rattle.account.specs.Reach.{Reach, begun, opened, by_refusal, by_quad}
use Rattle.account.proofs.Reach.{ReachedState, reach_sound}
use Rattle.exact.specs.Theorems.{Within}
use Rattle.exact.proofs.Theorems.{held_within}
use Rattle.attempts.specs.Runs.{Setup, Sized, Fixed}

-- ---- the settings as asked

-- a call that asks for them
abbrev asked_of : Setup → Asked
asked_of x = record { given = 0; capacity = x.rules.lay.points; count = 0; slots = x.rules.lay.slots; joints = 0; size = x.rules.size; stop = cond x.rules.even 1 0; quality = (settings_of x.rules).quality; grid = false }

same_size : (x : Setup) → (settings_of x.rules).size ≡ (asked_of x).size
unfolding settings_of
same_size x = refl

passes : (x : Setup) → Sized x.rules.size → bad_size (asked_of x) ≡ false
unfolding bad_size
passes x h = h

-- ---- points

-- every point is within the limit
abbrev pub AllWithin : List Node → Type 0
AllWithin ps = (p : Node) → In p ps → Within p

-- a point that an insertion places
split_within : (x : Setup) → Sized x.rules.size → (start m : Mesh) (p : Node) (t : Tri) → AllWithin start.points → AllWithin m.points → OnNormal (settings_of x.rules) start m p
    → holds m p (tri t) ≡ true → Within p
split_within x sized start m p t h k on held =
    held_within (settings_of x.rules) (asked_of x) (same_size x) (passes x sized) start m (all_from start.points h) (all_from m.points k) on.a on.b on.end t on.share on.among on.long p on.place held

-- the points are those of before and as many more as were inserted since, all within the limit
pub record Fine (from : List Node) (n : ℕ) (points : List Node) (k : ℕ) : Type 0 where
  pub new : List Node
  pub is : points ≡ from ++ new
  pub number : k ≡ n + length new
  pub within : AllWithin points

pub made_mismatch : (c : Counts) (n : Spent) → (c ⊞ one_attempt ⊞ spending n).mismatch_insertions ≡ c.mismatch_insertions + n.insertions
unfolding ◌⊞◌ tally one_attempt spending
made_mismatch c n = omega arith

limit_mismatch : (c : Counts) → (c ⊞ one_attempt ⊞ at_limit).mismatch_insertions ≡ c.mismatch_insertions
unfolding ◌⊞◌ tally one_attempt at_limit
limit_mismatch c = omega arith

empty_mismatch : (c : Counts) → (c ⊞ emptied).mismatch_insertions ≡ c.mismatch_insertions
unfolding ◌⊞◌ tally emptied
empty_mismatch c = omega arith

abbrev pub Q : List Node → ℕ → State → List Edge → Type 0
Q from n₀ st es = Fine from n₀ st.mesh.points st.counts.mismatch_insertions

abbrev pub P : List Node → ℕ → State → List Edge → ℕ → Mesh → Type 0
P from n₀ st es n m = AllWithin st.mesh.points × Fine from n₀ m.points (st.counts.mismatch_insertions + n)

abbrev pub R : List Node → ℕ → State → Type 0
R from n₀ st = Fine from n₀ st.mesh.points st.counts.mismatch_insertions

module _ (x : Setup) (sized : Sized x.rules.size) (from : List Node) (n₀ : ℕ) where
  fine_as : (ps qs : List Node) (j k : ℕ) → qs ≡ ps → k ≡ j → Fine from n₀ ps j → Fine from n₀ qs k
  fine_as ps qs j k e f h =
      record { new = h.new; is = e ∙ h.is; number = f ∙ h.number; within = subst (λ l. AllWithin l) (sym e) h.within }

  pub fine_rule : Rule (settings_of x.rules) (Q from n₀) (P from n₀) (R from n₀)
  unfolding counting settings_of
  fine_rule = record {
    opens = λ st es ok h f. h;
    begins = λ st es h. (h.within, fine_as st.mesh.points st.mesh.points st.counts.mismatch_insertions (st.counts.mismatch_insertions + 0) refl (omega arith) h);
    flips = λ st es n m m' e ok h i f. (h.0, fine_as m.points m'.points _ _ (flip_points m e m' f) refl h.1);
    splits = λ st es n m y t p ok h w. (
      h.0,
      record {
        new = h.1.new ++ (p ∷ []);
        is = split_grows m y.slot t p ∙ ap (λ l. l ++ (p ∷ [])) h.1.is ∙ append_assoc from h.1.new (p ∷ []);
        number = omega (arith, length-append h.1.new (p ∷ []), h.1.number);
        within = subst (λ l. AllWithin l) (sym (split_grows m y.slot t p)) (λ q i. elim (in_either q m.points (p ∷ []) i) [
          | inl j ↦ h.1.within q j
          | inr (inl e) ↦ subst (λ z. Within z) (sym e) (split_within x sized st.mesh m p t h.0 h.1.within w.normal w.held)
          | inr (inr x3) ↦ elim x3 [ ]
        ]);
      },
    );
    refuses = λ st e es why n m h ok w. fine_as m.points m.points _ _ refl (added_refused st.counts n why) w.1;
    places = λ st e es n m q h w. fine_as w.mesh.points m.points _ _ (ap (λ k. k.points) w.after ∙ replaced_points w.mesh q w.cells) (made_mismatch st.counts n) w.before.1.1;
    ends = λ st e es n m h ok w. fine_as m.points m.points _ _ refl (made_mismatch st.counts n) w.1;
    limits = λ st es h. fine_as st.mesh.points st.mesh.points _ _ refl (limit_mismatch st.counts) h;
    empties = λ st h. fine_as st.mesh.points st.mesh.points _ _ refl (empty_mismatch st.counts) h;
  }

-- what an attempt leaves, from the state before it
pub attempt_fine : (x : Setup) → Sized x.rules.size → (old : List Edge) (st : State) (e : Edge) (es : List Edge)
    → ReachedState (settings_of x.rules) x.begun.locked x.begun.ts x.begun.ps st old (e ∷ es) → AllWithin st.mesh.points
    → ProgressOk (Q st.mesh.points st.counts.mismatch_insertions) (R st.mesh.points st.counts.mismatch_insertions) es (attempt (settings_of x.rules) (length x.begun.ts) st e)
attempt_fine x sized old st e es w h =
    attempt_ok (settings_of x.rules) (Q st.mesh.points st.counts.mismatch_insertions) (P st.mesh.points st.counts.mismatch_insertions) (R st.mesh.points st.counts.mismatch_insertions)
    (fine_rule x sized st.mesh.points st.counts.mismatch_insertions) (length x.begun.ts) st e es (w.ordered e (inl refl))
    (w.valid, record { new = []; is = sym (append-nil st.mesh.points); number = omega arith; within = h })

-- ---- the front was never found empty

abbrev NeverEmpty : Progress → Type 0
NeverEmpty (stuck st) = st.counts.front_empty ≡ 0
NeverEmpty (progressed st) = st.counts.front_empty ≡ 0
NeverEmpty (limited st) = Unit {0}
NeverEmpty (stopped w st) = Unit {0}

after_never : (st : State) (e : Edge) (a : Attempt) → st.counts.front_empty ≡ 0 → NeverEmpty (after st e a)
unfolding after ◌⊞◌ tally spending refused_by
after_never st e (placed n m q) h = omega arith
after_never st e (refused Placement n m) h = omega arith
after_never st e (refused Shape n m) h = omega arith
after_never st e (refused Recovery n m) h = omega arith
after_never st e (refused Region n m) h = omega arith
after_never st e (refused OddRegion n m) h = omega arith
after_never st e (ended w n m) h = tt

counted_never : (st : State) → st.counts.front_empty ≡ 0 → (counting st one_attempt).counts.front_empty ≡ 0
unfolding counting ◌⊞◌ tally one_attempt
counted_never st h = omega arith

attempt_never : (s : Settings) (given : ℕ) (st : State) (e : Edge) → st.counts.front_empty ≡ 0 → NeverEmpty (attempt s given st e)
unfolding attempt make_attempt
attempt_never s given st e h =
    cond_ok NeverEmpty (past_limit s given (counting st one_attempt)) _ _ (λ z. tt) (λ z. after_never (counting st one_attempt) e _ (counted_never st h))

-- ---- a reached state

module _ (x : Setup) (f : Fixed x) where
  abbrev pub Gets : State → List Edge → List Edge → Type 0
  Gets st old es = Reach (settings_of x.rules) x.begun.locked x.begun.ts x.begun.ps st old es

  pub sound : (st : State) (old es : List Edge) → Gets st old es → ReachedState (settings_of x.rules) x.begun.locked x.begun.ts x.begun.ps st old es
  unfolding settings_of
  sound st old es r = reach_sound (settings_of x.rules) x.begun.locked x.begun.ts x.begun.ps f.proper f.points f.slots st old es r

  fine_in : (Z : Progress → Type 0) (p q : Progress) → p ≡ q → Z p → Z q
  fine_in Z p q e z = subst Z e z

  pub reach_within : (st : State) (old es : List Edge) → Gets st old es → AllWithin st.mesh.points
  unfolding start new_mesh
  reach_within st old es begun = all_at Within x.begun.ps f.within
  reach_within st old es (opened st₀ old₀ es₀ r o) = reach_within st₀ old₀ [] r
  reach_within st old es (by_refusal st₀ st' old₀ e es₀ r g) =
      let k = attempt_fine x f.sized old₀ st₀ e es₀ (sound st₀ old₀ (e ∷ es₀) r) (reach_within st₀ old₀ (e ∷ es₀) r) in
      (fine_in (λ p. ProgressOk (Q st₀.mesh.points st₀.counts.mismatch_insertions) (R st₀.mesh.points st₀.counts.mismatch_insertions) es₀ p) _ _ g k).1.within
  reach_within st old es (by_quad st₀ st' old₀ e es₀ r g) =
      let k = attempt_fine x f.sized old₀ st₀ e es₀ (sound st₀ old₀ (e ∷ es₀) r) (reach_within st₀ old₀ (e ∷ es₀) r) in
      (fine_in (λ p. ProgressOk (Q st₀.mesh.points st₀.counts.mismatch_insertions) (R st₀.mesh.points st₀.counts.mismatch_insertions) es₀ p) _ _ g k).1.within

  pub reach_never : (st : State) (old es : List Edge) → Gets st old es → st.counts.front_empty ≡ 0
  unfolding start no_counts tally
  reach_never st old es begun = refl
  reach_never st old es (opened st₀ old₀ es₀ r o) = reach_never st₀ old₀ [] r
  reach_never st old es (by_refusal st₀ st' old₀ e es₀ r g) = fine_in NeverEmpty _ _ g (attempt_never (settings_of x.rules) (length x.begun.ts) st₀ e (reach_never st₀ old₀ (e ∷ es₀) r))
  reach_never st old es (by_quad st₀ st' old₀ e es₀ r g) = fine_in NeverEmpty _ _ g (attempt_never (settings_of x.rules) (length x.begun.ts) st₀ e (reach_never st₀ old₀ (e ∷ es₀) r))
