-- The number of the first refusal, and what the call is by it.
use Rattle.std.specs.Prelude.{◌≡◌, ◌≢◌, ◌<◌, ◌∷◌}
use Rattle.laws.specs.Kit.{refl, sym, ◌∙◌, Bool, true, false, cond, Option, none, some, ℕ, arith, List, [], length, Float}
use Rattle.definition.specs.Lists.{find}
use Rattle.definition.specs.Front.{run_front}
use Rattle.definition.specs.Call.{Asked, Lent, over_limit, bad_size, bad_stop, bad_quality, too_short, unknown_node, repeated_node, far_point, bad_grid, bad_joints, conditions, given_points, given_tris, given_joints, given_locks, settings_within, untouched, after_run, call_within}
use Rattle.refusals.specs.declared.Room.{Room}
use Rattle.refusals.specs.Stated.{Lends}
use Rattle.refusals.specs.Passed.{Passed, limited, ruled, few_pairs, roomy, known, apart, near, few_joints}

-- the number of a pair, and 0 where there is none
unfoldable pub number_of : Option (ℕ × Bool) → ℕ
number_of none = 0
number_of (some c) = c.0

-- the number of the first condition that holds; 0: none does
unfoldable pub first_refusal : Asked → Lent → ℕ
first_refusal a l = number_of (find (λ c. c.1) (conditions a l))

pub turn : (k : ℕ) (b : Bool) (cs : List (ℕ × Bool)) → number_of (find (λ c. c.1) ((k, b) ∷ cs)) ≡ cond b k (number_of (find (λ c. c.1) cs))
unfolding number_of find
turn k true cs = refl
turn k false cs = refl

pub no_turn : number_of (find (λ c. c.1) []) ≡ 0
unfolding number_of find
no_turn = refl

pub not_taken : (b : Bool) (k n : ℕ) → 0 < k → cond b k n ≡ 0 → (b ≡ false) × (n ≡ 0)
not_taken true k n l e = absurd (omega arith)
not_taken false k n l e = (refl, e)

module _ (a : Asked) (l : Lent) where
  -- one condition after the other
  pub in_turn : first_refusal a l
      ≡ cond (over_limit a) 1
      (cond (bad_size a) 2
      (cond (bad_stop a) 3
      (cond (bad_quality a) 14
      (cond (too_short a l) 4
      (cond (unknown_node a l) 5
      (cond (repeated_node a l) 6
      (cond (far_point a l) 7
      (cond (bad_grid a l) 15
      (cond (bad_joints a l) 13 0)))))))))
  unfolding first_refusal number_of conditions
  in_turn = simp (turn, no_turn)

-- none of the conditions holds
record Clear (a : Asked) (l : Lent) : Type 0 where
  c1 : over_limit a ≡ false
  c2 : bad_size a ≡ false
  c3 : bad_stop a ≡ false
  c14 : bad_quality a ≡ false
  c4 : too_short a l ≡ false
  c5 : unknown_node a l ≡ false
  c6 : repeated_node a l ≡ false
  c7 : far_point a l ≡ false
  c15 : bad_grid a l ≡ false
  c13 : bad_joints a l ≡ false

module _ (a : Asked) (l : Lent) (zero_is : first_refusal a l ≡ 0) where
  clear : Clear a l
  clear =
      let h1 = not_taken (over_limit a) 1 _ (omega arith) (sym (in_turn a l) ∙ zero_is) in
      let h2 = not_taken (bad_size a) 2 _ (omega arith) h1.1 in
      let h3 = not_taken (bad_stop a) 3 _ (omega arith) h2.1 in
      let h14 = not_taken (bad_quality a) 14 _ (omega arith) h3.1 in
      let h4 = not_taken (too_short a l) 4 _ (omega arith) h14.1 in
      let h5 = not_taken (unknown_node a l) 5 _ (omega arith) h4.1 in
      let h6 = not_taken (repeated_node a l) 6 _ (omega arith) h5.1 in
      let h7 = not_taken (far_point a l) 7 _ (omega arith) h6.1 in
      let h15 = not_taken (bad_grid a l) 15 _ (omega arith) h7.1 in
      let h13 = not_taken (bad_joints a l) 13 0 (omega arith) h15.1 in
      record { c1 = h1.0; c2 = h2.0; c3 = h3.0; c14 = h14.0; c4 = h4.0; c5 = h5.0; c6 = h6.0; c7 = h7.0; c15 = h15.0; c13 = h13.0 }

  -- what a call with no refusal has
  pub passed : Passed a l
  passed =
      record {
        limited = limited a clear.c1;
        sized = clear.c2;
        ruled = ruled a clear.c3;
        pairs = few_pairs a clear.c14;
        roomy = roomy a l clear.c4;
        known = known a l clear.c5;
        apart = apart a l clear.c6;
        near = near a l clear.c7;
        joints = few_joints a l clear.c13;
      }

  -- as the laws of a finished call take it
  pub none_holds : find (λ c. c.1) (conditions a l) ≡ none
  unfolding find conditions
  none_holds = rw (clear.c1, clear.c2, clear.c3, clear.c14, clear.c4, clear.c5, clear.c6, clear.c7, clear.c15, clear.c13)

  -- a call that no condition refuses runs
  pub call_runs : (most : ℕ) → call_within most a l ≡ after_run l (run_front (settings_within most (length l.trace) a) (given_locks a l) (given_tris a l) (given_points a l))
  unfolding call_within
  call_runs most = rw (none_holds, call_within)

pub some_found : (o : Option (ℕ × Bool)) → number_of o ≢ 0 → (c : ℕ × Bool) × (o ≡ some c)
unfolding number_of
some_found none h = absurd (h refl)
some_found (some c) h = (c, refl)

-- a refusal is the whole answer, and nothing is touched
pub call_refused : (a : Asked) (l : Lent) → first_refusal a l ≢ 0 → (most : ℕ) → call_within most a l ≡ untouched (first_refusal a l) l
unfolding call_within first_refusal number_of
call_refused a l h most =
    let f = some_found (find (λ c. c.1) (conditions a l)) h in
    rw (f.1, call_within, first_refusal)

-- the slices that are only measured count by their lengths alone
pub by_length : (a : Asked) (l m : Lent) (ps : List Float) (ts js : List ℕ) (n : Room) → Lends l ps ts js n → Lends m ps ts js n → conditions a l ≡ conditions a m
unfolding conditions too_short unknown_node repeated_node far_point bad_grid bad_joints given_points given_tris given_joints
by_length a l m ps ts js n h k =
    rw (
      h.points,
      h.triangles,
      h.joints,
      h.quads,
      h.triangles_out,
      h.components,
      h.work,
      h.float_work,
      k.points,
      k.triangles,
      k.joints,
      k.quads,
      k.triangles_out,
      k.components,
      k.work,
      k.float_work,
    )
