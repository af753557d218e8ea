-- The rounds end because their work is done: each that places a quad makes an attempt,
use Rattle.std.specs.Prelude.{◌≡◌, ◌+◌, ◌<◌, ◌≤◌, ◌∷◌, ◌++◌}
use Rattle.laws.specs.Kit.{refl, sym, ◌∙◌, ap, subst, inl, inr, Bool, false, not, ℕ, zero, suc, arith, eqb, ltb, ltb-false, List, [], length}
use Rattle.definition.specs.Lists.{filter, find}
use Rattle.definition.specs.Numbers.{Settings, max_triangles}
use Rattle.definition.specs.Counts.{Counts, tally, ◌⊞◌, no_counts, emptied, one_attempt, Spent, spending, at_limit, Refusal, Placement, Shape, Recovery, Region, OddRegion, refused_by}
use Rattle.definition.specs.Plane.{Node, Edge}
use Rattle.definition.specs.Cells.{Tri, same_edge, touches, live_tris, front}
use Rattle.definition.specs.Loops.{far_end, without_edge, walk, loops_of, front_loops}
use Rattle.definition.specs.Attempt.{Attempt, placed, refused, ended}
use Rattle.definition.specs.Front.{State, Progress, stuck, progressed, limited, stopped, counting, after, make_attempt, past_limit, attempt, try_edges, open_edges, try_loops, round, front_loop, Result, ran, start, result, outcome, run_front}
use Rattle.laws.specs.Bools.{which, or_none, never, cond_ok}
use Rattle.laws.specs.Lists.{In, filter_yes, filter_no, find_in, known}
use Rattle.laws.specs.Cells.{same_self}
use Rattle.account.specs.Rounds.{Gains, tries}

gains_less : (limit a b : ℕ) (p : Progress) → a ≤ b → Gains limit b p → Gains limit a p
gains_less limit a b (stuck st) l h = (omega arith, h.1)
gains_less limit a b (progressed st) l h = (omega arith, h.1)
gains_less limit a b (limited st) l h = h
gains_less limit a b (stopped w st) l h = h

refusal_tries : (c : Counts) (n : Spent) (why : Refusal) → (c ⊞ spending n ⊞ refused_by why).attempts ≡ c.attempts
unfolding ◌⊞◌ tally spending refused_by
refusal_tries c n Placement = omega arith
refusal_tries c n Shape = omega arith
refusal_tries c n Recovery = omega arith
refusal_tries c n Region = omega arith
refusal_tries c n OddRegion = omega arith

insertion_tries : (c : Counts) (n : Spent) → (c ⊞ spending n).attempts ≡ c.attempts
unfolding ◌⊞◌ tally spending
insertion_tries c n = omega arith

-- st has counted the attempt
after_gains : (limit : ℕ) (st : State) (e : Edge) (a : Attempt) (b : ℕ) → b < tries st → tries st ≤ limit → Gains limit b (after st e a)
unfolding after
after_gains limit st e (placed n m q) b l h = (omega (arith, insertion_tries st.counts n), omega (arith, insertion_tries st.counts n))
after_gains limit st e (refused why n m) b l h = (omega (arith, refusal_tries st.counts n why), omega (arith, refusal_tries st.counts n why))
after_gains limit st e (ended w n m) b l h = omega (arith, insertion_tries st.counts n)

module _ (s : Settings) (given : ℕ) where
  abbrev pub most : ℕ
  most = s.attempts

  -- an attempt
  pub attempt_gains : (st : State) (e : Edge) → tries st ≤ most → Gains most (tries st) (attempt s given st e)
  unfolding attempt make_attempt past_limit counting ◌⊞◌ tally one_attempt at_limit
  attempt_gains st e h =
      let counted = counting st one_attempt in
      cond_ok (Gains most (tries st)) (past_limit s given counted) _ _ (λ z. omega arith)
      (λ z. after_gains most counted e _ (tries st) (omega arith) (ltb-false most (tries counted) (or_none (ltb most (tries counted)) (ltb (max_triangles given) (live_tris st.mesh)) z).0))

  try_edges_case : (st : State) (e : Edge) (es : List Edge) (r : Progress) → attempt s given st e ≡ r → Gains most (tries st) r
      → ((st' : State) → tries st' ≤ most → Gains most (tries st') (try_edges s given st' es)) → Gains most (tries st) (try_edges s given st (e ∷ es))
  unfolding try_edges
  try_edges_case st e es (stuck st') f g next = rw (f, try_edges) (gains_less most (tries st) (tries st') (try_edges s given st' es) g.0 (next st' g.1))
  try_edges_case st e es (progressed st') f g next = rw (f, try_edges) g
  try_edges_case st e es (limited st') f g next = rw (f, try_edges) g
  try_edges_case st e es (stopped w st') f g next = rw (f, try_edges) g

  try_edges_gains : (st : State) (es : List Edge) → tries st ≤ most → Gains most (tries st) (try_edges s given st es)
  unfolding try_edges
  try_edges_gains st [] h = (omega arith, h)
  try_edges_gains st (e ∷ es) h = try_edges_case st e es (attempt s given st e) refl (attempt_gains st e h) (λ st' h'. try_edges_gains st' es h')

  try_loops_case : (st : State) (l : List Edge) (ls : List (List Edge)) (r : Progress) → try_edges s given st (open_edges st l) ≡ r → Gains most (tries st) r
      → ((st' : State) → tries st' ≤ most → Gains most (tries st') (try_loops s given st' ls)) → Gains most (tries st) (try_loops s given st (l ∷ ls))
  unfolding try_loops
  try_loops_case st l ls (stuck st') f g next = rw (f, try_loops) (gains_less most (tries st) (tries st') (try_loops s given st' ls) g.0 (next st' g.1))
  try_loops_case st l ls (progressed st') f g next = rw (f, try_loops) g
  try_loops_case st l ls (limited st') f g next = rw (f, try_loops) g
  try_loops_case st l ls (stopped w st') f g next = rw (f, try_loops) g

  try_loops_gains : (st : State) (ls : List (List Edge)) → tries st ≤ most → Gains most (tries st) (try_loops s given st ls)
  unfolding try_loops
  try_loops_gains st [] h = (omega arith, h)
  try_loops_gains st (l ∷ ls) h = try_loops_case st l ls (try_edges s given st (open_edges st l)) refl (try_edges_gains st (open_edges st l) h) (λ st' h'. try_loops_gains st' ls h')

  -- a round
  pub round_gains : (st : State) (es : List Edge) → tries st ≤ most → Gains most (tries st) (round s given st es)
  unfolding round counting ◌⊞◌ tally emptied
  round_gains st [] h = (omega arith, omega arith)
  round_gains st (e ∷ es) h = try_loops_gains st (front_loops st.mesh.points (e ∷ es)) h

  rounds_case : (n k : ℕ) (st : State) (r : Progress) → round s given st (front st.mesh) ≡ r → Gains most (tries st) r
      → ((st' : State) → tries st < tries st' → tries st' ≤ most → front_loop k s given st' ≡ front_loop n s given st') → front_loop (suc k) s given st ≡ front_loop (suc n) s given st
  unfolding front_loop
  rounds_case n k st (stuck st') f g next = rw (f, front_loop) refl
  rounds_case n k st (progressed st') f g next = rw (f, front_loop) (next st' g.0 g.1)
  rounds_case n k st (limited st') f g next = rw (f, front_loop) refl
  rounds_case n k st (stopped w st') f g next = rw (f, front_loop) refl

  -- more rounds change nothing
  pub rounds_enough : (n k : ℕ) (st : State) → tries st ≤ most → most < n + tries st → n ≤ k → front_loop k s given st ≡ front_loop n s given st
  unfolding front_loop
  rounds_enough zero k st h l b = absurd (omega arith)
  rounds_enough (suc n) zero st h l b = absurd (omega arith)
  rounds_enough (suc n) (suc k) st h l b =
      rounds_case n k st (round s given st (front st.mesh)) refl (round_gains st (front st.mesh) h)
      (λ st' g h'. rounds_enough n k st' h' (omega arith) (omega arith))

  -- at most one attempt is counted past the limit
  abbrev pub TriesFit : Progress → Type 0
  TriesFit (stuck st) = tries st ≤ most + 1
  TriesFit (progressed st) = tries st ≤ most + 1
  TriesFit (limited st) = tries st ≤ most + 1
  TriesFit (stopped w st) = tries st ≤ most + 1

  front_loop_case : (n : ℕ) (st : State) (r : Progress) → round s given st (front st.mesh) ≡ r → Gains most (tries st) r
      → ((st' : State) → tries st' ≤ most → TriesFit (front_loop n s given st')) → TriesFit (front_loop (suc n) s given st)
  unfolding front_loop
  front_loop_case n st (stuck st') f g next = rw (f, front_loop) (let l = g.1 in omega arith)
  front_loop_case n st (progressed st') f g next = rw (f, front_loop) (next st' g.1)
  front_loop_case n st (limited st') f g next = rw (f, front_loop) g
  front_loop_case n st (stopped w st') f g next = rw (f, front_loop) (omega arith)

  -- however many rounds
  pub front_loop_tries : (n : ℕ) (st : State) → tries st ≤ most → TriesFit (front_loop n s given st)
  unfolding front_loop
  front_loop_tries zero st h = omega arith
  front_loop_tries (suc n) st h = front_loop_case n st (round s given st (front st.mesh)) refl (round_gains st (front st.mesh) h) (λ st' h'. front_loop_tries n st' h')

outcome_tries : (s : Settings) (given : ℕ) (r : Result) (p : Progress) → TriesFit s given p → outcome p ≡ ran r → r.counts.attempts ≤ most s given + 1
unfolding outcome result
outcome_tries s given r (stuck st) h e = let f : r ≡ result st = cc in subst (λ z. z.counts.attempts ≤ most s given + 1) (sym f) h
outcome_tries s given r (progressed st) h e = let f : r ≡ result st = cc in subst (λ z. z.counts.attempts ≤ most s given + 1) (sym f) h
outcome_tries s given r (limited st) h e = let f : r ≡ result st = cc in subst (λ z. z.counts.attempts ≤ most s given + 1) (sym f) h
outcome_tries s given r (stopped w st) h e = absurd (let z : ◌≡◌ {A = ℕ} 0 1 = cc in omega arith)

-- a finished run has counted at most one attempt past the limit
pub attempts_bound : (s : Settings) (lk : Edge → Bool) (ts : List Tri) (ps : List Node) (r : Result) → run_front s lk ts ps ≡ ran r
    → r.counts.attempts ≤ s.attempts + 1
unfolding run_front start no_counts tally
attempts_bound s lk ts ps r e = outcome_tries s (length ts) r _ (front_loop_tries s (length ts) (s.attempts + 2) (start s lk ts ps) (omega arith)) e

-- the run's rounds are enough
pub rounds_end : (n : ℕ) (s : Settings) (lk : Edge → Bool) (ts : List Tri) (ps : List Node) → s.attempts + 2 ≤ n
    → run_front s lk ts ps ≡ outcome (front_loop n s (length ts) (start s lk ts ps))
unfolding run_front start no_counts tally
rounds_end n s lk ts ps l = sym (ap outcome (rounds_enough s (length ts) (s.attempts + 2) n (start s lk ts ps) (omega arith) (omega arith) l))

-- ---- the loops of the front
no_longer : {A : Type 0} (p : A → Bool) (xs : List A) → length (filter p xs) ≤ length xs
unfolding filter
no_longer p [] = omega arith
no_longer p (x ∷ xs) = let h = no_longer p xs in elim (which (p x)) [ inl f ↦ rw f (omega arith) | inr f ↦ rw f (omega arith) ]

-- a filter that drops an element is shorter
shorter : {A : Type 0} (p : A → Bool) (x : A) (xs : List A) → In x xs → p x ≡ false → length (filter p xs) < length xs
shorter {A = A} p x [] i e = elim i [ ]
shorter p x (y ∷ ys) i e = elim (which (p y)) [
  | inl f ↦ elim i [ inl g ↦ never (p y) f (ap p (sym g) ∙ e) | inr j ↦ let h = shorter p x ys j e in omega (arith, ap length (filter_yes p y ys f)) ]
  | inr f ↦ omega (arith, ap length (filter_no p y ys f), no_longer p ys)
]

taken_shorter : (e : Edge) (left : List Edge) → In e left → length (without_edge e left) < length left
unfolding without_edge
taken_shorter e left i = shorter (λ f. not (same_edge e f)) e left i (ap not (same_self e))

-- as many steps as edges are left are enough
pub walk_ends : (n k start here : ℕ) (path left : List Edge) → length left ≤ n → n ≤ k → walk k start here path left ≡ walk n start here path left
unfolding walk find
walk_ends zero zero start here path left l h = refl
walk_ends zero (suc k) start here path [] l h = refl
walk_ends zero (suc k) start here path (e ∷ left) l h = absurd (omega arith)
walk_ends (suc n) zero start here path left l h = absurd (omega arith)
walk_ends (suc n) (suc k) start here path left l h = elim (known (find (λ e. touches e here) left)) [
  | inl f ↦ rw (f, walk) refl
  | inr f ↦ elim (which (eqb (far_end f.0 here) start)) [
    | inl g ↦ rw (f.1, walk, g) refl
    | inr g ↦
        rw (f.1, walk, g)
        (walk_ends n k start (far_end f.0 here) (path ++ (f.0 ∷ [])) (without_edge f.0 left) (let d = taken_shorter f.0 left (find_in (λ e. touches e here) f.0 left f.1).0 in omega arith) (omega arith))
  ]
]

walk_left : (n start here : ℕ) (path left : List Edge) → length (walk n start here path left).left ≤ length left
unfolding walk
walk_left zero start here path left = omega arith
walk_left (suc n) start here path left = elim (known (find (λ e. touches e here) left)) [
  | inl f ↦ rw (f, walk) (omega arith)
  | inr f ↦
      let d = taken_shorter f.0 left (find_in (λ e. touches e here) f.0 left f.1).0 in
      elim (which (eqb (far_end f.0 here) start)) [
        | inl g ↦ rw (f.1, walk, g) (omega arith)
        | inr g ↦ let r = walk_left n start (far_end f.0 here) (path ++ (f.0 ∷ [])) (without_edge f.0 left) in rw (f.1, walk, g) (omega arith)
      ]
]

-- as many loops as edges are enough
pub loops_end : (n k : ℕ) (es : List Edge) → length es ≤ n → n ≤ k → loops_of k es ≡ loops_of n es
unfolding loops_of
loops_end zero zero es l h = refl
loops_end zero (suc k) [] l h = refl
loops_end zero (suc k) (e ∷ es) l h = absurd (omega arith)
loops_end (suc n) zero es l h = absurd (omega arith)
loops_end (suc n) (suc k) [] l h = refl
loops_end (suc n) (suc k) (e ∷ es) l h =
    let w = walk (length es) e.0 e.1 (e ∷ []) es in
    ap (λ ls. w.path ∷ ls) (loops_end n k w.left (let d = walk_left (length es) e.0 e.1 (e ∷ []) es in omega arith) (omega arith))
