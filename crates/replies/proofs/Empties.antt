-- The front is found empty at most once in a run.
use mathlib.Core.Path.{◌≡◌, refl, sym, subst}
use mathlib.Core.Bool.{Bool}
use mathlib.Core.List.{List, [], ◌∷◌}
use Prim.{absurd, tt}
use Prim.Native.Nat.{ℕ, zero, suc, ◌+◌, ◌≤◌}
use native.Mathlib.Omega.{arith}
use lib.ListN.{length}
use Rattle.definition.specs.Numbers.{Settings}
use Rattle.definition.specs.Counts.{Counts, tally, ◌⊞◌, no_counts, emptied, one_attempt, Spent, spending, at_limit, Refusal, Placement, Shape, Recovery, Region, OddRegion, refused_by}
use Rattle.definition.specs.Plane.{Node, Edge}
use Rattle.definition.specs.Cells.{Tri, front}
use Rattle.definition.specs.Loops.{front_loops}
use Rattle.definition.specs.Attempt.{Attempt, placed, refused, ended}
use Rattle.definition.specs.Front.{State, Progress, stuck, progressed, limited, stopped, counting, after, make_attempt, past_limit, attempt, try_edges, open_edges, try_loops, round, front_loop, Result, ran, start, result, outcome, run_front}
use Rattle.laws.specs.Bools.{cond_ok}

-- how often the front was found empty
abbrev found : State → ℕ
found st = st.counts.front_empty

-- the front was found empty so often at most where the progress ends the run, and not at all where it goes on
abbrev Found : ℕ → Progress → Type 0
Found k (stuck st) = found st ≤ k
Found k (progressed st) = found st ≤ 0
Found k (limited st) = found st ≤ 0
Found k (stopped w st) = Unit {0}

refusal_found : (c : Counts) (n : Spent) (why : Refusal) → (c ⊞ spending n ⊞ refused_by why).front_empty ≡ c.front_empty
unfolding ◌⊞◌ tally spending refused_by
refusal_found c n Placement = omega arith
refusal_found c n Shape = omega arith
refusal_found c n Recovery = omega arith
refusal_found c n Region = omega arith
refusal_found c n OddRegion = omega arith

insertion_found : (c : Counts) (n : Spent) → (c ⊞ spending n).front_empty ≡ c.front_empty
unfolding ◌⊞◌ tally spending
insertion_found c n = omega arith

after_found : (st : State) (e : Edge) (a : Attempt) → found st ≤ 0 → Found 0 (after st e a)
unfolding after
after_found st e (placed n m q) h = omega (arith, insertion_found st.counts n)
after_found st e (refused why n m) h = omega (arith, refusal_found st.counts n why)
after_found st e (ended w n m) h = tt

module _ (s : Settings) (given : ℕ) where
  attempt_found : (st : State) (e : Edge) → found st ≤ 0 → Found 0 (attempt s given st e)
  unfolding attempt make_attempt counting ◌⊞◌ tally one_attempt at_limit
  attempt_found st e h =
      let counted = counting st one_attempt in
      cond_ok (Found 0) (past_limit s given counted) _ _ (λ z. omega arith) (λ z. after_found counted e _ (omega arith))

  try_edges_case : (st : State) (e : Edge) (es : List Edge) (r : Progress) → attempt s given st e ≡ r → Found 0 r
      → ((st' : State) → found st' ≤ 0 → Found 0 (try_edges s given st' es)) → Found 0 (try_edges s given st (e ∷ es))
  unfolding try_edges
  try_edges_case st e es (stuck st') f g next = rw (f, try_edges) (next st' g)
  try_edges_case st e es (progressed st') f g next = rw (f, try_edges) g
  try_edges_case st e es (limited st') f g next = rw (f, try_edges) g
  try_edges_case st e es (stopped w st') f g next = rw (f, try_edges) g

  try_edges_found : (st : State) (es : List Edge) → found st ≤ 0 → Found 0 (try_edges s given st es)
  unfolding try_edges
  try_edges_found st [] h = h
  try_edges_found st (e ∷ es) h = try_edges_case st e es (attempt s given st e) refl (attempt_found st e h) (λ st' h'. try_edges_found st' es h')

  try_loops_case : (st : State) (l : List Edge) (ls : List (List Edge)) (r : Progress) → try_edges s given st (open_edges st l) ≡ r → Found 0 r
      → ((st' : State) → found st' ≤ 0 → Found 0 (try_loops s given st' ls)) → Found 0 (try_loops s given st (l ∷ ls))
  unfolding try_loops
  try_loops_case st l ls (stuck st') f g next = rw (f, try_loops) (next st' g)
  try_loops_case st l ls (progressed st') f g next = rw (f, try_loops) g
  try_loops_case st l ls (limited st') f g next = rw (f, try_loops) g
  try_loops_case st l ls (stopped w st') f g next = rw (f, try_loops) g

  try_loops_found : (st : State) (ls : List (List Edge)) → found st ≤ 0 → Found 0 (try_loops s given st ls)
  unfolding try_loops
  try_loops_found st [] h = h
  try_loops_found st (l ∷ ls) h = try_loops_case st l ls (try_edges s given st (open_edges st l)) refl (try_edges_found st (open_edges st l) h) (λ st' h'. try_loops_found st' ls h')

  once : (p : Progress) → Found 0 p → Found 1 p
  once (stuck st) h = omega arith
  once (progressed st) h = h
  once (limited st) h = h
  once (stopped w st) h = h

  round_found : (st : State) (es : List Edge) → found st ≤ 0 → Found 1 (round s given st es)
  unfolding round counting ◌⊞◌ tally emptied
  round_found st [] h = omega arith
  round_found st (e ∷ es) h = once (try_loops s given st (front_loops st.mesh.points (e ∷ es))) (try_loops_found st (front_loops st.mesh.points (e ∷ es)) h)

  front_loop_case : (n : ℕ) (st : State) (r : Progress) → round s given st (front st.mesh) ≡ r → Found 1 r
      → ((st' : State) → found st' ≤ 0 → Found 1 (front_loop n s given st')) → Found 1 (front_loop (suc n) s given st)
  unfolding front_loop
  front_loop_case n st (stuck st') f g next = rw (f, front_loop) g
  front_loop_case n st (progressed st') f g next = rw (f, front_loop) (next st' g)
  front_loop_case n st (limited st') f g next = rw (f, front_loop) (omega arith)
  front_loop_case n st (stopped w st') f g next = rw (f, front_loop) g

  front_loop_found : (n : ℕ) (st : State) → found st ≤ 0 → Found 1 (front_loop n s given st)
  unfolding front_loop
  front_loop_found zero st h = omega arith
  front_loop_found (suc n) st h = front_loop_case n st (round s given st (front st.mesh)) refl (round_found st (front st.mesh) h) (λ st' h'. front_loop_found n st' h')

outcome_found : (r : Result) (p : Progress) → Found 1 p → outcome p ≡ ran r → r.counts.front_empty ≤ 1
unfolding outcome result
outcome_found r (stuck st) h e = let f : r ≡ result st = cc in subst (λ z. z.counts.front_empty ≤ 1) (sym f) h
outcome_found r (progressed st) h e = let f : r ≡ result st = cc in let g : (result st).counts.front_empty ≤ 1 = omega arith in subst (λ z. z.counts.front_empty ≤ 1) (sym f) g
outcome_found r (limited st) h e = let f : r ≡ result st = cc in let g : (result st).counts.front_empty ≤ 1 = omega arith in subst (λ z. z.counts.front_empty ≤ 1) (sym f) g
outcome_found r (stopped w st) h e = absurd (let z : ◌≡◌ {A = ℕ} 0 1 = cc in omega arith)

-- a finished run has found its front empty at most once
pub front_empty_bound : (s : Settings) (lk : Edge → Bool) (ts : List Tri) (ps : List Node) (r : Result) → run_front s lk ts ps ≡ ran r → r.counts.front_empty ≤ 1
unfolding run_front start no_counts tally
front_empty_bound s lk ts ps r e = outcome_found r _ (front_loop_found s (length ts) (s.attempts + 2) (start s lk ts ps) (omega arith)) e
