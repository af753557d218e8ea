-- Trace: it changes nothing else.
use Rattle.std.specs.Prelude.{◌≡◌, ◌≢◌, ◌+◌, ◌∷◌}
use Rattle.laws.specs.Kit.{refl, ◌∙◌, ap, inl, inr, Bool, true, false, cond, ℕ, zero, suc, List, [], length}
use Rattle.definition.specs.Lists.{find}
use Rattle.definition.specs.Numbers.{Settings}
use Rattle.definition.specs.Counts.{one_attempt, nothing_spent, at_limit, Placement, number}
use Rattle.definition.specs.Plane.{Node, Edge}
use Rattle.definition.specs.Cells.{Tri, Mesh, owners, is_front, live_tris, front, triangles}
use Rattle.definition.specs.Trace.{words_in, traced}
use Rattle.definition.specs.Loops.{front_loops}
use Rattle.definition.specs.Attempt.{Attempt, placed, refused, ended, try_quad}
use Rattle.definition.specs.Front.{State, Progress, stuck, progressed, limited, stopped, counting, after, make_attempt, past_limit, attempt, try_edges, is_blocked, is_open, open_edges, try_loops, round, front_loop, Result, Outcome, ran, wanting, new_mesh, start, result, outcome, run_front}
use Rattle.definition.specs.Call.{Asked, Lent, Returned, Answer, finished, refusal, given_points, given_tris, given_joints, given_locks, onto, too_short, unknown_node, repeated_node, far_point, bad_grid, bad_joints, conditions, settings_within, lengths, written, untouched, after_run, call_within}
use Rattle.laws.specs.Bools.{which}
use Rattle.laws.specs.Lists.{known}
use Rattle.consequences.specs.Replays.{rebuilt_lengths, with_trace}
use Rattle.consequences.specs.Quiet.{quiet}
use Rattle.consequences.proofs.Quiet.{quiet_front_edge, quiet_front}
use Rattle.consequences.specs.Untraced.{NotTrace, quiet_s, Heard, quiet_a}
use Rattle.consequences.proofs.Traceless.{quad_so}
use Rattle.consequences.specs.NoTrace.{HeardO, HeardP, quiet_o, quiet_p, quiet_result, quiet_st, without_words}

after_so : (st : State) (e : Edge) (x : Attempt) → after (quiet_st st) e (quiet_a x) ≡ quiet_p (after st e x)
unfolding after quiet_a quiet_p quiet_st
after_so st e (placed n m q) = refl
after_so st e (refused why n m) = refl
after_so st e (ended w n m) = refl

after_heard : (st : State) (e : Edge) (x : Attempt) → HeardP (after st e x) → Heard x
unfolding after
after_heard st e (placed n m q) h = tt
after_heard st e (refused why n m) h = tt
after_heard st e (ended w n m) h = h

off : (m : Mesh) → refused Placement nothing_spent (quiet m) ≡ quiet_a (refused Placement nothing_spent m)
unfolding quiet_a
off m = refl

module _ (s : Settings) (given : ℕ) where
  make_plain : (st : State) (e : Edge) → make_attempt (quiet_s s) (quiet_st st) e ≡ after (quiet_st st) e (cond (is_front (quiet st.mesh) e) (try_quad (quiet_s s) (quiet st.mesh) e) (refused Placement nothing_spent (quiet st.mesh)))
  unfolding make_attempt quiet_st
  make_plain st e = refl

  make_so : (st : State) (e : Edge) → HeardP (make_attempt s st e) → make_attempt (quiet_s s) (quiet_st st) e ≡ quiet_p (make_attempt s st e)
  unfolding make_attempt
  make_so st e h =
      let m = st.mesh in
      let x = cond (is_front m e) (try_quad s m e) (refused Placement nothing_spent m) in
      let k : Heard x = after_heard st e x h in
      make_plain st e ∙ ap (after (quiet_st st) e) (one (is_front m e) refl k) ∙ after_so st e x
    where
      one : (b : Bool) → is_front st.mesh e ≡ b → Heard (cond b (try_quad s st.mesh e) (refused Placement nothing_spent st.mesh))
          → cond (is_front (quiet st.mesh) e) (try_quad (quiet_s s) (quiet st.mesh) e) (refused Placement nothing_spent (quiet st.mesh)) ≡ quiet_a (cond b (try_quad s st.mesh e) (refused Placement nothing_spent st.mesh))
      one true f k = rw (quiet_front_edge st.mesh e, f) (quad_so s st.mesh e k)
      one false f k = rw (quiet_front_edge st.mesh e, f) (off st.mesh)

  attempt_plain : (st : State) (e : Edge) → attempt (quiet_s s) given (quiet_st st) e ≡ cond (past_limit s given (counting st one_attempt)) (limited (quiet_st (counting (counting st one_attempt) at_limit))) (make_attempt (quiet_s s) (quiet_st (counting st one_attempt)) e)
  unfolding attempt past_limit counting quiet_st quiet_s quiet live_tris
  attempt_plain st e = refl

  attempt_so : (st : State) (e : Edge) → HeardP (attempt s given st e) → attempt (quiet_s s) given (quiet_st st) e ≡ quiet_p (attempt s given st e)
  unfolding attempt quiet_p
  attempt_so st e h = attempt_plain st e ∙ (elim (which (past_limit s given (counting st one_attempt))) [
    | inl z ↦ rw z refl
    | inr z ↦ rw z (make_so (counting st one_attempt) e (rw z at h))
  ])

  edges_case : (st : State) (e : Edge) (es : List Edge) (r : Progress) → attempt s given st e ≡ r → attempt (quiet_s s) given (quiet_st st) e ≡ quiet_p r
      → ((st' : State) → r ≡ stuck st' → try_edges (quiet_s s) given (quiet_st st') es ≡ quiet_p (try_edges s given st' es))
      → try_edges (quiet_s s) given (quiet_st st) (e ∷ es) ≡ quiet_p (try_edges s given st (e ∷ es))
  unfolding try_edges quiet_p
  edges_case st e es (stuck st') f g next = rw (f, g, try_edges) (next st' refl)
  edges_case st e es (progressed st') f g next = rw (f, g, try_edges) refl
  edges_case st e es (limited st') f g next = rw (f, g, try_edges) refl
  edges_case st e es (stopped w st') f g next = rw (f, g, try_edges) refl

  edge_heard : (st : State) (e : Edge) (es : List Edge) (r : Progress) → attempt s given st e ≡ r → HeardP (try_edges s given st (e ∷ es)) → HeardP r
  unfolding try_edges
  edge_heard st e es (stuck st') f h = tt
  edge_heard st e es (progressed st') f h = tt
  edge_heard st e es (limited st') f h = tt
  edge_heard st e es (stopped w st') f h = rw (f, try_edges) at h

  more_heard : (st st' : State) (e : Edge) (es : List Edge) → attempt s given st e ≡ stuck st' → HeardP (try_edges s given st (e ∷ es)) → HeardP (try_edges s given st' es)
  unfolding try_edges
  more_heard st st' e es f h = rw (f, try_edges) at h

  edges_so : (st : State) (es : List Edge) → HeardP (try_edges s given st es) → try_edges (quiet_s s) given (quiet_st st) es ≡ quiet_p (try_edges s given st es)
  unfolding try_edges quiet_p
  edges_so st [] h = refl
  edges_so st (e ∷ es) h =
      edges_case st e es (attempt s given st e) refl (attempt_so st e (edge_heard st e es (attempt s given st e) refl h)) (λ st' f. edges_so st' es (more_heard st st' e es f h))

  open_so : (st : State) (l : List Edge) → open_edges (quiet_st st) l ≡ open_edges st l
  unfolding open_edges is_open is_blocked is_front quiet_st quiet owners
  open_so st l = refl

  loops_case : (st : State) (l : List Edge) (ls : List (List Edge)) (r : Progress) → try_edges s given st (open_edges st l) ≡ r → try_edges (quiet_s s) given (quiet_st st) (open_edges (quiet_st st) l) ≡ quiet_p r
      → ((st' : State) → r ≡ stuck st' → try_loops (quiet_s s) given (quiet_st st') ls ≡ quiet_p (try_loops s given st' ls))
      → try_loops (quiet_s s) given (quiet_st st) (l ∷ ls) ≡ quiet_p (try_loops s given st (l ∷ ls))
  unfolding try_loops quiet_p
  loops_case st l ls (stuck st') f g next = rw (f, g, try_loops) (next st' refl)
  loops_case st l ls (progressed st') f g next = rw (f, g, try_loops) refl
  loops_case st l ls (limited st') f g next = rw (f, g, try_loops) refl
  loops_case st l ls (stopped w st') f g next = rw (f, g, try_loops) refl

  loop_heard : (st : State) (l : List Edge) (ls : List (List Edge)) (r : Progress) → try_edges s given st (open_edges st l) ≡ r → HeardP (try_loops s given st (l ∷ ls)) → HeardP r
  unfolding try_loops
  loop_heard st l ls (stuck st') f h = tt
  loop_heard st l ls (progressed st') f h = tt
  loop_heard st l ls (limited st') f h = tt
  loop_heard st l ls (stopped w st') f h = rw (f, try_loops) at h

  loops_heard : (st st' : State) (l : List Edge) (ls : List (List Edge)) → try_edges s given st (open_edges st l) ≡ stuck st' → HeardP (try_loops s given st (l ∷ ls)) → HeardP (try_loops s given st' ls)
  unfolding try_loops
  loops_heard st st' l ls f h = rw (f, try_loops) at h

  loops_so : (st : State) (ls : List (List Edge)) → HeardP (try_loops s given st ls) → try_loops (quiet_s s) given (quiet_st st) ls ≡ quiet_p (try_loops s given st ls)
  unfolding try_loops quiet_p
  loops_so st [] h = refl
  loops_so st (l ∷ ls) h =
      let r = try_edges s given st (open_edges st l) in
      loops_case st l ls r refl (ap (try_edges (quiet_s s) given (quiet_st st)) (open_so st l) ∙ edges_so st (open_edges st l) (loop_heard st l ls r refl h)) (λ st' f. loops_so st' ls (loops_heard st st' l ls f h))

  round_so : (st : State) (es : List Edge) → HeardP (round s given st es) → round (quiet_s s) given (quiet_st st) es ≡ quiet_p (round s given st es)
  unfolding round quiet_p counting quiet_st quiet
  round_so st [] h = refl
  round_so st (e ∷ es) h = loops_so st (front_loops st.mesh.points (e ∷ es)) h

  rounds_case : (n : ℕ) (st : State) (r : Progress) → round s given st (front st.mesh) ≡ r → round (quiet_s s) given (quiet_st st) (front (quiet_st st).mesh) ≡ quiet_p r
      → ((st' : State) → r ≡ progressed st' → front_loop n (quiet_s s) given (quiet_st st') ≡ quiet_p (front_loop n s given st'))
      → front_loop (suc n) (quiet_s s) given (quiet_st st) ≡ quiet_p (front_loop (suc n) s given st)
  unfolding front_loop quiet_p
  rounds_case n st (stuck st') f g next = rw (f, g, front_loop) refl
  rounds_case n st (progressed st') f g next = rw (f, g, front_loop) (next st' refl)
  rounds_case n st (limited st') f g next = rw (f, g, front_loop) refl
  rounds_case n st (stopped w st') f g next = rw (f, g, front_loop) refl

  round_heard : (n : ℕ) (st : State) (r : Progress) → round s given st (front st.mesh) ≡ r → HeardP (front_loop (suc n) s given st) → HeardP r
  unfolding front_loop
  round_heard n st (stuck st') f h = tt
  round_heard n st (progressed st') f h = tt
  round_heard n st (limited st') f h = tt
  round_heard n st (stopped w st') f h = rw (f, front_loop) at h

  rounds_heard : (n : ℕ) (st st' : State) → round s given st (front st.mesh) ≡ progressed st' → HeardP (front_loop (suc n) s given st) → HeardP (front_loop n s given st')
  unfolding front_loop
  rounds_heard n st st' f h = rw (f, front_loop) at h

  front_so : (st : State) → front (quiet_st st).mesh ≡ front st.mesh
  unfolding quiet_st
  front_so st = quiet_front st.mesh

  -- the rounds without a trace
  pub rounds_so : (n : ℕ) (st : State) → HeardP (front_loop n s given st) → front_loop n (quiet_s s) given (quiet_st st) ≡ quiet_p (front_loop n s given st)
  unfolding front_loop quiet_p
  rounds_so zero st h = refl
  rounds_so (suc n) st h =
      let r = round s given st (front st.mesh) in
      rounds_case n st r refl (ap (round (quiet_s s) given (quiet_st st)) (front_so st) ∙ round_so st (front st.mesh) (round_heard n st r refl h)) (λ st' f. rounds_so n st' (rounds_heard n st st' f h))

outcome_so : (p : Progress) → outcome (quiet_p p) ≡ quiet_o (outcome p)
unfolding outcome quiet_p quiet_o quiet_result quiet_st result traced words_in quiet triangles
outcome_so (stuck st) = refl
outcome_so (progressed st) = refl
outcome_so (limited st) = refl
outcome_so (stopped w st) = refl

outcome_heard : (p : Progress) → HeardO (outcome p) → HeardP p
unfolding outcome
outcome_heard (stuck st) h = tt
outcome_heard (progressed st) h = tt
outcome_heard (limited st) h = tt
outcome_heard (stopped w st) h = h

-- A run that does not end for want of trace is the run without one.
pub run_so : (s : Settings) (lk : Edge → Bool) (ts : List Tri) (ps : List Node) → HeardO (run_front s lk ts ps) → run_front (quiet_s s) lk ts ps ≡ quiet_o (run_front s lk ts ps)
unfolding run_front start new_mesh quiet_st quiet quiet_s
run_so s lk ts ps h =
    let p = front_loop (s.attempts + 2) s (length ts) (start s lk ts ps) in
    ap outcome (rounds_so s (length ts) (s.attempts + 2) (start s lk ts ps) (outcome_heard p h)) ∙ outcome_so p

module _ (most : ℕ) (a : Asked) (l : Lent) where
  -- the memory with no trace lent
  abbrev bare_lent : Lent
  bare_lent = with_trace l []

  conditions_same : conditions a bare_lent ≡ conditions a l
  unfolding conditions too_short unknown_node repeated_node far_point bad_grid bad_joints given_points given_tris given_joints with_trace
  conditions_same = refl

  run_same : run_front (settings_within most (length bare_lent.trace) a) (given_locks a bare_lent) (given_tris a bare_lent) (given_points a bare_lent) ≡ run_front (quiet_s (settings_within most (length l.trace) a)) (given_locks a l) (given_tris a l) (given_points a l)
  unfolding settings_within quiet_s given_locks given_points given_tris given_joints with_trace
  run_same = refl

  -- what a call without a trace returns, from what the call returned
  abbrev aside : Returned → Returned
  aside r = record { answer = without_words r.answer; lent = with_trace r.lent [] }

  after_same : (o : Outcome) → after_run bare_lent (quiet_o o) ≡ aside (after_run l o)
  unfolding after_run quiet_o quiet_result written without_words rebuilt_lengths lengths with_trace onto
  after_same (ran r) = refl
  after_same (wanting w ps qs ws) = refl

  heard_by : (o : Outcome) → (after_run l o).answer ≢ refusal 11 → HeardO o
  unfolding after_run number
  heard_by (ran r) h = tt
  heard_by (wanting w ps qs ws) h = λ e. h (ap (λ v. refusal (number v)) e)

  -- A trace changes nothing else: unless it ends the run with 11, the call without one answers the same but for the
  -- words,
  -- and leaves the same in every other slice.
  pub trace_aside : (call_within most a l).answer ≢ refusal 11 → call_within most a bare_lent ≡ aside (call_within most a l)
  unfolding call_within untouched without_words with_trace
  trace_aside h = elim (known (find (λ c. c.1) (conditions a l))) [
    | inl f ↦
        let o = run_front (settings_within most (length l.trace) a) (given_locks a l) (given_tris a l) (given_points a l) in
        let heard : HeardO o = heard_by o (rw (f, call_within) at h) in
        rw (conditions_same, f, call_within) (ap (after_run bare_lent) (run_same ∙ run_so (settings_within most (length l.trace) a) (given_locks a l) (given_tris a l) (given_points a l) heard) ∙ after_same o)
    | inr f ↦ rw (conditions_same, f.1, call_within) refl
  ]
