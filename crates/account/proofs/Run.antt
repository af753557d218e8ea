-- Whatever the ends of an attempt keep, the run keeps. That every mesh is valid is part of the walk.
use Rattle.std.specs.Prelude.{◌≡◌, ◌+◌, ◌<◌, ◌∷◌, ◌++◌}
use Rattle.laws.specs.Kit.{refl, sym, subst, inl, inr, Bool, true, some, ℕ, zero, suc, arith, List, [], length}
use Rattle.definition.specs.Numbers.{Settings}
use Rattle.definition.specs.Counts.{◌⊞◌, emptied, one_attempt, Spent, nothing_spent, spending, at_limit, Refusal, Placement, refused_by, Want}
use Rattle.definition.specs.Plane.{Node, Edge}
use Rattle.definition.specs.Cells.{Tri, Quad, Live, Mesh, all_edges, is_front, front}
use Rattle.definition.specs.Flips.{flip}
use Rattle.definition.specs.Insertion.{split_triangle}
use Rattle.definition.specs.Loops.{front_loops}
use Rattle.definition.specs.Attempt.{Attempt, placed, refused, ended, try_quad}
use Rattle.definition.specs.Front.{State, Progress, stuck, progressed, limited, stopped, counting, freed, after, make_attempt, past_limit, attempt, try_edges, open_edges, try_loops, round, front_loop, Result, ran, wanting, start, result, outcome, run_front}
use Rattle.laws.specs.Lists.{In}
use Rattle.laws.specs.Bools.{cond_ok}
use Rattle.account.proofs.Flips.{flip_made}
use Rattle.account.specs.Valid.{Valid}
use Rattle.account.proofs.FlipKeeps.{flip_kept}
use Rattle.account.proofs.SplitKeeps.{split_kept}
use Rattle.account.proofs.QuadKeeps.{quad_valid}
use Rattle.account.specs.Steps.{Splitting, Made, AttemptOk}
use Rattle.account.proofs.Steps.{try_quad_ok}
use Rattle.account.proofs.Fronts.{loops_in, open_in, front_in}
use Rattle.account.specs.Run.{OnFront, Ordered, ProgressOk, Rule, Sound}

-- the loops of a front have its order
pub loops_ordered : (ps : List Node) (es l : List Edge) → Ordered es → In l (front_loops ps es) → Ordered l
loops_ordered ps es l o i f j = o f (loops_in ps es l f i j)

-- the candidates of a loop are on the front when its turn comes
pub open_front : (st : State) (l : List Edge) → Ordered l → (e : Edge) → In e (open_edges st l) → OnFront st.mesh e
open_front st l o e i = let r = open_in st l e i in record { order = o e r.0; front = r.1 }

module _ (s : Settings) (Q : State → List Edge → Type 0) (P : State → List Edge → ℕ → Mesh → Type 0) (R : State → Type 0) (rule : Rule s Q P R) where
  made_valid : (P' : ℕ → Mesh → Type 0) (n : ℕ) (m : Mesh) (q : Quad) → Made s (λ n m. Valid m × P' n m) n m q → Valid m
  made_valid P' n m q w = subst (λ z. Valid z) (sym w.after) (quad_valid w.mesh q w.cells w.before.0 w.trial.good)

  after_ok : (st : State) (e : Edge) (es : List Edge) (a : Attempt) → Q st (e ∷ es) → AttemptOk s (λ n m. Valid m × P st (e ∷ es) n m) a
      → ProgressOk Q R es (after (counting st one_attempt) e a)
  unfolding after counting
  after_ok st e es (placed n m q) h ok = (made_valid (P st (e ∷ es)) n.insertions m q ok, rule.places st e es n m q h ok)
  after_ok st e es (refused why n m) h ok = (ok.0, rule.refuses st e es why n m h ok.0 ok.1)
  after_ok st e es (ended w n m) h ok = (ok.0, rule.ends st e es n m h ok.0 ok.1)

  -- one attempt
  pub attempt_ok : (given : ℕ) (st : State) (e : Edge) (es : List Edge) → e.0 < e.1 → Sound Q st (e ∷ es) → ProgressOk Q R es (attempt s given st e)
  unfolding attempt make_attempt counting nothing_spent
  attempt_ok given st e es l h =
      let off : Attempt = refused Placement nothing_spent st.mesh in
      let first = rule.begins st (e ∷ es) h.1 in
      cond_ok (ProgressOk Q R es) (past_limit s given (counting st one_attempt)) _ _ (λ z. (h.0, rule.limits st (e ∷ es) h.1))
      (λ z. after_ok st e es _ h.1 (cond_ok (AttemptOk s (λ n m. Valid m × P st (e ∷ es) n m)) (is_front st.mesh e) (try_quad s st.mesh e) off
      (λ y. try_quad_ok s st.mesh (λ n m. Valid m × P st (e ∷ es) n m)
      (λ n m m' f p i w. ((flip_kept m f m' p.0 i (flip_made m f m' w)).valid, rule.flips st (e ∷ es) n m m' f p.0 p.1 i w))
      (λ n m x t p k w. ((split_kept m x t p k.0 w.at w.cell).valid, rule.splits st (e ∷ es) n m x t p k.0 k.1 w))
      e (λ f. omega arith) h.0 (h.0, first))
      (λ y. (h.0, first))))

  try_edges_case : (given : ℕ) (st : State) (e : Edge) (es : List Edge) (r : Progress) → attempt s given st e ≡ r → ProgressOk Q R es r
      → ((st' : State) → Sound Q st' es → ProgressOk Q R [] (try_edges s given st' es)) → ProgressOk Q R [] (try_edges s given st (e ∷ es))
  unfolding try_edges
  try_edges_case given st e es (stuck st') f ok next = rw (f, try_edges) (next st' ok)
  try_edges_case given st e es (progressed st') f ok next = rw (f, try_edges) ok
  try_edges_case given st e es (limited st') f ok next = rw (f, try_edges) ok
  try_edges_case given st e es (stopped w st') f ok next = rw (f, try_edges) ok

  -- the candidates of a loop
  pub try_edges_ok : (given : ℕ) (st : State) (es : List Edge) → Ordered es → Sound Q st es → ProgressOk Q R [] (try_edges s given st es)
  unfolding try_edges
  try_edges_ok given st [] o h = h
  try_edges_ok given st (e ∷ es) o h =
      try_edges_case given st e es (attempt s given st e) refl (attempt_ok given st e es (o e (inl refl)) h) (λ st' h'. try_edges_ok given st' es (λ f i. o f (inr i)) h')

  try_loops_case : (given : ℕ) (st : State) (l : List Edge) (ls : List (List Edge)) (r : Progress) → try_edges s given st (open_edges st l) ≡ r → ProgressOk Q R [] r
      → ((st' : State) → Sound Q st' [] → ProgressOk Q R [] (try_loops s given st' ls)) → ProgressOk Q R [] (try_loops s given st (l ∷ ls))
  unfolding try_loops
  try_loops_case given st l ls (stuck st') f ok next = rw (f, try_loops) (next st' ok)
  try_loops_case given st l ls (progressed st') f ok next = rw (f, try_loops) ok
  try_loops_case given st l ls (limited st') f ok next = rw (f, try_loops) ok
  try_loops_case given st l ls (stopped w st') f ok next = rw (f, try_loops) ok

  -- the loops
  pub try_loops_ok : (given : ℕ) (st : State) (ls : List (List Edge)) → ((l : List Edge) → In l ls → Ordered l) → Sound Q st []
      → ProgressOk Q R [] (try_loops s given st ls)
  unfolding try_loops
  try_loops_ok given st [] o h = h
  try_loops_ok given st (l ∷ ls) o h =
      let opened = open_front st l (o l (inl refl)) in
      try_loops_case given st l ls (try_edges s given st (open_edges st l)) refl
      (try_edges_ok given st (open_edges st l) (λ e i. (opened e i).order) (h.0, rule.opens st (open_edges st l) h.0 h.1 opened))
      (λ st' h'. try_loops_ok given st' ls (λ k i. o k (inr i)) h')

  -- a round
  pub round_ok : (given : ℕ) (st : State) (es : List Edge) → Ordered es → Sound Q st [] → ProgressOk Q R [] (round s given st es)
  unfolding round counting
  round_ok given st [] o h = (h.0, rule.empties st h.1)
  round_ok given st (e ∷ es) o h = try_loops_ok given st (front_loops st.mesh.points (e ∷ es)) (λ l. loops_ordered st.mesh.points (e ∷ es) l o) h

  front_loop_case : (n given : ℕ) (st : State) (r : Progress) → round s given st (front st.mesh) ≡ r → ProgressOk Q R [] r
      → ((st' : State) → Sound Q st' [] → ProgressOk Q R [] (front_loop n s given st')) → ProgressOk Q R [] (front_loop (suc n) s given st)
  unfolding front_loop
  front_loop_case n given st (stuck st') f ok next = rw (f, front_loop) ok
  front_loop_case n given st (progressed st') f ok next = rw (f, front_loop) (next st' ok)
  front_loop_case n given st (limited st') f ok next = rw (f, front_loop) ok
  front_loop_case n given st (stopped w st') f ok next = rw (f, front_loop) ok

  -- the rounds
  pub front_loop_ok : (n given : ℕ) (st : State) → Sound Q st [] → ProgressOk Q R [] (front_loop n s given st)
  unfolding front_loop
  front_loop_ok zero given st h = h
  front_loop_ok (suc n) given st h =
      front_loop_case n given st (round s given st (front st.mesh)) refl (round_ok given st (front st.mesh) (λ e i. (front_in st.mesh e h.0 i).0) h)
      (λ st' h'. front_loop_ok n given st' h')

  outcome_ok : (r : Result) (p : Progress) → ProgressOk Q R [] p → outcome p ≡ ran r → (st : State) × Sound Q st [] × (r ≡ result st)
  unfolding outcome
  outcome_ok r (stuck st) ok e = (st, ok, cc)
  outcome_ok r (progressed st) ok e = (st, ok, cc)
  outcome_ok r (limited st) ok e = (st, ok, cc)
  outcome_ok r (stopped w st) ok e = absurd (let z : ◌≡◌ {A = ℕ} 0 1 = cc in omega arith)

  -- the result of a run that finished is that of a state with Q
  pub run_ok : (lk : Edge → Bool) (ts : List Tri) (ps : List Node) (r : Result) → Sound Q (start s lk ts ps) [] → run_front s lk ts ps ≡ ran r → (st : State) × Sound Q st [] × (r ≡ result st)
  unfolding run_front
  run_ok lk ts ps r h e =
      let n = s.attempts + 2 in
      outcome_ok r (front_loop n s (length ts) (start s lk ts ps)) (front_loop_ok n (length ts) (start s lk ts ps) h) e

  stopped_ok : (w : Want) (ps : List Node) (qs : List Quad) (ws : List ℕ) (p : Progress) → ProgressOk Q R [] p → outcome p ≡ wanting w ps qs ws
      → (st : State) × Valid st.mesh × R st × (ps ≡ st.mesh.points) × (qs ≡ st.quads)
  unfolding outcome
  stopped_ok w ps qs ws (stuck st) ok e = absurd (let z : ◌≡◌ {A = ℕ} 0 1 = cc in omega arith)
  stopped_ok w ps qs ws (progressed st) ok e = absurd (let z : ◌≡◌ {A = ℕ} 0 1 = cc in omega arith)
  stopped_ok w ps qs ws (limited st) ok e = absurd (let z : ◌≡◌ {A = ℕ} 0 1 = cc in omega arith)
  stopped_ok w ps qs ws (stopped v st) ok e = (st, ok.0, ok.1, cc, cc)

  -- a run that ended for want of lent memory ended in a state with R
  pub run_stopped : (lk : Edge → Bool) (ts : List Tri) (ps : List Node) (w : Want) (qs : List Node) (us : List Quad) (ws : List ℕ) → Sound Q (start s lk ts ps) [] → run_front s lk ts ps ≡ wanting w qs us ws
      → (st : State) × Valid st.mesh × R st × (qs ≡ st.mesh.points) × (us ≡ st.quads)
  unfolding run_front
  run_stopped lk ts ps w qs us ws h e =
      let n = s.attempts + 2 in
      stopped_ok w qs us ws (front_loop n s (length ts) (start s lk ts ps)) (front_loop_ok n (length ts) (start s lk ts ps) h) e
