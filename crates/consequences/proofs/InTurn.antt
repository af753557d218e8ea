-- Trials over a run: its attempts one after the other, each made on the mesh that the one before left.
use Rattle.std.specs.Prelude.{◌≡◌, ◌⊎◌, ◌+◌, ◌<◌, ◌∷◌, ◌++◌}
use Rattle.laws.specs.Kit.{refl, sym, ◌∙◌, ap, subst, inl, inr, Bool, true, false, cond, ℕ, arith, List, [], map, append-nil, length, length-append}
use Rattle.definition.specs.Lists.{flat_map}
use Rattle.definition.specs.Numbers.{Settings}
use Rattle.definition.specs.Counts.{Counts, tally, ◌⊞◌, no_counts, emptied, one_attempt, Spent, nothing_spent, spending, at_limit, Refusal, Placement, Shape, Recovery, Region, OddRegion, refused_by, Want}
use Rattle.definition.specs.Plane.{Node, Edge}
use Rattle.definition.specs.Cells.{Tri, Quad, Mesh, is_front, triangles}
use Rattle.definition.specs.Attempt.{Attempt, placed, refused, ended, try_quad}
use Rattle.definition.specs.Front.{State, Progress, stuck, progressed, limited, stopped, counting, after, make_attempt, past_limit, attempt, front_loop, Result, ran, wanting, new_mesh, start, result, outcome, run_front}
use Rattle.definition.specs.Call.{Asked, Lent, Lengths, finished, given_points, given_tris, given_locks, first_points, first_quads, first_tris, settings_within, call_within}
use Rattle.definition.specs.Account.{sum}
use Rattle.laws.specs.Bools.{which, cond_ok}
use Rattle.laws.specs.Lists.{flat_map_append}
use Rattle.account.specs.Valid.{Valid}
use Rattle.account.specs.Start.{Proper}
use Rattle.account.proofs.Start.{start_valid}
use Rattle.account.proofs.Weights.{total_append}
use Rattle.account.specs.Pairs.{pairs_of}
use Rattle.account.specs.Trials.{TrialsExact}
use Rattle.account.proofs.Trials.{trials_exact}
use Rattle.consequences.specs.ValidWalks.{Leads, Closes}
use Rattle.consequences.proofs.ValidWalks.{Steps, rounds_close}
use Rattle.account.proofs.Slices.{read_points, read_quads, read_triangles}
use Rattle.account.proofs.Finished.{behind, given_proper}
use Rattle.consequences.specs.InTurn.{in_turn, left_by, left_in_turn, made_on, quad_by, trials_by, ExactOn, AllExact, InTurn}

-- ---- one attempt more
left_snoc : (s : Settings) (m : Mesh) (es : List Edge) (e : Edge) → left_in_turn s m (es ++ (e ∷ [])) ≡ left_by (made_on s (left_in_turn s m es) e)
unfolding left_in_turn
left_snoc s m [] e = refl
left_snoc s m (f ∷ es) e = left_snoc s (left_by (made_on s m f)) es e

turn_snoc : (s : Settings) (m : Mesh) (es : List Edge) (e : Edge) → in_turn s m (es ++ (e ∷ [])) ≡ in_turn s m es ++ (made_on s (left_in_turn s m es) e ∷ [])
unfolding in_turn left_in_turn
turn_snoc s m [] e = refl
turn_snoc s m (f ∷ es) e = ap (λ l. made_on s m f ∷ l) (turn_snoc s (left_by (made_on s m f)) es e)

exact_snoc : (s : Settings) (m : Mesh) (es : List Edge) (e : Edge) → AllExact s m es → ExactOn s (left_in_turn s m es) e → AllExact s m (es ++ (e ∷ []))
unfolding left_in_turn
exact_snoc s m [] e h k = (k, tt)
exact_snoc s m (f ∷ es) e h k = (h.0, exact_snoc s (left_by (made_on s m f)) es e h.1 k)

module _ (s : Settings) (m : Mesh) where
  -- the counts grow by one attempt and its trials, the quads by its quad
  one_more : (c d : Counts) (end : Mesh) (qs : List Quad) (e : Edge) → InTurn s m c end qs → ExactOn s end e
      → d.attempts ≡ c.attempts + 1 → d.limit ≡ c.limit → d.trials ≡ c.trials + trials_by (made_on s end e)
      → InTurn s m d (left_by (made_on s end e)) (qs ++ quad_by (made_on s end e))
  unfolding sum flat_map
  one_more c d end qs e h k a b t =
      let x = made_on s end e in
      let same : made_on s (left_in_turn s m h.on) e ≡ x = ap (λ z. made_on s z e) h.mesh in
      let turn : in_turn s m (h.on ++ (e ∷ [])) ≡ in_turn s m h.on ++ (x ∷ []) = turn_snoc s m h.on e ∙ ap (λ z. in_turn s m h.on ++ (z ∷ [])) same in
      record {
        on = h.on ++ (e ∷ []);
        number = omega (arith, h.number, length-append h.on (e ∷ []), a, b);
        exact = exact_snoc s m h.on e h.exact (subst (λ z. ExactOn s z e) (sym h.mesh) k);
        trials = omega (arith, ap (λ l. sum (map trials_by l)) turn, total_append trials_by (in_turn s m h.on) (x ∷ []), h.trials, t);
        mesh = left_snoc s m h.on e ∙ ap left_by same;
        quads_are = ap (flat_map quad_by) turn ∙ flat_map_append quad_by (in_turn s m h.on) (x ∷ []) ∙ ap (λ z. z ++ (quad_by x ++ [])) h.quads_are ∙ ap (λ z. qs ++ z) (append-nil (quad_by x));
      }

  -- nothing tried, and nothing counted but a limit or an empty front
  no_more : (c d : Counts) (end : Mesh) (qs : List Quad) → InTurn s m c end qs → d.attempts + c.limit ≡ c.attempts + d.limit → d.trials ≡ c.trials → InTurn s m d end qs
  no_more c d end qs h a t = record { on = h.on; number = omega (arith, h.number, a); exact = h.exact; trials = h.trials ∙ sym t; mesh = h.mesh; quads_are = h.quads_are }

-- ---- the walk
-- what an attempt adds to the counts of which it is counted already
added_refused : (c : Counts) (n : Spent) (why : Refusal)
    → ((c ⊞ one_attempt ⊞ spending n ⊞ refused_by why).attempts ≡ c.attempts + 1) × ((c ⊞ one_attempt ⊞ spending n ⊞ refused_by why).limit ≡ c.limit) × ((c ⊞ one_attempt ⊞ spending n ⊞ refused_by why).trials ≡ c.trials + n.trials)
unfolding ◌⊞◌ tally one_attempt spending refused_by
added_refused c n Placement = (omega arith, omega arith, omega arith)
added_refused c n Shape = (omega arith, omega arith, omega arith)
added_refused c n Recovery = (omega arith, omega arith, omega arith)
added_refused c n Region = (omega arith, omega arith, omega arith)
added_refused c n OddRegion = (omega arith, omega arith, omega arith)

added_spent : (c : Counts) (n : Spent) → ((c ⊞ one_attempt ⊞ spending n).attempts ≡ c.attempts + 1) × ((c ⊞ one_attempt ⊞ spending n).limit ≡ c.limit) × ((c ⊞ one_attempt ⊞ spending n).trials ≡ c.trials + n.trials)
unfolding ◌⊞◌ tally one_attempt spending
added_spent c n = (omega arith, omega arith, omega arith)

module _ (s : Settings) (given : ℕ) (m₀ : Mesh) where
  -- between attempts, and where a limit or want of lent memory ended the run
  abbrev S : State → Type 0
  S st = InTurn s m₀ st.counts st.mesh st.quads

  -- the attempt of an edge on a valid mesh is exact
  exact_on : (m : Mesh) (e : Edge) → Valid m → e.0 < e.1 → ExactOn s m e
  unfolding made_on trials_by nothing_spent
  exact_on m e ok o = elim (which (is_front m e)) [
    | inl f ↦ inl (f, rw f (trials_exact s m e ok o f))
    | inr f ↦ inr (f, rw f refl)
  ]

  after_goes : (st : State) (e : Edge) (x : Attempt) → made_on s st.mesh e ≡ x → ExactOn s st.mesh e → InTurn s m₀ st.counts st.mesh st.quads
      → Leads S S (λ w. S) (after (counting st one_attempt) e x)
  unfolding after counting left_by trials_by quad_by
  after_goes st e (placed n m q) f k h =
      let a = added_spent st.counts n in
      rw f at (one_more s m₀ st.counts (st.counts ⊞ one_attempt ⊞ spending n) st.mesh st.quads e h k a.0 a.1 (rw f a.2))
  after_goes st e (refused why n m) f k h =
      let a = added_refused st.counts n why in
      rw (f, append-nil st.quads) at (one_more s m₀ st.counts (st.counts ⊞ one_attempt ⊞ spending n ⊞ refused_by why) st.mesh st.quads e h k a.0 a.1 (rw f a.2))
  after_goes st e (ended w n m) f k h =
      let a = added_spent st.counts n in
      rw (f, append-nil st.quads) at (one_more s m₀ st.counts (st.counts ⊞ one_attempt ⊞ spending n) st.mesh st.quads e h k a.0 a.1 (rw f a.2))

  attempt_turns : (st : State) (e : Edge) → e.0 < e.1 → Valid st.mesh → S st → Leads S S (λ w. S) (attempt s given st e)
  unfolding attempt make_attempt counting made_on ◌⊞◌ tally one_attempt at_limit
  attempt_turns st e o ok h =
      cond_ok (Leads S S (λ w. S)) (past_limit s given (counting st one_attempt)) _ _
      (λ z. no_more s m₀ st.counts (st.counts ⊞ one_attempt ⊞ at_limit) st.mesh st.quads h (omega arith) (omega arith))
      (λ z. after_goes st e (made_on s st.mesh e) refl (exact_on st.mesh e ok o) h)

  turns : Steps s given S S (λ w. S)
  unfolding counting ◌⊞◌ tally emptied
  turns = record { attempts = attempt_turns; empties = λ st h. no_more s m₀ st.counts _ st.mesh st.quads h (omega arith) (omega arith) }

  ran_so : (r : Result) (p : Progress) → Closes S S (λ w. S) p → outcome p ≡ ran r → (st : State) × (r ≡ result st) × S st
  unfolding outcome
  ran_so r (stuck st) h e = (st, cc, elim h [ inl g ↦ g | inr g ↦ g ])
  ran_so r (progressed st) h e = (st, cc, h)
  ran_so r (limited st) h e = (st, cc, h)
  ran_so r (stopped w st) h e = absurd (let z : ◌≡◌ {A = ℕ} 0 1 = cc in omega arith)

  -- a run that want of lent memory ended
  stopped_so : (w : Want) (ps : List Node) (qs : List Quad) (ws : List ℕ) (p : Progress) → Closes S S (λ w. S) p → outcome p ≡ wanting w ps qs ws → (st : State) × (ps ≡ st.mesh.points) × (qs ≡ st.quads) × S st
  unfolding outcome
  stopped_so w ps qs ws (stuck st) h e = absurd (let z : ◌≡◌ {A = ℕ} 0 1 = cc in omega arith)
  stopped_so w ps qs ws (progressed st) h e = absurd (let z : ◌≡◌ {A = ℕ} 0 1 = cc in omega arith)
  stopped_so w ps qs ws (limited st) h e = absurd (let z : ◌≡◌ {A = ℕ} 0 1 = cc in omega arith)
  stopped_so w ps qs ws (stopped v st) h e = (st, cc, cc, h)

-- ---- the theorems
-- The attempts of a finished run, in order.
pub record RanInTurn (s : Settings) (m : Mesh) (c : Counts) (points : List Node) (quads : List Quad) (left : List Tri) : Type 0 where
  pub end : Mesh
  pub turns : InTurn s m c end quads
  -- the mesh that the last one left is the one that comes back
  pub points_are : end.points ≡ points
  pub triangles_are : triangles end ≡ left

module _ (s : Settings) (lk : Edge → Bool) (ts : List Tri) (ps : List Node) (proper : Proper ps ts) where
  turns_of_rounds : Closes (S s (length ts) (new_mesh s lk ts ps)) (S s (length ts) (new_mesh s lk ts ps)) (λ w. S s (length ts) (new_mesh s lk ts ps)) (front_loop (s.attempts + 2) s (length ts) (start s lk ts ps))
  unfolding start no_counts tally in_turn left_in_turn sum flat_map
  turns_of_rounds =
      let m = new_mesh s lk ts ps in
      let first : InTurn s m no_counts m [] = record { on = []; number = refl; exact = tt; trials = refl; mesh = refl; quads_are = refl } in
      rounds_close s (length ts) (S s (length ts) m) (S s (length ts) m) (λ w. S s (length ts) m) (turns s (length ts) m) (s.attempts + 2) (start s lk ts ps) (start_valid s lk ts ps proper) first

  pub run_in_turn : (r : Result) → run_front s lk ts ps ≡ ran r → RanInTurn s (new_mesh s lk ts ps) r.counts r.points r.quads r.triangles
  unfolding run_front result
  run_in_turn r e =
      let m = new_mesh s lk ts ps in
      let w = ran_so s (length ts) m r _ turns_of_rounds e in
      subst (λ x. RanInTurn s m x.counts x.points x.quads x.triangles) (sym w.1) (record { end = w.0.mesh; turns = w.2; points_are = refl; triangles_are = refl })

  -- A run that want of lent memory ended made its attempts in turn too, with the one that it ended in last.
  -- Its counts do not come back.
  pub stopped_in_turn : (w : Want) (qs : List Node) (us : List Quad) (ws : List ℕ) → run_front s lk ts ps ≡ wanting w qs us ws
      → (c : Counts) × (end : Mesh) × InTurn s (new_mesh s lk ts ps) c end us × (end.points ≡ qs)
  unfolding run_front
  stopped_in_turn w qs us ws e =
      let k = stopped_so s (length ts) (new_mesh s lk ts ps) w qs us ws _ turns_of_rounds e in
      (k.0.counts, k.0.mesh, subst (λ z. InTurn s (new_mesh s lk ts ps) k.0.counts k.0.mesh z) (sym k.2) k.3, sym k.1)

-- A finished call with at most so many attempts, as its slices stand at exit, made its attempts in turn;
-- a mesh of a job too.
pub call_in_turn : (most : ℕ) (a : Asked) (l : Lent) (c : Counts) (n : Lengths) → (call_within most a l).answer ≡ finished c n
    → RanInTurn (settings_within most (length l.trace) a) (new_mesh (settings_within most (length l.trace) a) (given_locks a l) (given_tris a l) (given_points a l)) c
    (first_points n.points (call_within most a l).lent.points)
    (first_quads n.quads (call_within most a l).lent.quads)
    (first_tris n.triangles (call_within most a l).lent.triangles_out)
call_in_turn most a l c n e =
    let b = behind most a l c n e in
    let exit = (call_within most a l).lent in
    let w = run_in_turn (settings_within most (length l.trace) a) (given_locks a l) (given_tris a l) (given_points a l) (given_proper a l b.passed) b.run b.ended in
    rw (b.counts_are, read_points b.run l exit n b.lengths_are b.exit, read_quads b.run l exit n b.lengths_are b.exit, read_triangles b.run l exit n b.lengths_are b.exit) w
