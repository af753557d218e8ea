-- How many attempts a run makes: no more than its limit,
-- and one that the limit on attempts ended counted exactly one more.
use Rattle.std.specs.Prelude.{◌≡◌, ◌⊎◌, ◌+◌, ◌-◌, ◌*◌, ◌<◌, ◌≤◌}
use Rattle.laws.specs.Kit.{refl, sym, ◌∙◌, ap, subst, inl, inr, Bool, ℕ, arith, ltb, ltb-true, ltb-false, List, length}
use Rattle.definition.specs.Numbers.{Settings, max_attempts, max_triangles}
use Rattle.definition.specs.Counts.{Counts, tally, ◌⊞◌, no_counts, emptied, one_attempt, Spent, spending, at_limit, Refusal, Placement, Shape, Recovery, Region, OddRegion, refused_by, Want}
use Rattle.definition.specs.Plane.{Node, Edge}
use Rattle.definition.specs.Cells.{Tri, live_tris, tris_of, triangles}
use Rattle.definition.specs.Attempt.{Attempt, placed, refused, ended}
use Rattle.definition.specs.Front.{State, Progress, stuck, progressed, limited, stopped, counting, after, make_attempt, past_limit, attempt, front_loop, Result, ran, start, result, outcome, run_front}
use Rattle.definition.specs.Call.{Asked, Lent, Lengths, finished, given_points, given_tris, given_locks, settings_within, lengths, call_within, call}
use Rattle.laws.specs.Bools.{which, never, either, or_none, cond_ok}
use Rattle.account.proofs.Rearranged.{same_length}
use Rattle.account.proofs.Parity.{triangles_same}
use Rattle.account.proofs.LiveTris.{live_tris_is}
use Rattle.account.proofs.Finished.{behind, tris_number}
use Rattle.account.specs.Walks.{Goes, Ends}
use Rattle.account.proofs.Walks.{Walk, rounds_end_so}
use Rattle.account.specs.Attempts.{Going, Limited}

-- the counts that an attempt adds
same_refused : (c : Counts) (n : Spent) (why : Refusal) → ((c ⊞ spending n ⊞ refused_by why).attempts ≡ c.attempts) × ((c ⊞ spending n ⊞ refused_by why).limit ≡ c.limit)
unfolding ◌⊞◌ tally spending refused_by
same_refused c n Placement = (omega arith, omega arith)
same_refused c n Shape = (omega arith, omega arith)
same_refused c n Recovery = (omega arith, omega arith)
same_refused c n Region = (omega arith, omega arith)
same_refused c n OddRegion = (omega arith, omega arith)

same_spent : (c : Counts) (n : Spent) → ((c ⊞ spending n).attempts ≡ c.attempts) × ((c ⊞ spending n).limit ≡ c.limit)
unfolding ◌⊞◌ tally spending
same_spent c n = (omega arith, omega arith)

module _ (s : Settings) (given : ℕ) where
  abbrev G : State → Type 0
  G st = Going s.attempts st

  abbrev L : State → Type 0
  L st = Limited s.attempts given st

  after_goes : (st : State) (e : Edge) (a : Attempt) → G st → Goes G L (after st e a)
  unfolding after
  after_goes st e (placed n m q) h = let k = same_spent st.counts n in record { made = omega (arith, h.made); no_limit = k.1 ∙ h.no_limit }
  after_goes st e (refused why n m) h = let k = same_refused st.counts n why in record { made = omega (arith, h.made); no_limit = k.1 ∙ h.no_limit }
  after_goes st e (ended w n m) h = let k = same_spent st.counts n in record { made = omega (arith, h.made); no_limit = k.1 ∙ h.no_limit }

  attempt_goes : (st : State) (e : Edge) → G st → Goes G L (attempt s given st e)
  unfolding attempt make_attempt past_limit counting ◌⊞◌ tally one_attempt at_limit
  attempt_goes st e h =
      let counted = counting st one_attempt in
      let most = s.attempts in
      let tried = ltb most counted.counts.attempts in
      let grown = ltb (max_triangles given) (live_tris st.mesh) in
      cond_ok (Goes G L) (past_limit s given counted) _ _
      (λ z. record {
        counted = omega (arith, h.made);
        limit = omega (arith, h.no_limit);
        which_one = elim (which tried) [
          | inl l ↦ inl (omega (arith, ltb-true most counted.counts.attempts l, h.made))
          | inr l ↦ inr (omega (arith, ltb-false most counted.counts.attempts l), ltb-true (max_triangles given) (live_tris st.mesh) (elim (either tried grown z) [ inl k ↦ never tried k l | inr k ↦ k ]))
        ];
      })
      (λ z. after_goes counted e _ (record { made = ltb-false most counted.counts.attempts (or_none tried grown z).0; no_limit = omega (arith, h.no_limit) }))

  walk : Walk s given G L
  unfolding counting ◌⊞◌ tally emptied
  walk = record { attempts = attempt_goes; empties = λ st h. record { made = omega (arith, h.made); no_limit = omega (arith, h.no_limit) } }

  -- of the rounds, however many
  pub rounds_so : (n : ℕ) (st : State) → G st → Ends G L (front_loop n s given st)
  rounds_so n st h = rounds_end_so s given G L walk n st h

  finished_so : (r : Result) (p : Progress) → Ends G L p → outcome p ≡ ran r → (st : State) × (r ≡ result st) × (G st ⊎ L st)
  unfolding outcome
  finished_so r (stuck st) h e = (st, cc, h)
  finished_so r (progressed st) h e = (st, cc, inl h)
  finished_so r (limited st) h e = (st, cc, inr h)
  finished_so r (stopped w st) h e = absurd (let z : ◌≡◌ {A = ℕ} 0 1 = cc in omega arith)

-- ---- the run
module _ (s : Settings) (lk : Edge → Bool) (ts : List Tri) (ps : List Node) where
  -- the rounds of the run
  abbrev pub rounds_of : Progress
  rounds_of = front_loop (s.attempts + 2) s (length ts) (start s lk ts ps)

  -- how they end
  pub ending : Ends (Going s.attempts) (Limited s.attempts (length ts)) rounds_of
  unfolding start no_counts tally
  ending = rounds_so s (length ts) (s.attempts + 2) (start s lk ts ps) (record { made = omega arith; no_limit = refl })

  -- a finished run ended by itself or by a limit
  pub ended_how : (r : Result) → run_front s lk ts ps ≡ ran r → (st : State) × (r ≡ result st) × (Going s.attempts st ⊎ Limited s.attempts (length ts) st)
  unfolding run_front
  ended_how r e = finished_so s (length ts) r _ ending e

  -- A run that a limit ended reports exactly its limit on attempts and one more,
  -- or no more than that limit, and then the live triangles passed theirs.
  pub at_the_limit : (r : Result) → run_front s lk ts ps ≡ ran r → r.counts.limit ≡ 1
      → (r.counts.attempts ≡ s.attempts + 1) ⊎ ((st : State) × (r ≡ result st) × (r.counts.attempts ≤ s.attempts) × (max_triangles (length ts) < live_tris st.mesh))
  unfolding result
  at_the_limit r e f =
      let w = ended_how r e in
      let same = ap (λ x. x.counts) w.1 in
      elim w.2 [
        | inl g ↦ absurd (let z : ◌≡◌ {A = ℕ} 0 1 = sym g.no_limit ∙ sym (ap (λ c. c.limit) same) ∙ f in omega arith)
        | inr g ↦ elim g.which_one [ inl h ↦ inl (ap (λ c. c.attempts) same ∙ h) | inr h ↦ inr (w.0, w.1, omega (arith, ap (λ c. c.attempts) same, h.0), h.1) ]
      ]

  -- No run makes more attempts than its limit: the stopping attempt is counted and not made.
  pub made_within : (r : Result) → run_front s lk ts ps ≡ ran r → r.counts.attempts - r.counts.limit ≤ s.attempts
  unfolding result
  made_within r e =
      let w = ended_how r e in
      let a = ap (λ x. x.counts.attempts) w.1 in
      let b = ap (λ x. x.counts.limit) w.1 in
      elim w.2 [ inl g ↦ omega (arith, g.made) | inr g ↦ omega (arith, g.counted, g.limit) ]

  -- A run that no limit ended reports no more attempts than its limit.
  pub without_limit : (r : Result) → run_front s lk ts ps ≡ ran r → r.counts.limit ≡ 0 → r.counts.attempts ≤ s.attempts
  without_limit r e f = omega (arith, made_within r e, f)

  -- one that want of lent memory ended began no more
  pub begun_within : (w : Want) (st : State) → rounds_of ≡ stopped w st → st.counts.attempts ≤ s.attempts
  begun_within w st e = let g : Going s.attempts st = subst (λ p. Ends (Going s.attempts) (Limited s.attempts (length ts)) p) e ending in g.made
