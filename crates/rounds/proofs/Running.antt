-- Rounds, until one places no quad: fuel enough is left, since each that does makes an attempt.
use mathlib.Core.Path.{◌≡◌, refl, ap, sym, ◌∙◌, subst}
use mathlib.Core.Bool.{Bool, true, false}
use mathlib.Core.List.{List, []}
use Prim.{⊥, absurd}
use Prim.Native.Nat.{ℕ, zero, suc, ◌+◌, ◌-◌, ◌*◌, ◌<◌, ◌≤◌}
use native.Mathlib.Omega.{arith}
use lib.Ieee.{Float}
use lib.ListN.{length}
use Rattle.definition.specs.Lists.{flat_map}
use Rattle.definition.specs.Counts.{tally, no_counts}
use Rattle.definition.specs.Plane.{Node, Edge}
use Rattle.definition.specs.Cells.{Tri, front}
use Rattle.definition.specs.Front.{State, Progress, stuck, progressed, limited, stopped, round, front_loop, start, new_mesh}
use Rattle.definition.specs.Call.{onto}
use Rattle.laws.specs.Bools.{never}
use Rattle.rules.specs.declared.Rules.{Rules}
use Rattle.rules.specs.Settings.{settings_of}
use Rattle.account.specs.Reach.{begun}
use Rattle.account.specs.Rounds.{Gains}
use Rattle.account.proofs.Rounds.{round_gains}
use Rattle.cells.specs.Layout.{refused_at}
use Rattle.cells.specs.declared.counters.Counters.{Counters}
use Rattle.traces.specs.Log.{Logged}
use Rattle.traces.proofs.Logs.{log_start, log_at}
use Rattle.blocked_edges.specs.Records as Records
use Rattle.blocked_edges.specs.Blocks.{OpenTo}
use Rattle.outcomes.specs.Ready.{Ready}
use Rattle.settling.specs.declared.standing.Standing.{Standing}
use Rattle.settling.specs.declared.standing.Step.{Step}
use Rattle.settling.specs.declared.standing.Going.{Going}
use Rattle.settling.specs.declared.standing.Going.TheVariants as goings
use Rattle.settling.specs.declared.standing.Run.{Run}
use Rattle.settling.specs.Standings.{counts_of}
use Rattle.attempts.specs.Runs.{Begun, Setup, setup, Fixed, Leaves, Goes}
use Rattle.rounds.specs.Rounds.{Rounded}
use Rattle.rounds.specs.Loop.{is_progressed, finish_of, Finished, Begins, CanRun, LeftRun, RunTo}
use Rattle.settling.proofs.Tallies.{same_counts}
use Rattle.attempts.proofs.Reaching.{sound}
use Rattle.attempts.proofs.Attempting.{ready_under}

-- ---- one round more

-- it placed a quad
progress_case : (w : List ℕ) (q : List Float) (quads tr : List ℕ) (x : Setup) (p : Progress) (r : Step) → Rounded w q quads tr x p r → is_progressed r.kind ≡ true
    → (st : State) × (p ≡ progressed st) × Goes w q quads tr x r.standing st []
progress_case w q quads tr x (stuck st) r h e = absurd (never (is_progressed r.kind) e (ap is_progressed h.0))
progress_case w q quads tr x (progressed st) r h e = (st, refl, h.1)
progress_case w q quads tr x (limited st) r h e = absurd (never (is_progressed r.kind) e (ap is_progressed h.0))
progress_case w q quads tr x (stopped wt st) r h e = absurd (never (is_progressed r.kind) e (ap is_progressed h.0))

-- any other end is no quad
pub not_progressed : (k : Going) → (k ≡ goings.Progressed → ⊥) → is_progressed k ≡ false
not_progressed goings.Stuck h = refl
not_progressed goings.Progressed h = absurd (h refl)
not_progressed goings.Limited h = refl
not_progressed (goings.Short short) h = refl

-- it did not: the run ends
end_case : (w : List ℕ) (q : List Float) (quads tr : List ℕ) (x : Setup) (given n : ℕ) (st : State) (p : Progress) (s' : Step) (r : Run) → Rounded w q quads tr x p s' → is_progressed s'.kind ≡ false
    → round (settings_of x.rules) given st (front st.mesh) ≡ p → r.finish ≡ finish_of s'.kind → r.standing ≡ s'.standing → Finished w q quads tr x (front_loop (suc n) (settings_of x.rules) given st) r
unfolding front_loop
end_case w q quads tr x given n st (stuck st') s' r h e g f k = rw (g, front_loop) (f ∙ ap finish_of h.0, subst (λ (z : Standing). Leaves w q quads tr x z st') (sym k) h.1)
end_case w q quads tr x given n st (progressed st') s' r h e g f k = absurd (never (is_progressed s'.kind) (ap is_progressed h.0) e)
end_case w q quads tr x given n st (limited st') s' r h e g f k = rw (g, front_loop) (f ∙ ap finish_of h.0, subst (λ (z : Standing). Leaves w q quads tr x z st') (sym k) h.1)
end_case w q quads tr x given n st (stopped wt st') s' r h e g f k = rw (g, front_loop) (f ∙ ap finish_of h.0, subst (λ (z : Standing). Leaves w q quads tr x z st') (sym k) h.1)

next_round : (x : Setup) (given n : ℕ) (st st' : State) → round (settings_of x.rules) given st (front st.mesh) ≡ progressed st' → front_loop (suc n) (settings_of x.rules) given st ≡ front_loop n (settings_of x.rules) given st'
unfolding front_loop
next_round x given n st st' h = rw (h, front_loop) refl

-- the run has come to the state st, with the same to come and fuel enough
pub record Running (w : List ℕ) (q : List Float) (quads tr : List ℕ) (x : Setup) (g : Standing) (p : Progress) : Type 0 where
  pub st : State
  pub fuel : ℕ
  pub goes : Goes w q quads tr x g st []
  pub enough : x.rules.attempts < fuel + st.counts.attempts
  pub same : p ≡ front_loop fuel (settings_of x.rules) x.rules.given st

module _ (w : List ℕ) (q : List Float) (quads tr : List ℕ) (x : Setup) (g : Standing) (p : Progress) (t : Running w q quads tr x g p) where
  tries_fit : t.st.counts.attempts ≤ x.rules.attempts
  unfolding settings_of
  tries_fit =
      let f = t.goes.reaches.fixed in
      (sound x f t.st t.goes.reaches.old [] t.goes.reaches.reach).tries_fit

  fuel_is : (n : ℕ) × (t.fuel ≡ suc n)
  fuel_is = go t.fuel t.enough
    where
      go : (k : ℕ) → x.rules.attempts < k + t.st.counts.attempts → (n : ℕ) × (k ≡ suc n)
      go zero h = let l : t.st.counts.attempts ≤ x.rules.attempts = tries_fit in absurd (omega arith)
      go (suc n) h = (n, refl)

  gains : Gains x.rules.attempts t.st.counts.attempts (round (settings_of x.rules) x.rules.given t.st (front t.st.mesh))
  unfolding settings_of
  gains = round_gains (settings_of x.rules) x.rules.given t.st (front t.st.mesh) tries_fit

  module _ (w' : List ℕ) (q' : List Float) (quads' tr' : List ℕ) (s' : Step) (to : Rounded w' q' quads' tr' x (round (settings_of x.rules) x.rules.given t.st (front t.st.mesh)) s') where
    pub ends_there : is_progressed s'.kind ≡ false → (r : Run) → r.finish ≡ finish_of s'.kind → r.standing ≡ s'.standing → Finished w' q' quads' tr' x p r
    ends_there e r f k =
        let end = end_case w' q' quads' tr' x x.rules.given fuel_is.0 t.st (round (settings_of x.rules) x.rules.given t.st (front t.st.mesh)) s' r to e refl f k in
        subst (λ z. Finished w' q' quads' tr' x z r) (sym (t.same ∙ ap (λ (n : ℕ). front_loop n (settings_of x.rules) x.rules.given t.st) fuel_is.1)) end

    module _ (e : is_progressed s'.kind ≡ true) where
      one : (st : State) × (round (settings_of x.rules) x.rules.given t.st (front t.st.mesh) ≡ progressed st) × Goes w' q' quads' tr' x s'.standing st []
      one = progress_case w' q' quads' tr' x (round (settings_of x.rules) x.rules.given t.st (front t.st.mesh)) s' to e

      more : (t.st.counts.attempts < one.0.counts.attempts) × (one.0.counts.attempts ≤ x.rules.attempts)
      more = subst (λ z. Gains x.rules.attempts t.st.counts.attempts z) one.1 gains

      pub goes_on : Running w' q' quads' tr' x s'.standing p
      goes_on =
          let m : t.st.counts.attempts < one.0.counts.attempts = more.0 in
          let k = fuel_is.1 in
          let en = t.enough in
          record {
            st = one.0;
            fuel = fuel_is.0;
            goes = one.2;
            enough = omega (arith, m, k, en);
            same = t.same ∙ ap (λ (n : ℕ). front_loop n (settings_of x.rules) x.rules.given t.st) k ∙ next_round x x.rules.given fuel_is.0 t.st one.0 one.1;
          }

      pub fewer : x.rules.attempts + 1 - s'.standing.counters.attempts < x.rules.attempts + 1 - g.counters.attempts
      fewer =
          let m : t.st.counts.attempts < one.0.counts.attempts = more.0 in
          let l : one.0.counts.attempts ≤ x.rules.attempts = more.1 in
          let a : g.counters.attempts ≡ t.st.counts.attempts = ap (λ c. c.attempts) t.goes.holds.counts in
          let b : s'.standing.counters.attempts ≡ one.0.counts.attempts = ap (λ c. c.attempts) one.2.holds.counts in
          omega (arith, m, l, a, b)

-- ---- the start

module _ (w : List ℕ) (q f : List Float) (quads tr : List ℕ) (rules : Rules) (c : Counters) (lk : Edge → Bool) (ts : List Tri) (ps : List Node) (k : CanRun w q f quads tr rules c lk ts ps) where
  abbrev pub begun_with : Begun
  begun_with = record { locked = lk; ts = ts; ps = ps; floats = q; old = quads; log = tr }

  abbrev x : Setup
  x = setup rules (record { locked = lk; ts = ts; ps = ps; floats = q; old = quads; log = tr })

  fixed : Fixed x
  fixed = record { proper = k.proper; given = k.is_given; few = k.few; attempts = k.attempts; points = k.points; slots = k.slots; within = k.within; sized = k.sized; room = k.room }

  pub can_open : Records.Room w (refused_at rules.lay.slots rules.lay.points) (3 * rules.lay.slots) rules.lay.points
  can_open =
      let r = k.ready.rep.room.fits in
      let a = k.ready.small.slots in
      let b = k.ready.small.points in
      record { fits = omega arith; few_records = omega arith; few_nodes = omega arith }

  module _ (w₁ : List ℕ) (to : OpenTo w w₁ (refused_at rules.lay.slots rules.lay.points) (3 * rules.lay.slots) rules.lay.points) (g : Standing) (b : Begins c g) where
    begin_counts : counts_of g ≡ (start (settings_of rules) lk ts ps).counts
    unfolding start no_counts tally
    begin_counts = same_counts (counts_of g) no_counts b.front (ap (λ z. z.attempts) b.counters ∙ k.fresh) b.placement b.invalid b.recovery b.region b.odd b.insertions b.limit b.trials

    begin_log : Logged tr tr g.words (start (settings_of rules) lk ts ps).mesh
    unfolding start new_mesh settings_of
    begin_log = log_at tr tr 0 g.words (start (settings_of rules) lk ts ps).mesh b.words (log_start tr (start (settings_of rules) lk ts ps).mesh k.trace refl)

    pub starts : Goes w₁ q quads tr x g (start (settings_of rules) lk ts ps) []
    unfolding start onto flat_map
    starts =
        let kept = to.kept in
        record {
          ever = [];
          holds = record {
            ready = subst (λ (z : Counters). Ready w₁ q rules z (start (settings_of rules) lk ts ps).mesh) (sym b.counters)
                (ready_under w w₁ q rules c (start (settings_of rules) lk ts ps).mesh (record { len = kept.len; low = λ i l. kept.low i (omega arith) }) k.ready);
            counts = begin_counts;
            behind = record { len = refl; rest = refl };
            log = begin_log;
            so_far = record { blocks = to.blocks; records = b.records; number = b.quads; text = refl };
          };
          reaches = record { fixed = fixed; old = []; reach = begun; sub = λ e i. i };
        }

    pub fuel_enough : rules.attempts < rules.attempts + 2 + (start (settings_of rules) lk ts ps).counts.attempts
    fuel_enough = omega arith

    left : (w' : List ℕ) (q' f' : List Float) (quads' tr' : List ℕ) (st : State) (r : Run) → length w' ≡ length w → length f' ≡ length f → Leaves w' q' quads' tr' x r.standing st → LeftRun w w' q q' f f' quads quads' tr tr' rules st r
    left w' q' f' quads' tr' st r l m h = record { ready = h.ready; counts = h.counts; number = h.number; text = h.text; behind = h.behind; words = l; reals = m; log = h.log }

    run_case : (w' : List ℕ) (q' f' : List Float) (quads' tr' : List ℕ) (e : Progress) (r : Run) → length w' ≡ length w → length f' ≡ length f → Finished w' q' quads' tr' x e r → RunTo w w' q q' f f' quads quads' tr tr' rules e r
    run_case w' q' f' quads' tr' (stuck st) r l m h = (h.0, left w' q' f' quads' tr' st r l m h.1)
    run_case w' q' f' quads' tr' (progressed st) r l m h = (h.0, left w' q' f' quads' tr' st r l m h.1)
    run_case w' q' f' quads' tr' (limited st) r l m h = (h.0, left w' q' f' quads' tr' st r l m h.1)
    run_case w' q' f' quads' tr' (stopped wt st) r l m h = (h.0, left w' q' f' quads' tr' st r l m h.1)

    pub runs_to : (w' : List ℕ) (q' f' : List Float) (quads' tr' : List ℕ) (r : Run) → length w' ≡ length w → length f' ≡ length f
        → Finished w' q' quads' tr' x (front_loop (rules.attempts + 2) (settings_of rules) rules.given (start (settings_of rules) lk ts ps)) r
        → RunTo w w' q q' f f' quads quads' tr tr' rules (front_loop (rules.attempts + 2) (settings_of rules) (length ts) (start (settings_of rules) lk ts ps)) r
    runs_to w' q' f' quads' tr' r l m h =
        run_case w' q' f' quads' tr' (front_loop (rules.attempts + 2) (settings_of rules) (length ts) (start (settings_of rules) lk ts ps)) r l m
        (subst (λ (n : ℕ). Finished w' q' quads' tr' x (front_loop (rules.attempts + 2) (settings_of rules) n (start (settings_of rules) lk ts ps)) r) k.is_given h)
