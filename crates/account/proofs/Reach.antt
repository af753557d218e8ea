-- The states that a run reaches between attempts, with every edge refused so far and the candidates that wait;
use Rattle.std.specs.Prelude.{◌≡◌, ◌≢◌, ◌*◌, ◌≤◌, ◌∷◌, ◌++◌}
use Rattle.laws.specs.Kit.{refl, subst, inl, inr, Bool, ℕ, arith, List, [], length}
use Rattle.definition.specs.Numbers.{Settings}
use Rattle.definition.specs.Counts.{no_counts, tally}
use Rattle.definition.specs.Plane.{Node, Edge}
use Rattle.definition.specs.Cells.{Tri, Quad, Mesh}
use Rattle.definition.specs.Front.{State, stuck, progressed, start, attempt}
use Rattle.definition.specs.Account.{Pairwise}
use Rattle.laws.specs.Lists.{In, in_left, in_right, in_either}
use Rattle.account.specs.Valid.{Valid}
use Rattle.account.specs.Start.{Proper}
use Rattle.account.proofs.Tracked.{Tracked, tracked_fewer, tracked_room}
use Rattle.account.proofs.Records.{tracked_opens}
use Rattle.account.proofs.Invariants.{Good, Q, P, R, good_rule, start_good}
use Rattle.account.proofs.Counting as Counting
use Rattle.account.specs.Counting.{Counted}
use Rattle.account.proofs.Counting.{counted_rule, start_counted}
use Rattle.account.specs.Rounds.{tries, Gains}
use Rattle.account.proofs.Rounds.{most, attempt_gains}
use Rattle.account.proofs.Trials.{TrialsWithin, attempt_within}
use Rattle.account.specs.Walks.{Goes}
use Rattle.account.specs.Run.{OnFront, Sound, ProgressOk, Ordered}
use Rattle.account.proofs.Run.{attempt_ok}
use Rattle.account.specs.Reach.{begun, opened, by_refusal, by_quad, Reach}

-- what holds of a state with these edges
pub record ReachedState (s : Settings) (lk : Edge → Bool) (ts : List Tri) (ps : List Node) (st : State) (ever es : List Edge) : Type 0 where
  pub valid : Valid st.mesh
  pub good : Good s lk (length ts) st.mesh st.quads (es ++ ever)
  -- a candidate's smaller node comes first
  pub ordered : Ordered es
  -- the points are the given ones, then the added ones, and the attempts add up
  pub counted : Counted ps st.mesh.points st.counts (length st.quads)
  -- no attempt past the limit was counted
  pub tries_fit : tries st ≤ s.attempts
  -- at most the permitted number of pairs was tried in each attempt
  pub trials : TrialsWithin s st.counts

with_edges : (s : Settings) (lk : Edge → Bool) (given : ℕ) (m : Mesh) (qs : List Quad) (fs gs : List Edge) → Tracked m gs → Good s lk given m qs fs → Good s lk given m qs gs
with_edges s lk given m qs fs gs t h = record { fits = h.fits; locked = h.locked; quads_fit = h.quads_fit; rated = h.rated; in_rounds = h.in_rounds; tracked = t }

module _ (s : Settings) (lk : Edge → Bool) (ts : List Tri) (ps : List Node) (proper : Proper ps ts) (points : length ps ≤ s.capacity) (slots : length ts ≤ s.slots) where
  -- what an attempt from such a state leaves, in a refusal and in a quad alike
  module _ (st : State) (ever : List Edge) (e : Edge) (es : List Edge) (w : ReachedState s lk ts ps st ever (e ∷ es)) where
    -- every edge that is tracked
    abbrev all : List Edge
    all = e ∷ (es ++ ever)

    -- good, whatever it ends in
    pub attempt_good : ProgressOk (Q s lk (length ts) all) (R s lk (length ts) all) es (attempt s (length ts) st e)
    attempt_good =
        attempt_ok s (Q s lk (length ts) all) (P s lk (length ts) all) (R s lk (length ts) all) (good_rule s lk (length ts) all) (length ts) st e es (w.ordered e (inl refl))
        (w.valid, w.good)

    attempt_counted : ProgressOk (Counting.Q s ps) (λ st. Unit {0}) es (attempt s (length ts) st e)
    attempt_counted = attempt_ok s (Counting.Q s ps) (Counting.P s ps) (λ st. Unit {0}) (counted_rule s ps) (length ts) st e es (w.ordered e (inl refl)) (w.valid, w.counted)

    tracked_to : (m : Mesh) (gs : List Edge) → ((g : Edge) → In g gs → In g all) → (qs : List Quad) → Good s lk (length ts) m qs all → Good s lk (length ts) m qs gs
    tracked_to m gs sub qs h = with_edges s lk (length ts) m qs all gs (tracked_fewer m all gs sub h.tracked) h

    after_stuck : (st' : State) → attempt s (length ts) st e ≡ stuck st' → ReachedState s lk ts ps st' (e ∷ ever) es
    after_stuck st' f =
        let k : Sound (Q s lk (length ts) all) st' es = subst (λ p. ProgressOk (Q s lk (length ts) all) (R s lk (length ts) all) es p) f attempt_good in
        let c : Sound (Counting.Q s ps) st' es = subst (λ p. ProgressOk (Counting.Q s ps) (λ st. Unit {0}) es p) f attempt_counted in
        let g : Gains (most s (length ts)) (tries st) (stuck st') = subst (λ p. Gains (most s (length ts)) (tries st) p) f (attempt_gains s (length ts) st e w.tries_fit) in
        record {
          valid = k.0;
          good = tracked_to st'.mesh (es ++ (e ∷ ever)) (λ g i. elim (in_either g es (e ∷ ever) i) [
            | inl j ↦ inr (in_left g es ever j)
            | inr (inl z) ↦ inl z
            | inr (inr j) ↦ inr (in_right g es ever j)
          ]) st'.quads k.1;
          ordered = λ g i. w.ordered g (inr i);
          counted = c.1;
          tries_fit = g.1;
          trials = subst (λ p. Goes (λ x. TrialsWithin s x.counts) (λ x. TrialsWithin s x.counts) p) f (attempt_within s (length ts) st e w.trials);
        }

    after_progress : (st' : State) → attempt s (length ts) st e ≡ progressed st' → ReachedState s lk ts ps st' ever []
    after_progress st' f =
        let k : Sound (Q s lk (length ts) all) st' [] = subst (λ p. ProgressOk (Q s lk (length ts) all) (R s lk (length ts) all) es p) f attempt_good in
        let c : Sound (Counting.Q s ps) st' [] = subst (λ p. ProgressOk (Counting.Q s ps) (λ st. Unit {0}) es p) f attempt_counted in
        let g : Gains (most s (length ts)) (tries st) (progressed st') = subst (λ p. Gains (most s (length ts)) (tries st) p) f (attempt_gains s (length ts) st e w.tries_fit) in
        record {
          valid = k.0;
          good = tracked_to st'.mesh ever (λ g i. inr (in_right g es ever i)) st'.quads k.1;
          ordered = λ g i. absurd i;
          counted = c.1;
          tries_fit = g.1;
          trials = subst (λ p. Goes (λ x. TrialsWithin s x.counts) (λ x. TrialsWithin s x.counts) p) f (attempt_within s (length ts) st e w.trials);
        }

  start_sound : ReachedState s lk ts ps (start s lk ts ps) [] []
  unfolding start no_counts tally
  start_sound =
      let w = start_good s lk ts ps proper points slots in
      record { valid = w.0; good = w.1; ordered = λ e i. absurd i; counted = start_counted s ps lk ts; tries_fit = omega arith; trials = omega arith }

  -- every state that a run reaches is sound
  pub reach_sound : (st : State) (ever es : List Edge) → Reach s lk ts ps st ever es → ReachedState s lk ts ps st ever es
  reach_sound st ever es begun = start_sound
  reach_sound st ever es (opened st₀ ever₀ es₀ r o) =
      let w = reach_sound st₀ ever₀ [] r in
      record {
        valid = w.valid;
        good = with_edges s lk (length ts) st₀.mesh st₀.quads ever₀ (es₀ ++ ever₀) (tracked_opens st₀.mesh es₀ ever₀ w.valid o w.good.tracked) w.good;
        ordered = λ e i. (o e i).order;
        counted = w.counted;
        tries_fit = w.tries_fit;
        trials = w.trials;
      }
  reach_sound st ever es (by_refusal st₀ st' ever₀ e es₀ r f) = after_stuck st₀ ever₀ e es₀ (reach_sound st₀ ever₀ (e ∷ es₀) r) st' f
  reach_sound st ever es (by_quad st₀ st' ever₀ e es₀ r f) = after_progress st₀ ever₀ e es₀ (reach_sound st₀ ever₀ (e ∷ es₀) r) st' f

  -- a record for each different edge ever refused or waiting: at most three for each slot in use
  pub records_fit : (st : State) (ever es fs : List Edge) → Reach s lk ts ps st ever es → Pairwise (λ e f. e ≢ f) fs → ((f : Edge) → In f fs → In f (es ++ ever))
      → length fs ≤ 3 * st.mesh.used
  records_fit st ever es fs r d sub = tracked_room st.mesh fs (tracked_fewer st.mesh (es ++ ever) fs sub (reach_sound st ever es r).good.tracked) d
