-- Trials: a refused attempt tried exactly the smaller of its acceptable pairs and the permitted number,
use Rattle.std.specs.Prelude.{◌≡◌, ◌⊎◌, ◌&&◌, ◌+◌, ◌*◌, ◌<◌, ◌≤◌, ◌∷◌, ◌++◌}
use Rattle.laws.specs.Kit.{refl, sym, ◌∙◌, ap, subst, inl, inr, Bool, true, false, cond, Option, none, some, ℕ, suc, min, arith, ltb, List, [], length, take}
use Rattle.std.proofs.Common.{length-take}
use Rattle.definition.specs.Lists.{sort}
use Rattle.definition.specs.Numbers.{Settings}
use Rattle.definition.specs.Counts.{Counts, tally, ◌⊞◌, no_counts, emptied, one_attempt, Spent, nothing_spent, inserting, trying, spending, at_limit, Refusal, Placement, Shape, Recovery, Region, OddRegion, refused_by}
use Rattle.definition.specs.Plane.{Node, Edge}
use Rattle.definition.specs.Cells.{Tri, Quad, Live, Mesh, quad_nodes, born, tri_owner, is_front}
use Rattle.definition.specs.Components.{removing_leaves_odd_component}
use Rattle.definition.specs.Region.{region}
use Rattle.definition.specs.Trials.{Trial, trial_before}
use Rattle.definition.specs.Trace.{in_room}
use Rattle.definition.specs.Attempt.{Tried, made, failed, orphaned, lacking, recover_all, replace, try_region, try_recovered, open_sides, try_pair, Attempt, placed, refused, ended, try_pairs, try_trials, try_quad}
use Rattle.definition.specs.Front.{State, Progress, stuck, progressed, limited, stopped, counting, after, make_attempt, past_limit, attempt, front_loop, Result, ran, start, result, outcome, run_front}
use Rattle.laws.specs.Bools.{cond_ok}
use Rattle.account.proofs.Rearranged.{same_length, sort_same}
use Rattle.account.specs.Valid.{Valid}
use Rattle.account.proofs.Steps.{recover_all_ok}
use Rattle.account.specs.Pairs.{pairs_of, turns, PairsRule}
use Rattle.account.proofs.Pairs.{attempt_pairs}
use Rattle.account.proofs.Owners.{Owned, owned_flips, owned_splits, front_fronted, owner_there}
use Rattle.account.specs.Walks.{Goes, Ends}
use Rattle.account.proofs.Walks.{Walk, rounds_end_so}
use Rattle.account.specs.Trials.{Exactly, FewTrials, TrialsExact}

turns_number : (s : Settings) (good : List Trial) → length (turns s good) ≡ min (length good) s.quality.pairs
unfolding turns
turns_number s good = let l = same_length good (sort trial_before good) (sort_same trial_before good) in omega (arith, length-take s.quality.pairs (sort trial_before good))

none_number : (s : Settings) → 0 ≡ min (length {A = Trial} []) s.quality.pairs
none_number s = omega arith

-- ---- every attempt on a front edge
module _ (s : Settings) (e : Edge) where
  -- what a pair leaves
  abbrev Fine : Quad → Tried → Type 0
  Fine q (made j p m) = quad_nodes p ≡ quad_nodes q
  Fine q (failed j why m) = Owned s e 0 m
  Fine q orphaned = ⊥
  Fine q (lacking w j m) = Unit {0}

  replace_fine : (j : ℕ) (m : Mesh) (q : Quad) (cells : List Live) → Fine q (replace s j m q cells)
  unfolding replace born quad_nodes
  replace_fine j m q cells = cond_ok (Fine q) (ltb s.slots (m.used + 1)) _ _ (λ z. tt) (λ z. cond_ok (Fine q) (in_room _) _ _ (λ y. refl) (λ y. tt))

  region_fine : (j : ℕ) (m : Mesh) (q : Quad) (o : Option (List Live)) → Owned s e 0 m → Fine q (try_region s j m q o)
  unfolding try_region
  region_fine j m q none h = h
  region_fine j m q (some cells) h = cond_ok (Fine q) (s.even && removing_leaves_odd_component m cells) _ _ (λ z. h) (λ z. replace_fine j m q cells)

  pair_fine : (m : Mesh) (q : Quad) → Owned s e 0 m → Fine q (try_pair s m q (tri_owner m e))
  unfolding try_pair try_recovered
  pair_fine m q h =
      let o = owner_there m e h.1 in
      let r = recover_all m (open_sides q) in
      let k = recover_all_ok (Owned s e) (owned_flips s e) 0 m (open_sides q) h in
      rw o.1 (cond_ok (Fine q) r.there _ _ (λ z. region_fine r.flips r.mesh q (region r.mesh o.0.slot q) k) (λ z. cond_ok (Fine q) r.short _ _ (λ y. tt) (λ y. k)))

  later : (n : ℕ) (t : Trial) (ts : List Trial) (a : Attempt) → Exactly (suc n) ts a → Exactly n (t ∷ ts) a
  later n t ts (placed k m q) h = (t ∷ h.0, h.1, h.2, ap (λ l. t ∷ l) h.3, omega (arith, h.4), h.5)
  later n t ts (refused why k m) h = omega arith
  later n t ts (ended w k m) h = omega arith

  pairs_case : (k : Spent) (m : Mesh) (last : Refusal) (t : Trial) (ts : List Trial) (r : Tried) → try_pair s m t.nodes (tri_owner m e) ≡ r → Fine t.nodes r
      → ((j : ℕ) (why : Refusal) (m' : Mesh) → Owned s e 0 m' → Exactly (suc k.trials) ts (try_pairs s (trying j k) m' e why ts)) → Exactly k.trials (t ∷ ts) (try_pairs s k m e last (t ∷ ts))
  unfolding try_pairs trying
  pairs_case k m last t ts (made j p m') f h next = rw (f, try_pairs) ([], t, ts, refl, omega arith, h)
  pairs_case k m last t ts (failed j why m') f h next = rw (f, try_pairs) (later k.trials t ts (try_pairs s (trying j k) m' e why ts) (next j why m' h))
  pairs_case k m last t ts orphaned f h next = absurd h
  pairs_case k m last t ts (lacking w j m') f h next = rw (f, try_pairs) (omega arith)

  pairs_exact : (k : Spent) (m : Mesh) (last : Refusal) (ts : List Trial) → Owned s e 0 m → Exactly k.trials ts (try_pairs s k m e last ts)
  unfolding try_pairs trying
  pairs_exact k m last [] h = omega arith
  pairs_exact k m last (t ∷ ts) h =
      pairs_case k m last t ts (try_pair s m t.nodes (tri_owner m e)) refl (pair_fine m t.nodes h) (λ j why m' h'. pairs_exact (trying j k) m' why ts h')

  trials_exactly : (k : Spent) (m : Mesh) (ts : List Trial) → Owned s e 0 m → Exactly k.trials ts (try_trials s k m e ts)
  unfolding try_trials
  trials_exactly k m [] h = omega arith
  trials_exactly k m (t ∷ ts) h = pairs_exact k m Recovery (t ∷ ts) h

  exact_of : (n : ℕ) (good : List Trial) (a : Attempt) → n ≡ 0 → Exactly n (turns s good) a → TrialsExact s good a
  exact_of n good (placed k m q) z h = (h.0, h.1, h.2, h.3, omega (arith, h.4), h.5)
  exact_of n good (refused why k m) z h = omega (arith, turns_number s good)
  exact_of n good (ended w k m) z h = omega (arith, turns_number s good)

  exact_rule : PairsRule s e (Owned s e) (λ n. n.trials ≡ 0) (TrialsExact s)
  unfolding nothing_spent inserting
  exact_rule = record {
    nothing = refl;
    inserts = λ n h. h;
    refuses = λ n m h. h ∙ none_number s;
    ends = λ w n m h. omega arith;
    tries = λ n m good h own. exact_of n.trials good (try_trials s n m e (turns s good)) h (trials_exactly n m (turns s good) own);
  }

-- Every attempt on a front edge: refused, it tried the smaller of the acceptable pairs and the permitted number;
-- with a quad, those up to the pair it placed.
pub trials_exact : (s : Settings) (m : Mesh) (e : Edge) → Valid m → e.0 < e.1 → is_front m e ≡ true → TrialsExact s (pairs_of s m e) (try_quad s m e)
trials_exact s m e ok l h = attempt_pairs s e m (Owned s e) (owned_splits s e m) (λ n. n.trials ≡ 0) (TrialsExact s) (exact_rule s e) (ok, front_fronted m e ok l h)

module _ (s : Settings) (e : Edge) where
  -- after n trials, with the pairs ts to come
  abbrev UpTo : ℕ → List Trial → Attempt → Type 0
  UpTo n ts (placed k m q) = k.trials ≤ n + length ts
  UpTo n ts (refused why k m) = k.trials ≤ n + length ts
  UpTo n ts (ended w k m) = k.trials ≤ n + length ts

  up_later : (n : ℕ) (t : Trial) (ts : List Trial) (a : Attempt) → UpTo (suc n) ts a → UpTo n (t ∷ ts) a
  up_later n t ts (placed k m q) h = omega arith
  up_later n t ts (refused why k m) h = omega arith
  up_later n t ts (ended w k m) h = omega arith

  up_case : (k : Spent) (m : Mesh) (last : Refusal) (t : Trial) (ts : List Trial) (r : Tried) → try_pair s m t.nodes (tri_owner m e) ≡ r
      → ((j : ℕ) (why : Refusal) (m' : Mesh) → UpTo (suc k.trials) ts (try_pairs s (trying j k) m' e why ts)) → UpTo k.trials (t ∷ ts) (try_pairs s k m e last (t ∷ ts))
  unfolding try_pairs trying
  up_case k m last t ts (made j p m') f next = rw (f, try_pairs) (omega arith)
  up_case k m last t ts (failed j why m') f next = rw (f, try_pairs) (up_later k.trials t ts (try_pairs s (trying j k) m' e why ts) (next j why m'))
  up_case k m last t ts orphaned f next = rw (f, try_pairs) (omega arith)
  up_case k m last t ts (lacking w j m') f next = rw (f, try_pairs) (omega arith)

  pairs_up : (k : Spent) (m : Mesh) (last : Refusal) (ts : List Trial) → UpTo k.trials ts (try_pairs s k m e last ts)
  unfolding try_pairs trying
  pairs_up k m last [] = omega arith
  pairs_up k m last (t ∷ ts) = up_case k m last t ts (try_pair s m t.nodes (tri_owner m e)) refl (λ j why m'. pairs_up (trying j k) m' why ts)

  trials_up : (k : Spent) (m : Mesh) (ts : List Trial) → UpTo k.trials ts (try_trials s k m e ts)
  unfolding try_trials
  trials_up k m [] = omega arith
  trials_up k m (t ∷ ts) = pairs_up k m Recovery (t ∷ ts)

  few_of : (n : ℕ) (good : List Trial) (a : Attempt) → n ≡ 0 → UpTo n (turns s good) a → FewTrials s a
  few_of n good (placed k m q) z h = omega (arith, turns_number s good)
  few_of n good (refused why k m) z h = omega (arith, turns_number s good)
  few_of n good (ended w k m) z h = omega (arith, turns_number s good)

  few_rule : PairsRule s e (λ n m. Unit {0}) (λ n. n.trials ≡ 0) (λ good a. FewTrials s a)
  unfolding nothing_spent inserting
  few_rule = record {
    nothing = refl;
    inserts = λ n h. h;
    refuses = λ n m h. omega arith;
    ends = λ w n m h. omega arith;
    tries = λ n m good h own. few_of n.trials good (try_trials s n m e (turns s good)) h (trials_up n m (turns s good));
  }

-- no attempt tries more
pub trials_few : (s : Settings) (m : Mesh) (e : Edge) → FewTrials s (try_quad s m e)
trials_few s m e = attempt_pairs s e m (λ n x. Unit {0}) (λ n x y t p h w. tt) (λ n. n.trials ≡ 0) (λ good a. FewTrials s a) (few_rule s e) tt

-- the trials are at most the permitted number for each attempt counted
abbrev pub TrialsWithin : Settings → Counts → Type 0
TrialsWithin s c = c.trials ≤ s.quality.pairs * c.attempts

-- what an attempt adds
added_refused : (c : Counts) (n : Spent) (why : Refusal) → (((c ⊞ spending n) ⊞ refused_by why).trials ≡ c.trials + n.trials) × (((c ⊞ spending n) ⊞ refused_by why).attempts ≡ c.attempts)
unfolding ◌⊞◌ tally spending refused_by
added_refused c n Placement = (omega arith, omega arith)
added_refused c n Shape = (omega arith, omega arith)
added_refused c n Recovery = (omega arith, omega arith)
added_refused c n Region = (omega arith, omega arith)
added_refused c n OddRegion = (omega arith, omega arith)

added_spent : (c : Counts) (n : Spent) → ((c ⊞ spending n).trials ≡ c.trials + n.trials) × ((c ⊞ spending n).attempts ≡ c.attempts)
unfolding ◌⊞◌ tally spending
added_spent c n = (omega arith, omega arith)

-- n of the trials of one attempt more
more : (p c a n : ℕ) → c ≤ p * a → n ≤ p → c + n ≤ p * (a + 1)
more p c a n h l = omega arith

module _ (s : Settings) (given : ℕ) where
  abbrev G : State → Type 0
  G st = TrialsWithin s st.counts

  -- the attempt a after the counts c, of which it is counted already
  after_within : (st : State) (e : Edge) (x : Attempt) (c : Counts) → c.trials ≤ s.quality.pairs * c.attempts → st.counts.trials ≡ c.trials → st.counts.attempts ≡ c.attempts + 1 → FewTrials s x → Goes G G (after st e x)
  unfolding after
  after_within st e (placed n m q) c h t a f =
      let k = added_spent st.counts n in
      let z = more s.quality.pairs c.trials c.attempts n.trials h f in
      subst (λ y. (st.counts ⊞ spending n).trials ≤ s.quality.pairs * y) (sym (k.1 ∙ a)) (omega (arith, z, k.0, t))
  after_within st e (refused why n m) c h t a f =
      let k = added_refused st.counts n why in
      let z = more s.quality.pairs c.trials c.attempts n.trials h f in
      subst (λ y. (st.counts ⊞ spending n ⊞ refused_by why).trials ≤ s.quality.pairs * y) (sym (k.1 ∙ a)) (omega (arith, z, k.0, t))
  after_within st e (ended w n m) c h t a f =
      let k = added_spent st.counts n in
      let z = more s.quality.pairs c.trials c.attempts n.trials h f in
      subst (λ y. (st.counts ⊞ spending n).trials ≤ s.quality.pairs * y) (sym (k.1 ∙ a)) (omega (arith, z, k.0, t))

  -- an attempt
  pub attempt_within : (st : State) (e : Edge) → G st → Goes G G (attempt s given st e)
  unfolding attempt make_attempt counting ◌⊞◌ tally one_attempt at_limit nothing_spent
  attempt_within st e h =
      let counted = counting st one_attempt in
      let off : Attempt = refused Placement nothing_spent st.mesh in
      let z = more s.quality.pairs st.counts.trials st.counts.attempts 0 h (omega arith) in
      cond_ok (Goes G G) (past_limit s given counted) _ _ (λ y. omega (arith, z))
      (λ y. after_within counted e (cond (is_front st.mesh e) (try_quad s st.mesh e) off) st.counts h (omega arith) refl
      (cond_ok (FewTrials s) (is_front st.mesh e) (try_quad s st.mesh e) off (λ x. trials_few s st.mesh e) (λ x. omega arith)))

  walk : Walk s given G G
  unfolding counting ◌⊞◌ tally emptied
  walk = record { attempts = attempt_within; empties = λ st h. omega arith }

  end_within : (r : Result) (p : Progress) → Ends G G p → outcome p ≡ ran r → TrialsWithin s r.counts
  unfolding outcome result
  end_within r (stuck st) h e = let k : result st ≡ r = cc in subst (λ x. TrialsWithin s x.counts) k (elim h [ inl g ↦ g | inr g ↦ g ])
  end_within r (progressed st) h e = let k : result st ≡ r = cc in subst (λ x. TrialsWithin s x.counts) k h
  end_within r (limited st) h e = let k : result st ≡ r = cc in subst (λ x. TrialsWithin s x.counts) k h
  end_within r (stopped w st) h e = absurd (let z : ◌≡◌ {A = ℕ} 0 1 = cc in omega arith)

-- over a finished run
pub trials_within : (s : Settings) (lk : Edge → Bool) (ts : List Tri) (ps : List Node) (r : Result) → run_front s lk ts ps ≡ ran r → TrialsWithin s r.counts
unfolding run_front start no_counts tally
trials_within s lk ts ps r e =
    end_within s (length ts) r _ (rounds_end_so s (length ts) (G s (length ts)) (G s (length ts)) (walk s (length ts)) (s.attempts + 2) (start s lk ts ps) (omega arith)) e
