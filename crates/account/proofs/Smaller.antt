-- A run with a smaller limit on attempts goes as one with a larger limit until it stops:
use Rattle.std.specs.Prelude.{◌≡◌, ◌⊎◌, ◌&&◌, ◌||◌, ◌+◌, ◌≤◌, ◌∷◌, ◌++◌}
use Rattle.laws.specs.Kit.{refl, sym, ◌∙◌, ap, subst, inl, inr, Bool, true, false, cond, Option, none, some, ℕ, zero, suc, arith, ltb, le-ltb, ltb-false, List, [], append-nil, append_assoc, length, Float}
use Rattle.definition.specs.Floats.{◌⊗◌, ◌≼◌}
use Rattle.definition.specs.Numbers.{Settings, Turn, first_turn, second_turn, insert_shares, node_spacing, tiny_length, max_triangles}
use Rattle.definition.specs.Counts.{one_attempt, Refusal, Placement, Recovery, OddRegion, Spent, nothing_spent, trying, of_trace}
use Rattle.definition.specs.Plane.{Node, Vec, Edge, norm, from_to}
use Rattle.definition.specs.Cells.{Tri, Quad, Cell, tri, quad, Live, Mesh, node_at, cell_of, tri_owner, is_front, live_tris, front}
use Rattle.definition.specs.Flips.{Recovered}
use Rattle.definition.specs.Candidates.{candidates}
use Rattle.definition.specs.Insertion.{Inserted, nowhere, inserted, full, holder, slot_clear, point_clear, split, split_clear, insert_near, along, insert_by, insert_along}
use Rattle.definition.specs.Components.{removing_leaves_odd_component}
use Rattle.definition.specs.Region.{region}
use Rattle.definition.specs.Loops.{front_loops}
use Rattle.definition.specs.Trials.{Trial, trials}
use Rattle.definition.specs.Attempt.{Tried, made, failed, orphaned, lacking, recover_all, replace, try_region, try_recovered, open_sides, try_pair, Attempt, placed, refused, ended, try_pairs, try_trials, Stance, Sides, found, missing, overfull, sides_by, sides_from, side_nodes, try_both, try_first, target_of, stance, try_along, lies_left, try_seed, try_owner, try_quad}
use Rattle.definition.specs.Front.{State, Progress, stuck, progressed, limited, stopped, counting, after, make_attempt, past_limit, attempt, try_edges, open_edges, try_loops, round, front_loop, Result, Outcome, ran, wanting, new_mesh, start, result, outcome, run_front}
use Rattle.laws.specs.Bools.{which, or_none, cond_ok}
use Rattle.account.proofs.Rounds.{rounds_end}
use Rattle.account.specs.Walks.{Goes, Ends}
use Rattle.account.proofs.Walks.{Walk, edges_go, loops_go, rounds_end_so}
use Rattle.account.proofs.Walks
use Rattle.account.specs.Smaller.{First, Has, outcome_quads, quads_of}

-- ---- an attempt does not read the limit
-- the settings with another limit on attempts
unfoldable pub limited_to : ℕ → Settings → Settings
limited_to k s = record { quality = s.quality; attempts = k; capacity = s.capacity; slots = s.slots; room = s.room; size = s.size; even = s.even }

module _ (k : ℕ) (s : Settings) where
  abbrev s' : Settings
  s' = limited_to k s

  split_same : (m : Mesh) (p : Node) (id : ℕ) (c : Cell) → split s' m p id c ≡ split s m p id c
  unfolding split limited_to
  split_same m p id (tri t) = refl
  split_same m p id (quad q) = refl

  clear_same : (m : Mesh) (p : Node) (d : Float) (o : Option Live) → split_clear s' m p d o ≡ split_clear s m p d o
  unfolding split_clear
  clear_same m p d none = refl
  clear_same m p d (some x) = ap (λ z. cond (point_clear m p d x.cell) z nowhere) (split_same m p x.slot x.cell)

  near_same : (m : Mesh) (seed : ℕ) (p : Node) → insert_near s' m seed p ≡ insert_near s m seed p
  unfolding insert_near
  near_same m seed p =
      let d = node_spacing ⊗ m.bucket in
      ap (λ z. cond (slot_clear m p d (cell_of m seed)) z nowhere) (clear_same m p d (holder m seed p))

  by_case : (m : Mesh) (seed : ℕ) (o : Node) (n : Vec) (target c : Float) (cs : List Float) (r : Inserted) → insert_near s m seed (along o n target c) ≡ r
      → insert_by s' m seed o n target cs ≡ insert_by s m seed o n target cs → insert_by s' m seed o n target (c ∷ cs) ≡ insert_by s m seed o n target (c ∷ cs)
  unfolding insert_by
  by_case m seed o n target c cs nowhere f next = rw (near_same m seed (along o n target c), f, insert_by) next
  by_case m seed o n target c cs (inserted v m') f next = rw (near_same m seed (along o n target c), f, insert_by) refl
  by_case m seed o n target c cs (full w) f next = rw (near_same m seed (along o n target c), f, insert_by) refl

  by_same : (m : Mesh) (seed : ℕ) (o : Node) (n : Vec) (target : Float) (cs : List Float) → insert_by s' m seed o n target cs ≡ insert_by s m seed o n target cs
  unfolding insert_by
  by_same m seed o n target [] = refl
  by_same m seed o n target (c ∷ cs) = by_case m seed o n target c cs (insert_near s m seed (along o n target c)) refl (by_same m seed o n target cs)

  sides_from_same : (f : Stance) (n : Spent) (m : Mesh) (p : ℕ) (cs : List ℕ) → sides_from s' f n m p cs ≡ sides_from s f n m p cs
  unfolding sides_from insert_along
  sides_from_same f n m p (c ∷ cs) = refl
  sides_from_same f n m p [] = ap (λ z. cond f.mismatch (sides_by n m z) (missing n m)) (by_same m f.seed (node_at m p) f.normal f.target insert_shares)

  side_nodes_same : (t : Turn) (f : Stance) (n : Spent) (m : Mesh) (p other : ℕ) → side_nodes s' t f n m p other ≡ side_nodes s t f n m p other
  unfolding side_nodes limited_to
  side_nodes_same t f n m p other = sides_from_same f n m p (candidates s.quality t m p other f.seed f.normal f.target)

  replace_same : (j : ℕ) (m : Mesh) (q : Quad) (cells : List Live) → replace s' j m q cells ≡ replace s j m q cells
  unfolding replace limited_to
  replace_same j m q cells = refl

  region_same : (j : ℕ) (m : Mesh) (q : Quad) (o : Option (List Live)) → try_region s' j m q o ≡ try_region s j m q o
  unfolding try_region limited_to
  region_same j m q none = refl
  region_same j m q (some cells) = ap (λ z. cond (s.even && removing_leaves_odd_component m cells) (failed j OddRegion m) z) (replace_same j m q cells)

  recovered_same : (seed : ℕ) (q : Quad) (r : Recovered) → try_recovered s' seed q r ≡ try_recovered s seed q r
  unfolding try_recovered
  recovered_same seed q r = ap (λ z. cond r.there z (cond r.short (lacking of_trace r.flips r.mesh) (failed r.flips Recovery r.mesh))) (region_same r.flips r.mesh q (region r.mesh seed q))

  pair_same : (m : Mesh) (q : Quad) (o : Option Live) → try_pair s' m q o ≡ try_pair s m q o
  unfolding try_pair
  pair_same m q none = refl
  pair_same m q (some x) = recovered_same x.slot q (recover_all m (open_sides q))

  pairs_case : (n : Spent) (m : Mesh) (e : Edge) (last : Refusal) (t : Trial) (ts : List Trial) (r : Tried) → try_pair s m t.nodes (tri_owner m e) ≡ r
      → ((j : ℕ) (m : Mesh) (last : Refusal) → try_pairs s' (trying j n) m e last ts ≡ try_pairs s (trying j n) m e last ts) → try_pairs s' n m e last (t ∷ ts) ≡ try_pairs s n m e last (t ∷ ts)
  unfolding try_pairs
  pairs_case n m e last t ts (made j q m') f next = rw (pair_same m t.nodes (tri_owner m e), f, try_pairs) refl
  pairs_case n m e last t ts (failed j why m') f next = rw (pair_same m t.nodes (tri_owner m e), f, try_pairs) (next j m' why)
  pairs_case n m e last t ts orphaned f next = rw (pair_same m t.nodes (tri_owner m e), f, try_pairs) refl
  pairs_case n m e last t ts (lacking w j m') f next = rw (pair_same m t.nodes (tri_owner m e), f, try_pairs) refl

  pairs_same : (n : Spent) (m : Mesh) (e : Edge) (last : Refusal) (ts : List Trial) → try_pairs s' n m e last ts ≡ try_pairs s n m e last ts
  unfolding try_pairs
  pairs_same n m e last [] = refl
  pairs_same n m e last (t ∷ ts) = pairs_case n m e last t ts (try_pair s m t.nodes (tri_owner m e)) refl (λ j m last. pairs_same (trying j n) m e last ts)

  trials_same : (n : Spent) (m : Mesh) (e : Edge) (ts : List Trial) → try_trials s' n m e ts ≡ try_trials s n m e ts
  unfolding try_trials
  trials_same n m e [] = refl
  trials_same n m e (t ∷ ts) = pairs_same n m e Recovery (t ∷ ts)

  both_same : (f : Stance) (cs : List ℕ) (r : Sides) → try_both s' f cs r ≡ try_both s f cs r
  unfolding try_both limited_to
  both_same f cs (missing n m) = refl
  both_same f cs (overfull w n m) = refl
  both_same f cs (found ds n m) = trials_same n m f.edge (trials s.quality m f.a f.b cs ds)

  first_same : (f : Stance) (r : Sides) → try_first s' f r ≡ try_first s f r
  unfolding try_first
  first_same f (missing n m) = refl
  first_same f (overfull w n m) = refl
  first_same f (found cs n m) = ap (try_both s' f cs) (side_nodes_same second_turn f n m f.b f.a) ∙ both_same f cs (side_nodes s second_turn f n m f.b f.a)

  stance_same : (m : Mesh) (e : Edge) (seed a b : ℕ) → stance s' m e seed a b ≡ stance s m e seed a b
  unfolding stance target_of limited_to
  stance_same m e seed a b = refl

  along_same : (m : Mesh) (e : Edge) (seed a b : ℕ) → try_along s' m e seed a b ≡ try_along s m e seed a b
  unfolding try_along
  along_same m e seed a b =
      let go : Settings → Stance → Attempt = λ z f. cond (f.target ≼ tiny_length || norm (from_to (node_at m a) (node_at m b)) ≼ tiny_length) (refused Placement nothing_spent m) (try_first z f (side_nodes z first_turn f nothing_spent m a b)) in
      let f = stance s m e seed a b in
      ap (go s') (stance_same m e seed a b)
      ∙ ap (λ z. cond (f.target ≼ tiny_length || norm (from_to (node_at m a) (node_at m b)) ≼ tiny_length) (refused Placement nothing_spent m) z)
      (ap (try_first s' f) (side_nodes_same first_turn f nothing_spent m a b) ∙ first_same f (side_nodes s first_turn f nothing_spent m a b))

  seed_same : (m : Mesh) (e : Edge) (seed : ℕ) (c : Cell) → try_seed s' m e seed c ≡ try_seed s m e seed c
  unfolding try_seed
  seed_same m e seed (quad q) = refl
  seed_same m e seed (tri t) =
      elim (lies_left m e t) as (λ left. ◌≡◌ {A = Attempt} (elim left [ true ↦ try_along s' m e seed e.0 e.1 | false ↦ try_along s' m e seed e.1 e.0 ])
      (elim left [ true ↦ try_along s m e seed e.0 e.1 | false ↦ try_along s m e seed e.1 e.0 ])) [
        | true ↦ along_same m e seed e.0 e.1
        | false ↦ along_same m e seed e.1 e.0
      ]

  owner_same : (m : Mesh) (e : Edge) (o : Option Live) → try_owner s' m e o ≡ try_owner s m e o
  unfolding try_owner
  owner_same m e none = refl
  owner_same m e (some x) = seed_same m e x.slot x.cell

  -- the attempt
  pub quad_same : (m : Mesh) (e : Edge) → try_quad s' m e ≡ try_quad s m e
  unfolding try_quad
  quad_same m e = owner_same m e (tri_owner m e)

first_self : (qs : List Quad) → First qs qs
first_self qs = ([], sym (append-nil qs))

first_then : (ps qs rs : List Quad) → First ps qs → First qs rs → First ps rs
first_then ps qs rs f g = (f.0 ++ g.0, g.1 ∙ ap (λ l. l ++ g.0) f.1 ∙ append_assoc ps f.0 g.0)

after_has : (qs : List Quad) (st : State) (e : Edge) (a : Attempt) → Has qs st → Goes (Has qs) (Has qs) (after st e a)
unfolding after
after_has qs st e (placed n m q) h = first_then qs st.quads (st.quads ++ (q ∷ [])) h (q ∷ [], refl)
after_has qs st e (refused why n m) h = h
after_has qs st e (ended w n m) h = h

grows : (s : Settings) (given : ℕ) (qs : List Quad) → Walk s given (Has qs) (Has qs)
unfolding attempt make_attempt counting
grows s given qs = record {
  attempts = λ st e h. cond_ok (Goes (Has qs) (Has qs)) (past_limit s given (counting st one_attempt)) _ _ (λ z. h) (λ z. after_has qs (counting st one_attempt) e _ h);
  empties = λ st h. h;
}

-- ---- the two runs, step by step
-- p with the smaller limit, q with the larger: the same, unless the smaller limit stopped the run
abbrev Follows : Progress → Progress → Type 0
Follows (stuck st) q = q ≡ stuck st
Follows (progressed st) q = q ≡ progressed st
Follows (limited st) q = Goes (Has st.quads) (Has st.quads) q
Follows (stopped w st) q = q ≡ stopped w st

after_follows : (st : State) (e : Edge) (a : Attempt) → Follows (after st e a) (after st e a)
unfolding after
after_follows st e (placed n m q) = refl
after_follows st e (refused why n m) = refl
after_follows st e (ended w n m) = refl

module _ (s : Settings) (given j k : ℕ) (less : j ≤ k) where
  abbrev small : Settings
  small = limited_to j s

  abbrev large : Settings
  large = limited_to k s

  make_same : (st : State) (e : Edge) → make_attempt large st e ≡ make_attempt small st e
  unfolding make_attempt
  make_same st e = ap (λ z. after st e (cond (is_front st.mesh e) z (refused Placement nothing_spent st.mesh))) (quad_same k s st.mesh e ∙ sym (quad_same j s st.mesh e))

  within_too : (st : State) → past_limit small given st ≡ false → past_limit large given st ≡ false
  unfolding past_limit limited_to
  within_too st h =
      let g = or_none (ltb j st.counts.attempts) (ltb (max_triangles given) (live_tris st.mesh)) h in
      rw (le-ltb k st.counts.attempts (omega (arith, ltb-false j st.counts.attempts g.0)), g.1) refl

  made_follows : (st : State) (e : Edge) → Follows (make_attempt small st e) (make_attempt small st e)
  unfolding make_attempt
  made_follows st e = after_follows st e _

  attempt_follows : (st : State) (e : Edge) → Follows (attempt small given st e) (attempt large given st e)
  unfolding attempt counting
  attempt_follows st e = elim (which (past_limit small given (counting st one_attempt))) [
    | inl z ↦ rw z ((grows large given st.quads).attempts st e (first_self st.quads))
    | inr z ↦ rw (z, within_too (counting st one_attempt) z, make_same (counting st one_attempt) e) (made_follows (counting st one_attempt) e)
  ]

  edges_case : (st : State) (e : Edge) (es : List Edge) (p q : Progress) → attempt small given st e ≡ p → attempt large given st e ≡ q → Follows p q
      → ((st' : State) → Follows (try_edges small given st' es) (try_edges large given st' es)) → Follows (try_edges small given st (e ∷ es)) (try_edges large given st (e ∷ es))
  unfolding try_edges
  edges_case st e es (stuck st') q f g h next = rw (f, try_edges, g, h) (next st')
  edges_case st e es (progressed st') q f g h next = rw (f, try_edges, g, h) refl
  edges_case st e es (limited st') q f g h next =
      let H = Has st'.quads in
      rw (f, try_edges) (Walks.edges_case large given H H st e es q g h (λ st'' h'. edges_go large given H H (grows large given st'.quads) st'' es h'))
  edges_case st e es (stopped w st') q f g h next = rw (f, try_edges, g, h) refl

  edges_follow : (st : State) (es : List Edge) → Follows (try_edges small given st es) (try_edges large given st es)
  unfolding try_edges
  edges_follow st [] = refl
  edges_follow st (e ∷ es) = edges_case st e es (attempt small given st e) (attempt large given st e) refl refl (attempt_follows st e) (λ st'. edges_follow st' es)

  loops_case : (st : State) (l : List Edge) (ls : List (List Edge)) (p q : Progress) → try_edges small given st (open_edges st l) ≡ p → try_edges large given st (open_edges st l) ≡ q → Follows p q
      → ((st' : State) → Follows (try_loops small given st' ls) (try_loops large given st' ls)) → Follows (try_loops small given st (l ∷ ls)) (try_loops large given st (l ∷ ls))
  unfolding try_loops
  loops_case st l ls (stuck st') q f g h next = rw (f, try_loops, g, h) (next st')
  loops_case st l ls (progressed st') q f g h next = rw (f, try_loops, g, h) refl
  loops_case st l ls (limited st') q f g h next =
      let H = Has st'.quads in
      rw (f, try_loops) (Walks.loops_case large given H H st l ls q g h (λ st'' h'. loops_go large given H H (grows large given st'.quads) st'' ls h'))
  loops_case st l ls (stopped w st') q f g h next = rw (f, try_loops, g, h) refl

  loops_follow : (st : State) (ls : List (List Edge)) → Follows (try_loops small given st ls) (try_loops large given st ls)
  unfolding try_loops
  loops_follow st [] = refl
  loops_follow st (l ∷ ls) =
      loops_case st l ls (try_edges small given st (open_edges st l)) (try_edges large given st (open_edges st l)) refl refl (edges_follow st (open_edges st l)) (λ st'. loops_follow st' ls)

  round_follows : (st : State) (es : List Edge) → Follows (round small given st es) (round large given st es)
  unfolding round
  round_follows st [] = refl
  round_follows st (e ∷ es) = loops_follow st (front_loops st.mesh.points (e ∷ es))

  -- the end: the same, or stopped by the smaller limit
  abbrev SameEnd : Progress → Progress → Type 0
  SameEnd p q = (q ≡ p) ⊎ ((st : State) × (p ≡ stuck st) × Ends (Has st.quads) (Has st.quads) q)

  rounds_case : (n : ℕ) (st : State) (p q : Progress) → round small given st (front st.mesh) ≡ p → round large given st (front st.mesh) ≡ q → Follows p q
      → ((st' : State) → SameEnd (front_loop n small given st') (front_loop n large given st')) → SameEnd (front_loop (suc n) small given st) (front_loop (suc n) large given st)
  unfolding front_loop
  rounds_case n st (stuck st') q f g h next = rw (f, front_loop, g, h) (inl refl)
  rounds_case n st (progressed st') q f g h next = rw (f, front_loop, g, h) (next st')
  rounds_case n st (limited st') q f g h next =
      let H = Has st'.quads in
      rw (f, front_loop) (inr (st', refl, Walks.rounds_case large given H H n st q g h (λ st'' h'. rounds_end_so large given H H (grows large given st'.quads) n st'' h')))
  rounds_case n st (stopped w st') q f g h next = rw (f, front_loop, g, h) (inl refl)

  rounds_follow : (n : ℕ) (st : State) → SameEnd (front_loop n small given st) (front_loop n large given st)
  unfolding front_loop
  rounds_follow zero st = inl refl
  rounds_follow (suc n) st =
      rounds_case n st (round small given st (front st.mesh)) (round large given st (front st.mesh)) refl refl (round_follows st (front st.mesh)) (λ st'. rounds_follow n st')

outcome_is : (p : Progress) → outcome_quads (outcome p) ≡ quads_of p
unfolding outcome_quads outcome quads_of result
outcome_is (stuck st) = refl
outcome_is (progressed st) = refl
outcome_is (limited st) = refl
outcome_is (stopped w st) = refl

ends_first : (qs : List Quad) (q : Progress) → Ends (Has qs) (Has qs) q → First qs (quads_of q)
unfolding quads_of
ends_first qs (stuck st) h = elim h [ inl g ↦ g | inr g ↦ g ]
ends_first qs (progressed st) h = h
ends_first qs (limited st) h = h
ends_first qs (stopped w st) h = h

end_first : (s : Settings) (given j k : ℕ) (less : j ≤ k) (p q : Progress) → SameEnd s given j k less p q → First (quads_of p) (quads_of q)
unfolding quads_of
end_first s given j k less p q (inl e) = ([], ap quads_of e ∙ sym (append-nil (quads_of p)))
end_first s given j k less p q (inr h) = subst (λ z. First (quads_of z) (quads_of q)) (sym h.1) (ends_first h.0.quads q h.2)

module _ (s : Settings) (j k : ℕ) (less : j ≤ k) (lk : Edge → Bool) (ts : List Tri) (ps : List Node) where
  -- as many rounds of both
  abbrev p : Progress
  p = front_loop (k + 2) (limited_to j s) (length ts) (start (limited_to j s) lk ts ps)

  abbrev q : Progress
  q = front_loop (k + 2) (limited_to k s) (length ts) (start (limited_to j s) lk ts ps)

  small_is : run_front (limited_to j s) lk ts ps ≡ outcome p
  unfolding limited_to
  small_is = rounds_end (k + 2) (limited_to j s) lk ts ps (omega arith)

  large_is : run_front (limited_to k s) lk ts ps ≡ outcome q
  unfolding run_front limited_to start new_mesh
  large_is = refl

  same_end : SameEnd s (length ts) j k less p q
  same_end = rounds_follow s (length ts) j k less (k + 2) (start (limited_to j s) lk ts ps)

  -- The quads of a run with a smaller limit on attempts are the first ones of the run with a larger limit,
  -- whether that is finished or ends for want of lent memory.
  pub smaller_first : First (outcome_quads (run_front (limited_to j s) lk ts ps)) (outcome_quads (run_front (limited_to k s) lk ts ps))
  smaller_first =
      let h = end_first s (length ts) j k less p q same_end in
      (h.0, ap outcome_quads large_is ∙ outcome_is q ∙ h.1 ∙ ap (λ qs. qs ++ h.0) (sym (ap outcome_quads small_is ∙ outcome_is p)))

  -- where the run with the larger limit is finished, so is the run with the smaller limit
  pub smaller_finished : (r : Result) → run_front (limited_to k s) lk ts ps ≡ ran r → (r' : Result) × (run_front (limited_to j s) lk ts ps ≡ ran r') × First r'.quads r.quads
  unfolding outcome outcome_quads
  smaller_finished r e =
      let w : (r' : Result) × (run_front (limited_to j s) lk ts ps ≡ ran r') = elim same_end [
        | inl f ↦ (r, small_is ∙ sym (ap outcome f) ∙ sym large_is ∙ e)
        | inr f ↦ (result f.0, small_is ∙ ap outcome f.1)
      ] in
      (w.0, w.1, subst (λ o. First w.0.quads (outcome_quads o)) e (subst (λ o. First (outcome_quads o) (outcome_quads (run_front (limited_to k s) lk ts ps))) w.1 smaller_first))
