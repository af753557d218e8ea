-- The grid profile, whatever ends the run: no point is added, and 8 does not come up.
use Rattle.std.specs.Prelude.{◌≡◌, ◌≢◌, ◌&&◌, ◌||◌, ◌+◌, ◌∷◌}
use Rattle.laws.specs.Kit.{refl, sym, ◌∙◌, ap, subst, inl, inr, Bool, true, false, not, cond, Option, none, some, ℕ, arith, ltb, List, [], length}
use Rattle.definition.specs.Lists.{find, flat_map}
use Rattle.definition.specs.Floats.{◌≼◌}
use Rattle.definition.specs.Numbers.{Settings, first_turn, tiny_length}
use Rattle.definition.specs.Counts.{Refusal, Placement, Recovery, Spent, nothing_spent, trying, one_attempt, Want, of_points, of_slots, of_trace, number}
use Rattle.definition.specs.Plane.{Node, Edge, norm, from_to}
use Rattle.definition.specs.Cells.{Tri, Quad, Cell, tri, quad, Live, Mesh, node_at, tri_owner, is_front}
use Rattle.definition.specs.Trace.{in_room}
use Rattle.definition.specs.Candidates.{candidates}
use Rattle.definition.specs.Components.{removing_leaves_odd_component}
use Rattle.definition.specs.Region.{region}
use Rattle.definition.specs.Trials.{Trial, trials}
use Rattle.definition.specs.Attempt.{Tried, made, failed, orphaned, lacking, recover_all, replace, try_region, try_recovered, open_sides, try_pair, Attempt, placed, refused, ended, try_pairs, try_trials, Stance, Sides, found, missing, overfull, sides_from, side_nodes, try_both, try_first, stance, try_along, lies_left, try_seed, try_owner, try_quad}
use Rattle.definition.specs.Front.{State, Progress, stuck, progressed, limited, stopped, counting, after, make_attempt, past_limit, attempt, Outcome, ran, wanting, new_mesh, start, outcome, run_front}
use Rattle.definition.specs.Call.{Asked, Lent, refusal, given_points, given_tris, given_locks, first_points, coordinates, onto, most_slots, settings_within, conditions, outside, written, untouched, after_run, call_within}
use Rattle.definition.specs.Account.{All}
use Rattle.laws.specs.Bools.{cond_ok}
use Rattle.laws.specs.Lists.{In, all_from, known}
use Rattle.laws.specs.Slices.{points_onto}
use Rattle.account.specs.Start.{Proper}
use Rattle.account.proofs.Start.{start_valid}
use Rattle.account.specs.Run.{ProgressOk}
use Rattle.account.proofs.Run.{attempt_ok}
use Rattle.consequences.specs.ValidWalks.{Leads, Closes}
use Rattle.consequences.proofs.ValidWalks.{Steps, rounds_close}
use Rattle.account.specs.Gridded.{Unsized}
use Rattle.account.proofs.Gridded.{stance_on_target, nothing_tried, points_rule, nothing_inserted}
use Rattle.account.proofs.Finished.{not_of_run, on_grid_so, points_long, given_fit, slots_limit, points_number, given_proper, given_within}
use Rattle.consequences.specs.GridEnds.{NotPoints}

slots_not : NotPoints of_slots
unfolding number
slots_not e = let z : ◌≡◌ {A = ℕ} 9 8 = ap number e in omega arith

trace_not : NotPoints of_trace
unfolding number
trace_not e = let z : ◌≡◌ {A = ℕ} 11 8 = ap number e in omega arith

only_points : (w : Want) → NotPoints w → number w ≢ 8
unfolding number
only_points of_points n e = n refl
only_points of_slots n e = omega (arith, e)
only_points of_trace n e = omega (arith, e)

module _ (s : Settings) where
  -- of the side nodes at one end, where no edge is off its target
  abbrev NeverFull : Sides → Type 0
  NeverFull (found cs n m) = Unit {0}
  NeverFull (missing n m) = Unit {0}
  NeverFull (overfull w n m) = ⊥

  -- of a pair
  abbrev Fine : Tried → Type 0
  Fine (made k q m) = Unit {0}
  Fine (failed k why m) = Unit {0}
  Fine orphaned = Unit {0}
  Fine (lacking w k m) = NotPoints w

  -- of an attempt
  abbrev pub EndsOtherwise : Attempt → Type 0
  EndsOtherwise (placed n m q) = Unit {0}
  EndsOtherwise (refused why n m) = Unit {0}
  EndsOtherwise (ended w n m) = NotPoints w

  replace_fine : (k : ℕ) (m : Mesh) (q : Quad) (cells : List Live) → Fine (replace s k m q cells)
  unfolding replace
  replace_fine k m q cells = cond_ok Fine (ltb s.slots (m.used + 1)) _ _ (λ z. slots_not) (λ z. cond_ok Fine (in_room _) _ _ (λ y. tt) (λ y. trace_not))

  region_fine : (k : ℕ) (m : Mesh) (q : Quad) (o : Option (List Live)) → Fine (try_region s k m q o)
  unfolding try_region
  region_fine k m q none = tt
  region_fine k m q (some cells) = cond_ok Fine (s.even && removing_leaves_odd_component m cells) _ _ (λ z. tt) (λ z. replace_fine k m q cells)

  pair_fine : (m : Mesh) (q : Quad) (o : Option Live) → Fine (try_pair s m q o)
  unfolding try_pair try_recovered
  pair_fine m q none = tt
  pair_fine m q (some x) =
      let r = recover_all m (open_sides q) in
      cond_ok Fine r.there _ _ (λ z. region_fine r.flips r.mesh q (region r.mesh x.slot q)) (λ z. cond_ok Fine r.short _ _ (λ y. trace_not) (λ y. tt))

  pairs_case : (n : Spent) (m : Mesh) (e : Edge) (last : Refusal) (t : Trial) (ts : List Trial) (r : Tried) → try_pair s m t.nodes (tri_owner m e) ≡ r → Fine r
      → ((k : ℕ) (why : Refusal) (m' : Mesh) → EndsOtherwise (try_pairs s (trying k n) m' e why ts)) → EndsOtherwise (try_pairs s n m e last (t ∷ ts))
  unfolding try_pairs
  pairs_case n m e last t ts (made k q m') f h next = rw (f, try_pairs) tt
  pairs_case n m e last t ts (failed k why m') f h next = rw (f, try_pairs) (next k why m')
  pairs_case n m e last t ts orphaned f h next = rw (f, try_pairs) tt
  pairs_case n m e last t ts (lacking w k m') f h next = rw (f, try_pairs) h

  pairs_fine : (n : Spent) (m : Mesh) (e : Edge) (last : Refusal) (ts : List Trial) → EndsOtherwise (try_pairs s n m e last ts)
  unfolding try_pairs
  pairs_fine n m e last [] = tt
  pairs_fine n m e last (t ∷ ts) = pairs_case n m e last t ts (try_pair s m t.nodes (tri_owner m e)) refl (pair_fine m t.nodes (tri_owner m e)) (λ k why m'. pairs_fine (trying k n) m' e why ts)

  trials_fine : (n : Spent) (m : Mesh) (e : Edge) (ts : List Trial) → EndsOtherwise (try_trials s n m e ts)
  unfolding try_trials
  trials_fine n m e [] = tt
  trials_fine n m e (t ∷ ts) = pairs_fine n m e Recovery (t ∷ ts)

  module _ (unsized : Unsized s) where
    sides_fine : (f : Stance) (n : Spent) (m : Mesh) (p : ℕ) (cs : List ℕ) → f.mismatch ≡ false → NeverFull (sides_from s f n m p cs)
    unfolding sides_from
    sides_fine f n m p (c ∷ cs) e = tt
    sides_fine f n m p [] e = rw (nothing_tried s unsized f n m p e) tt

    both_fine : (f : Stance) (cs : List ℕ) (x : Sides) → NeverFull x → EndsOtherwise (try_both s f cs x)
    unfolding try_both
    both_fine f cs (missing n m) h = tt
    both_fine f cs (overfull w n m) h = absurd h
    both_fine f cs (found ds n m) h = trials_fine n m f.edge (trials s.quality m f.a f.b cs ds)

    first_fine : (f : Stance) (x : Sides) → f.mismatch ≡ false → NeverFull x → EndsOtherwise (try_first s f x)
    unfolding try_first side_nodes
    first_fine f (missing n m) e h = tt
    first_fine f (overfull w n m) e h = absurd h
    first_fine f (found cs n m) e h = both_fine f cs _ (sides_fine f n m f.b _ e)

    module _ (m : Mesh) (near : All (λ p. outside p ≡ false) m.points) where
      along_fine : (e : Edge) (seed a b : ℕ) → EndsOtherwise (try_along s m e seed a b)
      unfolding try_along side_nodes
      along_fine e seed a b =
          let f = stance s m e seed a b in
          let on = stance_on_target s unsized m e seed a b near in
          let sides = side_nodes s first_turn f nothing_spent m a b in
          cond_ok EndsOtherwise (f.target ≼ tiny_length || norm (from_to (node_at m a) (node_at m b)) ≼ tiny_length) (refused Placement nothing_spent m) (try_first s f sides) (λ z. tt)
          (λ z. first_fine f sides on (sides_fine f nothing_spent m a (candidates s.quality first_turn m a b f.seed f.normal f.target) on))

      seed_fine : (e : Edge) (seed : ℕ) (c : Cell) → EndsOtherwise (try_seed s m e seed c)
      unfolding try_seed
      seed_fine e seed (quad q) = tt
      seed_fine e seed (tri t) = elim (lies_left m e t) as (λ b. EndsOtherwise (elim b [ true ↦ try_along s m e seed e.0 e.1 | false ↦ try_along s m e seed e.1 e.0 ])) [
        | true ↦ along_fine e seed e.0 e.1
        | false ↦ along_fine e seed e.1 e.0
      ]

      owner_fine : (e : Edge) (o : Option Live) → EndsOtherwise (try_owner s m e o)
      unfolding try_owner
      owner_fine e none = tt
      owner_fine e (some x) = seed_fine e x.slot x.cell

      -- no attempt wants a point
      pub no_point_wanted : (e : Edge) → EndsOtherwise (try_quad s m e)
      unfolding try_quad
      no_point_wanted e = owner_fine e (tri_owner m e)

-- ---- a run
module _ (s : Settings) (unsized : Unsized s) (ps : List Node) (near : All (λ p. outside p ≡ false) ps) where
  -- the points are the given ones
  abbrev Same : State → Type 0
  Same st = st.mesh.points ≡ ps

  abbrev StoppedOtherwise : Want → State → Type 0
  StoppedOtherwise w st = Same st × NotPoints w

  -- of what an attempt leads to
  abbrev Otherwise : Progress → Type 0
  Otherwise (stuck st) = Unit {0}
  Otherwise (progressed st) = Unit {0}
  Otherwise (limited st) = Unit {0}
  Otherwise (stopped w st) = NotPoints w

  after_otherwise : (st : State) (e : Edge) (x : Attempt) → EndsOtherwise s x → Otherwise (after st e x)
  unfolding after
  after_otherwise st e (placed n m q) h = tt
  after_otherwise st e (refused why n m) h = tt
  after_otherwise st e (ended w n m) h = h

  attempt_otherwise : (given : ℕ) (st : State) (e : Edge) → Same st → Otherwise (attempt s given st e)
  unfolding attempt make_attempt counting
  attempt_otherwise given st e h =
      let counted = counting st one_attempt in
      let off : Attempt = refused Placement nothing_spent st.mesh in
      cond_ok Otherwise (past_limit s given counted) _ _ (λ z. tt)
      (λ z. after_otherwise counted e (cond (is_front st.mesh e) (try_quad s st.mesh e) off)
      (cond_ok (EndsOtherwise s) (is_front st.mesh e) (try_quad s st.mesh e) off (λ y. no_point_wanted s unsized st.mesh (subst (λ l. All (λ p. outside p ≡ false) l) (sym h) near) e) (λ y. tt)))

  leads : (p : Progress) → ProgressOk (λ st es. Same st) Same [] p → Otherwise p → Leads Same Same StoppedOtherwise p
  leads (stuck st) a b = a.1
  leads (progressed st) a b = a.1
  leads (limited st) a b = a.1
  leads (stopped w st) a b = (a.1, b)

  steps : (given : ℕ) → Steps s given Same Same StoppedOtherwise
  unfolding counting
  steps given = record {
    attempts = λ st e o ok h. leads (attempt s given st e) (attempt_ok s _ _ _ (points_rule s unsized ps near) given st e [] o (ok, h)) (attempt_otherwise given st e h);
    empties = λ st h. h;
  }

  ended_so : (w : Want) (qs : List Node) (us : List Quad) (ws : List ℕ) (p : Progress) → Closes Same Same StoppedOtherwise p → outcome p ≡ wanting w qs us ws → (qs ≡ ps) × NotPoints w
  unfolding outcome
  ended_so w qs us ws (stuck st) h e = absurd (let z : ◌≡◌ {A = ℕ} 0 1 = cc in omega arith)
  ended_so w qs us ws (progressed st) h e = absurd (let z : ◌≡◌ {A = ℕ} 0 1 = cc in omega arith)
  ended_so w qs us ws (limited st) h e = absurd (let z : ◌≡◌ {A = ℕ} 0 1 = cc in omega arith)
  ended_so w qs us ws (stopped v st) h e = let k : v ≡ w = cc in let j : st.mesh.points ≡ qs = cc in (sym j ∙ h.0, subst NotPoints k h.1)

  -- A run that want of lent memory ended left the given points, and it did not end for want of a point.
  pub nothing_added : (lk : Edge → Bool) (ts : List Tri) (w : Want) (qs : List Node) (us : List Quad) (ws : List ℕ) → Proper ps ts → run_front s lk ts ps ≡ wanting w qs us ws → (qs ≡ ps) × NotPoints w
  unfolding run_front start new_mesh
  nothing_added lk ts w qs us ws proper e =
      ended_so w qs us ws _ (rounds_close s (length ts) Same Same StoppedOtherwise (steps (length ts)) (s.attempts + 2) (start s lk ts ps) (start_valid s lk ts ps proper) refl) e

-- ---- a call
module _ (most : ℕ) (a : Asked) (l : Lent) (chosen : a.grid ≡ true) where
  abbrev s : Settings
  s = settings_within most (length l.trace) a

  -- the given points at the front of their own slice
  points_stay : find (λ c. c.1) (conditions a l) ≡ none → onto (flat_map coordinates (given_points a l)) l.points ≡ l.points
  unfolding given_points
  points_stay f =
      let n = points_number a l f in
      points_onto l.points l.points (given_points a l) (ap (λ k. first_points k l.points) (sym n)) (omega (arith, n, points_long a l f, given_fit a l f)) refl

  unsized_so : find (λ c. c.1) (conditions a l) ≡ none → Unsized s
  unfolding settings_within most_slots
  unsized_so f = record { no_size = (on_grid_so a l f chosen).0; room = omega (arith, slots_limit a l f) }

  near_so : find (λ c. c.1) (conditions a l) ≡ none → All (λ p. outside p ≡ false) (given_points a l)
  near_so f = all_from (given_points a l) (given_within a l f)

  by_outcome : find (λ c. c.1) (conditions a l) ≡ none → (o : Outcome) → run_front s (given_locks a l) (given_tris a l) (given_points a l) ≡ o
      → ((after_run l o).lent.points ≡ l.points) × ((after_run l o).answer ≢ refusal 8)
  unfolding after_run written
  by_outcome f (ran r) e =
      let k = nothing_inserted s (unsized_so f) (given_points a l) (near_so f) (given_locks a l) (given_tris a l) r (given_proper a l f) e in
      (ap (λ ps. onto (flat_map coordinates ps) l.points) k ∙ points_stay f, λ z. let y : ◌≡◌ {A = ℕ} 0 1 = cc in omega arith)
  by_outcome f (wanting w qs us ws) e =
      let k = nothing_added s (unsized_so f) (given_points a l) (near_so f) (given_locks a l) (given_tris a l) w qs us ws (given_proper a l f) e in
      (ap (λ ps. onto (flat_map coordinates ps) l.points) k.0 ∙ points_stay f, λ z. let y : number w ≡ 8 = cc in only_points w k.1 y)

  -- In the grid profile, whatever the call answers, the slice of points is as it was, and the answer is not 8.
  pub grid_points : ((call_within most a l).lent.points ≡ l.points) × ((call_within most a l).answer ≢ refusal 8)
  unfolding call_within untouched
  grid_points = elim (known (find (λ c. c.1) (conditions a l))) [
    | inl f ↦ rw (f, call_within) (by_outcome f (run_front s (given_locks a l) (given_tris a l) (given_points a l)) refl)
    | inr f ↦ rw (f.1, call_within) (refl, λ z. let y : f.0.0 ≡ 8 = cc in (not_of_run a l f.0.0 f.0.1 f.1).0 y)
  ]
