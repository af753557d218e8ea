-- An attempt that was counted: what its callees ask, and what it leaves.
use mathlib.Core.Path.{◌≡◌, refl, ap, sym, ◌∙◌, subst}
use mathlib.Core.Bool.{Bool, true, false, not, ◌||◌}
use mathlib.Core.Logic.{inl, inr}
use mathlib.Core.List.{List, [], ◌∷◌, ◌++◌}
use Prim.{⊥, absurd}
use Prim.Native.Nat.{ℕ, ◌+◌, ◌-◌, ◌*◌, ◌^◌, ◌<◌, ◌≤◌}
use native.Mathlib.Nat.{mul-le-mul_right}
use native.Mathlib.Omega.{arith}
use lib.Dec.{ltb}
use lib.Ieee.{Float}
use borrow.Author.Tests.{not-true, not-false}
use lib.ListN.{length, drop, length-append}
use lib.Seq.{drop-drop}
use Rattle.definition.specs.Lists.{flat_map}
use Rattle.definition.specs.Numbers.{max_attempts, max_triangles}
use Rattle.definition.specs.Counts.{Counts, tally, ◌⊞◌, one_attempt, Spent, nothing_spent, spending, at_limit, Refusal, Placement, refused_by, Want}
use Rattle.definition.specs.Plane.{Node, Edge}
use Rattle.definition.specs.Cells.{Mesh, Quad, new_quad, born, quad_nodes, key, is_front, live_tris, this_round}
use Rattle.definition.specs.Attempt.{Attempt, placed, refused, ended, try_quad}
use Rattle.definition.specs.Front.{State, counting, freed, after, make_attempt, past_limit, attempt}
use Rattle.definition.specs.Call.{quad_words}
use Rattle.definition.specs.Account.{All}
use Rattle.laws.specs.Lists.{In, in_right}
use Rattle.laws.specs.Frames.{Under}
use Rattle.laws.specs.Slices.{quads_length, onto_length}
use Rattle.account.proofs.Counting.{added_refused}
use Rattle.joints.specs.Table.{Locks}
use Rattle.traces.specs.Log.{Logged}
use Rattle.rules.specs.declared.Rules.{Rules}
use Rattle.rules.specs.Settings.{settings_of}
use Rattle.account.specs.Run.{ProgressOk}
use Rattle.account.specs.Grown.{Grown}
use Rattle.account.proofs.Grown.{attempt_grown}
use Rattle.account.specs.Placed.{live_quad, quad_cells}
use Rattle.account.proofs.Placed.{last_round}
use Rattle.account.proofs.Trials as Trials
use Rattle.account.specs.Trials.{FewTrials}
use Rattle.account.specs.Reach.{by_refusal, by_quad}
use Rattle.account.proofs.Reach.{ReachedState, records_fit}
use Rattle.cells.specs.Layout.{refused_at, mesh_end}
use Rattle.cells.specs.Walk as Walk
use Rattle.cells.specs.Counting.{Attempted}
use Rattle.cells.specs.Rep.{Rep}
use Rattle.cells.proofs.Frames.{rep_under}
use Rattle.cells.proofs.Edges.{key_up}
use Rattle.cells.specs.declared.counters.Counters.{Counters}
use Rattle.blocked_edges.specs.Records.{IsEdge, Kept, Same, size}
use Rattle.blocked_edges.specs.Blocks.{Blocks, with_edge}
use Rattle.blocked_edges.proofs.Room.{with_distinct}
use Rattle.blocked_edges.proofs.Framing.{framed}
use Rattle.outcomes.specs.Ready.{Small, Ready, Behind, Beyond}
use Rattle.outcomes.specs.Ends.{spent, spent_of, end_of, quad_of, Plain, Left, AttemptTo, attempt_mesh}
use Rattle.outcomes.specs.declared.Kind.TheVariants as kinds
use Rattle.outcomes.specs.declared.Placed.{Placed}
use Rattle.outcomes.specs.declared.Tried.{Tried}
use Rattle.outcomes.specs.declared.End.TheVariants as ends
use Rattle.settling.specs.declared.standing.Standing.{Standing}
use Rattle.settling.specs.declared.standing.Step.{Step}
use Rattle.settling.specs.declared.standing.Going.TheVariants as goings
use Rattle.try_quad.specs.Tries.{CanAttempt}
use Rattle.settling.specs.Standings.{counts_of, FewTally, CountedOne, CountsMore}
use Rattle.settling.specs.Settles.{KeptSoFar, QuadFits, next_quad, CanSettle, SettleTo}
use Rattle.attempts.specs.Runs.{Setup, Fixed, Holds, Goes, FrontKept, Makes, Stepped, StepTo}
use Rattle.settling.proofs.Settling.{placed_refused, placed_ended, refused_ended, same_placed}
use Rattle.attempts.proofs.Apart.{pairwise_of, with_in}
use Rattle.attempts.proofs.Reaching.{Fine, Q, R, Gets, sound, attempt_fine, reach_within, reach_never, made_mismatch}

-- ---- frames

-- the refused edges are as they were
pub beyond_same : (w w' : List ℕ) (s p : ℕ) → Beyond w w' s p → Same w w' (refused_at s p) (size (3 * s) p)
beyond_same w w' s p h = record { len = h.len; same = λ i a b. h.same i a (omega arith) }

kept_under : (w w' : List ℕ) (s p : ℕ) → Kept w w' (refused_at s p) (size (3 * s) p) → Under w w' (mesh_end s p)
kept_under w w' s p h = record { len = h.len; low = λ i l. h.low i (omega arith) }

-- the memory stands for the mesh as before
pub ready_under : (w w' : List ℕ) (q : List Float) (rules : Rules) (c : Counters) (m : Mesh) → Under w w' (mesh_end rules.lay.slots rules.lay.points) → Ready w q rules c m → Ready w' q rules c m
ready_under w w' q rules c m h r =
    record { rep = rep_under w w' rules.lay.slots rules.lay.points h m r.rep; pts = r.pts; side = r.side; counted = r.counted; live = r.live; attempts = r.attempts; small = r.small }

-- an attempt and a change of the refused edges leave the front's areas
pub front_kept : (w w' w'' : List ℕ) (s p : ℕ) → Beyond w w' s p → Kept w' w'' (refused_at s p) (size (3 * s) p) → FrontKept w w'' s p
front_kept w w' w'' s p h k = record { len = k.len ∙ h.len; same = λ i a b. k.high i (omega arith) ∙ h.same i (omega arith) b }

-- points were added behind
pub behind_trans : (a b c : List Float) (n k : ℕ) → n ≤ k → Behind a b n → Behind b c k → Behind a c k
behind_trans a b c n k l f g =
    let e : 3 * n + (3 * k - 3 * n) ≡ 3 * k = omega arith in
    let back : (z : List Float) → drop (3 * k) z ≡ drop (3 * k - 3 * n) (drop (3 * n) z) = λ z. sym (drop-drop (3 * k - 3 * n) (3 * n) z ∙ ap (λ (j : ℕ). drop j z) e) in
    record { len = g.len ∙ f.len; rest = g.rest ∙ back b ∙ ap (drop (3 * k - 3 * n)) f.rest ∙ sym (back a) }

-- ---- counts

few_from : (g : Standing) (c : Counts) → counts_of g ≡ c → (n : ℕ) → n < 2 ^ 32 → c.front_empty ≤ n → c.placement ≤ n → c.invalid_quad ≤ n → c.recovery ≤ n → c.region ≤ n → c.odd_region ≤ n
    → c.mismatch_insertions ≤ n → c.limit ≤ n → c.trials ≤ n → FewTally g.tally
few_from g c e n h l1 l2 l3 l4 l5 l6 l7 l8 l9 =
    record {
      front = omega (arith, ap (λ z. z.front_empty) e);
      placement = omega (arith, ap (λ z. z.placement) e);
      invalid = omega (arith, ap (λ z. z.invalid_quad) e);
      recovery = omega (arith, ap (λ z. z.recovery) e);
      region = omega (arith, ap (λ z. z.region) e);
      odd = omega (arith, ap (λ z. z.odd_region) e);
      insertions = omega (arith, ap (λ z. z.mismatch_insertions) e);
      limit = omega (arith, ap (λ z. z.limit) e);
      trials = omega (arith, ap (λ z. z.trials) e);
    }

product_few : (p a t : ℕ) → p ≤ 64 → a ≤ 829200 → t ≤ p * a → t ≤ 53068800
product_few p a t h k l = let m : p * a ≤ 64 * a = mul-le-mul_right a h in omega arith

module _ (x : Setup) (st : State) (old es : List Edge) (f : Fixed x) (small : Small x.rules) (reach : Gets x f st old es) where
  sd : ReachedState (settings_of x.rules) x.begun.locked x.begun.ts x.begun.ps st old es
  sd = sound x f st old es reach

  -- attempts and insertions are few
  pub tries_few : st.counts.attempts ≤ 829200
  unfolding max_attempts settings_of
  tries_few = omega (arith, sd.tries_fit, f.attempts, f.few)

  pub insertions_few : st.counts.mismatch_insertions ≤ x.rules.lay.points
  unfolding settings_of
  insertions_few =
      let h = ap length sd.counted.points_are ∙ length-append x.begun.ps sd.counted.added in
      omega (arith, h, sd.counted.number, sd.good.fits.points)

  -- the trials are few: at most the permitted number for each attempt
  pub trials_few : st.counts.trials ≤ 53068800
  unfolding settings_of
  trials_few = product_few x.rules.quality.pairs st.counts.attempts st.counts.trials small.pairs tries_few sd.trials

  pub few_tally : (g : Standing) → counts_of g ≡ st.counts → FewTally g.tally
  few_tally g e =
      let u = sd.counted.adds_up in
      let b : st.counts.attempts ≤ 829200 = tries_few in
      let z : st.counts.front_empty ≡ 0 = reach_never x f st old es reach in
      let i : st.counts.mismatch_insertions ≤ 829200 = let j : st.counts.mismatch_insertions ≤ x.rules.lay.points = insertions_few in let c = small.points in omega arith in
      let t : st.counts.trials ≤ 53068800 = trials_few in
      few_from g st.counts e 53068800 (omega arith) (omega arith) (omega arith) (omega arith) (omega arith)
      (omega arith) (omega arith) (omega arith) (omega arith) (omega arith)

  pub few_counted : (g : Standing) → counts_of g ≡ (counting st one_attempt).counts → FewTally g.tally
  unfolding counting ◌⊞◌ tally one_attempt
  few_counted g e =
      let u = sd.counted.adds_up in
      let b : st.counts.attempts ≤ 829200 = tries_few in
      let z : st.counts.front_empty ≡ 0 = reach_never x f st old es reach in
      let i : st.counts.mismatch_insertions ≤ 829200 = let j : st.counts.mismatch_insertions ≤ x.rules.lay.points = insertions_few in let c = small.points in omega arith in
      let t : st.counts.trials ≤ 53068800 = trials_few in
      few_from g (counting st one_attempt).counts e 53068800 (omega arith) (omega arith) (omega arith) (omega arith) (omega arith)
      (omega arith) (omega arith) (omega arith) (omega arith) (omega arith)

-- ---- the attempt

counted_number : (c : Counts) → (c ⊞ one_attempt).mismatch_insertions ≡ c.mismatch_insertions
unfolding ◌⊞◌ tally one_attempt
counted_number c = omega arith

counted_trials : (c : Counts) → (c ⊞ one_attempt).trials ≡ c.trials
unfolding ◌⊞◌ tally one_attempt
counted_trials c = omega arith

quad_below : (n round : ℕ) (t : Placed) → All (λ i. i < n) (quad_nodes (quad_of round t)) → (t.n0 < n) × (t.n1 < n) × (t.n2 < n) × (t.n3 < n)
unfolding quad_nodes born new_quad
quad_below n round t h = (h.0, h.1.0, h.1.1.0, h.1.1.1.0)

quad_edge : (round : ℕ) (t : Placed) → (quad_of round t).edge ≡ key t.n0 t.n1
unfolding born new_quad
quad_edge round t = refl

last_in : {A : Type 0} (xs : List A) (a : A) → In a (xs ++ a ∷ [])
last_in xs a = in_right a xs (a ∷ []) (inl refl)

module _ (x : Setup) (w : List ℕ) (q : List Float) (quads tr : List ℕ) (g : Standing) (st : State) (u v : ℕ) (es : List Edge) (k : Makes w q quads tr x g st (u, v) es) where
  fx : Fixed x
  fx = k.reaches.fixed

  before : Gets x fx st k.reaches.old ((u, v) ∷ es)
  before = k.reaches.reach

  sb : ReachedState (settings_of x.rules) x.begun.locked x.begun.ts x.begun.ps st k.reaches.old ((u, v) ∷ es)
  sb = sound x fx st k.reaches.old ((u, v) ∷ es) before

  pub locks : {j : List ℕ} → Locks j x.begun.locked → Locks j st.mesh.locked
  locks {j} l = subst (Locks j) (sym sb.good.locked) l

  pub up : u < v
  up = sb.ordered (u, v) (inl refl)

  pub known : v < length st.mesh.points
  known = (sb.good.tracked.each (u, v) (inl refl)).below

  pub ready : Ready w q x.rules g.counters st.mesh
  unfolding counting
  ready = k.holds.ready

  points_fit : length st.mesh.points ≤ x.rules.lay.points
  points_fit = ready.rep.points

  pub on_edge : Walk.IsEdge x.rules.lay.points u v
  on_edge = record { node = omega (arith, up, known, points_fit); apart = λ z. omega (arith, up, z) }

  is_edge : IsEdge x.rules.lay.points (u, v)
  is_edge = record { order = up; below = omega (arith, known, points_fit) }

  pub can_attempt : CanAttempt w q x.rules g.counters u v st.mesh
  can_attempt = record { ready = ready; up = up; known = omega (arith, known, ready.counted.points); pairs = ready.small.pairs }

  -- a quad of the attempt grows from its edge
  pub grows : Grown (u, v) (try_quad (settings_of x.rules) st.mesh (u, v))
  grows = attempt_grown (settings_of x.rules) st.mesh (u, v) up

  -- the attempt tries at most the permitted number of pairs
  pub tries : FewTrials (settings_of x.rules) (try_quad (settings_of x.rules) st.mesh (u, v))
  tries = Trials.trials_few (settings_of x.rules) st.mesh (u, v)

  pub tries_none : FewTrials (settings_of x.rules) (refused Placement nothing_spent st.mesh)
  unfolding nothing_spent
  tries_none = omega arith

  -- an attempt not past the limits is made
  made : attempt (settings_of x.rules) x.rules.given st (u, v) ≡ make_attempt (settings_of x.rules) (counting st one_attempt) (u, v)
  unfolding attempt settings_of
  made = rw k.below refl

  pub off_front : is_front st.mesh (u, v) ≡ false → attempt (settings_of x.rules) x.rules.given st (u, v) ≡ after (counting st one_attempt) (u, v) (refused Placement nothing_spent st.mesh)
  unfolding make_attempt counting
  off_front h = made ∙ (rw h refl)

  pub on_front : is_front st.mesh (u, v) ≡ true → attempt (settings_of x.rules) x.rules.given st (u, v) ≡ after (counting st one_attempt) (u, v) (try_quad (settings_of x.rules) st.mesh (u, v))
  unfolding make_attempt counting
  on_front h = made ∙ (rw h refl)

  blocks_before : Blocks w (refused_at x.rules.lay.slots x.rules.lay.points) (3 * x.rules.lay.slots) x.rules.lay.points (length st.quads) k.ever st.blocked
  unfolding counting
  blocks_before = k.holds.so_far.blocks

  number_before : g.quads ≡ length st.quads
  unfolding counting
  number_before = k.holds.so_far.number

  counts_before : counts_of g ≡ st.counts ⊞ one_attempt
  unfolding counting
  counts_before = k.holds.counts

  behind_before : Behind x.begun.floats q (length st.mesh.points)
  unfolding counting
  behind_before = k.holds.behind

  -- the trace, and the round: every round before placed one quad
  pub log_before : Logged x.begun.log tr g.words st.mesh
  unfolding counting
  log_before = k.holds.log

  pub in_round : g.quads + 1 ≡ this_round st.mesh
  unfolding this_round quad_cells live_quad
  in_round = omega (arith, number_before, sb.good.in_rounds.number)

  quads_few : length st.quads ≤ x.rules.lay.slots
  unfolding settings_of
  quads_few = omega (arith, sb.good.quads_fit, sb.good.fits.slots)

  -- a round more can be counted
  pub round_few : g.quads < 2 ^ 32
  round_few = omega (arith, number_before, quads_few, ready.small.slots)

  quads_long : length quads ≡ length x.begun.old
  unfolding counting
  quads_long = ap length k.holds.so_far.text ∙ onto_length (flat_map quad_words st.quads) x.begun.old (omega (arith, quads_length st.quads, quads_few, fx.room))

  -- ---- with its end

  module _ (a : Attempt) (ran : attempt (settings_of x.rules) x.rules.given st (u, v) ≡ after (counting st one_attempt) (u, v) a) where
    ran_given : attempt (settings_of x.rules) (length x.begun.ts) st (u, v) ≡ after (counting st one_attempt) (u, v) a
    ran_given = ap (λ (n : ℕ). attempt (settings_of x.rules) n st (u, v)) (sym fx.given) ∙ ran

    fine : ProgressOk (Q st.mesh.points st.counts.mismatch_insertions) (R st.mesh.points st.counts.mismatch_insertions) es (after (counting st one_attempt) (u, v) a)
    fine =
        subst (λ p. ProgressOk (Q st.mesh.points st.counts.mismatch_insertions) (R st.mesh.points st.counts.mismatch_insertions) es p) ran_given
        (attempt_fine x fx.sized k.reaches.old st (u, v) es sb (reach_within x fx st k.reaches.old ((u, v) ∷ es) before))

  fine_few : (points : List Node) (n j : ℕ) → Fine st.mesh.points st.counts.mismatch_insertions points j → j ≡ st.counts.mismatch_insertions + n → length points ≤ x.rules.lay.points
      → (n ≤ x.rules.lay.points) × (length st.mesh.points ≤ length points)
  fine_few points n j h e l =
      let m = ap length h.is ∙ length-append st.mesh.points h.new in
      (omega (arith, m, h.number), omega (arith, m))

  -- a refusal
  module _ (why : Refusal) (n : Spent) (m : Mesh) (ran : attempt (settings_of x.rules) x.rules.given st (u, v) ≡ after (counting st one_attempt) (u, v) (refused why n m)) where
    abbrev refused_state : State
    refused_state = record { mesh = m; quads = st.quads; blocked = (u, v) ∷ st.blocked; counts = (counting st one_attempt).counts ⊞ spending n ⊞ refused_by why }

    refused_reach : Gets x fx refused_state ((u, v) ∷ k.reaches.old) es
    unfolding after counting
    refused_reach = by_refusal st refused_state k.reaches.old (u, v) es before (ran_given (refused why n m) ran)

    refused_fine : length m.points ≤ x.rules.lay.points → (n.insertions ≤ x.rules.lay.points) × (length st.mesh.points ≤ length m.points)
    unfolding after counting
    refused_fine l = fine_few m.points n.insertions _ (fine (refused why n m) ran).1 (added_refused st.counts n why) l

    refused_room : m.used ≤ x.rules.lay.slots → length (with_edge (u, v) k.ever) ≤ 3 * x.rules.lay.slots
    unfolding settings_of
    refused_room l =
        let b = records_fit (settings_of x.rules) x.begun.locked x.begun.ts x.begun.ps fx.proper fx.points fx.slots refused_state ((u, v) ∷ k.reaches.old) es (with_edge (u, v) k.ever) refused_reach
        (pairwise_of x.rules.lay.points (with_edge (u, v) k.ever) (with_distinct x.rules.lay.points (u, v) k.ever is_edge blocks_before.lists.distinct))
        (λ f i. in_right f es ((u, v) ∷ k.reaches.old) (deeper f (with_in (u, v) k.ever f i))) in
        omega (arith, b, l)
      where
        deeper : (f : Edge) → In f ((u, v) ∷ k.ever) → In f ((u, v) ∷ k.reaches.old)
        deeper f (inl z) = inl z
        deeper f (inr i) = inr (k.reaches.sub f i)

    refused_sub : (f : Edge) → In f (with_edge (u, v) k.ever) → In f ((u, v) ∷ k.reaches.old)
    refused_sub f i = deeper (with_in (u, v) k.ever f i)
      where
        deeper : In f ((u, v) ∷ k.ever) → In f ((u, v) ∷ k.reaches.old)
        deeper (inl z) = inl z
        deeper (inr i) = inr (k.reaches.sub f i)

  -- a quad
  module _ (n : Spent) (m : Mesh) (h : Quad) (ran : attempt (settings_of x.rules) x.rules.given st (u, v) ≡ after (counting st one_attempt) (u, v) (placed n m h)) where
    abbrev placed_state : State
    placed_state = record { mesh = m; quads = st.quads ++ (h ∷ []); blocked = freed h st.blocked; counts = (counting st one_attempt).counts ⊞ spending n }

    placed_reach : Gets x fx placed_state k.reaches.old []
    unfolding after counting
    placed_reach = by_quad st placed_state k.reaches.old (u, v) es before (ran_given (placed n m h) ran)

    placed_fine : length m.points ≤ x.rules.lay.points → (n.insertions ≤ x.rules.lay.points) × (length st.mesh.points ≤ length m.points)
    unfolding after counting
    placed_fine l = fine_few m.points n.insertions _ (fine (placed n m h) ran).1 (made_mismatch st.counts n) l

    after_quad : ReachedState (settings_of x.rules) x.begun.locked x.begun.ts x.begun.ps placed_state k.reaches.old []
    after_quad = sound x fx placed_state k.reaches.old [] placed_reach

    -- the quad's round is the one after those of the quads before
    placed_next : (t : Placed) → quad_of h.round t ≡ h → next_quad st.quads t ≡ h
    placed_next t w = ap (λ (z : ℕ). quad_of z t) (sym (last_round m st.quads h after_quad.good.in_rounds)) ∙ w

    placed_fits : (t : Placed) → quad_of h.round t ≡ h → t.replaced ≤ 16384 → h.edge ≡ (u, v) → length m.points ≤ x.rules.lay.points → QuadFits quads x.rules.lay.slots x.rules.lay.points (length st.quads) t u v
    unfolding settings_of
    placed_fits t w gone e l =
        let sp = after_quad in
        let below : All (λ i. i < length m.points) (quad_nodes (quad_of h.round t)) = subst (λ z. All (λ i. i < length m.points) (quad_nodes z)) (sym w) (sp.good.rated h (last_in st.quads h)).good.below in
        let four = quad_below (length m.points) h.round t below in
        let more : length st.quads < x.rules.lay.slots = omega (arith, sp.good.quads_fit, sp.good.fits.slots, length-append st.quads (h ∷ [])) in
        record {
          node0 = omega (arith, four.0);
          node1 = omega (arith, four.1);
          node2 = omega (arith, four.2);
          node3 = omega (arith, four.3);
          edge = sym (quad_edge h.round t) ∙ ap (λ (z : Quad). z.edge) w ∙ e;
          replaced = gone;
          room = omega (arith, more, quads_long, fx.room);
          few = more;
        }

  -- an end for want of lent memory
  module _ (wt : Want) (n : Spent) (m : Mesh) (ran : attempt (settings_of x.rules) x.rules.given st (u, v) ≡ after (counting st one_attempt) (u, v) (ended wt n m)) where
    ended_fine : length m.points ≤ x.rules.lay.points → (n.insertions ≤ x.rules.lay.points) × (length st.mesh.points ≤ length m.points)
    unfolding after counting
    ended_fine l = fine_few m.points n.insertions _ (fine (ended wt n m) ran).1 (made_mismatch st.counts n) l

  -- ---- what `settle` asks

  mismatch_few : g.tally.mismatch_insertions ≤ x.rules.lay.points
  mismatch_few =
      let e : g.tally.mismatch_insertions ≡ st.counts.mismatch_insertions = ap (λ c. c.mismatch_insertions) counts_before ∙ counted_number st.counts in
      let i : st.counts.mismatch_insertions ≤ x.rules.lay.points = insertions_few x st k.reaches.old ((u, v) ∷ es) fx ready.small before in
      omega arith

  inserted_few : (n r : ℕ) → r ≡ n → n ≤ x.rules.lay.points → g.tally.mismatch_insertions + r < 2 ^ 32
  inserted_few n r e l = let i : g.tally.mismatch_insertions ≤ x.rules.lay.points = mismatch_few in let p = ready.small.points in omega arith

  tried_few : (n r : ℕ) → r ≡ n → n ≤ (settings_of x.rules).quality.pairs → g.tally.trials + r < 2 ^ 32
  unfolding settings_of
  tried_few n r e l =
      let f : g.tally.trials ≡ st.counts.trials = ap (λ c. c.trials) counts_before ∙ counted_trials st.counts in
      let i : st.counts.trials ≤ 53068800 = trials_few x st k.reaches.old ((u, v) ∷ es) fx ready.small before in
      let p = ready.small.pairs in
      omega arith

  module _ (w' : List ℕ) (q' : List Float) (t : Tried) (by : Beyond w w' x.rules.lay.slots x.rules.lay.points) where
    so_far : KeptSoFar w' quads x.rules.lay.slots x.rules.lay.points g k.ever st.blocked st.quads x.begun.old
    unfolding counting
    so_far =
        record {
          blocks = framed w w' (refused_at x.rules.lay.slots x.rules.lay.points) (3 * x.rules.lay.slots) x.rules.lay.points (length st.quads) k.ever st.blocked (beyond_same w w' x.rules.lay.slots x.rules.lay.points by) blocks_before;
          records = k.holds.so_far.records;
          number = number_before;
          text = k.holds.so_far.text;
        }

    few : FewTally g.tally
    few = few_counted x st k.reaches.old ((u, v) ∷ es) fx ready.small before g k.holds.counts

    can_with : g.tally.mismatch_insertions + t.inserted < 2 ^ 32
        → g.tally.trials + t.trials < 2 ^ 32
        → ((z : Placed) → t.end ≡ ends.Placed z → QuadFits quads x.rules.lay.slots x.rules.lay.points (length st.quads) z u v)
        → ((why : Refusal) → t.end ≡ end_of why → length (with_edge (u, v) k.ever) ≤ 3 * x.rules.lay.slots)
        → CanSettle w' quads x.rules.lay.slots x.rules.lay.points g t u v k.ever st.blocked st.quads x.begun.old
    can_with i j p r = record { small_slots = ready.small.slots; small_points = ready.small.points; so_far = so_far; few = few; inserted = i; trials = j; edge = is_edge; placed = p; refused = r }

    pub can_settle : (a : Attempt) → attempt (settings_of x.rules) x.rules.given st (u, v) ≡ after (counting st one_attempt) (u, v) a → Grown (u, v) a → FewTrials (settings_of x.rules) a
        → AttemptTo w' q q' x.rules g.counters a t → CanSettle w' quads x.rules.lay.slots x.rules.lay.points g t u v k.ever st.blocked st.quads x.begun.old
    can_settle (placed n m h) ran from few_tried to =
        let l = to.1.ready.rep.points in
        let o = to.0 in
        can_with (inserted_few n.insertions t.inserted (ap (λ z. z.insertions) to.1.spent) (placed_fine n m h ran l).0)
        (tried_few n.trials t.trials (ap (λ z. z.trials) to.1.spent) few_tried)
        (λ z e. subst (λ (y : Placed). QuadFits quads x.rules.lay.slots x.rules.lay.points (length st.quads) y u v) (same_placed t.end o.placed z o.end e) (placed_fits n m h ran o.placed o.quad o.few from l))
        (λ why e. absurd (placed_refused t.end o.placed why o.end e))
    can_settle (refused why n m) ran from few_tried to =
        can_with (inserted_few n.insertions t.inserted (ap (λ z. z.insertions) to.1.spent) (refused_fine why n m ran to.1.ready.rep.points).0)
        (tried_few n.trials t.trials (ap (λ z. z.trials) to.1.spent) few_tried)
        (λ z e. absurd (placed_refused t.end z why e to.0))
        (λ why' e. refused_room why n m ran to.1.ready.rep.used)
    can_settle (ended wt n m) ran from few_tried to =
        can_with (inserted_few n.insertions t.inserted (ap (λ z. z.insertions) to.1.spent) (ended_fine wt n m ran to.1.ready.rep.points).0)
        (tried_few n.trials t.trials (ap (λ z. z.trials) to.1.spent) few_tried)
        (λ z e. absurd (placed_ended t.end z wt e to.0))
        (λ why e. absurd (refused_ended t.end why wt e to.0))

    -- ---- what is left

    module _ (w'' quads'' tr' : List ℕ) (r : Step) (set : SettleTo w' w'' quads'' x.rules.lay.slots x.rules.lay.points g t u v k.ever st.blocked st.quads x.begun.old r) where
      ready_after : (n : Spent) (m : Mesh) → Left w' q q' x.rules g.counters n m t → (c : Counters) → c ≡ t.counters → Ready w'' q' x.rules c m
      ready_after n m l c e =
          subst (λ (z : Counters). Ready w'' q' x.rules z m) (sym e)
          (ready_under w' w'' q' x.rules t.counters m (kept_under w' w'' x.rules.lay.slots x.rules.lay.points set.kept) l.ready)

      counts_after : (n : Spent) (d : Counts) (s' : Standing) → counts_of s' ≡ d → d ≡ counts_of g ⊞ spending (spent_of t) → spent_of t ≡ n → counts_of s' ≡ st.counts ⊞ one_attempt ⊞ spending n
      counts_after n d s' e f i = e ∙ f ∙ ap (λ z. z ⊞ spending (spent_of t)) counts_before ∙ ap (λ (z : Spent). st.counts ⊞ one_attempt ⊞ spending z) i

      log_after : (m : Mesh) → Logged x.begun.log tr' t.at m → (n : ℕ) → n ≡ t.at → Logged x.begun.log tr' n m
      log_after m l n e = subst (λ (z : ℕ). Logged x.begun.log tr' z m) (sym e) l

      pub stepped : (a : Attempt) → attempt (settings_of x.rules) x.rules.given st (u, v) ≡ after (counting st one_attempt) (u, v) a
          → AttemptTo w' q q' x.rules g.counters a t → Logged x.begun.log tr' t.at (attempt_mesh a) → Stepped w'' q' quads'' tr' x es (after (counting st one_attempt) (u, v) a) r
      unfolding after counting
      stepped (placed n m h) ran to lg =
          let o = to.0 in
          let p = set.placed o.placed o.end in
          let l = to.1 in (
            p.kind,
            record {
              ever = k.ever;
              holds = record {
                ready = ready_after n m l r.standing.counters p.counted.counters;
                counts = counts_after n _ r.standing (p.counted.counts l.attempts) refl l.spent;
                behind = behind_trans x.begun.floats q q' (length st.mesh.points) (length m.points) (placed_fine n m h ran l.ready.rep.points).1 behind_before l.behind;
                log = log_after m lg r.standing.words p.counted.words;
                so_far = subst (λ (z : Quad). KeptSoFar w'' quads'' x.rules.lay.slots x.rules.lay.points r.standing k.ever (freed z st.blocked) (st.quads ++ z ∷ []) x.begun.old) (placed_next n m h ran o.placed o.quad) p.so_far;
              };
              reaches = record { fixed = fx; old = k.reaches.old; reach = placed_reach n m h ran; sub = k.reaches.sub };
            },
          )
      stepped (refused why n m) ran to lg =
          let p = set.refused why to.0 in
          let l = to.1 in (
            p.kind,
            record {
              ever = with_edge (u, v) k.ever;
              holds = record {
                ready = ready_after n m l r.standing.counters p.counted.counters;
                counts = p.counted.counts l.attempts ∙ ap (λ z. z ⊞ spending (spent_of t) ⊞ refused_by why) counts_before ∙ ap (λ (z : Spent). st.counts ⊞ one_attempt ⊞ spending z ⊞ refused_by why) l.spent;
                behind = behind_trans x.begun.floats q q' (length st.mesh.points) (length m.points) (refused_fine why n m ran l.ready.rep.points).1 behind_before l.behind;
                log = log_after m lg r.standing.words p.counted.words;
                so_far = p.so_far;
              };
              reaches = record { fixed = fx; old = (u, v) ∷ k.reaches.old; reach = refused_reach why n m ran; sub = refused_sub why n m ran };
            },
          )
      stepped (ended wt n m) ran to lg =
          let p = set.ended wt to.0 in
          let l = to.1 in (
            p.kind,
            record {
              ready = ready_after n m l r.standing.counters p.counted.counters;
              counts = counts_after n _ r.standing (p.counted.counts l.attempts) refl l.spent;
              number = p.so_far.number;
              text = p.so_far.text;
              behind = behind_trans x.begun.floats q q' (length st.mesh.points) (length m.points) (ended_fine wt n m ran l.ready.rep.points).1 behind_before l.behind;
              log = log_after m lg r.standing.words p.counted.words;
            },
          )

-- ---- the callees' answers

module _ (x : Setup) (w : List ℕ) (q : List Float) (quads tr : List ℕ) (g : Standing) (st : State) (u v : ℕ) (es : List Edge) (k : Makes w q quads tr x g st (u, v) es) where
  front_as : (b : Bool) → ((m : Mesh) → Rep w x.rules.lay.slots x.rules.lay.points m → b ≡ is_front m (key u v)) → b ≡ is_front st.mesh (u, v)
  front_as b h = h st.mesh (ready x w q quads tr g st u v es k).rep ∙ ap (is_front st.mesh) (key_up u v (up x w q quads tr g st u v es k))

  pub was_off : (b : Bool) → ((m : Mesh) → Rep w x.rules.lay.slots x.rules.lay.points m → b ≡ is_front m (key u v)) → not b ≡ true → is_front st.mesh (u, v) ≡ false
  was_off b h e = sym (front_as b h) ∙ not-true b e

  pub was_front : (b : Bool) → ((m : Mesh) → Rep w x.rules.lay.slots x.rules.lay.points m → b ≡ is_front m (key u v)) → not b ≡ false → is_front st.mesh (u, v) ≡ true
  was_front b h e = sym (front_as b h) ∙ not-false b e

  -- off the front nothing is tried
  pub off_to : (t : Tried) → Plain (ends.Refused kinds.Placement) g.counters g.words 0 0 0 t → AttemptTo w q q x.rules g.counters (refused Placement nothing_spent st.mesh) t
  unfolding end_of nothing_spent
  off_to t h = (
    h.end,
    record {
      ready = subst (λ (z : Counters). Ready w q x.rules z st.mesh) (sym h.counters) (ready x w q quads tr g st u v es k);
      spent = ap (λ (z : ℕ). spent z t.trials t.flips) h.inserted ∙ ap (λ (z : ℕ). spent 0 z t.flips) h.trials ∙ ap (spent 0 0) h.flips;
      attempts = ap (λ c. c.attempts) h.counters;
      behind = record { len = refl; rest = refl };
    },
  )

  pub off_log : (t : Tried) → Plain (ends.Refused kinds.Placement) g.counters g.words 0 0 0 t → Logged x.begun.log tr t.at st.mesh
  off_log t h = subst (λ (z : ℕ). Logged x.begun.log tr z st.mesh) (sym h.at) (log_before x w q quads tr g st u v es k)

  pub step_is : (w' : List ℕ) (q' : List Float) (t : Tried) (by : Beyond w w' x.rules.lay.slots x.rules.lay.points) (w'' quads'' tr' : List ℕ) (r : Step)
      → SettleTo w' w'' quads'' x.rules.lay.slots x.rules.lay.points g t u v k.ever st.blocked st.quads x.begun.old r
      → (a : Attempt) → attempt (settings_of x.rules) x.rules.given st (u, v) ≡ after (counting st one_attempt) (u, v) a
      → AttemptTo w' q q' x.rules g.counters a t → Logged x.begun.log tr' t.at (attempt_mesh a) → StepTo w w'' q' quads'' tr' x es (attempt (settings_of x.rules) x.rules.given st (u, v)) r
  step_is w' q' t by w'' quads'' tr' r set a ran to lg =
      record {
        is = subst (λ p. Stepped w'' q' quads'' tr' x es p r) (sym ran) (stepped x w q quads tr g st u v es k w' q' t by w'' quads'' tr' r set a ran to lg);
        front = front_kept w w' w'' x.rules.lay.slots x.rules.lay.points by set.kept;
      }

-- ---- the attempt is counted

live_as : (w : List ℕ) (q : List Float) (rules : Rules) (c d : Counters) (m : Mesh) → Attempted c d → c.attempts + 1 < 2 ^ 32 → Ready w q rules c m → Ready w q rules d m
live_as w q rules c d m h l r =
    record {
      rep = r.rep;
      pts = r.pts;
      side = r.side;
      counted = record { live = h.live ∙ r.counted.live; used = h.used ∙ r.counted.used; points = h.points ∙ r.counted.points };
      live = omega (arith, h.live, h.used, r.live);
      attempts = omega (arith, h.attempts);
      small = r.small;
    }

module _ (x : Setup) (w : List ℕ) (q : List Float) (quads tr : List ℕ) (g₀ : Standing) (st : State) (e : Edge) (es : List Edge) (k : Goes w q quads tr x g₀ st (e ∷ es)) (g : Standing) (one : CountedOne g₀ g) where
  -- the memory stands for the state with the attempt counted
  pub counted_holds : Holds w q quads tr x g (counting st one_attempt) k.ever
  unfolding counting
  counted_holds =
      let h = k.holds in
      let few : st.counts.attempts ≤ 829200 = tries_few x st k.reaches.old (e ∷ es) k.reaches.fixed h.ready.small k.reaches.reach in
      let same : g₀.counters.attempts ≡ st.counts.attempts = ap (λ c. c.attempts) h.counts in
      record {
        ready = live_as w q x.rules g₀.counters g.counters st.mesh one.counters (omega arith) h.ready;
        counts = one.counts ∙ ap (λ c. c ⊞ one_attempt) h.counts;
        behind = h.behind;
        log = subst (λ (z : ℕ). Logged x.begun.log tr z st.mesh) (sym one.words) h.log;
        so_far = record { blocks = h.so_far.blocks; records = one.records ∙ h.so_far.records; number = one.quads ∙ h.so_far.number; text = h.so_far.text };
      }

  -- the limits' test is the definition's
  pub past_is : (b : Bool) → b ≡ (ltb x.rules.attempts g.counters.attempts || ltb (max_triangles x.rules.given) g.counters.live) → past_limit (settings_of x.rules) x.rules.given (counting st one_attempt) ≡ b
  unfolding past_limit counting settings_of
  past_is b h =
      let c = counted_holds in
      let tries : g.counters.attempts ≡ (st.counts ⊞ one_attempt).attempts = ap (λ z. z.attempts) c.counts in
      let live : g.counters.live ≡ live_tris st.mesh = c.ready.counted.live in
      sym (h ∙ ap (λ (n : ℕ). ltb x.rules.attempts n || ltb (max_triangles x.rules.given) g.counters.live) tries
      ∙ ap (λ (n : ℕ). ltb x.rules.attempts (st.counts ⊞ one_attempt).attempts || ltb (max_triangles x.rules.given) n) live)

  pub makes : past_limit (settings_of x.rules) x.rules.given (counting st one_attempt) ≡ false → Makes w q quads tr x g st e es
  makes b = record { ever = k.ever; holds = counted_holds; reaches = k.reaches; below = b }

  pub few_now : FewTally g.tally
  few_now = few_counted x st k.reaches.old (e ∷ es) k.reaches.fixed k.holds.ready.small k.reaches.reach g counted_holds.counts

  -- past a limit the attempt is not made
  pub limited_step : past_limit (settings_of x.rules) x.rules.given (counting st one_attempt) ≡ true → (h : Standing) → CountsMore g at_limit h
      → StepTo w w q quads tr x es (attempt (settings_of x.rules) x.rules.given st e) (record { kind = goings.Limited; standing = h })
  unfolding attempt counting settings_of
  limited_step b h more =
      let c = counted_holds in
      record {
        is = rw (b, attempt) (
          refl,
          record {
            ready = subst (λ (z : Counters). Ready w q x.rules z st.mesh) (sym more.counters) c.ready;
            counts = more.counts ∙ ap (λ z. z ⊞ at_limit) c.counts;
            number = more.quads ∙ c.so_far.number;
            text = c.so_far.text;
            behind = c.behind;
            log = subst (λ (z : ℕ). Logged x.begun.log tr z st.mesh) (sym more.words) c.log;
          },
        );
        front = record { len = refl; same = λ i a b. refl };
      }
