-- What holds of every mesh and state of a run, in one record; and that the lists which come back fit their slices.
use Rattle.std.specs.Prelude.{◌≡◌, ◌+◌, ◌≤◌}
use Rattle.laws.specs.Kit.{refl, sym, ◌∙◌, ap, subst, Bool, ℕ, arith, List, [], length}
use Rattle.definition.specs.Numbers.{Settings}
use Rattle.definition.specs.Counts.{Counts, Want}
use Rattle.definition.specs.Plane.{Node, Edge}
use Rattle.definition.specs.Cells.{Tri, Quad, Mesh, triangles}
use Rattle.definition.specs.Front.{State, counting, Result, ran, wanting, new_mesh, start, result, run_front}
use Rattle.definition.specs.Call.{Asked, Lent, Lengths, finished, given_points, given_tris, given_locks, settings_within, lengths, call_within}
use Rattle.account.specs.Start.{Proper}
use Rattle.account.proofs.Start.{start_valid}
use Rattle.account.proofs.Parity.{triangles_good}
use Rattle.account.specs.Rooms.{Fits}
use Rattle.account.proofs.Rooms.{fits_rule, start_fits}
use Rattle.account.specs.Quads.{AllRated}
use Rattle.account.proofs.Quads.{rated_rule}
use Rattle.account.specs.Placed.{InRounds}
use Rattle.account.proofs.Placed.{rounds_rule, start_rounds}
use Rattle.account.proofs.Fits.{triangles_number, sizes_number, quads_rule}
use Rattle.account.proofs.Tracked.{Tracked}
use Rattle.account.proofs.Records.{tracked_rule, start_tracked}
use Rattle.account.proofs.Steps.{made_weaker}
use Rattle.account.proofs.Locks.{flip_locked, split_locked, replaced_locked}
use Rattle.account.specs.Run.{Rule, Sound}
use Rattle.account.proofs.Run.{run_ok, run_stopped}
use Rattle.account.proofs.Finished.{behind, given_fit, slots_fit, points_number, tris_number, given_proper}

-- of a mesh, with the quads placed so far and edges that were refused or wait
pub record Good (s : Settings) (lk : Edge → Bool) (given : ℕ) (m : Mesh) (quads : List Quad) (es : List Edge) : Type 0 where
  -- no more points and slots than were lent
  pub fits : Fits s m
  -- the same edges are locked as at the start
  pub locked : m.locked ≡ lk
  -- every quad took a slot that no given triangle had
  pub quads_fit : given + length quads ≤ m.used
  -- every quad was rated by the points as they are
  pub rated : AllRated s.quality m.points quads
  -- the quads were placed in the rounds 1, 2, ..
  pub in_rounds : InRounds m quads
  -- the different edges are at most three for each slot in use
  pub tracked : Tracked m es

-- the edges fs are tracked whatever happens to them
module _ (s : Settings) (lk : Edge → Bool) (given : ℕ) (fs : List Edge) where
  -- between attempts
  abbrev pub Q : State → List Edge → Type 0
  Q st es = Good s lk given st.mesh st.quads fs

  -- in an attempt
  abbrev pub P : State → List Edge → ℕ → Mesh → Type 0
  P st es n m = Good s lk given m st.quads fs

  -- where want of lent memory ends the run
  abbrev pub R : State → Type 0
  R st = Good s lk given st.mesh st.quads fs

  all_of : {m : Mesh} {qs : List Quad} → Fits s m → m.locked ≡ lk → given + length qs ≤ m.used → AllRated s.quality m.points qs → InRounds m qs → Tracked m fs → Good s lk given m qs fs
  all_of a k b c o d = record { fits = a; locked = k; quads_fit = b; rated = c; in_rounds = o; tracked = d }

  -- every state of a run is good
  pub good_rule : Rule s Q P R
  unfolding counting
  good_rule =
      let a = fits_rule s in
      let b = quads_rule s given in
      let c = rated_rule s in
      let o = rounds_rule s in
      let d = tracked_rule s fs in
      record {
        opens = λ st es ok h f. h;
        begins = λ st es h. h;
        flips = λ st es n m m' e ok h i f. all_of (a.flips st es n m m' e ok h.fits i f) (flip_locked m e m' f ∙ h.locked) (b.flips st es n m m' e ok h.quads_fit i f) (c.flips st es n m m' e ok h.rated i f) (o.flips st es n m m' e ok h.in_rounds i f) (d.flips st es n m m' e ok h.tracked i f);
        splits = λ st es n m x t p ok h w. all_of (a.splits st es n m x t p ok h.fits w) (split_locked m x.slot t p ∙ h.locked) (b.splits st es n m x t p ok h.quads_fit w) (c.splits st es n m x t p ok h.rated w) (o.splits st es n m x t p ok h.in_rounds w) (d.splits st es n m x t p ok h.tracked w);
        refuses = λ st e es why n m h ok w. w;
        places = λ st e es n m q h w. all_of
            (a.places st e es n m q h.fits (made_weaker s _ _ (λ n m k. (k.0, k.1.fits)) n.insertions m q w))
            (ap (λ k. k.locked) w.after ∙ replaced_locked w.mesh q w.cells ∙ w.before.1.locked)
            (b.places st e es n m q h.quads_fit (made_weaker s _ _ (λ n m k. (k.0, k.1.quads_fit)) n.insertions m q w))
            (c.places st e es n m q h.rated (made_weaker s _ _ (λ n m k. (k.0, k.1.rated)) n.insertions m q w))
            (o.places st e es n m q h.in_rounds (made_weaker s _ _ (λ n m k. (k.0, k.1.in_rounds)) n.insertions m q w))
            (d.places st e es n m q h.tracked (made_weaker s _ _ (λ n m k. (k.0, k.1.tracked)) n.insertions m q w));
        ends = λ st e es n m h ok w. w;
        limits = λ st es h. h;
        empties = λ st h. h;
      }

-- a run starts well
pub start_good : (s : Settings) (lk : Edge → Bool) (ts : List Tri) (ps : List Node) → Proper ps ts → length ps ≤ s.capacity → length ts ≤ s.slots
    → Sound (Q s lk (length ts) []) (start s lk ts ps) []
unfolding start new_mesh
start_good s lk ts ps h a b =
    (start_valid s lk ts ps h, record { fits = start_fits s lk ts ps a b; locked = refl; quads_fit = omega arith; rated = λ q i. absurd i; in_rounds = start_rounds s lk ts ps; tracked = start_tracked s lk ts ps })

-- ---- what comes back fits its slices
-- the lists of a run
pub record ListsFit (s : Settings) (points quads triangles sizes : ℕ) : Type 0 where
  pub points_fit : points ≤ s.capacity
  pub quads_fit : quads ≤ s.slots
  pub triangles_fit : triangles ≤ s.slots
  pub sizes_fit : sizes ≤ s.slots

state_lists : (s : Settings) (lk : Edge → Bool) (given : ℕ) (st : State) → Sound (Q s lk given []) st []
    → ListsFit s (length (result st).points) (length (result st).quads) (length (result st).triangles) (length (result st).sizes)
unfolding result
state_lists s lk given st h =
    let l = h.1.fits.slots in
    let t = triangles_number st.mesh h.0 in
    record {
      points_fit = h.1.fits.points;
      quads_fit = let q = h.1.quads_fit in omega arith;
      triangles_fit = omega arith;
      sizes_fit = omega (arith, sizes_number (triangles st.mesh) (λ r i. (triangles_good st.mesh h.0 r i).distinct));
    }

-- the lists of a finished run fit
pub lists_fit : (s : Settings) (lk : Edge → Bool) (ts : List Tri) (ps : List Node) (r : Result) → Proper ps ts → length ps ≤ s.capacity → length ts ≤ s.slots → run_front s lk ts ps ≡ ran r
    → ListsFit s (length r.points) (length r.quads) (length r.triangles) (length r.sizes)
lists_fit s lk ts ps r h a b e =
    let w = run_ok s (Q s lk (length ts) []) (P s lk (length ts) []) (R s lk (length ts) []) (good_rule s lk (length ts) []) lk ts ps r (start_good s lk ts ps h a b) e in
    subst (λ x. ListsFit s (length x.points) (length x.quads) (length x.triangles) (length x.sizes)) (sym w.2) (state_lists s lk (length ts) w.0 w.1)

-- the points and quads that a run leaves when want of lent memory ends it
pub left_fit : (s : Settings) (lk : Edge → Bool) (ts : List Tri) (ps qs : List Node) (us : List Quad) (w : Want) (ws : List ℕ) → Proper ps ts → length ps ≤ s.capacity → length ts ≤ s.slots
    → run_front s lk ts ps ≡ wanting w qs us ws
    → (length qs ≤ s.capacity) × (length us ≤ s.slots)
left_fit s lk ts ps qs us w ws h a b e =
    let k = run_stopped s (Q s lk (length ts) []) (P s lk (length ts) []) (R s lk (length ts) []) (good_rule s lk (length ts) []) lk ts ps w qs us ws (start_good s lk ts ps h a b) e in
    let g = k.2 in
    let p = ap length k.3 in
    let q = ap length k.4 in
    let f = g.fits.points in
    let l = g.fits.slots in
    let u = g.quads_fit in
    (omega arith, omega arith)

-- a finished call's lists fit the slices that the caller stated
pub answer_fits : (most : ℕ) (a : Asked) (l : Lent) (c : Counts) (n : Lengths) → (call_within most a l).answer ≡ finished c n
    → ListsFit (settings_within most (length l.trace) a) n.points n.quads n.triangles n.components
unfolding settings_within lengths
answer_fits most a l c n e =
    let b = behind most a l c n e in
    let w = lists_fit (settings_within most (length l.trace) a) (given_locks a l) (given_tris a l) (given_points a l) b.run (given_proper a l b.passed)
    (omega (arith, points_number a l b.passed, given_fit a l b.passed)) (omega (arith, tris_number a l b.passed, slots_fit a l b.passed)) b.ended in
    subst (λ k. ListsFit (settings_within most (length l.trace) a) k.points k.quads k.triangles k.components) (sym b.lengths_are) w
