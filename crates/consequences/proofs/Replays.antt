-- Replay: that of a run's trace, in whatever memory, ends in the run's points, quads, triangles and components.
use Rattle.std.specs.Prelude.{◌≡◌, ◌||◌, ◌+◌, ◌*◌, ◌<◌, ◌≤◌, ◌∷◌}
use Rattle.laws.specs.Kit.{refl, sym, ◌∙◌, ap, subst, inl, inr, Bool, true, false, none, ℕ, zero, suc, arith, ltb, le-ltb, List, [], length, take, drop, length-append, Float}
use Rattle.definition.specs.Lists.{find}
use Rattle.definition.specs.Numbers.{Settings}
use Rattle.definition.specs.Counts.{Counts, Want}
use Rattle.definition.specs.Plane.{Edge, Node}
use Rattle.definition.specs.Cells.{Tri, Quad, Event, Mesh, triangles}
use Rattle.definition.specs.Trace.{trace, words_in, traced, quads_placed}
use Rattle.definition.specs.Components.{component_sizes}
use Rattle.definition.specs.Front.{State, Progress, stuck, progressed, limited, stopped, front_loop, Result, Outcome, ran, wanting, new_mesh, start, result, outcome, run_front}
use Rattle.definition.specs.Call.{Asked, Lent, Lengths, finished, refusal, given_points, given_tris, given_locks, first_points, first_quads, first_tris, conditions, over_limit, too_short, unknown_node, repeated_node, far_point, slot_words, point_words, slot_floats, settings_within, settings, onto, written, lengths, after_run, call_within}
use Rattle.definition.specs.Replay.{whole, replay_words, Told, as_asked, rebuilt, ReplayReturned, replay_conditions, after_replay, replay}
use Rattle.laws.specs.Bools.{or_none}
use Rattle.laws.specs.Lists.{In, no_some}
use Rattle.account.proofs.Slices.{read_points, read_quads, read_triangles, read_sizes, points_back, quads_back, numbers_back}
use Rattle.account.proofs.Finished.{behind, given_proper}
use Rattle.account.proofs.Start.{start_valid}
use Rattle.account.specs.Run.{Rule, ProgressOk}
use Rattle.account.proofs.Run.{front_loop_ok, run_ok}
use Rattle.account.specs.Redo.{bare, Redoable}
use Rattle.account.proofs.Redo.{redo_rule, start_redoable}
use Rattle.consequences.proofs.Played.{played}
use Rattle.consequences.specs.Replays.{Replaying, SameMesh, SameSoFar, Stopped, rebuilt_as, rebuilt_lengths, told, with_trace}

left_by : (k : Lent) (b : Float) (st : State) → quads_placed st.mesh.history ≡ st.quads → after_replay k (whole (bare b st.mesh)) ≡ rebuilt_as k (result st)
unfolding after_replay bare triangles result lengths rebuilt_lengths rebuilt_as
left_by k b st e =
    let m = st.mesh in
    let left = triangles m in
    let sizes = component_sizes left in
    let f : List Quad → ReplayReturned = λ qs. record {
      answer = rebuilt (record { quads = length qs; triangles = length left; points = length m.points; components = length sizes; words = 0 });
      lent = written m.points qs left sizes [] k;
    } in
    ap f e

-- with room the words are those of all that happened
pub with_room : (room : ℕ) (vs : List Event) → 0 < room → words_in room vs ≡ trace vs
unfolding words_in
with_room zero vs h = absurd (omega arith)
with_room (suc room) vs h = refl

module _ (a : Asked) (l exit : Lent) (words : ℕ) (t : Told) (k : Lent) (w : Replaying a l exit words t k) where
  -- the settings of the replay
  abbrev again : Settings
  again = settings (as_asked t)

  abbrev bucket : Float
  bucket = (new_mesh again (λ e. false) (given_tris a l) (given_points a l)).bucket

  -- the mesh that a run of the call starts from
  abbrev first : Settings → (Edge → Bool) → Mesh
  first s lk = (start s lk (given_tris a l) (given_points a l)).mesh

  first_is : (s : Settings) (lk : Edge → Bool) → (new_mesh again (λ e. false) (given_tris a l) (given_points a l) ≡ bare bucket (first s lk)) × ((first s lk).room ≡ s.room)
  unfolding bare start new_mesh settings settings_within
  first_is s lk = (refl, refl)

  same_first : (s : Settings) (lk : Edge → Bool) → new_mesh again (λ e. false) (given_tris (as_asked t) k) (given_points (as_asked t) k) ≡ bare bucket (first s lk)
  same_first s lk = (λ i. new_mesh again (λ e. false) (w.triangles i) (w.points i)) ∙ (first_is s lk).0

  same_words : take t.words k.trace ≡ take words exit.trace
  same_words = ap (λ n. take n k.trace) w.words_are ∙ w.trace_is

  runs : (s : Settings) (lk : Edge → Bool) → replay t k ≡ after_replay k (replay_words again (bare bucket (first s lk)) (take words exit.trace))
  unfolding replay
  runs s lk = rw (w.opened, replay) (λ i. after_replay k (replay_words again (same_first s lk i) (same_words i)))

  -- the words of a state's mesh are replayed to that mesh
  pub ends_in : (s : Settings) (lk : Edge → Bool) (st : State) → 0 < s.room → take words exit.trace ≡ traced st.mesh
      → Redoable again bucket (first s lk) st.mesh st.quads → replay t k ≡ rebuilt_as k (result st)
  unfolding replay_words traced
  ends_in s lk st room e h =
      let vs = st.mesh.history in
      let n = trace vs in
      let all_words : take words exit.trace ≡ n = e ∙ with_room st.mesh.room vs (subst (λ z. 0 < z) (sym (h.room_kept ∙ (first_is s lk).1)) room) in
      runs s lk ∙ ap (λ ws. after_replay k (replay_words again (bare bucket (first s lk)) ws)) all_words
      ∙ ap (after_replay k) (played vs (length n) again (bare bucket (first s lk)) (bare bucket st.mesh) (omega arith) h.enterable h.again) ∙ left_by k bucket st h.quads_are

  -- every state of a run of the call comes about again in the replay
  rule : (most room : ℕ) (lk : Edge → Bool) → let s = settings_within most room a in
      Rule s (λ st es. Redoable again bucket (first s lk) st.mesh st.quads) (λ st es n m. Redoable again bucket (first s lk) m st.quads) (λ st. Redoable again bucket (first s lk) st.mesh st.quads)
  unfolding settings settings_within as_asked
  rule most room lk = redo_rule (settings_within most room a) again bucket (first (settings_within most room a) lk) w.capacity w.slots

-- ---- a run that finished
read_trace : (r : Result) (l exit : Lent) (n : Lengths) → n ≡ lengths r → exit ≡ written r.points r.quads r.triangles r.sizes r.trace l → take n.words exit.trace ≡ r.trace
unfolding lengths written
read_trace r l exit n sizes wrote = ap (λ k. take k.words exit.trace) sizes ∙ ap (λ x. take (length r.trace) x.trace) wrote ∙ numbers_back r.trace l.trace

-- the words that the answer states are there
pub words_fit : (most : ℕ) (a : Asked) (l : Lent) (c : Counts) (n : Lengths) → (call_within most a l).answer ≡ finished c n → n.words ≤ length (call_within most a l).lent.trace
unfolding lengths written onto
words_fit most a l c n e =
    let b = behind most a l c n e in
    let ws = b.run.trace in
    omega (arith, ap (λ k. k.words) b.lengths_are, ap (λ x. length x.trace) b.exit, length-append ws (drop (length ws) l.trace))

module _ (most : ℕ) (a : Asked) (l : Lent) (c : Counts) (n : Lengths) (e : (call_within most a l).answer ≡ finished c n) (lent : 0 < length l.trace)
    (t : Told) (k : Lent) (w : Replaying a l (call_within most a l).lent n.words t k) where
  replay_is : replay t k ≡ rebuilt_as k (behind most a l c n e).run
  unfolding result settings_within
  replay_is =
      let b = behind most a l c n e in
      let exit = (call_within most a l).lent in
      let s = settings_within most (length l.trace) a in
      let lk = given_locks a l in
      let ts = given_tris a l in
      let ps = given_points a l in
      let end = run_ok s _ _ _ (rule a l exit n.words t k w most (length l.trace) lk) lk ts ps b.run
      (start_valid s lk ts ps (given_proper a l b.passed), start_redoable s (settings (as_asked t)) _ lk ts ps) b.ended in
      ends_in a l exit n.words t k w s lk end.0 lent (read_trace b.run l exit n b.lengths_are b.exit ∙ ap (λ r. r.trace) end.2) end.1.1
      ∙ ap (rebuilt_as k) (sym end.2)

  -- A replay of a finished run's trace ends in the run's points, quads, triangles and components.
  pub same_mesh : SameMesh n (call_within most a l).lent (replay t k)
  unfolding rebuilt_as rebuilt_lengths lengths
  same_mesh =
      let b = behind most a l c n e in
      let exit = (call_within most a l).lent in
      let run = b.run in
      let again : Result = record { counts = run.counts; quads = run.quads; triangles = run.triangles; points = run.points; sizes = run.sizes; trace = [] } in
      let n' = rebuilt_lengths n in
      let same : n' ≡ lengths again = ap rebuilt_lengths b.lengths_are in
      let left : (replay t k).lent ≡ written again.points again.quads again.triangles again.sizes again.trace k = ap (λ r. r.lent) replay_is in
      record {
        answer = ap (λ r. r.answer) replay_is ∙ ap (λ j. rebuilt (rebuilt_lengths j)) (sym b.lengths_are);
        points = read_points again k (replay t k).lent n' same left ∙ sym (read_points run l exit n b.lengths_are b.exit);
        quads = read_quads again k (replay t k).lent n' same left ∙ sym (read_quads run l exit n b.lengths_are b.exit);
        triangles = read_triangles again k (replay t k).lent n' same left ∙ sym (read_triangles run l exit n b.lengths_are b.exit);
        components = read_sizes again k (replay t k).lent n' same left ∙ sym (read_sizes run l exit n b.lengths_are b.exit);
      }

-- no condition holds
none_held : (xs : List (ℕ × Bool)) → find (λ c. c.1) xs ≡ none → (k : ℕ) (b : Bool) → In (k, b) xs → b ≡ false
unfolding find
none_held [] e k b i = elim i [ ]
none_held ((j, true) ∷ ys) e k b i = no_some (j, true) (sym e)
none_held ((j, false) ∷ ys) e k b (inl f) = ap (λ c. c.1) f
none_held ((j, false) ∷ ys) e k b (inr i) = none_held ys e k b i

module _ (a : Asked) (l : Lent) (ws : List ℕ) (n : Lengths) (passed : find (λ c. c.1) (conditions a l) ≡ none) (long : n.words ≤ length ws) where
  held_not : (k : ℕ) (b : Bool) → In (k, b) (conditions a l) → b ≡ false
  held_not = none_held (conditions a l) passed

  long_enough : too_short (as_asked (told a n)) (with_trace l ws) ≡ false
  unfolding conditions too_short as_asked told with_trace
  long_enough =
      let p0 = ltb (length l.points) (3 * a.capacity) in
      let p1 = ltb (length l.triangles) (3 * a.count) in
      let p2 = ltb (length l.joints) (2 * a.joints) in
      let p3 = ltb (length l.quads) (8 * a.slots) in
      let p4 = ltb (length l.triangles_out) (3 * a.slots) in
      let p5 = ltb (length l.components) a.slots in
      let p6 = ltb (length l.work) (slot_words * a.slots + point_words * a.capacity) in
      let p7 = ltb (length l.float_work) (slot_floats * a.slots) in
      let p8 = ltb a.capacity a.given in
      let p9 = ltb a.slots a.count in
      let h9 = or_none (p0 || p1 || p2 || p3 || p4 || p5 || p6 || p7 || p8) p9 (held_not 4 (too_short a l) (inr (inr (inr (inr (inl refl)))))) in
      let h8 = or_none (p0 || p1 || p2 || p3 || p4 || p5 || p6 || p7) p8 h9.0 in
      let h7 = or_none (p0 || p1 || p2 || p3 || p4 || p5 || p6) p7 h8.0 in
      let h6 = or_none (p0 || p1 || p2 || p3 || p4 || p5) p6 h7.0 in
      let h5 = or_none (p0 || p1 || p2 || p3 || p4) p5 h6.0 in
      let h4 = or_none (p0 || p1 || p2 || p3) p4 h5.0 in
      let h3 = or_none (p0 || p1 || p2) p3 h4.0 in
      let h2 = or_none (p0 || p1) p2 h3.0 in
      rw (h2.0, le-ltb (length l.joints) 0 (omega arith), h3.1, h4.1, h5.1, h6.1, h7.1, h8.1, h9.1) refl

  within_limits : over_limit (as_asked (told a n)) ≡ false
  unfolding conditions over_limit as_asked told
  within_limits = held_not 1 (over_limit a) (inl refl)

  opens : find (λ c. c.1) (replay_conditions (told a n) (with_trace l ws)) ≡ none
  unfolding replay_conditions conditions find unknown_node repeated_node far_point given_tris given_points as_asked told with_trace
  opens =
      let unknown = held_not 5 (unknown_node a l) (inr (inr (inr (inr (inr (inl refl)))))) in
      let repeated = held_not 6 (repeated_node a l) (inr (inr (inr (inr (inr (inr (inl refl))))))) in
      let far = held_not 7 (far_point a l) (inr (inr (inr (inr (inr (inr (inr (inl refl)))))))) in
      rw (within_limits, long_enough, le-ltb (length ws) n.words long, unknown, repeated, far) refl

-- an empty list leaves the trace
trace_stays : (ps : List Node) (qs : List Quad) (ts : List Tri) (sizes ws : List ℕ) (l : Lent)
    → written ps qs ts sizes [] (with_trace l (written ps qs ts sizes ws l).trace) ≡ written ps qs ts sizes ws l
unfolding written with_trace onto
trace_stays ps qs ts sizes ws l = refl

module _ (most : ℕ) (a : Asked) (l : Lent) (c : Counts) (n : Lengths) (e : (call_within most a l).answer ≡ finished c n) where
  found_again : Replaying a l (call_within most a l).lent n.words (told a n) (with_trace l (call_within most a l).lent.trace)
  unfolding given_points given_tris as_asked told with_trace
  found_again = record {
    points = refl;
    triangles = refl;
    capacity = omega arith;
    slots = omega arith;
    words_are = refl;
    trace_is = refl;
    opened = opens a l (call_within most a l).lent.trace n (behind most a l c n e).passed (words_fit most a l c n e);
  }

  -- A replay in the memory that the call found leaves every slice as the call did.
  pub replay_of : 0 < length l.trace → replay (told a n) (with_trace l (call_within most a l).lent.trace) ≡ record { answer = rebuilt (rebuilt_lengths n); lent = (call_within most a l).lent }
  unfolding rebuilt_as
  replay_of lent =
      let b = behind most a l c n e in
      let r = b.run in
      let back : written r.points r.quads r.triangles r.sizes [] (with_trace l (call_within most a l).lent.trace) ≡ (call_within most a l).lent =
      ap (λ x. written r.points r.quads r.triangles r.sizes [] (with_trace l x.trace)) b.exit ∙ trace_stays r.points r.quads r.triangles r.sizes r.trace l ∙ sym b.exit in
      let same = sym b.lengths_are in
      replay_is most a l c n e lent (told a n) (with_trace l (call_within most a l).lent.trace) found_again ∙ (λ i. record { answer = rebuilt (rebuilt_lengths (same i)); lent = back i })

-- ---- a run that want of lent memory ended
-- the state in which it ended
stopped_in : (Q : State → List Edge → Type 0) (R : State → Type 0) (v : Want) (ps : List Node) (qs : List Quad) (ws : List ℕ) (p : Progress) → ProgressOk Q R [] p → outcome p ≡ wanting v ps qs ws
    → (st : State) × R st × (ps ≡ st.mesh.points) × (qs ≡ st.quads) × (ws ≡ traced st.mesh)
unfolding outcome
stopped_in Q R v ps qs ws (stuck st) ok e = absurd (let z : ◌≡◌ {A = ℕ} 0 1 = cc in omega arith)
stopped_in Q R v ps qs ws (progressed st) ok e = absurd (let z : ◌≡◌ {A = ℕ} 0 1 = cc in omega arith)
stopped_in Q R v ps qs ws (limited st) ok e = absurd (let z : ◌≡◌ {A = ℕ} 0 1 = cc in omega arith)
stopped_in Q R v ps qs ws (stopped u st) ok e = (st, ok.1, cc, cc, cc)

module _ (most : ℕ) (a : Asked) (l : Lent) (j : ℕ) (passed : find (λ c. c.1) (conditions a l) ≡ none) where
  by_outcome : (o : Outcome) → run_front (settings_within most (length l.trace) a) (given_locks a l) (given_tris a l) (given_points a l) ≡ o → call_within most a l ≡ after_run l o → (call_within most a l).answer ≡ refusal j → Stopped most a l
  unfolding after_run
  by_outcome (ran r) e f h = absurd (let g : finished r.counts (lengths r) ≡ refusal j = sym (ap (λ z. z.answer) f) ∙ h in let z : ◌≡◌ {A = ℕ} 0 1 = cc in omega arith)
  by_outcome (wanting v ps qs ws) e f h = record { want = v; points = ps; quads = qs; words = ws; ended = e; exit = ap (λ z. z.lent) f; passed = passed }

  -- such a call has one
  pub stopped_behind : (call_within most a l).answer ≡ refusal j → Stopped most a l
  unfolding call_within
  stopped_behind h =
      let o = run_front (settings_within most (length l.trace) a) (given_locks a l) (given_tris a l) (given_points a l) in
      by_outcome o refl (rw (passed, call_within) refl) h

so_far : (k : Lent) (r : Result) (y : ReplayReturned) → y ≡ rebuilt_as k r → SameSoFar r.points r.quads y
unfolding rebuilt_as rebuilt_lengths lengths written
so_far k r y e = record {
  answered = rebuilt_lengths (lengths r);
  answer = ap (λ z. z.answer) e;
  points_number = refl;
  quads_number = refl;
  points = ap (λ z. first_points (length r.points) z.lent.points) e ∙ points_back r.points k.points;
  quads = ap (λ z. first_quads (length r.quads) z.lent.quads) e ∙ quads_back r.quads k.quads;
}

module _ (most : ℕ) (a : Asked) (l : Lent) (b : Stopped most a l) (lent : 0 < length l.trace) where
  stopped_words : take (length b.words) (call_within most a l).lent.trace ≡ b.words
  unfolding written
  stopped_words = ap (λ x. take (length b.words) x.trace) b.exit ∙ numbers_back b.words l.trace

  -- A replay of the entries that the run left ends in the points and quads that it left.
  pub same_so_far : (t : Told) (k : Lent) → Replaying a l (call_within most a l).lent (length b.words) t k → SameSoFar b.points b.quads (replay t k)
  unfolding run_front settings_within result
  same_so_far t k w =
      let n = length b.words in
      let exit = (call_within most a l).lent in
      let s = settings_within most (length l.trace) a in
      let lk = given_locks a l in
      let ts = given_tris a l in
      let ps = given_points a l in
      let first = start s lk ts ps in
      let redoable = Redoable (settings (as_asked t)) (new_mesh (settings (as_asked t)) (λ e. false) ts ps).bucket first.mesh in
      let end = stopped_in (λ st es. redoable st.mesh st.quads) (λ st. redoable st.mesh st.quads) b.want b.points b.quads b.words (front_loop (most + 2) s (length ts) first)
      (front_loop_ok s _ _ _ (rule a l exit n t k w most (length l.trace) lk) (most + 2) (length ts) first
      (start_valid s lk ts ps (given_proper a l b.passed), start_redoable s (settings (as_asked t)) _ lk ts ps)) b.ended in
      let h = so_far k (result end.0) (replay t k) (ends_in a l exit n t k w s lk end.0 lent (stopped_words ∙ end.4) end.1) in
      let points_are = sym end.2 in
      let quads_are = sym end.3 in
      subst (λ (z : Type 0). z) (λ i. SameSoFar (points_are i) (quads_are i) (replay t k)) h
