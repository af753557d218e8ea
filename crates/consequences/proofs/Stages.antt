-- Replay: the meshes that a run went through, one for each entry of its trace.
-- With the first entries alone a replay gives the mesh that the run had then.
use Rattle.std.specs.Prelude.{◌≡◌, ◌+◌, ◌<◌, ◌≤◌, ◌∷◌, ◌++◌}
use Rattle.laws.specs.Kit.{refl, sym, ◌∙◌, ap, subst, false, none, some, ℕ, arith, dec_le, List, [], append_assoc, length, take, drop, length-append, Float}
use Rattle.std.proofs.Common.{take-append-drop, take_all}
use Rattle.std.proofs.Math.Seq.{take-nil, take-append_seam}
use Rattle.std.proofs.lemmas.List.{take-append-le}
use Rattle.definition.specs.Lists.{find}
use Rattle.definition.specs.Numbers.{Settings}
use Rattle.definition.specs.Counts.{no_counts}
use Rattle.definition.specs.Plane.{Node, Edge}
use Rattle.definition.specs.Cells.{Tri, Quad, tri, Live, Event, was_split, was_flipped, Mesh, all_edges, with_live, noting, set_cell, push_cell, remove_cells}
use Rattle.definition.specs.Trace.{entry, trace, traced, quads_placed}
use Rattle.definition.specs.Flips.{set_tris, flip}
use Rattle.definition.specs.Insertion.{with_point, split_triangle}
use Rattle.definition.specs.Region.{region}
use Rattle.definition.specs.Attempt.{replaced}
use Rattle.definition.specs.Front.{State, Progress, stuck, progressed, limited, stopped, counting, front_loop, new_mesh, start, result, outcome, run_front}
use Rattle.definition.specs.Call.{Asked, Lent, given_points, given_tris, given_locks, onto, conditions, settings_within, settings, written, after_run, call_within}
use Rattle.definition.specs.Replay.{Told, as_asked, replay}
use Rattle.laws.specs.Lists.{In, flat_map_append}
use Rattle.account.proofs.Flips.{flip_made}
use Rattle.account.specs.Valid.{Valid}
use Rattle.account.proofs.Start.{start_valid}
use Rattle.account.specs.Steps.{Splitting, Made}
use Rattle.account.specs.Run.{Rule, ProgressOk}
use Rattle.account.proofs.Run.{front_loop_ok}
use Rattle.account.proofs.Finished.{given_proper}
use Rattle.consequences.specs.NeverFlipped.{at_end}
use Rattle.account.specs.Redo.{Redoable}
use Rattle.account.proofs.Redo.{flip_redoable, split_redoable, quad_redoable, start_redoable}
use Rattle.consequences.specs.Replays.{Replaying, rebuilt_as}
use Rattle.consequences.proofs.Replays.{ends_in, with_room}

-- ---- the steps of a run
-- a mesh that came about from the mesh `first` by flips, splits and quads,
-- each a step of the definition and an entry of the history
pub data Grew (first : Mesh) : Mesh → Type 0 where
  itself : Grew first first
  by_flip : (m m' : Mesh) (e : Edge) → Grew first m → flip m e ≡ some m' → Grew first m'
  by_split : (m : Mesh) (x : Live) (t : Tri) (p : Node) → Grew first m → In x m.live → x.cell ≡ tri t → Grew first (split_triangle m x.slot t p)
  by_quad : (m : Mesh) (seed : ℕ) (q : Quad) (cells : List Live) → Grew first m → region m seed q ≡ some cells → Grew first (replaced m q cells)

-- the mesh after k entries, on the way from `first` to `end`
pub record Stage (first end : Mesh) (k : ℕ) : Type 0 where
  pub mesh : Mesh
  pub before : Grew first mesh
  pub later : Grew mesh end
  pub happened : mesh.history ≡ take k end.history

module _ (s s₀ : Settings) (b : Float) (first : Mesh) (points : s.capacity ≤ s₀.capacity) (slots : s.slots ≤ s₀.slots) where
  -- the mesh comes about again, by its own history
  abbrev Again : Mesh → Type 0
  Again m = Redoable s₀ b first m (quads_placed m.history)

  again : (m : Mesh) (qs : List Quad) → Redoable s₀ b first m qs → Again m
  again m qs h = record { again = h.again; enterable = h.enterable; quads_are = refl; room_kept = h.room_kept }

  -- every mesh on the way comes about again, by its own history
  pub record OnTheWay (m : Mesh) : Type 0 where
    pub here : Again m
    pub grew : Grew first m
    pub stages : (k : ℕ) → k ≤ length m.history → (g : Stage first m k) × Again g.mesh

  -- one entry more
  further : (m m' : Mesh) (v : Event) → OnTheWay m → m'.history ≡ m.history ++ (v ∷ []) → ((a : Mesh) → Grew a m → Grew a m') → Again m' → OnTheWay m'
  further m m' v h e step new = record {
    here = new;
    grew = step first h.grew;
    stages = λ k l. elim (dec_le k (length m.history)) [
      | yes n ↦
          let g = h.stages k n in
          (record { mesh = g.0.mesh; before = g.0.before; later = step g.0.mesh g.0.later; happened = g.0.happened ∙ sym (ap (take k) e ∙ take-append-le k m.history (v ∷ []) n) }, g.1)
      | no n ↦
          let whole : take k m'.history ≡ m'.history = take_all k m'.history (omega (arith, n, l, ap length e, length-append m.history (v ∷ []))) in
          (record { mesh = m'; before = step first h.grew; later = itself; happened = sym whole }, new)
    ];
  }

  flip_further : (m m' : Mesh) (e : Edge) → Valid m → In e (all_edges m) → flip m e ≡ some m' → OnTheWay m → OnTheWay m'
  unfolding set_tris set_cell with_live noting
  flip_further m m' e ok i f h =
      further m m' (was_flipped e) h (ap (λ n. n.history) (flip_made m e m' f).after) (λ a g. by_flip m m' e g f)
      (again m' _ (flip_redoable s s₀ b first points slots m m' e (quads_placed m.history) ok i f h.here))

  split_further : (begun m : Mesh) (x : Live) (t : Tri) (p : Node) → Valid m → Splitting s begun m x t p → OnTheWay m → OnTheWay (split_triangle m x.slot t p)
  unfolding split_triangle push_cell set_cell with_live with_point noting
  split_further begun m x t p ok w h =
      further m (split_triangle m x.slot t p) (was_split x.slot p) h refl (λ a g. by_split m x t p g w.at w.cell)
      (again (split_triangle m x.slot t p) _ (split_redoable s s₀ b first points slots begun m x t p (quads_placed m.history) ok w h.here))

  quad_further : (P : ℕ → Mesh → Type 0) (n : ℕ) (m : Mesh) (q : Quad) (w : Made s P n m q) → Valid w.mesh → OnTheWay w.mesh → OnTheWay m
  unfolding replaced push_cell remove_cells with_live noting
  quad_further P n m q w ok h =
      further w.mesh m _ h (ap (λ z. z.history) w.after) (λ a g. subst (λ z. Grew a z) (sym w.after) (by_quad w.mesh w.seed q w.cells g w.reached))
      (again m _ (quad_redoable s s₀ b first points slots P n m q (quads_placed w.mesh.history) w ok h.here))

  -- every mesh of a run
  pub stages_rule : Rule s (λ st es. OnTheWay st.mesh) (λ st es n m. OnTheWay m) (λ st. OnTheWay st.mesh)
  unfolding counting
  stages_rule = record {
    opens = λ st es ok h f. h;
    begins = λ st es h. h;
    flips = λ st es n m m' e ok h i f. flip_further m m' e ok i f h;
    splits = λ st es n m x t p ok h w. split_further st.mesh m x t p ok w h;
    refuses = λ st e es why n m h ok w. w;
    places = λ st e es n m q h w. quad_further _ n.insertions m q w w.before.0 w.before.1;
    ends = λ st e es n m h ok w. w;
    limits = λ st es h. h;
    empties = λ st h. h;
  }

  in_the_end : (p : Progress) → ProgressOk (λ st es. OnTheWay st.mesh) (λ st. OnTheWay st.mesh) [] p → OnTheWay (at_end p).mesh
  unfolding at_end
  in_the_end (stuck st) h = h.1
  in_the_end (progressed st) h = h.1
  in_the_end (limited st) h = h.1
  in_the_end (stopped w st) h = h.1

-- ---- a call
-- the state of a mesh, as far as its lists go
unfoldable pub lists_of : Mesh → State
lists_of m = record { mesh = m; quads = quads_placed m.history; blocked = []; counts = no_counts }

module _ (most : ℕ) (a : Asked) (l : Lent) (passed : find (λ c. c.1) (conditions a l) ≡ none) (lent : 0 < length l.trace) where
  abbrev s : Settings
  s = settings_within most (length l.trace) a

  -- the mesh that the run starts from, and the one that it ends in, whatever ends it
  abbrev pub first_mesh : Mesh
  first_mesh = (start s (given_locks a l) (given_tris a l) (given_points a l)).mesh

  abbrev pub last_mesh : Mesh
  last_mesh = (at_end (front_loop (most + 2) s (length (given_tris a l)) (start s (given_locks a l) (given_tris a l) (given_points a l)))).mesh

  -- the words of the first k entries
  abbrev pub words_of : ℕ → List ℕ
  words_of k = trace (take k last_mesh.history)

  -- the trace that the call leaves begins with them
  begins_so : (o : Progress) (k : ℕ) → 0 < (at_end o).mesh.room → (after_run l (outcome o)).lent.trace ≡ onto (traced (at_end o).mesh) l.trace
      → take (length (trace (take k (at_end o).mesh.history))) (after_run l (outcome o)).lent.trace ≡ trace (take k (at_end o).mesh.history)
  unfolding trace traced onto
  begins_so o k room e =
      let vs = (at_end o).mesh.history in
      let one = trace (take k vs) in
      let rest = trace (drop k vs) in
      let behind = drop (length (traced (at_end o).mesh)) l.trace in
      let parts : traced (at_end o).mesh ≡ one ++ rest = with_room (at_end o).mesh.room vs room ∙ ap trace (sym (take-append-drop k vs)) ∙ flat_map_append entry (take k vs) (drop k vs) in
      ap (take (length one)) (e ∙ ap (λ z. z ++ behind) parts ∙ append_assoc one rest behind) ∙ take-append_seam one (rest ++ behind)

  traced_by : (o : Progress) → (after_run l (outcome o)).lent.trace ≡ onto (traced (at_end o).mesh) l.trace
  unfolding after_run written outcome at_end result
  traced_by (stuck st) = refl
  traced_by (progressed st) = refl
  traced_by (limited st) = refl
  traced_by (stopped w st) = refl

  -- With the words of the first k entries alone, in whatever memory, a replay gives the lists of the mesh
  -- that the run had after k entries.
  pub as_it_was : (k : ℕ) → k ≤ length last_mesh.history → (t : Told) (m : Lent) → Replaying a l (call_within most a l).lent (length (words_of k)) t m
      → (g : Stage first_mesh last_mesh k) × (replay t m ≡ rebuilt_as m (result (lists_of g.mesh)))
  unfolding settings settings_within as_asked start new_mesh traced lists_of call_within run_front
  as_it_was k few t m w =
      let lk = given_locks a l in
      let ts = given_tris a l in
      let ps = given_points a l in
      let s₀ = settings (as_asked t) in
      let b = (new_mesh s₀ (λ e. false) ts ps).bucket in
      let first = start s lk ts ps in
      let rounds = front_loop (most + 2) s (length ts) first in
      let here = again s s₀ b first_mesh w.capacity w.slots first_mesh [] (start_redoable s s₀ b lk ts ps) in
      let way = in_the_end s s₀ b first_mesh w.capacity w.slots rounds
      (front_loop_ok s _ _ _ (stages_rule s s₀ b first_mesh w.capacity w.slots) (most + 2) (length ts) first (
        start_valid s lk ts ps (given_proper a l passed),
        record {
          here = here;
          grew = itself;
          stages = λ j n. (record { mesh = first_mesh; before = itself; later = itself; happened = sym (take-nil j) }, here);
        },
      )) in
      let g = way.stages k few in
      let full : 0 < last_mesh.room = subst (λ z. 0 < z) (sym way.here.room_kept) lent in
      let exit : call_within most a l ≡ after_run l (outcome rounds) = rw (passed, call_within) refl in
      let words : take (length (words_of k)) (call_within most a l).lent.trace ≡ words_of k = ap (λ z. take (length (words_of k)) z.lent.trace) exit ∙ begins_so rounds k full (traced_by rounds) in
      let stage : traced g.0.mesh ≡ words_of k = with_room g.0.mesh.room g.0.mesh.history (subst (λ z. 0 < z) (sym g.1.room_kept) lent) ∙ ap trace g.0.happened in
      (g.0, ends_in a l (call_within most a l).lent (length (words_of k)) t m w s lk (lists_of g.0.mesh) lent (words ∙ sym stage) g.1)
