-- What stands in the slices at the end of a replay is what the definition's replay returns.
use Rattle.std.specs.Prelude.{◌≡◌, ◌≢◌, Ok}
use Rattle.laws.specs.Kit.{refl, sym, ◌∙◌, ap, ℕ, arith, List, [], length, take, Float}
use Rattle.definition.specs.Lists.{flat_map}
use Rattle.definition.specs.Floats.{0·0}
use Rattle.definition.specs.Cells.{Tri, Mesh, tri_nodes, triangles}
use Rattle.definition.specs.Components.{component_sizes}
use Rattle.definition.specs.Call.{Lent, onto, all_of, settings, written}
use Rattle.definition.specs.Replay.{Told, whole, broken, as_asked, ReplayReturned, unplayed, replay_words, after_replay, replay}
use Rattle.laws.specs.Slices.{onto_none, cleared, points_onto}
use Rattle.retrace.specs.Plays.{placed, Plays}
use Rattle.retrace.specs.Opening.{opening_number, first_mesh}
use Rattle.retrace.specs.Ending.{FinishTo}
use Rattle.retrace.specs.Replaying.{Reply, answered, answer_number, answer_lengths, lengths_in, Replays}
use Rattle.retrace.specs.Plays.{State}
use Rattle.retrace.specs.declared.ending.Replayed.{Replayed}
use Rattle.retrace.proofs.Openings.{replay_runs, replay_refused}

-- ---- slices

no_tris : (old : List ℕ) → onto (flat_map tri_nodes []) old ≡ old
unfolding onto flat_map
no_tris old = refl

-- ---- the slices at exit

-- what was lent, with these points, quads, lists and work
abbrev pub left_with : Lent → List Float → List ℕ → List ℕ → List ℕ → List ℕ → List Float → Lent
left_with l q quads out components w f =
    record {
      points = q;
      triangles = l.triangles;
      joints = l.joints;
      quads = quads;
      triangles_out = out;
      components = components;
      work = w;
      float_work = f;
      trace = l.trace;
    }

-- the answer of a refusal
abbrev pub refusal_of : ℕ → Reply
refusal_of k = record { refusal = k; quads = 0; triangles = 0; points = 0; components = 0 }

module _ (t : Told) (l : Lent) where
  -- refused before the entries: nothing is touched
  pub refused_returns : (k : ℕ) (x : Reply) → k ≡ opening_number t l → k ≢ 0 → x ≡ refusal_of k → Replays (replay t l) x l
  unfolding answer_number answer_lengths
  refused_returns k x e n y =
      let is : replay t l ≡ record { answer = unplayed (opening_number t l); lent = l } = replay_refused t l (λ z. n (e ∙ z)) in
      record {
        lent = ap (λ (v : ReplayReturned). v.lent) is;
        number = ap (λ (z : Reply). z.refusal) y ∙ e ∙ sym (ap (λ (v : ReplayReturned). answer_number v.answer) is);
        lengths = ap lengths_in y ∙ sym (ap (λ (v : ReplayReturned). answer_lengths v.answer) is);
      }

  module _ (w : List ℕ) (q : List Float) (quads : List ℕ) (s p : ℕ) (g : State) (m : Mesh) (h : Plays w q quads s p l.points l.quads g m)
      (w₁ w₂ : List ℕ) (f f₂ : List Float) (words : length w₁ ≡ length l.work) (floats : length f ≡ length l.float_work) (clear_w : w₂ ≡ all_of 0 w₁) (clear_f : f₂ ≡ all_of 0·0 f) where
    -- the mesh's points and quads, and both work slices cleared
    lent_left : (ts : List Tri) (sizes out components : List ℕ) → onto (flat_map tri_nodes ts) l.triangles_out ≡ out → onto sizes l.components ≡ components
        → written m.points (placed m) ts sizes [] l ≡ left_with l q quads out components w₂ f₂
    unfolding written
    lent_left ts sizes out components eo ek =
        let ep = points_onto l.points q m.points h.pts.are (omega (arith, h.pts.fits, h.pts.few)) h.rest in
        let eq = sym h.text in
        let ew = cleared 0 l.work w₁ (sym words) ∙ sym clear_w in
        let ef = cleared 0·0 l.float_work f (sym floats) ∙ sym clear_f in
        let et = onto_none l.trace in
        λ i. record { points = ep i; triangles = l.triangles; joints = l.joints; quads = eq i; triangles_out = eo i; components = ek i; work = ew i; float_work = ef i; trace = et i }

    module _ (o : opening_number t l ≡ 0) where
      -- the whole trace was replayed
      pub whole_returns : replay_words (settings (as_asked t)) (first_mesh t l) (take t.words l.trace) ≡ whole m
          → (out components : List ℕ) (x : Replayed) → FinishTo l.triangles_out out l.components components m x → Replays (replay t l) (answered (Ok x)) (left_with l q quads out components w₂ f₂)
      unfolding after_replay answer_number answer_lengths
      whole_returns e out components x d =
          let is : replay t l ≡ after_replay l (whole m) = replay_runs t l o ∙ ap (after_replay l) e in
          let nq = d.quads in
          let nt = d.left in
          let np = d.points in
          let nk = d.sizes in
          let lens : lengths_in (answered (Ok x)) ≡ record { quads = length (placed m); triangles = length (triangles m); points = length m.points; components = length (component_sizes (triangles m)); words = 0 } =
          λ i. record { quads = nq i; triangles = nt i; points = np i; components = nk i; words = 0 } in
          record {
            lent = ap (λ (v : ReplayReturned). v.lent) is ∙ lent_left (triangles m) (component_sizes (triangles m)) out components (sym d.out) (sym d.components);
            number = sym (ap (λ (v : ReplayReturned). answer_number v.answer) is);
            lengths = lens ∙ sym (ap (λ (v : ReplayReturned). answer_lengths v.answer) is);
          }

      -- an entry was refused with this number, and the points and quads are as before it
      pub broken_returns : (k : ℕ) → replay_words (settings (as_asked t)) (first_mesh t l) (take t.words l.trace) ≡ broken k m
          → (x : Reply) → x ≡ refusal_of k → Replays (replay t l) x (left_with l q quads l.triangles_out l.components w₂ f₂)
      unfolding after_replay answer_number answer_lengths
      broken_returns k e x y =
          let is : replay t l ≡ after_replay l (broken k m) = replay_runs t l o ∙ ap (after_replay l) e in
          record {
            lent = ap (λ (v : ReplayReturned). v.lent) is ∙ lent_left [] [] l.triangles_out l.components (no_tris l.triangles_out) (onto_none l.components);
            number = ap (λ (z : Reply). z.refusal) y ∙ sym (ap (λ (v : ReplayReturned). answer_number v.answer) is);
            lengths = ap lengths_in y ∙ sym (ap (λ (v : ReplayReturned). answer_lengths v.answer) is);
          }
