-- How a replay ends, by what became of its trace.
use Rattle.std.specs.Prelude.{◌≡◌, ◌≢◌, Ok}
use Rattle.laws.specs.Kit.{refl, sym, ap, ℕ, arith, List, length, take, Float}
use Rattle.definition.specs.Floats.{0·0}
use Rattle.definition.specs.Cells.{Mesh}
use Rattle.definition.specs.Call.{Lent, all_of, settings_within, settings}
use Rattle.definition.specs.Replay as defined
use Rattle.definition.specs.Replay.{Told, whole, broken, as_asked, replay_words, replay}
use Rattle.rules.specs.Settings.{Suits}
use Rattle.retrace.specs.Plays.{Plays}
use Rattle.retrace.specs.Reads.{Whole, Cut, PlayTo}
use Rattle.retrace.specs.Opening.{opening_number, first_mesh}
use Rattle.retrace.specs.Ending.{FinishTo}
use Rattle.retrace.specs.Replaying.{Reply, answered, Replays}
use Rattle.retrace.specs.Plays.{State}
use Rattle.retrace.specs.declared.ending.Replayed.{Replayed}
use Rattle.retrace.proofs.Returns.{left_with, refusal_of, whole_returns, broken_returns}

-- the settings have the slots and the points that were told
pub suits_told : (t : Told) → Suits (settings (as_asked t)) t.slots t.capacity
unfolding settings settings_within as_asked
suits_told t = record { slots = refl; capacity = refl }

module _ (w w' : List ℕ) (q : List Float) (quads : List ℕ) (s p : ℕ) (q₀ : List Float) (old : List ℕ) (r : State) where
  -- the whole trace was replayed
  pub record AllDone (x : defined.Replayed) : Type 0 where
    pub mesh : Mesh
    pub is : x ≡ whole mesh
    pub ends : Whole w w' q quads s p q₀ old mesh r

  -- it broke off
  pub record BrokenOff (x : defined.Replayed) : Type 0 where
    pub mesh : Mesh
    pub is : x ≡ broken r.refusal mesh
    pub ends : Cut w w' q quads s p q₀ old r.refusal mesh r

  all_done : (x : defined.Replayed) → PlayTo w w' q quads s p q₀ old x r → r.refusal ≡ 0 → AllDone x
  all_done (whole m) h e = record { mesh = m; is = refl; ends = h }
  all_done (broken k m) h e = absurd (omega (arith, h.number, h.refused, e))

  broken_off : (x : defined.Replayed) → PlayTo w w' q quads s p q₀ old x r → r.refusal ≢ 0 → BrokenOff x
  broken_off (whole m) h e = absurd (e h.plays.going)
  broken_off (broken k m) h e =
      record {
        mesh = m;
        is = ap (λ (i : ℕ). broken i m) (sym h.number);
        ends = record { number = refl; refused = omega (arith, h.number, h.refused); memory = h.memory; state = h.state; plays = h.plays; len = h.len };
      }

module _ (t : Told) (l : Lent) (o : opening_number t l ≡ 0) (w w' : List ℕ) (q : List Float) (quads : List ℕ) (r : State)
    (to : PlayTo w w' q quads t.slots t.capacity l.points l.quads (replay_words (settings (as_asked t)) (first_mesh t l) (take t.words l.trace)) r) where
  -- the mesh at the end of the trace
  pub at_end : r.refusal ≡ 0 → AllDone w w' q quads t.slots t.capacity l.points l.quads r (replay_words (settings (as_asked t)) (first_mesh t l) (take t.words l.trace))
  at_end e = all_done w w' q quads t.slots t.capacity l.points l.quads r _ to e

  module _ (w₁ w₂ : List ℕ) (f₂ : List Float) (words : length w₁ ≡ length l.work) (clear_w : w₂ ≡ all_of 0 w₁) (clear_f : f₂ ≡ all_of 0·0 l.float_work) where
    pub done_returns : r.refusal ≡ 0 → (x : Replayed) (out components : List ℕ)
        → ((q : List Float) (quads : List ℕ) (q₀ : List Float) (old : List ℕ) (m : Mesh) → Plays w' q quads t.slots t.capacity q₀ old r m → FinishTo l.triangles_out out l.components components m x)
        → Replays (replay t l) (answered (Ok x)) (left_with l q quads out components w₂ f₂)
    done_returns e x out components finishes =
        let d = at_end e in
        whole_returns t l w' q quads t.slots t.capacity r d.mesh d.ends.plays w₁ w₂ l.float_work f₂ words refl clear_w clear_f o d.is out components x
        (finishes q quads l.points l.quads d.mesh d.ends.plays)

    pub cut_returns : r.refusal ≢ 0 → (x : Reply) → x ≡ refusal_of r.refusal → Replays (replay t l) x (left_with l q quads l.triangles_out l.components w₂ f₂)
    cut_returns e x y =
        let d = broken_off w w' q quads t.slots t.capacity l.points l.quads r _ to e in
        broken_returns t l d.ends.memory q quads t.slots t.capacity d.ends.state d.mesh d.ends.plays w₁ w₂ l.float_work f₂ words refl clear_w clear_f o r.refusal d.is x y
