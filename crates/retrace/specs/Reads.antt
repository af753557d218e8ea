-- What became of an entry that was read, and of a whole trace.
use Rattle.std.specs.Prelude.{◌≡◌, ◌+◌, ◌<◌, ◌≤◌}
use Rattle.laws.specs.Kit.{Option, none, some, ℕ, List, length, get_or, drop, Float}
use Rattle.definition.specs.Numbers.{Settings}
use Rattle.definition.specs.Cells.{Mesh}
use Rattle.definition.specs.Replay.{Read, redo, Replayed, whole, broken}
use Rattle.retrace.specs.Plays.{Plays, Broken, EntryTo}
use Rattle.retrace.specs.Plays.{State}

-- an entry of kind k is at hand
pub record AtKind (trace : List ℕ) (at k : ℕ) : Type 0 where
  pub inside : at < length trace
  pub kind : get_or trace at 0 ≡ k

-- the entry has n words, and those behind it are the rest
pub record ReadOne (w w' : List ℕ) (q q' : List Float) (quads quads' : List ℕ) (s p : ℕ) (q₀ : List Float) (old : List ℕ) (g : State) (trace : List ℕ) (t : Settings) (m : Mesh) (x : Read) (r : State) : Type 0 where
  pub n : ℕ
  pub some_words : 0 < n
  pub fits : g.at + n ≤ length trace
  pub rest : x.rest ≡ drop (g.at + n) trace
  pub to : EntryTo w w' q q' quads quads' s p q₀ old g n (redo t m x.event) r

-- what cannot be read is 12
abbrev pub ReadTo : List ℕ → List ℕ → List Float → List Float → List ℕ → List ℕ → ℕ → ℕ → List Float → List ℕ → State → List ℕ → Settings → Mesh → Option Read → State → Type 0
ReadTo w w' q q' quads quads' s p q₀ old g trace t m none r = Broken w w' q q' quads quads' g 12 r
ReadTo w w' q q' quads quads' s p q₀ old g trace t m (some x) r = ReadOne w w' q q' quads quads' s p q₀ old g trace t m x r

-- every entry was done
pub record Whole (w w' : List ℕ) (q : List Float) (quads : List ℕ) (s p : ℕ) (q₀ : List Float) (old : List ℕ) (m : Mesh) (r : State) : Type 0 where
  pub plays : Plays w' q quads s p q₀ old r m
  pub len : length w' ≡ length w

-- one was refused with the number k: the points and the quads are those of the mesh
-- before it, whatever the memory holds
pub record Cut (w w' : List ℕ) (q : List Float) (quads : List ℕ) (s p : ℕ) (q₀ : List Float) (old : List ℕ) (k : ℕ) (m : Mesh) (r : State) : Type 0 where
  pub number : r.refusal ≡ k
  pub refused : 0 < k
  pub memory : List ℕ
  pub state : State
  pub plays : Plays memory q quads s p q₀ old state m
  pub len : length w' ≡ length w

-- by what the definition says of the trace
abbrev pub PlayTo : List ℕ → List ℕ → List Float → List ℕ → ℕ → ℕ → List Float → List ℕ → Replayed → State → Type 0
PlayTo w w' q quads s p q₀ old (whole m) r = Whole w w' q quads s p q₀ old m r
PlayTo w w' q quads s p q₀ old (broken k m) r = Cut w w' q quads s p q₀ old k m r
