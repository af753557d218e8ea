-- The state of a replay: what the slices and the numbers stand for after an entry.
use Rattle.std.specs.Prelude.{◌≡◌, ◌+◌, ◌*◌, ◌<◌, ◌≤◌, ◌∷◌, Result, Ok, Err}
use Rattle.laws.specs.Kit.{Bool, false, not, ℕ, List, [], length, drop, Float}
use Rattle.rings.specs.Rings.{Distinct, Below}
use Rattle.definition.specs.Lists.{any, flat_map}
use Rattle.definition.specs.Cells.{Quad, Cell, tri, quad, Live, Mesh}
use Rattle.definition.specs.Trace.{quads_placed}
use Rattle.definition.specs.Call.{onto, quad_words}
use Rattle.definition.specs.Replay.{Redone, redone, balked}
use Rattle.cells.specs.Rep.{slots, Rep, Pts}
use Rattle.refusals.specs.declared.named.Refusal.{Refusal}
use Rattle.refusals.specs.Numbers.{number}
use Rattle.retrace.specs.Stored.{four, stored}
use Rattle.retrace.specs.declared.Playing.{Playing}

-- a cell's quad, where it is one
unfoldable pub quad_in : Cell → List Quad
quad_in (tri t) = []
quad_in (quad q) = q ∷ []

-- the quads of some live cells, in their order
unfoldable pub quads_of : List Live → List Quad
quads_of xs = flat_map (λ x. quad_in x.cell) xs

-- the quads placed so far
abbrev pub placed : Mesh → List Quad
placed m = quads_placed m.history

-- a replay's state as numbers: the last is that of the refusal that ended it, 0 while it goes on
pub record State : Type 0 where
  pub at : ℕ
  pub used : ℕ
  pub points : ℕ
  pub quads : ℕ
  pub odd : Bool
  pub refusal : ℕ

-- it goes on
abbrev pub state : Playing → State
state g = record { at = g.at; used = g.used; points = g.points; quads = g.quads; odd = g.odd; refusal = 0 }

-- it goes on, or a refusal ended it
abbrev pub played : Result Playing Refusal → State
played (Ok g) = state g
played (Err k) = record { at = 0; used = 0; points = 0; quads = 0; odd = false; refusal = number k }

-- q₀ and old are the slices of points and quads as they were lent
pub record Plays (w : List ℕ) (q : List Float) (quads : List ℕ) (s p : ℕ) (q₀ : List Float) (old : List ℕ) (g : State) (m : Mesh) : Type 0 where
  -- what is stored, and the points
  pub rep : Rep w s p (stored m)
  pub pts : Pts q p m
  pub used : g.used ≡ m.used
  pub points : g.points ≡ length m.points
  -- every quad placed is live, and stands in its slice
  pub number : g.quads ≡ length (placed m)
  pub text : quads ≡ onto (flat_map quad_words (placed m)) old
  pub live : quads_of m.live ≡ placed m
  pub few : length (placed m) ≤ m.used
  -- whether one of them has a node twice
  pub odd : g.odd ≡ any (λ k. not (four k)) (placed m)
  -- every cell has a slot of its own
  pub distinct : Distinct (slots m.live)
  pub below : Below m.used (slots m.live)
  -- no edge is locked, no trace is written
  pub free : m.locked ≡ (λ e. false)
  pub room : m.room ≡ 0
  -- behind the points the slice is as it was
  pub len : length q ≡ length q₀
  pub rest : drop (3 * length m.points) q ≡ drop (3 * length m.points) q₀
  pub going : g.refusal ≡ 0

-- the numbers of a call that passed its opening tests
pub record Small (quads : List ℕ) (s p : ℕ) : Type 0 where
  pub slots : s ≤ 16384
  pub points : p ≤ 8192
  pub room : 8 * s ≤ length quads

-- an entry was refused with this number: points and quads are as before it
pub record Broken (w w' : List ℕ) (q q' : List Float) (quads quads' : List ℕ) (g : State) (k : ℕ) (r : State) : Type 0 where
  pub number : r.refusal ≡ k
  pub refused : 0 < k
  pub points : q' ≡ q
  pub text : quads' ≡ quads
  pub len : length w' ≡ length w

-- what became of an entry of n words, by what the definition says of it
abbrev pub EntryTo : List ℕ → List ℕ → List Float → List Float → List ℕ → List ℕ → ℕ → ℕ → List Float → List ℕ → State → ℕ → Redone → State → Type 0
EntryTo w w' q q' quads quads' s p q₀ old g n (redone m) r = (r.at ≡ g.at + n) × Plays w' q' quads' s p q₀ old r m × (length w' ≡ length w) × (length quads' ≡ length quads)
EntryTo w w' q q' quads quads' s p q₀ old g n (balked k) r = Broken w w' q q' quads quads' g k r
