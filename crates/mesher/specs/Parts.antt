-- The parts of a call: the refusals, the run over its mesh, and the lists of a finished run.
use Rattle.std.specs.Prelude.{◌≡◌, refl, Ok, Err, cond, List, ℕ, ◌+◌, ◌*◌, ◌≤◌, eqb, length, Float}
use native.Mathlib.Omega.{arith}
use Rattle.definition.specs.Lists.{flat_map}
use Rattle.definition.specs.Floats.{◌≺◌, 1·0}
use Rattle.definition.specs.Numbers.{max_attempts, tiny_size}
use Rattle.definition.specs.Counts.{no_counts, tally}
use Rattle.definition.specs.Cells.{Mesh, tri_nodes, triangles}
use Rattle.definition.specs.Components.{component_sizes}
use Rattle.definition.specs.Front.{Progress, outcome}
use Rattle.definition.specs.Call.{Asked, Lent, given_points, given_tris, given_locks, onto, settings_within, after_run}
use Rattle.definition.specs.Job.{rounds_of, charge}
use Rattle.rules.specs.declared.Rules.{Rules}
use Rattle.rules.specs.Settings.{quality_in}
use Rattle.cells.specs.declared.layout.Layout.{Layout}
use Rattle.cells.specs.Layout.{Sizes}
use Rattle.cells.specs.Rep.{Rep}
use Rattle.refusals.specs.declared.named.Refusal.{Refusal}
use Rattle.refusals.specs.Numbers.{number, refusal_of}
use Rattle.refusals.specs.Refusals.{first_refusal, passed}
use Rattle.rounds.specs.Loop.{Finish}
use Rattle.settling.specs.declared.standing.Standing.{Standing}
use Rattle.settling.specs.Standings.{counts_of}
use Rattle.mesher.specs.Promise.{Reply, answered, counts_in, lengths_in, Returns}
use Rattle.mesher.specs.declared.run.Ran.{Ran}

-- a refusal's answer: its number, and nothing counted or listed
pub record Refused (k : ℕ) (r : Reply) : Type 0 where
  pub number : r.refusal ≡ k
  pub counts : counts_in r ≡ no_counts
  pub lengths : lengths_in r ≡ record { quads = 0; triangles = 0; points = 0; components = 0; words = 0 }

pub refused : (k : Refusal) → Refused (number k) (answered (Err k))
unfolding no_counts tally
refused k = record { number = refl; counts = refl; lengths = refl }

-- the number of a run's end: 0 where it finished
abbrev pub finish_number : Finish → ℕ
finish_number (Ok done) = 0
finish_number (Err s) = number (refusal_of s)

-- the bucket's side: the size, or 1.0 without one
abbrev pub bucket_of : Float → Float
bucket_of size = cond (tiny_size ≺ size) size 1·0

-- the layout of the work slice of a call whose offsets are no large numbers
abbrev pub layout_of : (a : Asked) → Sizes a.slots a.capacity → Layout
layout_of a z = record { slots = a.slots; points = a.capacity; sizes = z }

-- those of a call that is not refused are none
pub sized : (a : Asked) (l : Lent) → first_refusal a l ≡ 0 → Sizes a.slots a.capacity
sized a l h = let p = (passed a l h).limited in record { slots = omega (arith, p.slots); points = omega (arith, p.capacity) }

-- what the run of a call goes by, with at most so many attempts, so many words of trace, this layout and side of a bucket
abbrev pub rules_with : ℕ → ℕ → Asked → Layout → Float → Rules
rules_with most room a lay bucket = record { lay = lay; given = a.count; bucket = bucket; size = a.size; even = eqb a.stop 1; attempts = most; room = room; quality = quality_in a.quality }

-- what the run of a call goes by, with at most so many attempts and so many words of trace
abbrev pub rules_of : ℕ → ℕ → (a : Asked) → Sizes a.slots a.capacity → Rules
rules_of most room a z = rules_with most room a (layout_of a z) (bucket_of a.size)

-- ---- the run

-- how the run of a call ends
abbrev pub progress_of : ℕ → Asked → Lent → Progress
progress_of most a l = rounds_of (settings_within most (length l.trace) a) (given_locks a l) (given_tris a l) (given_points a l)

-- a call that is not refused before its run, with at most its usual attempts,
-- and the slices that its run reads and writes
pub record CanMesh (q : List Float) (ts js qs w : List ℕ) (f : List Float) (t : List ℕ) (most : ℕ) (a : Asked) (l : Lent) : Type 0 where
  pub passed : first_refusal a l ≡ 0
  pub usual : most ≤ max_attempts a.count
  pub points : l.points ≡ q
  pub triangles : l.triangles ≡ ts
  pub joints : l.joints ≡ js
  pub quads : l.quads ≡ qs
  pub work : l.work ≡ w
  pub floats : l.float_work ≡ f
  pub trace : l.trace ≡ t

-- ---- the lists of a finished run

-- what writing them asks
pub record CanFinish (w o k : List ℕ) (s p : ℕ) (g : Standing) (m : Mesh) : Type 0 where
  pub rep : Rep w s p m
  pub used : m.used ≡ g.counters.used
  pub out : 3 * s ≤ length o
  pub components : s ≤ length k

-- what writing the leftover triangles and the sizes of their components gives
pub record FinishTo (o o' k k' : List ℕ) (g : Standing) (m : Mesh) (r : Reply) : Type 0 where
  pub out : o' ≡ onto (flat_map tri_nodes (triangles m)) o
  pub components : k' ≡ onto (component_sizes (triangles m)) k
  pub number : r.refusal ≡ 0
  pub counts : counts_in r ≡ counts_of g
  pub quads : r.quads ≡ g.quads
  pub left : r.triangles ≡ length (triangles m)
  pub points : r.points ≡ g.counters.points
  pub sizes : r.components ≡ length (component_sizes (triangles m))
  pub words : r.words ≡ g.words

-- ---- the run

-- what came back is the definition's, with the attempts charged
pub record RanTo (most : ℕ) (a : Asked) (l : Lent) (r : Ran) (exit : Lent) : Type 0 where
  pub returns : Returns (after_run l (outcome (progress_of most a l))) (answered r.answer) exit
  pub charged : r.charged ≡ charge (progress_of most a l)
