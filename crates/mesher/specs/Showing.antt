-- The parts of a preview: the attempt on the mesh of the given triangles, and the points behind them kept and put back.
use Rattle.std.specs.Prelude.{◌≡◌, List, ℕ, ◌+◌, ◌≤◌, ◌<◌, length, get_or, Float, Result, Ok, Err}
use Rattle.std.specs.Float.{nan}
use Rattle.definition.specs.Numbers.{max_attempts}
use Rattle.definition.specs.Cells.{Mesh}
use Rattle.definition.specs.Front.{new_mesh}
use Rattle.definition.specs.Call.{Asked, Lent, given_points, given_tris, given_locks, settings}
use Rattle.rules.specs.declared.Rules.{Rules}
use Rattle.cells.specs.Layout.{Sizes}
use Rattle.cells.specs.Rep.{Rep}
use Rattle.outcomes.specs.declared.End.{End}
use Rattle.outcomes.specs.declared.End.TheVariants as ends
use Rattle.outcomes.specs.declared.Tried.{Tried}
use Rattle.refusals.specs.declared.named.Refusal as named
use Rattle.refusals.specs.Numbers.{refusal_of}
use Rattle.refusals.specs.Refusals.{first_refusal}
use Rattle.mesher.specs.Parts.{rules_of}
use Rattle.mesher.specs.declared.preview.Cost.{Cost}
use Rattle.mesher.specs.declared.preview.Shown.{Shown}
use Rattle.mesher.specs.declared.preview.Shown.TheVariants as shows

-- ---- the attempt

-- the mesh that a run starts from
abbrev pub first_of : Asked → Lent → Mesh
first_of a l = new_mesh (settings a) (given_locks a l) (given_tris a l) (given_points a l)

-- what a run goes by, with its usual limit and no trace
abbrev pub usual_rules : (a : Asked) → Sizes a.slots a.capacity → Rules
usual_rules a z = rules_of (max_attempts a.count) 0 a z

-- a call that is not refused, and the slices that its preview reads and writes
pub record CanShow (q : List Float) (ts js w : List ℕ) (a : Asked) (l : Lent) : Type 0 where
  pub passed : first_refusal a l ≡ 0
  pub points : l.points ≡ q
  pub triangles : l.triangles ≡ ts
  pub joints : l.joints ≡ js
  pub work : l.work ≡ w

-- its mesh is built, and u-v is an edge of given points, the smaller first
pub record CanTry (q : List Float) (js w : List ℕ) (a : Asked) (l : Lent) (u v : ℕ) : Type 0 where
  pub passed : first_refusal a l ≡ 0
  pub points : l.points ≡ q
  pub joints : l.joints ≡ js
  pub rep : Rep w a.slots a.capacity (first_of a l)
  pub up : u < v
  pub known : v < a.given

abbrev pub cost_by : Tried → Cost
cost_by t = record { insertions = t.inserted; flips = t.flips }

-- what an attempt on u-v shows, by its end
abbrev pub shown_by : End → Tried → ℕ → ℕ → Result Shown named.Refusal
shown_by (ends.Placed z) t u v = Ok (shows.Quad (record { n0 = z.n0; n1 = z.n1; n2 = z.n2; n3 = z.n3; u = u; v = v; round = 1; replaced = z.replaced }) (cost_by t))
shown_by (ends.Refused kind) t u v = Ok (shows.Refused kind (cost_by t))
shown_by (ends.Short s) t u v = Err (refusal_of s)

-- ---- the points

-- the first n numbers of k are those of q from `from` on, as far as it reaches
abbrev pub Holds : List Float → List Float → ℕ → ℕ → Type 0
Holds q k from n = (i : ℕ) → i < n → from + i < length q → get_or k i nan ≡ get_or q (from + i) nan

-- the first n numbers of k are put from `from` on, and all else is as it was
pub record Back (q q' k : List Float) (from n : ℕ) : Type 0 where
  pub len : length q' ≡ length q
  pub low : (i : ℕ) → i < from → get_or q' i nan ≡ get_or q i nan
  pub back : (i : ℕ) → i < n → get_or q' (from + i) nan ≡ get_or k i nan
  pub high : (i : ℕ) → from + n ≤ i → get_or q' i nan ≡ get_or q i nan
