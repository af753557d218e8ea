-- What the code's structs stand for, and what writing an answer gives.
use Rattle.std.specs.Prelude.{◌≡◌, ◌*◌, ◌≤◌, ◌∷◌}
use Rattle.laws.specs.Kit.{refl, ℕ, List, [], length, take, drop, Float}
use Rattle.definition.specs.Counts as def
use Rattle.definition.specs.Call.{Lent}
use Rattle.definition.specs.Call as call
use Rattle.definition.specs.Text.{Bytes, show_lists}
use Rattle.writing.specs.declared.Counts.{Counts}
use Rattle.writing.specs.declared.Lengths.{Lengths}

-- the counts that are written, in the order of their names
unfoldable pub columns : Counts → List ℕ
columns c =
    c.front_empty ∷ c.attempts ∷ c.placement ∷ c.invalid_quad ∷ c.recovery ∷ c.region ∷ c.odd_region ∷ c.mismatch_insertions ∷ c.limit ∷ []

-- the definition's lengths; the program lends no trace
unfoldable pub lengths_of : Lengths → call.Lengths
lengths_of n = record { quads = n.quads; triangles = n.triangles; points = n.points; components = n.components; words = 0 }

-- in the order of their names
unfoldable pub lengths_listed : call.Lengths → List ℕ
lengths_listed n = n.quads ∷ n.triangles ∷ n.points ∷ n.components ∷ []

-- the slices that are shown
unfoldable pub shown : List Float → List ℕ → List ℕ → List ℕ → Lent
shown points quads triangles components =
    record { points = points; triangles = []; joints = []; quads = quads; triangles_out = triangles; components = components; work = []; float_work = []; trace = [] }

-- the others are never looked at
pub only_shown : (given : List (List ℕ)) (c : def.Counts) (n : call.Lengths) (l : Lent)
    → show_lists given c n l ≡ show_lists given c n (shown l.points l.quads l.triangles_out l.components)
unfolding show_lists shown
only_shown given c n l = refl

-- the bytes that an answer fits in: at most 26,341 where every list is as long as what the program lends
abbrev pub most_written : ℕ
most_written = 26624

-- the program's lists are no longer than what it lends
pub record Few (n : Lengths) : Type 0 where
  pub quads : n.quads ≤ 160
  pub triangles : n.triangles ≤ 160
  pub points : n.points ≤ 96
  pub components : n.components ≤ 160

-- the slices hold what is to be shown
pub record Held (n : Lengths) (given : ℕ) (bits : List ℕ) (points : List Float) (quads triangles components : List ℕ) : Type 0 where
  pub given_few : given ≤ n.points
  pub given_held : 3 * given ≤ length bits
  pub points_held : 3 * n.points ≤ length points
  pub quads_held : 8 * n.quads ≤ length quads
  pub triangles_held : 3 * n.triangles ≤ length triangles
  pub components_held : n.components ≤ length components

-- the text stands at the front of the slice, in its first r bytes, and the rest is as it was
pub record Answered (before after : List ℕ) (t : Bytes) (r : ℕ) : Type 0 where
  pub text : take r after ≡ t
  pub past : drop r after ≡ drop r before
  pub fits : r ≤ length before
