-- What the code hands from one step of a reply to the next.
use Rattle.std.specs.Prelude.{◌≡◌, List, map, ℕ, ◌*◌, ◌≤◌, ◌<◌, Float, length, take}
use Rattle.definition.specs.Floats.{f64}
use Rattle.definition.specs.Call.{refusal, Returned, onto}
use Rattle.reading.specs.declared.found.Header.{Header}
use Rattle.writing.specs.Answer.{most_written}
use Rattle.mesher.specs.Promise.{Reply, Returns}

-- the floats of n bit patterns at the front of a slice
unfoldable pub filled : ℕ → List ℕ → List Float → List Float
filled n bits xs = onto (map f64 (take n bits)) xs

-- the program's input was read into two slices
pub record WasRead (h : Header) (tris bits : List ℕ) : Type 0 where
  pub few_triangles : h.triangles ≤ 64
  pub few_points : h.points ≤ 64
  pub triangles_held : 192 ≤ length tris
  pub points_held : 192 ≤ length bits

-- the counts are small enough to be written
pub record Countable (a : Reply) : Type 0 where
  pub front_empty : a.front_empty ≤ 4294967295
  pub attempts : a.attempts ≤ 4294967295
  pub placement : a.placement ≤ 4294967295
  pub invalid_quad : a.invalid_quad ≤ 4294967295
  pub recovery : a.recovery ≤ 4294967295
  pub region : a.region ≤ 4294967295
  pub odd_region : a.odd_region ≤ 4294967295
  pub mismatch_insertions : a.mismatch_insertions ≤ 4294967295
  pub limit : a.limit ≤ 4294967295

-- the answer is one that the program can write: its numbers are small, and its lists within what was lent
pub record Writable (a : Reply) (given : ℕ) : Type 0 where
  pub number : a.refusal ≤ 16
  pub counts : Countable a
  pub quads : a.quads ≤ 160
  pub triangles : a.triangles ≤ 160
  pub points : a.points ≤ 96
  pub components : a.components ≤ 160
  pub given_first : a.refusal ≡ 0 → given ≤ a.points

-- the slices are as long as the program's
pub record Long (given : ℕ) (bits : List ℕ) (points : List Float) (quads triangles components out : List ℕ) : Type 0 where
  pub bits_long : 3 * given ≤ length bits
  pub points_long : 288 ≤ length points
  pub quads_long : 1280 ≤ length quads
  pub triangles_long : 480 ≤ length triangles
  pub components_long : 160 ≤ length components
  pub out_long : most_written ≤ length out

-- a call returned this answer and left these slices; its refusals have a number
pub record Left (x : Returned) (a : Reply) (points : List Float) (quads triangles components : List ℕ) : Type 0 where
  pub answer : Returns x a x.lent
  pub named : (k : ℕ) → x.answer ≡ refusal k → 0 < k
  pub points_left : x.lent.points ≡ points
  pub quads_left : x.lent.quads ≡ quads
  pub triangles_left : x.lent.triangles_out ≡ triangles
  pub components_left : x.lent.components ≡ components
