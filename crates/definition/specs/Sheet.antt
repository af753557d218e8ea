-- The quality sheet of a list of quads: each quad's metrics, the worst of each kind,
-- and how many quads lie in each step of the scaled Jacobian.
use Rattle.std.specs.Prelude.{Bool, cond, ◌||◌, ℕ, suc, ◌*◌, leb, ltb, eqb, length, replicate, Float}
use mathlib.Core.List.{List, [], ◌∷◌, map, foldl}
use Rattle.std.proofs.Math.Option.{Option, none, some}
use Rattle.definition.specs.Lists.{filter, any, find, flat_map, below}
use Rattle.definition.specs.Floats.{◌≺◌, ◌≼◌, 0·0, 0·1, 0·2, 0·3, 0·4, 0·5, 0·6, 0·7, 0·8, 0·9}
use Rattle.definition.specs.Plane.{Node}
use Rattle.definition.specs.Metrics.{Metrics, absent, measured}
use Rattle.definition.specs.Cells.{Quad, quad_nodes}
use Rattle.definition.specs.Call.{first_points, first_quads, onto, outside, most_capacity, most_slots}
use Rattle.definition.specs.Account.{measures}

-- ---- the steps

-- the bounds between the steps, each the double nearest its decimal
unfoldable pub bounds : List Float
bounds = 0·1 ∷ 0·2 ∷ 0·3 ∷ 0·4 ∷ 0·5 ∷ 0·6 ∷ 0·7 ∷ 0·8 ∷ 0·9 ∷ []

-- the place in which a quad is counted: the number of bounds that its scaled Jacobian reaches;
-- 10 where it has no metrics
unfoldable pub place : Metrics → ℕ
place absent = 10
place (measured sj k) = length (filter (λ b. b ≼ sj) bounds)

-- ten steps, and a place for quads without metrics
unfoldable pub places : ℕ
places = 11

-- how many are counted in place j
unfoldable pub counted : ℕ → List Metrics → ℕ
counted j ms = length (filter (λ m. eqb (place m) j) ms)

-- the counts, place after place
unfoldable pub counts : List Metrics → List ℕ
counts ms = map (λ j. counted j ms) (below places)

-- ---- the worst

-- a quad's number and a value of its metrics
abbrev pub Value : Type 0
Value = ℕ × Float

-- of each quad that has metrics the value that f picks; i is the number of the first quad
unfoldable pub values : (Float → Float → Float) → ℕ → List Metrics → List Value
values f i [] = []
values f i (absent ∷ ms) = values f (suc i) ms
values f i (measured sj k ∷ ms) = (i, f sj k) ∷ values f (suc i) ms

-- a later value takes the place of the worst so far only where it is strictly worse
unfoldable pub worse : (Float → Float → Bool) → Option Value → Value → Option Value
worse than none v = some v
worse than (some w) v = cond (than v.1 w.1) (some v) (some w)

-- the worst value and the first quad that has it; none where there is no value
unfoldable pub worst : (Float → Float → Bool) → List Value → Option Value
worst than vs = foldl (worse than) none vs

-- the least scaled Jacobian
unfoldable pub worst_jacobian : List Metrics → Option Value
worst_jacobian ms = worst (λ x y. x ≺ y) (values (λ sj k. sj) 0 ms)

-- the largest cosine
unfoldable pub worst_cosine : List Metrics → Option Value
worst_cosine ms = worst (λ x y. y ≺ x) (values (λ sj k. k) 0 ms)

-- ---- the sheet

-- eleven counts, and the worst of each kind
pub record Sheet : Type 0 where
  pub counts : List ℕ
  pub jacobian : Option Value
  pub cosine : Option Value

-- the sheet of the metrics of a list of quads
unfoldable pub sheet : List Metrics → Sheet
sheet ms = record { counts = counts ms; jacobian = worst_jacobian ms; cosine = worst_cosine ms }

-- nothing counted, and no worst
unfoldable pub no_sheet : Sheet
no_sheet = record { counts = replicate places 0; jacobian = none; cosine = none }

-- what is written of a quad: scaled Jacobian and cosine, two zeros where it has no metrics
unfoldable pub line : Metrics → List Float
line absent = 0·0 ∷ 0·0 ∷ []
line (measured sj k) = sj ∷ k ∷ []

-- ---- what is handed in

-- the stated numbers of points and quads, and the contents of the lent slices: points three numbers each,
-- quads eight,
-- out two
pub record Listed : Type 0 where
  pub given : ℕ
  pub count : ℕ
  pub points : List Float
  pub quads : List ℕ
  pub out : List Float

-- the points and the quads that the numbers name
unfoldable pub listed_points : Listed → List Node
listed_points l = first_points l.given l.points

unfoldable pub listed_quads : Listed → List Quad
listed_quads l = first_quads l.count l.quads

-- the quads' metrics
unfoldable pub all_metrics : Listed → List Metrics
all_metrics l = map (measures (listed_points l)) (listed_quads l)

-- ---- the refusals

-- 1: too many quads or points
unfoldable pub over_limit : Listed → Bool
over_limit l = ltb most_slots l.count || ltb most_capacity l.given

-- 4: a slice shorter than the stated numbers need
unfoldable pub too_short : Listed → Bool
too_short l =
    ltb (length l.points) (3 * l.given) || ltb (length l.quads) (8 * l.count) || ltb (length l.out) (2 * l.count)

-- 5: a corner of a quad is none of the points; what the record says of the quad's birth is not tested
unfoldable pub unknown_corner : Listed → Bool
unknown_corner l = any (λ q. any (λ v. leb l.given v) (quad_nodes q)) (listed_quads l)

-- 7: an x or y that is not finite or is beyond its limit
unfoldable pub far_point : Listed → Bool
far_point l = any outside (listed_points l)

-- the refusals in the order of their tests
unfoldable pub conditions : Listed → List (ℕ × Bool)
conditions l = (1, over_limit l) ∷ (4, too_short l) ∷ (5, unknown_corner l) ∷ (7, far_point l) ∷ []

-- the number of the first condition that holds
unfoldable pub refused : Listed → Option (ℕ × Bool)
refused l = find (λ c. c.1) (conditions l)

-- ---- the call

-- a sheet, or a refusal's number
pub data Answer : Type 0 where
  filed : Sheet → Answer
  refusal : ℕ → Answer

-- the answer, and what the slice `out` holds at exit
pub record Returned : Type 0 where
  pub answer : Answer
  pub out : List Float

-- a refusal returns zero counts and no worst
unfoldable pub sheet_of : Answer → Sheet
sheet_of (filed s) = s
sheet_of (refusal k) = no_sheet

-- the lines stand at the front of `out`, quad after quad; a refusal touches nothing
unfoldable pub call : Listed → Returned
call l =
    elim (refused l) [
      | none ↦ record { answer = filed (sheet (all_metrics l)); out = onto (flat_map line (all_metrics l)) l.out }
      | some c ↦ record { answer = refusal c.0; out = l.out }
    ]
