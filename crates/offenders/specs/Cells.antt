-- The cells in lent slices: what the refusals have tested of them,
-- and the definition's tests by the points of the slice.
-- Assumes nothing.
use Rattle.std.specs.Prelude.{◌≡◌, true, false, ◌⊎◌, List, ℕ, ◌+◌, ◌*◌, ◌^◌, ◌≤◌, ◌<◌, length, get_or, Float, Option}
use Rattle.std.proofs.Common.{subst, arith}
use Prim.{tt}
use Rattle.definition.specs.Floats.{◌≼◌, 0·5, 0·99}
use Rattle.definition.specs.Lists.{table, below}
use Rattle.definition.specs.Metrics.{Corner, corners}
use Rattle.definition.specs.Cells.{Quad, new_quad}
use Rattle.definition.specs.Exact.{Arrow, exact_dot, squared, squared_length, next_side, last_side, UpToZero, TurnsLeft, CosineUpTo}
use Rattle.definition.specs.Call.{point_at, first_points, outside}
use Rattle.definition.specs.Account.{All, quad_corners}
use Rattle.laws.specs.Cells.{point_of}
use Rattle.exact.specs.Sides.{SameAs}
use Rattle.plane.specs.Points.{Within, node, ground}
use Rattle.plane.specs.declared.points.Spot.{Spot}
use Rattle.accept.specs.Accept.{Judged, failing, is_convex, is_wide}
use Rattle.accept.specs.Call.{corners_at}
use Rattle.accept.proofs.Tests.{convex_decides, wide_decides}
use Rattle.exact_tests.specs.Nodes.{at, given_at}
use Rattle.offenders.specs.Search.{Finds}
use Rattle.offenders.specs.declared.lent_cells.Four.{Four}

-- ---- what is asked

-- n cells of w words each and m points that have passed the refusals 4, 5 and 7: the slices are long enough,
-- every node is a point, and every point is within 8
pub record Tested (w m n : ℕ) (points : List Float) (cells : List ℕ) : Type 0 where
  pub long_points : 3 * m ≤ length points
  pub long_cells : w * n ≤ length cells
  pub known : (i : ℕ) → i < w * n → get_or cells i 0 < m
  pub near : (i : ℕ) → i < m → outside (point_at points i) ≡ false

-- a limit for quads that has passed refusal 14
pub record Limit (t : Float) : Type 0 where
  pub least : (0·5 ≼ t) ≡ true
  pub most : (t ≼ 0·99) ≡ true

-- ---- what is promised, whatever the number m of points that the nodes are below

-- the quads of a slice
abbrev pub quads_in : ℕ → List ℕ → List Quad
quads_in n qs = table (corners_at qs) (below n)

abbrev pub FirstFolded : List Float → List ℕ → ℕ → Option ℕ → Type 0
FirstFolded ps qs n r =
    (m : ℕ) → Tested 4 m n ps qs → (j : Judged) → j.points ≡ first_points m ps → Finds n (failing (is_convex j) 0 (quads_in n qs)) r

abbrev pub FirstSharp : List Float → List ℕ → ℕ → Float → Option ℕ → Type 0
FirstSharp ps qs n t r =
    (m : ℕ) → Tested 4 m n ps qs → (j : Judged) → j.points ≡ first_points m ps → j.cosine ≡ t → Finds n (failing (is_wide j) 0 (quads_in n qs)) r

-- ---- one node

-- word k of a slice of cells names a point
pub record Names (points : List Float) (cells : List ℕ) (k : ℕ) : Type 0 where
  pub word : k < length cells
  pub within : Within points (get_or cells k 0)
  pub near : outside (point_at points (get_or cells k 0)) ≡ false

-- the spot of point a
pub record StandsFor (points : List Float) (a : ℕ) (s : Spot) : Type 0 where
  pub is : node s ≡ ground (point_at points a)
  pub near : outside (node s) ≡ false

pub stands_for : (points : List Float) (a : ℕ) (s : Spot) → node s ≡ ground (point_at points a) → outside (point_at points a) ≡ false → StandsFor points a s
stands_for ps a s e o = record { is = e; near = (given_at s s s (point_at ps a) (point_at ps a) (point_at ps a) e e e o o o).here_in }

pub names : (w m n : ℕ) (ps : List Float) (cs : List ℕ) → Tested w m n ps cs → (k : ℕ) → k < w * n → Names ps cs k
names w m n ps cs h k l =
    let b = h.known k l in
    let p = h.long_points in
    let c = h.long_cells in
    record { word = omega arith; within = omega arith; near = h.near (get_or cs k 0) b }

-- ---- a quad

pub record NamesFour (points : List Float) (quads : List ℕ) (i : ℕ) : Type 0 where
  pub in0 : Names points quads (4 * i)
  pub in1 : Names points quads (4 * i + 1)
  pub in2 : Names points quads (4 * i + 2)
  pub in3 : Names points quads (4 * i + 3)

pub record StandFor (points : List Float) (q : Quad) (f : Four) : Type 0 where
  pub at0 : StandsFor points q.n0 f.n0
  pub at1 : StandsFor points q.n1 f.n1
  pub at2 : StandsFor points q.n2 f.n2
  pub at3 : StandsFor points q.n3 f.n3

pub record NearFour (f : Four) : Type 0 where
  pub near0 : outside (node f.n0) ≡ false
  pub near1 : outside (node f.n1) ≡ false
  pub near2 : outside (node f.n2) ≡ false
  pub near3 : outside (node f.n3) ≡ false

abbrev pub corners_of : Four → List Corner
corners_of f = corners (node f.n0) (node f.n1) (node f.n2) (node f.n3)

-- the corners of a quad by the points of the slice
abbrev pub corners_in : List Float → Quad → List Corner
corners_in ps q = corners (point_at ps q.n0) (point_at ps q.n1) (point_at ps q.n2) (point_at ps q.n3)

-- `CosineAtMost`, of the corner's sides
abbrev pub up_to : ℕ → ℕ → Arrow → Arrow → Type 0
up_to n d u v = UpToZero (exact_dot u v) ⊎ (d ^ 2 * squared (exact_dot u v) ≤ n ^ 2 * (squared_length u * squared_length v))

-- a statement of the sides of every corner
abbrev pub Each : (Arrow → Arrow → Type 0) → List Corner → Type 0
Each P ks = All (λ k. P (next_side k) (last_side k)) ks

pub names_four : (m n : ℕ) (ps : List Float) (qs : List ℕ) → Tested 4 m n ps qs → (i : ℕ) → i < n → NamesFour ps qs i
names_four m n ps qs h i l =
    record {
      in0 = names 4 m n ps qs h (4 * i) (omega arith);
      in1 = names 4 m n ps qs h (4 * i + 1) (omega arith);
      in2 = names 4 m n ps qs h (4 * i + 2) (omega arith);
      in3 = names 4 m n ps qs h (4 * i + 3) (omega arith);
    }

module _ (ps : List Float) (q : Quad) (f : Four) (h : StandFor ps q f) where
  pub near_four : NearFour f
  near_four = record { near0 = h.at0.near; near1 = h.at1.near; near2 = h.at2.near; near3 = h.at3.near }

  -- what is said of the spots is said of the points
  pub each_at : (P : Arrow → Arrow → Type 0) → SameAs (Each P (corners_of f)) (Each P (corners_in ps q))
  unfolding corners
  each_at P =
      let p0 = point_at ps q.n0 in
      let p1 = point_at ps q.n1 in
      let p2 = point_at ps q.n2 in
      let p3 = point_at ps q.n3 in
      let k0 = at f.n3 f.n0 f.n1 p3 p0 p1 h.at3.is h.at0.is h.at1.is P in
      let k1 = at f.n0 f.n1 f.n2 p0 p1 p2 h.at0.is h.at1.is h.at2.is P in
      let k2 = at f.n1 f.n2 f.n3 p1 p2 p3 h.at1.is h.at2.is h.at3.is P in
      let k3 = at f.n2 f.n3 f.n0 p2 p3 p0 h.at2.is h.at3.is h.at0.is P in (
        λ e. (k0.0 e.0, (k1.0 e.1.0, (k2.0 e.1.1.0, (k3.0 e.1.1.1.0, tt)))),
        λ e. (k0.1 e.0, (k1.1 e.1.0, (k2.1 e.1.1.0, (k3.1 e.1.1.1.0, tt)))),
      )

module _ (m n : ℕ) (ps : List Float) (qs : List ℕ) (h : Tested 4 m n ps qs) (j : Judged) (e : j.points ≡ first_points m ps) (i : ℕ) (l : i < n) where
  corners_same : quad_corners j.points (corners_at qs i) ≡ corners_in ps (corners_at qs i)
  unfolding quad_corners corners_at new_quad
  corners_same =
      let k0 = h.known (4 * i) (omega arith) in
      let k1 = h.known (4 * i + 1) (omega arith) in
      let k2 = h.known (4 * i + 2) (omega arith) in
      let k3 = h.known (4 * i + 3) (omega arith) in
      rw (e, point_of m ps _ k0, point_of m ps _ k1, point_of m ps _ k2, point_of m ps _ k3)

  pub convex_is : SameAs (All TurnsLeft (corners_in ps (corners_at qs i))) (is_convex j (corners_at qs i) ≡ true)
  convex_is =
      (λ a. (convex_decides j).complete (corners_at qs i) (rw corners_same a), λ a. rw corners_same at ((convex_decides j).sound (corners_at qs i) a))

  pub wide_is : (t : Float) → j.cosine ≡ t → SameAs (All (CosineUpTo t) (corners_in ps (corners_at qs i))) (is_wide j (corners_at qs i) ≡ true)
  wide_is t f =
      subst (λ t. SameAs (All (CosineUpTo t) (corners_in ps (corners_at qs i))) (is_wide j (corners_at qs i) ≡ true)) f
      (λ a. (wide_decides j).complete (corners_at qs i) (rw corners_same a), λ a. rw corners_same at ((wide_decides j).sound (corners_at qs i) a))
