-- The leftover triangles in lent slices, and the definition's test of thin ones by the points of the slice.
-- Assumes nothing.
use Rattle.std.specs.Prelude.{◌≡◌, true, false, List, [], ◌∷◌, ℕ, ◌+◌, ◌*◌, ◌<◌, Float, Option, None}
use Rattle.std.proofs.Common.{subst, arith}
use Prim.{tt}
use Rattle.definition.specs.Floats.{◌≺◌, 1·0}
use Rattle.definition.specs.Metrics.{Corner, corner_of}
use Rattle.definition.specs.Cells.{Tri, new_tri}
use Rattle.definition.specs.Exact.{Arrow, CosineUpTo}
use Rattle.definition.specs.Call.{point_at, tri_at, first_points, first_tris, outside}
use Rattle.definition.specs.Account.{All}
use Rattle.laws.specs.Bools.{never}
use Rattle.laws.specs.Cells.{point_of}
use Rattle.exact.specs.Sides.{SameAs}
use Rattle.plane.specs.Points.{node}
use Rattle.accept.specs.Accept.{Judged, tri_corners, failing, is_blunt}
use Rattle.accept.proofs.Tests.{blunt_decides}
use Rattle.exact_tests.specs.Nodes.{at}
use Rattle.offenders.specs.Search.{Finds, found_none}
use Rattle.offenders.specs.Cells.{Tested, Names, StandsFor, Each, names}
use Rattle.offenders.specs.declared.lent_cells.Three.{Three}

-- ---- what is promised, whatever the number m of points that the nodes are below

abbrev pub FirstThin : List Float → List ℕ → ℕ → Float → Option ℕ → Type 0
FirstThin ps ts n t r =
    (m : ℕ) → Tested 3 m n ps ts → (j : Judged) → j.points ≡ first_points m ps → j.thin ≡ t → Finds n (failing (is_blunt j) 0 (first_tris n ts)) r

-- ---- a triangle

pub record NamesThree (points : List Float) (triangles : List ℕ) (i : ℕ) : Type 0 where
  pub in0 : Names points triangles (3 * i)
  pub in1 : Names points triangles (3 * i + 1)
  pub in2 : Names points triangles (3 * i + 2)

pub record ThreeFor (points : List Float) (t : Tri) (f : Three) : Type 0 where
  pub at0 : StandsFor points t.n0 f.n0
  pub at1 : StandsFor points t.n1 f.n1
  pub at2 : StandsFor points t.n2 f.n2

pub record NearThree (f : Three) : Type 0 where
  pub near0 : outside (node f.n0) ≡ false
  pub near1 : outside (node f.n1) ≡ false
  pub near2 : outside (node f.n2) ≡ false

abbrev pub corners_of : Three → List Corner
corners_of f = corner_of (node f.n2) (node f.n0) (node f.n1) ∷ corner_of (node f.n0) (node f.n1) (node f.n2) ∷ corner_of (node f.n1) (node f.n2) (node f.n0) ∷ []

-- the corners of a triangle by the points of the slice
abbrev pub corners_in : List Float → Tri → List Corner
corners_in ps t =
    let a = point_at ps t.n0 in
    let b = point_at ps t.n1 in
    let c = point_at ps t.n2 in
    corner_of c a b ∷ corner_of a b c ∷ corner_of b c a ∷ []

pub names_three : (m n : ℕ) (ps : List Float) (ts : List ℕ) → Tested 3 m n ps ts → (i : ℕ) → i < n → NamesThree ps ts i
names_three m n ps ts h i l =
    record { in0 = names 3 m n ps ts h (3 * i) (omega arith); in1 = names 3 m n ps ts h (3 * i + 1) (omega arith); in2 = names 3 m n ps ts h (3 * i + 2) (omega arith) }

module _ (ps : List Float) (t : Tri) (f : Three) (h : ThreeFor ps t f) where
  pub near_three : NearThree f
  near_three = record { near0 = h.at0.near; near1 = h.at1.near; near2 = h.at2.near }

  -- what is said of the spots is said of the points
  pub each_at : (P : Arrow → Arrow → Type 0) → SameAs (Each P (corners_of f)) (Each P (corners_in ps t))
  each_at P =
      let p0 = point_at ps t.n0 in
      let p1 = point_at ps t.n1 in
      let p2 = point_at ps t.n2 in
      let k0 = at f.n2 f.n0 f.n1 p2 p0 p1 h.at2.is h.at0.is h.at1.is P in
      let k1 = at f.n0 f.n1 f.n2 p0 p1 p2 h.at0.is h.at1.is h.at2.is P in
      let k2 = at f.n1 f.n2 f.n0 p1 p2 p0 h.at1.is h.at2.is h.at0.is P in (
        λ e. (k0.0 e.0, (k1.0 e.1.0, (k2.0 e.1.1.0, tt))),
        λ e. (k0.1 e.0, (k1.1 e.1.0, (k2.1 e.1.1.0, tt))),
      )

module _ (m n : ℕ) (ps : List Float) (ts : List ℕ) (h : Tested 3 m n ps ts) (j : Judged) (e : j.points ≡ first_points m ps) (i : ℕ) (l : i < n) where
  corners_same : tri_corners j.points (tri_at ts i) ≡ corners_in ps (tri_at ts i)
  unfolding tri_corners tri_at new_tri
  corners_same =
      let k0 = h.known (3 * i) (omega arith) in
      let k1 = h.known (3 * i + 1) (omega arith) in
      let k2 = h.known (3 * i + 2) (omega arith) in
      rw (e, point_of m ps _ k0, point_of m ps _ k1, point_of m ps _ k2)

  pub blunt_is : (t : Float) → j.thin ≡ t → (t ≺ 1·0) ≡ true → SameAs (All (CosineUpTo t) (corners_in ps (tri_at ts i))) (is_blunt j (tri_at ts i) ≡ true)
  blunt_is t f =
      subst (λ t. (t ≺ 1·0) ≡ true → SameAs (All (CosineUpTo t) (corners_in ps (tri_at ts i))) (is_blunt j (tri_at ts i) ≡ true)) f
      (λ asked. (λ a. (blunt_decides j).complete (tri_at ts i) (λ _. rw corners_same a), λ a. rw corners_same at ((blunt_decides j).sound (tri_at ts i) a asked)))

-- a limit that is not below 1 asks nothing
pub none_thin : (ps : List Float) (ts : List ℕ) (n : ℕ) (t : Float) → (t ≺ 1·0) ≡ false → FirstThin ps ts n t None
unfolding first_tris
none_thin ps ts n t e m h j p f =
    found_none (is_blunt j) (tri_at ts) n n (λ v l. (blunt_decides j).complete (tri_at ts v) (λ a. never _ (subst (λ t. (t ≺ 1·0) ≡ true) f a) e)) (omega arith)
