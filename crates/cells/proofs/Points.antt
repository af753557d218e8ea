-- What is read of the lent points slice is the mesh's point.
use mathlib.Core.Path.{◌≡◌, refl, ap, sym, ◌∙◌}
use mathlib.Core.List.{List, [], ◌∷◌, ◌++◌}
use Prim.Native.Nat.{ℕ, suc, ◌+◌, ◌*◌, ◌≤◌, ◌<◌}
use native.Mathlib.Numerals.{add-one}
use native.Mathlib.Omega.{arith}
use lib.ListN.{length, get_or, length-append}
use lib.Ieee.{Float, nan}
use Rattle.definition.specs.Floats.{0·0}
use Rattle.definition.specs.Lists.{table, numbers, below}
use Rattle.definition.specs.Plane.{Node, point, flat}
use Rattle.definition.specs.Cells.{Mesh, node_at}
use Rattle.definition.specs.Call.{point_at, first_points}
use Rattle.definition.specs.Insertion.{with_point}
use Rattle.laws.specs.Lists.{get_d_any, table_at, numbers_snoc}
use Rattle.laws.specs.Tables.{table_ext}
use Rattle.cells.specs.Rep.{Pts}

-- point v as it is read
abbrev pub read_point : List Float → ℕ → Node
read_point q v = record { x = get_or q (3 * v) nan; y = get_or q (3 * v + 1) nan; z = get_or q (3 * v + 2) nan }

pub point_is : (q : List Float) (n v : ℕ) → 3 * n ≤ length q → v < n → point (first_points n q) v ≡ read_point q v
unfolding point first_points below point_at
point_is q n v f h =
    let e : 0 + v ≡ v = omega arith in
    table_at (point_at q) 0 n v (flat 0·0 0·0) h
    ∙ (rw (e, get_d_any q (3 * v) 0·0 nan (omega arith), get_d_any q (3 * v + 1) 0·0 nan (omega arith), get_d_any q (3 * v + 2) 0·0 nan (omega arith)))

pub pts_node : (q : List Float) (p : ℕ) (m : Mesh) → Pts q p m → (v : ℕ) → v < length m.points → node_at m v ≡ read_point q v
unfolding node_at
pts_node q p m r v h = ap (λ (ps : List Node). point ps v) r.are ∙ point_is q (length m.points) v (omega (arith, r.fits, r.few)) h

-- ---- other points

-- the slice stands for every mesh with these points
pub pts_as : (q : List Float) (p : ℕ) (m m' : Mesh) → m.points ≡ m'.points → Pts q p m → Pts q p m'
pts_as q p m m' e r =
    let l : length m.points ≡ length m'.points = ap length e in
    record { fits = r.fits; few = omega (arith, r.few); are = sym e ∙ r.are ∙ ap (λ (n : ℕ). first_points n q) l }

pub table_snoc : {B : Type 0} (f : ℕ → B) (l : List ℕ) (x : ℕ) → table f (l ++ x ∷ []) ≡ table f l ++ f x ∷ []
unfolding table
table_snoc f [] x = refl
table_snoc {B} f (y ∷ l) x = ap (λ (k : List B). f y ∷ k) (table_snoc f l x)

at_read : (q : List Float) (v : ℕ) → 3 * v + 3 ≤ length q → point_at q v ≡ read_point q v
unfolding point_at
at_read q v h = rw (get_d_any q (3 * v) 0·0 nan (omega arith), get_d_any q (3 * v + 1) 0·0 nan (omega arith), get_d_any q (3 * v + 2) 0·0 nan (omega arith))

-- a point written behind the others
pub pts_more : (q q' : List Float) (p : ℕ) (m : Mesh) (x : Node) → Pts q p m → length m.points < p → length q' ≡ length q
    → ((i : ℕ) → i < 3 * length m.points → get_or q' i nan ≡ get_or q i nan) → x ≡ read_point q' (length m.points) → Pts q' p (with_point m x)
unfolding with_point first_points below
pts_more q q' p m x r h l k e =
    let n = length m.points in
    let z : length (m.points ++ (x ∷ [])) ≡ suc n = length-append m.points (x ∷ []) ∙ add-one n in
    let f : 3 * p ≤ length q = r.fits in
    let old : table (point_at q) (numbers 0 n) ≡ table (point_at q') (numbers 0 n) =
    table_ext (point_at q) (point_at q') 0 n (λ v a b. at_read q v (omega arith) ∙ sym (at_read q' v (omega arith) ∙ same_point v (omega arith))) in
    let o : 0 + n ≡ n = omega arith in
    let new : table (point_at q') (numbers 0 (suc n)) ≡ table (point_at q') (numbers 0 n) ++ (x ∷ []) =
    ap (table (point_at q')) (numbers_snoc 0 n) ∙ table_snoc (point_at q') (numbers 0 n) (0 + n)
    ∙ ap (λ (y : Node). table (point_at q') (numbers 0 n) ++ (y ∷ [])) (ap (point_at q') o ∙ at_read q' n (omega arith) ∙ sym e) in
    record {
      fits = omega arith;
      few = omega arith;
      are = ap (λ (ps : List Node). ps ++ (x ∷ [])) (r.are ∙ old) ∙ sym new ∙ ap (λ (j : ℕ). table (point_at q') (numbers 0 j)) (sym z);
    }
  where
    same_point : (v : ℕ) → v < length m.points → read_point q' v ≡ read_point q v
    same_point v h = rw (k (3 * v) (omega arith), k (3 * v + 1) (omega arith), k (3 * v + 2) (omega arith))

-- the three numbers of a node are in the slice
pub node_within : (q : List Float) (p : ℕ) (m : Mesh) → Pts q p m → (v : ℕ) → v < length m.points → 3 * v + 2 < length q
node_within q p m k v h = omega (arith, k.fits, k.few)
