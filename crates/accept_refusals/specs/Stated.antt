-- The code's arguments in the definition's words, and the definition's conditions by them.
use Rattle.std.specs.Prelude.{Bool, ◌||◌, List, [], ◌∷◌, ℕ, ◌*◌, ◌≤◌, leb, ltb, length, Float}
use Rattle.definition.specs.Lists.{any, table, below}
use Rattle.definition.specs.Cells.{tri_nodes, quad_nodes}
use Rattle.definition.specs.Call.{first_points, first_tris, joint_at, twice, outside, bad_joint}
use Rattle.accept.specs.Call.{Handed, corners_at, quad_twice}
use Rattle.accept_refusals.specs.declared.Stated.{Stated}

-- ---- what is handed in

abbrev pub handed : List Float → List ℕ → List Float → List ℕ → List ℕ → List ℕ → List ℕ → List ℕ → List ℕ → Stated → Handed
handed gs ts ps qs ls js cs ws fs a =
    record {
      given = a.given;
      count = a.count;
      points = a.points;
      quads = a.quads;
      left = a.left;
      joints = a.joints;
      cosine = a.cosine;
      thin = a.thin;
      given_slice = gs;
      triangle_slice = ts;
      point_slice = ps;
      quad_slice = qs;
      left_slice = ls;
      joint_slice = js;
      components = cs;
      work = ws;
      parents = fs;
    }

-- ---- what the tests ask

pub record Limited (a : Stated) : Type 0 where
  pub given : a.given ≤ 1048576
  pub count : a.count ≤ 1048576
  pub points : a.points ≤ 1048576
  pub quads : a.quads ≤ 1048576
  pub left : a.left ≤ 1048576
  pub joints : a.joints ≤ 1048576

pub record LongCells (ts qs ls : List ℕ) (a : Stated) : Type 0 where
  pub triangles : 3 * a.count ≤ length ts
  pub quads : 4 * a.quads ≤ length qs
  pub left : 3 * a.left ≤ length ls

pub record LongPoints (gs ps : List Float) (a : Stated) : Type 0 where
  pub given : 3 * a.given ≤ length gs
  pub points : 3 * a.points ≤ length ps

-- ---- the conditions of one list

abbrev pub tris_unknown : ℕ → ℕ → List ℕ → Bool
tris_unknown m n ts = any (λ t. any (leb m) (tri_nodes t)) (first_tris n ts)

abbrev pub tris_repeated : ℕ → List ℕ → Bool
tris_repeated n ts = any twice (first_tris n ts)

abbrev pub quads_unknown : ℕ → ℕ → List ℕ → Bool
quads_unknown m n qs = any (λ q. any (leb m) (quad_nodes q)) (table (corners_at qs) (below n))

abbrev pub quads_repeated : ℕ → List ℕ → Bool
quads_repeated n qs = any quad_twice (table (corners_at qs) (below n))

abbrev pub points_far : ℕ → List Float → Bool
points_far m ps = any outside (first_points m ps)

abbrev pub joints_bad : List ℕ → ℕ → ℕ → Bool
joints_bad js n given = any (bad_joint given) (table (joint_at js) (below n))

-- ---- those of all lists: each is the definition's condition of what is handed in, computed

unfoldable pub over : Stated → Bool
over a = any (ltb 1048576) (a.given ∷ a.count ∷ a.points ∷ a.quads ∷ a.left ∷ a.joints ∷ [])

abbrev pub unknown : List ℕ → List ℕ → List ℕ → Stated → Bool
unknown ts qs ls a = tris_unknown a.given a.count ts || quads_unknown a.points a.quads qs || tris_unknown a.points a.left ls

abbrev pub repeated : List ℕ → List ℕ → List ℕ → Stated → Bool
repeated ts qs ls a = tris_repeated a.count ts || quads_repeated a.quads qs || tris_repeated a.left ls

abbrev pub far : List Float → List Float → Stated → Bool
far gs ps a = points_far a.given gs || points_far a.points ps
