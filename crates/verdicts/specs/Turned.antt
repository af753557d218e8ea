-- An acceptance over triangles turned upright: their slices in place of those handed in.
use Rattle.std.specs.Prelude.{◌≡◌, List, [], ◌∷◌, map, take, ℕ, ◌<◌, Option}
use Rattle.std.proofs.Common.{sym, ap, ◌∙◌}
use Prim.{tt}
use Rattle.definition.specs.Call.{tri_at, first_tris, first_points}
use Rattle.definition.specs.Plane.{Edge}
use Rattle.laws.specs.Bools.{same_bool}
use Rattle.account.specs.Triangles.{Distinct}
use Rattle.balance.specs.Promise as balance
use Rattle.groups.specs.Promise.{Grouped}
use Rattle.lost_joints.specs.Promise as joints
use Rattle.uprights.specs.Promise as turned
use Rattle.uprights.specs.Sides.{upright_words}
use Rattle.uprights.proofs.Words.{words_tri}
use Rattle.accept.specs.Accept.{Judged, failing, stands, odd_ones, upright, uprights, verdict}
use Rattle.accept.proofs.Tests.{stands_decides}
use Rattle.accept.specs.Call.{Handed, judged}
use Rattle.accept.proofs.Upright.{upright_stands, stands_upright}
use Rattle.accept.proofs.Wound.{same_sizes}
use Rattle.verdicts.specs.Odd.{OddOf}
use Rattle.verdicts.specs.Sides.{uneven_is, lost_is, sizes_is}

-- the triangles of two other slices
abbrev pub with_slices : Handed → List ℕ → List ℕ → Handed
with_slices h tris left =
    record {
      given = h.given;
      count = h.count;
      points = h.points;
      quads = h.quads;
      left = h.left;
      joints = h.joints;
      cosine = h.cosine;
      thin = h.thin;
      given_slice = h.given_slice;
      triangle_slice = tris;
      point_slice = h.point_slice;
      quad_slice = h.quad_slice;
      left_slice = left;
      joint_slice = h.joint_slice;
      components = h.components;
      work = h.work;
      parents = h.parents;
    }

-- two slices have the triangles turned upright
pub record Uprighted (h : Handed) (tris left : List ℕ) : Type 0 where
  pub given_are : first_tris h.count tris ≡ map (upright (first_points h.given h.given_slice)) (first_tris h.count h.triangle_slice)
  pub left_are : first_tris h.left left ≡ map (upright (first_points h.points h.point_slice)) (first_tris h.left h.left_slice)

-- no node is beyond its points: refusal 5
pub record Known (h : Handed) : Type 0 where
  pub given_known : turned.OfPoints h.triangle_slice h.count h.given
  pub left_known : turned.OfPoints h.left_slice h.left h.points

-- the lists that `balance_upright` reads off
abbrev pub tris_upright : Handed → List ℕ
tris_upright h = upright_words h.given_slice h.triangle_slice h.count

abbrev pub left_upright : Handed → List ℕ
left_upright h = upright_words h.point_slice h.left_slice h.left

pub read_upright : (h : Handed) → Known h → Uprighted h (tris_upright h) (left_upright h)
read_upright h k =
    record {
      given_are = turned.each_upright h.given_slice h.triangle_slice (tris_upright h) h.count (words_tri h.given_slice h.triangle_slice h.count) h.given k.given_known;
      left_are = turned.each_upright h.point_slice h.left_slice (left_upright h) h.left (words_tri h.point_slice h.left_slice h.left) h.points k.left_known;
    }

-- what is judged is the mesh with its triangles upright
judged_upright : (h : Handed) (tris left : List ℕ) → Uprighted h tris left → judged (with_slices h tris left) ≡ uprights (judged h)
unfolding judged
judged_upright h tris left u =
    let e = u.given_are in
    let f = u.left_are in
    λ i. record {
      given = (judged h).given;
      tris = e i;
      points = (judged h).points;
      quads = (judged h).quads;
      left = f i;
      joints = (judged h).joints;
      cosine = (judged h).cosine;
      thin = (judged h).thin;
    }

-- ---- the verdict on the mesh with its triangles upright

-- what is answered of slices that hold them
pub uneven_upright : (h : Handed) (tris left : List ℕ) → Uprighted h tris left → (r : Option Edge)
    → balance.Answers (balance.given_sides tris h.count) (balance.result_sides h.quad_slice h.quads left h.left) r
    → (verdict (uprights (judged h))).uneven ≡ joints.option r
uneven_upright h tris left u r a = sym (ap (λ j. (verdict j).uneven) (judged_upright h tris left u)) ∙ uneven_is (with_slices h tris left) r a

-- what `balance_upright` answers of the slices handed in is the verdict's uneven edge
pub uneven_read : (h : Handed) → Known h → (r : Option Edge)
    → balance.Answers (balance.given_sides (tris_upright h) h.count) (balance.result_sides h.quad_slice h.quads (left_upright h) h.left) r
    → (verdict (uprights (judged h))).uneven ≡ joints.option r
uneven_read h k r a = uneven_upright h (tris_upright h) (left_upright h) (read_upright h k) r a

-- a joint stands whichever way the triangles are wound
alone : Judged → Edge → Judged
alone j e = record { given = j.given; tris = j.tris; points = j.points; quads = j.quads; left = j.left; joints = e ∷ []; cosine = j.cosine; thin = j.thin }

same_stands : (j : Judged) (e : Edge) → stands (uprights j) e ≡ stands j e
unfolding stands alone
same_stands j e =
    same_bool _ _
    (λ x. (stands_decides j).complete e (upright_stands (alone j e) (record { joints_found = ((stands_decides (uprights j)).sound e x, tt) })).joints_found.0)
    (λ x. (stands_decides (uprights j)).complete e (stands_upright (alone j e) (record { joints_found = ((stands_decides j).sound e x, tt) })).joints_found.0)

-- what `lost_joint` answers of the slices handed in is the verdict's lost joint
pub lost_upright : (h : Handed) (r : Option ℕ) → joints.Answers h.triangle_slice h.count h.quad_slice h.quads h.left_slice h.left h.joint_slice h.joints r
    → (verdict (uprights (judged h))).lost ≡ joints.option r
unfolding verdict
lost_upright h r a = (λ i. failing (λ e. same_stands (judged h) e i) 0 (judged h).joints) ∙ lost_is h r a

-- The sizes are those of the leftover triangles as they are handed in.
pub sizes_upright : (h : Handed) (old sizes : List ℕ) (m : ℕ) → ((i : ℕ) → i < h.left → Distinct (tri_at h.left_slice i)) → Grouped h.left_slice h.left old sizes m
    → take m sizes ≡ (verdict (uprights (judged h))).sizes
unfolding verdict
sizes_upright h old sizes m d g = sizes_is h old sizes m d g ∙ sym (same_sizes (judged h).points (judged h).left)

-- how many of the sizes are odd is what `count_odd` answers
pub odd_upright : (h : Handed) (sizes : List ℕ) (m r : ℕ) → take m sizes ≡ (verdict (uprights (judged h))).sizes → OddOf sizes m r → r ≡ (verdict (uprights (judged h))).odd
unfolding verdict
odd_upright h sizes m r e o = o.is ∙ ap odd_ones e
