-- The first triangle without an area is the first that does not run counterclockwise once all are upright.
use Rattle.std.specs.Prelude.{◌≡◌, List, map, ℕ, ◌+◌, ◌*◌, ◌<◌, Float, Option, None, Some}
use Rattle.std.proofs.Math.Path.{refl, ap}
use Rattle.std.proofs.Common.{◌∙◌, arith}
use Rattle.std.proofs.Math.Logic.{inl, inr}
use Rattle.definition.specs.Lists.{table, below}
use Rattle.definition.specs.Cells.{Tri, new_tri}
use Rattle.definition.specs.Call.{tri_at, first_tris, first_points}
use Rattle.laws.specs.Bools.{which}
use Rattle.laws.specs.Cells.{point_of}
use Rattle.sorting.specs.Rows.{row_map}
use Rattle.lost_joints.specs.Promise.{Names, option}
use Rattle.lost_joints.proofs.Joints.{named}
use Rattle.uprights.specs.Promise.{turn_at, upright_at, upright_of, OfPoints, FirstFlat}
use Rattle.accept.specs.Accept.{failing, turn, above, counterclockwise, verdict, over, upright, uprights}
use Rattle.accept.specs.Call.{Handed, judged}

module _ (p : ℕ) (q : List Float) (ts : List ℕ) (n : ℕ) (known : OfPoints ts n p) where
  turn_of : (t : Tri) → t.n0 < p → t.n1 < p → t.n2 < p → turn (first_points p q) t ≡ turn_at q t
  unfolding turn turn_at
  turn_of t a b c = rw (point_of p q t.n0 a, point_of p q t.n1 b, point_of p q t.n2 c) refl

  turn_up : (t : Tri) → t.n0 < p → t.n1 < p → t.n2 < p → turn (first_points p q) (upright_at q t) ≡ turn_at q (upright_at q t)
  unfolding upright_at new_tri
  turn_up t a b c = elim (which (above (turn_at q t))) [ inl e ↦ rw e (turn_of t a b c) | inr e ↦ rw e (turn_of (over t) a c b) ]

  each : (i : ℕ) → i < n → counterclockwise (first_points p q) (upright (first_points p q) (tri_at ts i)) ≡ above (turn_at q (upright_at q (tri_at ts i)))
  unfolding counterclockwise tri_at new_tri
  each i l =
      let a = known (3 * i) (omega arith) in
      let b = known (3 * i + 1) (omega arith) in
      let c = known (3 * i + 2) (omega arith) in
      ap above (ap (turn (first_points p q)) (upright_of p q (tri_at ts i) a b c) ∙ turn_up (tri_at ts i) a b c)

  list_is : map (upright (first_points p q)) (first_tris n ts) ≡ table (λ i. upright (first_points p q) (tri_at ts i)) (below n)
  unfolding first_tris below
  list_is = row_map (upright (first_points p q)) (tri_at ts) 0 n

  read : (r : Option ℕ) → FirstFlat q ts n r → Names (λ i. counterclockwise (first_points p q) (upright (first_points p q) (tri_at ts i))) n r
  read None f = λ i m. each i m ∙ f i m
  read (Some r) f = let l : r < n = f.0 in (l, each r l ∙ f.1, λ i m. each i (omega arith) ∙ f.2 i m)

  pub flat_is : (r : Option ℕ) → FirstFlat q ts n r → failing (counterclockwise (first_points p q)) 0 (map (upright (first_points p q)) (first_tris n ts)) ≡ option r
  flat_is r f =
      ap (failing (counterclockwise (first_points p q)) 0) list_is
      ∙ named (counterclockwise (first_points p q)) (λ i. upright (first_points p q) (tri_at ts i)) n r (read r f)

-- of what an acceptance is handed
pub flat_given : (h : Handed) (r : Option ℕ) → OfPoints h.triangle_slice h.count h.given → FirstFlat h.given_slice h.triangle_slice h.count r
    → (verdict (uprights (judged h))).given_turned ≡ option r
unfolding verdict judged
flat_given h r k f = flat_is h.given h.given_slice h.triangle_slice h.count k r f

pub flat_left : (h : Handed) (r : Option ℕ) → OfPoints h.left_slice h.left h.points → FirstFlat h.point_slice h.left_slice h.left r
    → (verdict (uprights (judged h))).left_turned ≡ option r
unfolding verdict judged
flat_left h r k f = flat_is h.points h.point_slice h.left_slice h.left k r f
