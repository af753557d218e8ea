-- What `balance_upright`, `lost_joint` and `groups` found of what an acceptance is handed is what the verdict says.
use Rattle.std.specs.Prelude.{◌≡◌, refl, true, List, ℕ, ◌+◌, ◌<◌, take, Option, None, Some}
use Rattle.std.proofs.Common.{sym, ◌∙◌}
use Rattle.std.proofs.Math.Path.{subst}
use Rattle.std.proofs.Math.Decide.{dec_lt}
use native.Mathlib.Omega.{arith}
use Rattle.definition.specs.Plane.{Edge}
use Rattle.definition.specs.Cells.{key, edge_before}
use Rattle.definition.specs.Call.{tri_at}
use Rattle.laws.specs.Bools.{fails}
use Rattle.laws.specs.Cells.{key_up, key_back}
use Rattle.account.specs.Triangles.{Distinct}
use Rattle.balance.specs.Sides as sides
use Rattle.balance.specs.Promise as balance
use Rattle.groups.specs.Promise.{Grouped}
use Rattle.lost_joints.specs.Promise as joints
use Rattle.accept.specs.Accept.{tri_sides, quad_sides, given_sides, cell_sides, times, walked, Level, verdict}
use Rattle.accept.proofs.Balance.{times_walked}
use Rattle.accept.specs.Call.{Handed, judged, corners_at}
use Rattle.accept.proofs.Least.{names_least}
use Rattle.accept.proofs.Unique.{sizes_are, first_distinct}

module _ (h : Handed) where
  abbrev G : List Edge
  G = balance.given_sides h.triangle_slice h.count

  abbrev R : List Edge
  R = balance.result_sides h.quad_slice h.quads h.left_slice h.left

  walked_is : (u v : ℕ) → times (u, v) (walked (judged h)) ≡ sides.times u v G + sides.times v u R
  unfolding times sides.times given_sides cell_sides tri_sides quad_sides sides.tri_sides sides.quad_sides balance.given_sides balance.result_sides balance.first_fours balance.four_at corners_at judged
  walked_is u v = times_walked (judged h) (u, v)

  level : (u v : ℕ) → sides.Balances G R u v → Level (judged h) u v
  level u v b = walked_is u v ∙ b ∙ sym (walked_is v u)

  balances : (u v : ℕ) → Level (judged h) u v → sides.Balances G R u v
  balances u v l = sym (walked_is u v) ∙ l ∙ walked_is v u

  -- an answer on the sides is the verdict's uneven edge
  pub uneven_is : (r : Option Edge) → balance.Answers G R r → (verdict (judged h)).uneven ≡ joints.option r
  unfolding verdict
  uneven_is None a = (names_least (judged h)).holds_none (λ u v. level u v (a u v))
  uneven_is (Some e) a = (names_least (judged h)).first_only e (record {
    ordered = a.in_order;
    not_level = λ l. a.fails (balances e.0 e.1 l);
    least = λ x y n. fails (edge_before (key x y) e) (λ q. elim (dec_lt x y) [
      | yes l ↦ n (level x y (a.least x y l (subst (λ d. edge_before d e ≡ true) (key_up x y l) q)))
      | no l ↦ elim (dec_lt y x) [
        | yes m ↦ n (sym (level y x (a.least y x m (subst (λ d. edge_before d e ≡ true) (key_back x y (omega arith)) q))))
        | no m ↦ n (let s : y ≡ x = omega arith in subst (λ z. Level (judged h) x z) (sym s) refl)
      ]
    ]);
  })

  -- that of `lost_joint` is its lost joint
  pub lost_is : (r : Option ℕ) → joints.Answers h.triangle_slice h.count h.quad_slice h.quads h.left_slice h.left h.joint_slice h.joints r
      → (verdict (judged h)).lost ≡ joints.option r
  unfolding verdict
  lost_is r a = joints.lost_is h r a

  -- the sizes of `groups` are those of the verdict
  pub sizes_is : (old sizes : List ℕ) (m : ℕ) → ((i : ℕ) → i < h.left → Distinct (tri_at h.left_slice i)) → Grouped h.left_slice h.left old sizes m → take m sizes ≡ (verdict (judged h)).sizes
  unfolding verdict judged
  sizes_is old sizes m d g = sizes_are _ (take m sizes) (first_distinct h.left_slice h.left d) g.right
