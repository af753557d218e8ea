-- What `judge` promises.
use Rattle.std.specs.Prelude.{◌≡◌, List, ℕ, ◌+◌, ◌*◌, ◌≤◌, ◌<◌, length, take, Float}
use Rattle.definition.specs.Call.{tri_at}
use Rattle.account.specs.Triangles.{Distinct}
use Rattle.balance.specs.Places.{Small}
use Rattle.balance.specs.Promise as balance
use Rattle.groups.specs.Promise.{Grouped}
use Rattle.lost_joints.specs.Promise as joints
use Rattle.uprights.specs.Sides.{Corners, upright_words}
use Rattle.accept.specs.Accept.{uprights, verdict}
use Rattle.accept.specs.Call.{Handed, judged}
use Rattle.verdicts.specs.declared.leaves.Found.{Found}
use Rattle.verdicts.specs.Odd.{OddOf}
use Rattle.verdicts.specs.Turned.{Known, uneven_read, lost_upright, sizes_upright, odd_upright}

-- cells whose nodes are below 2^20, those of triangles points within 8;
-- the nodes of a leftover triangle differ; and room for the work
pub record Judgeable (p : List Float) (given : List ℕ) (n : ℕ) (q : List Float) (quads : List ℕ) (k : ℕ) (left : List ℕ) (t : ℕ) (js : List ℕ) (m : ℕ) (w parents components : List ℕ) : Type 0 where
  pub given_sized : 3 * n ≤ length given
  pub quads_sized : 4 * k ≤ length quads
  pub left_sized : 3 * t ≤ length left
  pub joints_sized : 2 * m ≤ length js
  pub given_nodes : Corners p given n
  pub quads_nodes : Small quads (4 * k)
  pub left_nodes : Corners q left t
  pub joints_nodes : Small js (2 * m)
  pub few : t ≤ 1048576
  pub distinct : (i : ℕ) → i < t → Distinct (tri_at left i)
  pub work : 4 * (3 * n + 4 * k + 3 * t) ≤ length w
  pub parents_room : 2 * t ≤ length parents
  pub components_room : t ≤ length components

-- what the four parts found
pub record Finds (p : List Float) (given : List ℕ) (n : ℕ) (q : List Float) (quads : List ℕ) (k : ℕ) (left : List ℕ) (t : ℕ) (js : List ℕ) (m : ℕ) (old components : List ℕ) (f : Found) : Type 0 where
  pub uneven_found : balance.Answers (balance.given_sides (upright_words p given n) n) (balance.result_sides quads k (upright_words q left t) t) f.uneven
  pub lost_found : joints.Answers given n quads k left t js m f.lost
  pub sizes_found : Grouped left t old components f.components
  pub odd_found : OddOf components f.components f.odd

-- Of what an acceptance is handed, they are fields of the verdict on its mesh with the triangles upright.
pub record Says (h : Handed) (components : List ℕ) (f : Found) : Type 0 where
  pub uneven_is : (verdict (uprights (judged h))).uneven ≡ joints.option f.uneven
  pub lost_is : (verdict (uprights (judged h))).lost ≡ joints.option f.lost
  pub sizes_are : take f.components components ≡ (verdict (uprights (judged h))).sizes
  pub odd_is : f.odd ≡ (verdict (uprights (judged h))).odd

pub finds_says : (h : Handed) (old components : List ℕ) (f : Found) → Known h → ((i : ℕ) → i < h.left → Distinct (tri_at h.left_slice i))
    → Finds h.given_slice h.triangle_slice h.count h.point_slice h.quad_slice h.quads h.left_slice h.left h.joint_slice h.joints old components f
    → Says h components f
finds_says h old components f k d g =
    let sizes = sizes_upright h old components f.components d g.sizes_found in
    record {
      uneven_is = uneven_read h k f.uneven g.uneven_found;
      lost_is = lost_upright h f.lost g.lost_found;
      sizes_are = sizes;
      odd_is = odd_upright h components f.components f.odd sizes g.odd_found;
    }
