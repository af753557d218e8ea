-- What the parts ask, of a call that no condition refuses.
use mathlib.Core.Path.{◌≡◌, sym}
use mathlib.Core.Bool.{false}
use mathlib.Core.List.{List}
use Prim.Native.Nat.{ℕ, min, max, ◌+◌, ◌*◌, ◌/◌, ◌<◌}
use native.Mathlib.Decide.{ℕ_discrete}
use native.Mathlib.Omega.{arith}
use lib.Dec.{eqb, leb}
use lib.ListN.{get_or}
use lib.Ieee.{Float}
use borrow.Author.Tests.{leb-false}
use Rattle.definition.specs.Cells.{key, new_tri}
use Rattle.definition.specs.Call.{tri_at, joint_at, bad_joint}
use Rattle.laws.specs.Bools.{or_none}
use Rattle.account.specs.Triangles.{Distinct}
use Rattle.uprights.specs.Promise.{Near, Readable}
use Rattle.accept.specs.Call.{Handed}
use Rattle.offenders.specs.Cells.{Tested}
use Rattle.accept_refusals.specs.Passed.{Passed}
use Rattle.verdicts.specs.Leaves.{Judgeable}
use Rattle.verdicts.specs.Turned.{Known}

near : (m n : ℕ) (ps : List Float) (ts : List ℕ) → Tested 3 m n ps ts → (i : ℕ) → i < 3 * n → Near ps (get_or ts i 0)
near m n ps ts t i l =
    let k = t.known i l in
    let p = t.long_points in
    record { within = omega arith; not_far = t.near (get_or ts i 0) k }

pub readable : (m n : ℕ) (ps : List Float) (ts : List ℕ) → Tested 3 m n ps ts → Readable ps ts n
readable m n ps ts t = record { sized = t.long_cells; nodes = near m n ps ts t }

-- the nodes of a joint are given
joint_low : (given u v : ℕ) → bad_joint given (key u v) ≡ false → (u < given) × (v < given)
unfolding bad_joint key
joint_low given u v e = let k : max u v < given = leb-false given (max u v) (or_none (eqb (min u v) (max u v)) (leb given (max u v)) e).1 in (omega arith, omega arith)

module _ (h : Handed) (p : Passed h) where
  joints_low : (i : ℕ) → i < 2 * h.joints → get_or h.joint_slice i 0 < h.given
  unfolding joint_at
  joints_low i l =
      let k = i / 2 in
      let g = joint_low h.given (get_or h.joint_slice (2 * k) 0) (get_or h.joint_slice (2 * k + 1) 0) (p.joints k (omega arith)) in
      elim (ℕ_discrete i (2 * k)) [
        | yes e ↦ rw e g.0
        | no d ↦ let e : i ≡ 2 * k + 1 = omega arith in rw e g.1
      ]

  pub distinct : (i : ℕ) → i < h.left → Distinct (tri_at h.left_slice i)
  unfolding tri_at new_tri
  distinct i a = let d = p.apart i a in record { d01 = d.d01; d12 = d.d12; d20 = λ e. d.d02 (sym e) }

  pub known : Known h
  known = record { given_known = p.given.known; left_known = p.left.known }

  pub judgeable : Judgeable h.given_slice h.triangle_slice h.count h.point_slice h.quad_slice h.quads h.left_slice h.left h.joint_slice h.joints h.work h.parents h.components
  judgeable =
      let f = p.few in
      let l = p.long in
      record {
        given_sized = l.triangles;
        quads_sized = l.quads;
        left_sized = l.left;
        joints_sized = l.joints;
        given_nodes = λ i a. (let k = p.given.known i a in record { near = near h.given h.count h.given_slice h.triangle_slice p.given i a; small = omega arith });
        quads_nodes = λ i a. (let k = p.quads.known i a in omega arith);
        left_nodes = λ i a. (let k = p.left.known i a in record { near = near h.points h.left h.point_slice h.left_slice p.left i a; small = omega arith });
        joints_nodes = λ i a. (let k = joints_low i a in omega arith);
        few = f.left;
        distinct = distinct;
        work = l.work;
        parents_room = l.parents;
        components_room = l.components;
      }
