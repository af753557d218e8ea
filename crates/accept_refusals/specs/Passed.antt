-- What a call that no condition refuses has: what the searches ask of it.
use Rattle.std.specs.Prelude.{◌≡◌, true, cond, ◌&&◌, ◌||◌, ℕ, ◌+◌, ◌*◌, ◌≤◌, ◌<◌, eqb, ltb, length, get_or}
use Rattle.std.proofs.Common.{sym, ◌∙◌, arith}
use Rattle.std.proofs.Math.Bool.{false}
use mathlib.Core.List.{[]}
use Rattle.std.proofs.Math.Option.{none}
use borrow.Author.Tests.{le-ltb, ltb-false, eqb-false, not-false}
use Rattle.definition.specs.Floats.{◌≼◌, 0·5, 0·99, 1·0}
use Rattle.definition.specs.Lists.{any, find}
use Rattle.definition.specs.Cells.{new_tri}
use Rattle.definition.specs.Call.{point_at, first_points, tri_at, first_tris, joint_at, twice, outside, ranges, bad_joint}
use Rattle.laws.specs.Bools.{both, or_none}
use Rattle.laws.specs.Tables.{below_none}
use Rattle.refusals.specs.Passed.{Apart}
use Rattle.refusals.specs.Refusals.{number_of, turn, no_turn, not_taken}
use Rattle.accept.specs.Call.{Handed, most, side_words, parent_words, sides, judged, over_limit, bad_limit, too_short, unknown_node, repeated_node, far_point, bad_joints, conditions, refused}
use Rattle.offenders.specs.Cells.{Tested, Limit}
use Rattle.accept_refusals.specs.declared.Stated.{Stated}
use Rattle.accept_refusals.specs.Stated.{handed, Limited, over, tris_unknown, tris_repeated, quads_unknown, quads_repeated, points_far}
use Rattle.accept_refusals.specs.Tests.{quads_known, tris_known}

module _ (h : Handed) where
  -- one condition after the other
  pub in_turn : number_of (refused h)
      ≡ cond (over_limit h) 1
      (cond (bad_limit h) 14
      (cond (too_short h) 4
      (cond (unknown_node h) 5
      (cond (repeated_node h) 6
      (cond (far_point h) 7
      (cond (bad_joints h) 13 0))))))
  unfolding refused conditions
  in_turn = simp (turn, no_turn)

-- none of the conditions holds
pub record Clear (h : Handed) : Type 0 where
  pub c1 : over_limit h ≡ false
  pub c14 : bad_limit h ≡ false
  pub c4 : too_short h ≡ false
  pub c5 : unknown_node h ≡ false
  pub c6 : repeated_node h ≡ false
  pub c7 : far_point h ≡ false
  pub c13 : bad_joints h ≡ false

module _ (h : Handed) (zero_is : number_of (refused h) ≡ 0) where
  pub clear : Clear h
  clear =
      let h1 = not_taken (over_limit h) 1 _ (omega arith) (sym (in_turn h) ∙ zero_is) in
      let h14 = not_taken (bad_limit h) 14 _ (omega arith) h1.1 in
      let h4 = not_taken (too_short h) 4 _ (omega arith) h14.1 in
      let h5 = not_taken (unknown_node h) 5 _ (omega arith) h4.1 in
      let h6 = not_taken (repeated_node h) 6 _ (omega arith) h5.1 in
      let h7 = not_taken (far_point h) 7 _ (omega arith) h6.1 in
      let h13 = not_taken (bad_joints h) 13 0 (omega arith) h7.1 in
      record { c1 = h1.0; c14 = h14.0; c4 = h4.0; c5 = h5.0; c6 = h6.0; c7 = h7.0; c13 = h13.0 }

  -- as the definition's call and its theorems take it
  pub none_holds : refused h ≡ none
  unfolding refused find conditions
  none_holds = rw (clear.c1, clear.c14, clear.c4, clear.c5, clear.c6, clear.c7, clear.c13)

-- ---- what each of them leaves

pub record Few (h : Handed) : Type 0 where
  pub given : h.given ≤ 1048576
  pub count : h.count ≤ 1048576
  pub points : h.points ≤ 1048576
  pub quads : h.quads ≤ 1048576
  pub left : h.left ≤ 1048576
  pub joints : h.joints ≤ 1048576

pub record Long (h : Handed) : Type 0 where
  pub given : 3 * h.given ≤ length h.given_slice
  pub triangles : 3 * h.count ≤ length h.triangle_slice
  pub points : 3 * h.points ≤ length h.point_slice
  pub quads : 4 * h.quads ≤ length h.quad_slice
  pub left : 3 * h.left ≤ length h.left_slice
  pub joints : 2 * h.joints ≤ length h.joint_slice
  pub components : h.left ≤ length h.components
  pub work : 4 * (3 * h.count + 4 * h.quads + 3 * h.left) ≤ length h.work
  pub parents : 2 * h.left ≤ length h.parents

module _ (h : Handed) where
  pub few : over_limit h ≡ false → Few h
  unfolding over_limit most any
  few e =
      let h0 = or_none (ltb 1048576 h.given) _ e in
      let h1 = or_none (ltb 1048576 h.count) _ h0.1 in
      let h2 = or_none (ltb 1048576 h.points) _ h1.1 in
      let h3 = or_none (ltb 1048576 h.quads) _ h2.1 in
      let h4 = or_none (ltb 1048576 h.left) _ h3.1 in
      let h5 = or_none (ltb 1048576 h.joints) false h4.1 in
      record {
        given = ltb-false 1048576 _ h0.0;
        count = ltb-false 1048576 _ h1.0;
        points = ltb-false 1048576 _ h2.0;
        quads = ltb-false 1048576 _ h3.0;
        left = ltb-false 1048576 _ h4.0;
        joints = ltb-false 1048576 _ h5.0;
      }

  pub in_range : bad_limit h ≡ false → Limit h.cosine × ((0·5 ≼ h.thin) ≡ true)
  unfolding bad_limit ranges
  in_range e =
      let r = both (0·5 ≼ h.cosine && h.cosine ≼ 0·99) (0·5 ≼ h.thin && h.thin ≼ 1·0) (not-false _ e) in
      let b = both (0·5 ≼ h.cosine) (h.cosine ≼ 0·99) r.0 in
      (record { least = b.0; most = b.1 }, (both (0·5 ≼ h.thin) (h.thin ≼ 1·0) r.1).0)

  pub long : too_short h ≡ false → Long h
  unfolding too_short side_words parent_words sides
  long e =
      let h8 = or_none _ (ltb (length h.parents) (2 * h.left)) e in
      let h7 = or_none _ (ltb (length h.work) (4 * (3 * h.count + 4 * h.quads + 3 * h.left))) h8.0 in
      let h6 = or_none _ (ltb (length h.components) h.left) h7.0 in
      let h5 = or_none _ (ltb (length h.joint_slice) (2 * h.joints)) h6.0 in
      let h4 = or_none _ (ltb (length h.left_slice) (3 * h.left)) h5.0 in
      let h3 = or_none _ (ltb (length h.quad_slice) (4 * h.quads)) h4.0 in
      let h2 = or_none _ (ltb (length h.point_slice) (3 * h.points)) h3.0 in
      let h1 = or_none (ltb (length h.given_slice) (3 * h.given)) (ltb (length h.triangle_slice) (3 * h.count)) h2.0 in
      record {
        given = ltb-false _ _ h1.0;
        triangles = ltb-false _ _ h1.1;
        points = ltb-false _ _ h2.1;
        quads = ltb-false _ _ h3.1;
        left = ltb-false _ _ h4.1;
        joints = ltb-false _ _ h5.1;
        components = ltb-false _ _ h6.1;
        work = ltb-false _ _ h7.1;
        parents = ltb-false _ _ h8.1;
      }

  pub long_pass : Long h → too_short h ≡ false
  unfolding too_short side_words parent_words sides
  long_pass l =
      rw (
        le-ltb _ _ l.given,
        le-ltb _ _ l.triangles,
        le-ltb _ _ l.points,
        le-ltb _ _ l.quads,
        le-ltb _ _ l.left,
        le-ltb _ _ l.joints,
        le-ltb _ _ l.components,
        le-ltb _ _ l.work,
        le-ltb _ _ l.parents,
      )

  pub lists_known : unknown_node h ≡ false
      → (tris_unknown h.given h.count h.triangle_slice ≡ false) × (quads_unknown h.points h.quads h.quad_slice ≡ false) × (tris_unknown h.points h.left h.left_slice ≡ false)
  unfolding unknown_node judged
  lists_known e =
      let b = or_none (tris_unknown h.given h.count h.triangle_slice || quads_unknown h.points h.quads h.quad_slice) (tris_unknown h.points h.left h.left_slice) e in
      let a = or_none (tris_unknown h.given h.count h.triangle_slice) (quads_unknown h.points h.quads h.quad_slice) b.0 in
      (a.0, a.1, b.1)

  pub left_apart : repeated_node h ≡ false → (i : ℕ) → i < h.left → Apart h.left_slice i
  unfolding repeated_node judged first_tris twice tri_at new_tri
  left_apart e i l =
      let t = h.left_slice in
      let b = or_none (tris_repeated h.count h.triangle_slice || quads_repeated h.quads h.quad_slice) (tris_repeated h.left t) e in
      let h1 = or_none _ (eqb (get_or t (3 * i) 0) (get_or t (3 * i + 2) 0)) (below_none twice (tri_at t) h.left b.1 i l) in
      let h0 = or_none (eqb (get_or t (3 * i) 0) (get_or t (3 * i + 1) 0)) (eqb (get_or t (3 * i + 1) 0) (get_or t (3 * i + 2) 0)) h1.0 in
      record { d01 = eqb-false _ _ h0.0; d12 = eqb-false _ _ h0.1; d02 = eqb-false _ _ h1.1 }

  pub all_near : far_point h ≡ false → ((i : ℕ) → i < h.given → outside (point_at h.given_slice i) ≡ false) × ((i : ℕ) → i < h.points → outside (point_at h.point_slice i) ≡ false)
  unfolding far_point judged first_points
  all_near e =
      let b = or_none (points_far h.given h.given_slice) (points_far h.points h.point_slice) e in
      (below_none outside (point_at h.given_slice) h.given b.0, below_none outside (point_at h.point_slice) h.points b.1)

  pub joints_good : bad_joints h ≡ false → (i : ℕ) → i < h.joints → bad_joint h.given (joint_at h.joint_slice i) ≡ false
  unfolding bad_joints judged
  joints_good e = below_none (bad_joint h.given) (joint_at h.joint_slice) h.joints e

-- ---- the stated numbers alone

module _ (a : Stated) where
  pub limited : over a ≡ false → Limited a
  unfolding over over_limit most
  limited e =
      let f = few (handed [] [] [] [] [] [] [] [] [] a) e in
      record { given = f.given; count = f.count; points = f.points; quads = f.quads; left = f.left; joints = f.joints }

  pub limits_pass : Limited a → over a ≡ false
  unfolding over any
  limits_pass l =
      rw (
        le-ltb 1048576 _ l.given,
        le-ltb 1048576 _ l.count,
        le-ltb 1048576 _ l.points,
        le-ltb 1048576 _ l.quads,
        le-ltb 1048576 _ l.left,
        le-ltb 1048576 _ l.joints,
      )

-- ---- all of them

-- what a call that none of them refuses has
pub record Passed (h : Handed) : Type 0 where
  pub few : Few h
  pub limit : Limit h.cosine
  pub thin_from : (0·5 ≼ h.thin) ≡ true
  pub long : Long h
  pub given : Tested 3 h.given h.count h.given_slice h.triangle_slice
  pub quads : Tested 4 h.points h.quads h.point_slice h.quad_slice
  pub left : Tested 3 h.points h.left h.point_slice h.left_slice
  pub apart : (i : ℕ) → i < h.left → Apart h.left_slice i
  pub joints : (i : ℕ) → i < h.joints → bad_joint h.given (joint_at h.joint_slice i) ≡ false

pub passed : (h : Handed) → number_of (refused h) ≡ 0 → Passed h
passed h z =
    let c = clear h z in
    let l = long h c.c4 in
    let k = lists_known h c.c5 in
    let n = all_near h c.c7 in
    record {
      few = few h c.c1;
      limit = (in_range h c.c14).0;
      thin_from = (in_range h c.c14).1;
      long = l;
      given = record { long_points = l.given; long_cells = l.triangles; known = tris_known h.given h.count h.triangle_slice k.0; near = n.0 };
      quads = record { long_points = l.points; long_cells = l.quads; known = quads_known h.points h.quads h.quad_slice k.1; near = n.1 };
      left = record { long_points = l.points; long_cells = l.left; known = tris_known h.points h.left h.left_slice k.2; near = n.1 };
      apart = left_apart h c.c6;
      joints = joints_good h c.c13;
    }
