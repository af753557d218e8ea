-- An edge behind the given points is not on the front; otherwise the mesh tells.
use Rattle.std.specs.Prelude.{◌≡◌}
use mathlib.Core.Path.{refl, ◌∙◌}
use native.Mathlib.Omega.{arith}
use Rattle.refusals.specs.Stated.{asked}
use Rattle.mesher.specs.Parts.{sized}
use Rattle.mesher.specs.Showing.{first_of}
use Rattle.mesher.proofs.Showing.{off_front, shows_none, shows_attempt, show_build, show_rep, show_edge_in, show_front, show_try}
use Rattle.previews.proofs.show_sorted.Goals as goal

pub returns-then-v-stated : goal.returns-then-v-stated
returns-then-v-stated c = λ l h.
    let a = c.args in
    let s = asked a.stated in
    let up = c.requires.u_lt_v in
    (refl, c.off_front.ensures ∙ shows_none s l h.passed a.u a.v up (off_front s l h.passed a.u a.v up c.if-v-stated.true))

pub invariant_of-lay : goal.invariant_of-lay
invariant_of-lay c = record { sizes = sized (asked c.args.stated) c.requires.can_show.0 c.requires.can_show.1.passed }

pub build-requires : goal.build-requires
build-requires c =
    let a = c.args in
    show_build a.points.now a.triangles.now a.joints.now a.work.now (asked a.stated) c.requires.can_show.0 c.requires.can_show.1

pub is_front-requires : goal.is_front-requires
is_front-requires c =
    let a = c.args in
    let s = asked a.stated in
    let l = c.requires.can_show.0 in
    let h = c.requires.can_show.1 in
    record {
      rep = (first_of s l, show_rep a.points.now a.triangles.now a.joints.now a.work.now s l h c.build.new.w c.build.ensures);
      edge = show_edge_in a.points.now a.triangles.now a.joints.now a.work.now s l h a.u a.v c.requires.u_lt_v c.if-v-stated.false;
    }

pub try_on-requires : goal.try_on-requires
try_on-requires c =
    let a = c.args in
    let l = c.requires.can_show.0 in
    (l, show_try a.points.now a.triangles.now a.joints.now a.work.now (asked a.stated) l c.requires.can_show.1 c.build.new.w a.u a.v c.build.ensures c.requires.u_lt_v c.if-v-stated.false)

pub returns-then-is_front : goal.returns-then-is_front
returns-then-is_front c = λ l h.
    let a = c.args in
    let s = asked a.stated in
    let up = c.requires.u_lt_v in
    let rep = show_rep a.points.now a.triangles.now a.joints.now a.work.now s l h c.build.new.w c.build.ensures in
    let front = show_front a.points.now a.triangles.now a.joints.now a.work.now s l h a.u a.v up c.is_front.result (c.is_front.ensures (first_of s l) rep) in
    let r = c.try_on.ensures l (show_try a.points.now a.triangles.now a.joints.now a.work.now s l h c.build.new.w a.u a.v c.build.ensures up c.if-v-stated.false) in
    (r.0, r.1 ∙ shows_attempt s l h.passed a.u a.v up (front ∙ c.if-is_front.true))

pub returns : goal.returns
returns c = λ l h.
    let a = c.args in
    let s = asked a.stated in
    let up = c.requires.u_lt_v in
    let rep = show_rep a.points.now a.triangles.now a.joints.now a.work.now s l h c.build.new.w c.build.ensures in
    let front = show_front a.points.now a.triangles.now a.joints.now a.work.now s l h a.u a.v up c.is_front.result (c.is_front.ensures (first_of s l) rep) in
    (refl, c.off_front-2.ensures ∙ shows_none s l h.passed a.u a.v up (front ∙ c.if-is_front.false))
