-- The mesh is built from slices of any content; the counters and the rules are those of the definition's
-- start, and the table locks the joints.
use Rattle.std.specs.Prelude.{◌≡◌, ℕ, length}
use Rattle.laws.specs.Kit.{refl, ◌∙◌, arith, rules}
use lib.ListN.{length-replicate}
use Rattle.definition.specs.Call.{given_tris, given_points, given_locks}
use Rattle.refusals.specs.Stated.{asked}
use Rattle.mesher.specs.Parts.{sized}
use Rattle.mesher.proofs.Starts.{same_rules, mesh_build, mesh_few, mesh_long, mesh_locks, mesh_run, mesh_ran}
use Rattle.mesher.proofs.run.mesh.Goals as goal

pub invariant_of-lay : goal.invariant_of-lay
invariant_of-lay c = record { sizes = sized (asked c.args.stated) c.requires.0 c.requires.1.passed }

pub build-requires : goal.build-requires
build-requires c =
    let a = c.args in
    mesh_build a.points.now a.triangles.now a.joints.now a.quads.now a.work.now a.float_work.now a.trace.now a.attempts (asked a.stated) c.requires.0 c.requires.1

pub put_joints-requires : goal.put_joints-requires
put_joints-requires c =
    let a = c.args in
    let few = mesh_few a.points.now a.triangles.now a.joints.now a.quads.now a.work.now a.float_work.now a.trace.now a.attempts (asked a.stated) c.requires.0 c.requires.1 in
    let long = mesh_long a.points.now a.triangles.now a.joints.now a.quads.now a.work.now a.float_work.now a.trace.now a.attempts (asked a.stated) c.requires.0 c.requires.1 in
    record { in_bounds = omega (arith, length-replicate {A = ℕ} 1537 0); n_bound = few; n_in_bounds = long }

pub front_loop-requires : goal.front_loop-requires
front_loop-requires c =
    let a = c.args in
    let s = asked a.stated in
    let l = c.requires.0 in
    let h = c.requires.1 in
    let can = mesh_run a.points.now a.triangles.now a.joints.now a.quads.now a.work.now a.float_work.now a.trace.now a.attempts s l h c.rules_of-rules.result (c.rules_of-rules.ensures ∙ same_rules a.attempts (length a.trace.now) s _ (sized s l h.passed) refl refl) c.build.new.w c.new-c.result c.build.ensures c.new-c.ensures in
    let locks = mesh_locks a.points.now a.triangles.now a.joints.now a.quads.now a.work.now a.float_work.now a.trace.now a.attempts s l h c.put_joints.new.j c.put_joints.ensures in
    (given_locks s l, given_tris s l, given_points s l, can, locks)

pub returns : goal.returns
returns c = λ l h.
    let a = c.args in
    let s = asked a.stated in
    let f = c.front_loop in
    let can = mesh_run a.points.now a.triangles.now a.joints.now a.quads.now a.work.now a.float_work.now a.trace.now a.attempts s l h c.rules_of-rules.result (c.rules_of-rules.ensures ∙ same_rules a.attempts (length a.trace.now) s _ (sized s l h.passed) refl refl) c.build.new.w c.new-c.result c.build.ensures c.new-c.ensures in
    let locks = mesh_locks a.points.now a.triangles.now a.joints.now a.quads.now a.work.now a.float_work.now a.trace.now a.attempts s l h c.put_joints.new.j c.put_joints.ensures in
    mesh_ran a.points.now a.triangles.now a.joints.now a.quads.now a.work.now a.float_work.now a.trace.now a.attempts s l h c.rules_of-rules.result (c.rules_of-rules.ensures ∙ same_rules a.attempts (length a.trace.now) s _ (sized s l h.passed) refl refl)
    c.build.new.w f.new.w f.new.q f.new.f f.new.quads f.new.t f.result
    c.build.ensures.keeps.len (f.ensures (given_locks s l) (given_tris s l) (given_points s l) can locks)
