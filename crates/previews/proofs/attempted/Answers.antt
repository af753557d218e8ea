-- The rules and the counters are those of the definition's start, and the table locks the joints.
use Rattle.std.specs.Prelude.{◌≡◌, ℕ, []}
use mathlib.Core.Path.{refl, ◌∙◌}
use native.Mathlib.Omega.{arith}
use borrow.Author.Rules.{rules}
use lib.ListN.{length-replicate}
use Rattle.definition.specs.Numbers.{max_attempts}
use Rattle.refusals.specs.Stated.{asked}
use Rattle.mesher.specs.Parts.{sized}
use Rattle.mesher.specs.Showing.{first_of}
use Rattle.mesher.proofs.Starts.{same_rules}
use Rattle.mesher.proofs.Showing.{try_count, try_few, try_long, try_locks, try_can, try_log, try_round, try_to}
use Rattle.previews.proofs.attempted.Goals as goal

pub invariant_of-lay : goal.invariant_of-lay
invariant_of-lay c = record { sizes = sized (asked c.args.stated) c.requires.0 c.requires.1.passed }

pub overflow_mul-usual : goal.overflow_mul-usual
overflow_mul-usual c =
    let a = c.args in
    omega (arith, (try_count a.points.now a.joints.now a.work.now (asked a.stated) c.requires.0 a.u a.v c.requires.1).0)

pub overflow_add-usual : goal.overflow_add-usual
overflow_add-usual c =
    let a = c.args in
    omega (arith, (try_count a.points.now a.joints.now a.work.now (asked a.stated) c.requires.0 a.u a.v c.requires.1).0)

pub put_joints-requires : goal.put_joints-requires
put_joints-requires c =
    let a = c.args in
    let one = try_few a.points.now a.joints.now a.work.now (asked a.stated) c.requires.0 a.u a.v c.requires.1 in
    let two = try_long a.points.now a.joints.now a.work.now (asked a.stated) c.requires.0 a.u a.v c.requires.1 in
    record { in_bounds = omega (arith, length-replicate {A = ℕ} 1537 0); n_bound = one; n_in_bounds = two }

pub try_quad-requires : goal.try_quad-requires
unfolding max_attempts
try_quad-requires c =
    let a = c.args in
    let s = asked a.stated in
    let l = c.requires.0 in
    let h = c.requires.1 in
    let can = try_can a.points.now a.joints.now a.work.now s l a.u a.v h c.rules_of-rules.result (c.rules_of-rules.ensures ∙ same_rules _ 0 s _ (sized s l h.passed) refl refl) c.new-counters.result c.new-counters.ensures in
    let locks = try_locks a.points.now a.joints.now a.work.now s l a.u a.v h c.put_joints.new.j c.put_joints.ensures in
    let log = try_log a.points.now a.joints.now a.work.now s l a.u a.v h in
    let in_round = try_round a.points.now a.joints.now a.work.now s l a.u a.v h in
    ([], first_of s l, can, locks, log, in_round)

pub returns : goal.returns
unfolding max_attempts
returns c = λ l h.
    let a = c.args in
    let s = asked a.stated in
    let y = c.try_quad in
    let can = try_can a.points.now a.joints.now a.work.now s l a.u a.v h c.rules_of-rules.result (c.rules_of-rules.ensures ∙ same_rules _ 0 s _ (sized s l h.passed) refl refl) c.new-counters.result c.new-counters.ensures in
    let locks = try_locks a.points.now a.joints.now a.work.now s l a.u a.v h c.put_joints.new.j c.put_joints.ensures in
    let log = try_log a.points.now a.joints.now a.work.now s l a.u a.v h in
    let in_round = try_round a.points.now a.joints.now a.work.now s l a.u a.v h in
    try_to a.points.now a.joints.now a.work.now s l a.u a.v h c.rules_of-rules.result (c.rules_of-rules.ensures ∙ same_rules _ 0 s _ (sized s l h.passed) refl refl) c.new-counters.result y.new.w y.new.q y.new.t y.result
    (y.ensures [] (first_of s l) can locks log in_round)
