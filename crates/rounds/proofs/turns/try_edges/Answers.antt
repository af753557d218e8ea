-- The edges that wait, one after the other: what is still to come gives what all of them would have given.
use Rattle.std.specs.Prelude.{◌≡◌}
use Rattle.laws.specs.Kit.{refl, ap, ◌∙◌, rules}
use Rattle.settling.specs.declared.standing.Going.TheVariants as goings
use Rattle.settling.specs.Standings.{is_stuck}
use Rattle.attempts.specs.Runs.{setup}
use Rattle.rounds.proofs.Trying.{waits, trying_start, can_pick, none_left, place₁, goes_next, not_stuck, ends_there, goes_on, fewer}
use Rattle.rounds.proofs.turns.try_edges.Goals as goal

pub loop-i-init : goal.loop-i-init
loop-i-init c = (refl, refl, refl, refl, λ k st l can lk. trying_start can)

pub pick_edge-requires : goal.pick_edge-requires
pick_edge-requires c =
    let h = c.requires in
    let so = c.loop-i.invariant.4 h.0 h.1 h.2 h.3 h.4 in
    (so.st.mesh, h.2, can_pick so)

pub returns-in_default : goal.returns-in_default
returns-in_default c =
    λ k st l can lk.
    let so = c.loop-i.invariant.4 k st l can lk in
    let none = c.in_default.ensures so.st.mesh l (can_pick so) in
    none_left so none.0 none.1

pub first_on-u-requires : goal.first_on-u-requires
first_on-u-requires c =
    let h = c.requires in
    let so = c.loop-i.invariant.4 h.0 h.1 h.2 h.3 h.4 in
    place₁ so (c.in-Some.ensures so.st.mesh h.2 (can_pick so))

pub second_on-v-requires : goal.second_on-v-requires
second_on-v-requires c =
    let h = c.requires in
    let so = c.loop-i.invariant.4 h.0 h.1 h.2 h.3 h.4 in
    place₁ so (c.in-Some.ensures so.st.mesh h.2 (can_pick so))

pub attempt_one-r-requires : goal.attempt_one-r-requires
attempt_one-r-requires c =
    let a = c.args in
    let h = c.requires in
    let so = c.loop-i.invariant.4 h.0 h.1 h.2 h.3 h.4 in
    let at = c.in-Some.ensures so.st.mesh h.2 (can_pick so) in
    (h.0, so.st, waits c.pick_edge.new.w (setup a.rules h.0) a.b so.st h.2, goes_next so at c.first_on-u.ensures c.second_on-v.ensures, h.4)

pub returns-then-ne : goal.returns-then-ne
returns-then-ne c =
    let a = c.args in
    λ k st l can lk.
    let so = c.loop-i.invariant.4 k st l can lk in
    let at = c.in-Some.ensures so.st.mesh l (can_pick so) in
    let step = c.attempt_one-r.ensures k so.st (waits c.pick_edge.new.w (setup a.rules k) a.b so.st l) (goes_next so at c.first_on-u.ensures c.second_on-v.ensures) lk in
    ends_there so at c.first_on-u.ensures c.second_on-v.ensures step (not_stuck c.attempt_one-r.result.kind (λ z. search rules))

pub loop-i-smaller : goal.loop-i-smaller
loop-i-smaller c =
    let a = c.args in
    let h = c.requires in
    let so = c.loop-i.invariant.4 h.0 h.1 h.2 h.3 h.4 in
    let at = c.in-Some.ensures so.st.mesh h.2 (can_pick so) in
    let step = c.attempt_one-r.ensures h.0 so.st (waits c.pick_edge.new.w (setup a.rules h.0) a.b so.st h.2) (goes_next so at c.first_on-u.ensures c.second_on-v.ensures) h.4 in
    fewer so at c.first_on-u.ensures c.second_on-v.ensures step

pub loop-i-preserved : goal.loop-i-preserved
loop-i-preserved c =
    let a = c.args in
    let inv = c.loop-i.invariant in
    let kept = c.attempt_one-r.auto in (
      kept.w ∙ c.pick_edge.auto.w ∙ inv.0,
      kept.q ∙ inv.1,
      kept.quads ∙ inv.2,
      kept.t ∙ inv.3,
      λ k st l can lk.
          let so = inv.4 k st l can lk in
          let at = c.in-Some.ensures so.st.mesh l (can_pick so) in
          let step = c.attempt_one-r.ensures k so.st (waits c.pick_edge.new.w (setup a.rules k) a.b so.st l) (goes_next so at c.first_on-u.ensures c.second_on-v.ensures) lk in
          let on : c.attempt_one-r.result.kind ≡ goings.Stuck = search rules in
          goes_on so at c.first_on-u.ensures c.second_on-v.ensures step (ap is_stuck on),
    )
