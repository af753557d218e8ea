use Rattle.laws.specs.Kit.{ap, not}
use Prim.{tt}
use native.Mathlib.Omega.{arith}
use Rattle.definition.specs.Counts.{Placement, nothing_spent}
use Rattle.definition.specs.Attempt.{refused, try_quad}
use Rattle.laws.specs.Frames.{stays_refl}
use Rattle.cells.specs.Layout.{refused_at, near_at}
use Rattle.rules.specs.Settings.{settings_of}
use Rattle.attempts.specs.Runs.{setup}
use Rattle.attempts.proofs.Attempting.{locks, on_edge, ready, can_attempt, log_before, in_round, round_few, grows, tries, tries_none, off_front, on_front, can_settle, step_is, off_to, off_log, was_front, was_off}
use Rattle.attempts.proofs.attempt.make_attempt.Goals as goal

pub is_front-requires : goal.is_front-requires
is_front-requires c =
    let a = c.args in
    let m = c.requires in
    record { rep = (m.1.mesh, (ready (setup a.rules c.requires.0) a.w.now a.q.now a.quads.now a.t.now a.g m.1 a.u a.v m.2 m.3).rep); edge = on_edge (setup a.rules c.requires.0) a.w.now a.q.now a.quads.now a.t.now a.g m.1 a.u a.v m.2 m.3 }

pub settle-requires : goal.settle-requires
settle-requires c =
    let a = c.args in
    let m = c.requires in
    let off = was_off (setup a.rules c.requires.0) a.w.now a.q.now a.quads.now a.t.now a.g m.1 a.u a.v m.2 m.3 c.is_front.result c.is_front.ensures (ap not c.if-not-is_front.true) in (
      m.3.ever,
      m.1.blocked,
      m.1.quads,
      m.0.old,
      can_settle (setup a.rules c.requires.0) a.w.now a.q.now a.quads.now a.t.now a.g m.1 a.u a.v m.2 m.3 a.w.now a.q.now c.without_trial-off.result (stays_refl a.w.now (refused_at a.rules.lay.slots a.rules.lay.points) (near_at a.rules.lay.slots a.rules.lay.points)) (refused Placement nothing_spent m.1.mesh)
          (off_front (setup a.rules c.requires.0) a.w.now a.q.now a.quads.now a.t.now a.g m.1 a.u a.v m.2 m.3 off) tt (tries_none (setup a.rules c.requires.0) a.w.now a.q.now a.quads.now a.t.now a.g m.1 a.u a.v m.2 m.3) (off_to (setup a.rules c.requires.0) a.w.now a.q.now a.quads.now a.t.now a.g m.1 a.u a.v m.2 m.3 c.without_trial-off.result c.without_trial-off.ensures),
    )

pub returns-then-not-is_front : goal.returns-then-not-is_front
returns-then-not-is_front c =
    let a = c.args in
    λ k st es m l.
    let off = was_off (setup a.rules k) a.w.now a.q.now a.quads.now a.t.now a.g st a.u a.v es m c.is_front.result c.is_front.ensures (ap not c.if-not-is_front.true) in
    let ran = off_front (setup a.rules k) a.w.now a.q.now a.quads.now a.t.now a.g st a.u a.v es m off in
    let to = off_to (setup a.rules k) a.w.now a.q.now a.quads.now a.t.now a.g st a.u a.v es m c.without_trial-off.result c.without_trial-off.ensures in
    let by = stays_refl a.w.now (refused_at a.rules.lay.slots a.rules.lay.points) (near_at a.rules.lay.slots a.rules.lay.points) in
    let can = can_settle (setup a.rules k) a.w.now a.q.now a.quads.now a.t.now a.g st a.u a.v es m a.w.now a.q.now c.without_trial-off.result by (refused Placement nothing_spent st.mesh) ran tt (tries_none (setup a.rules k) a.w.now a.q.now a.quads.now a.t.now a.g st a.u a.v es m) to in
    let set = c.settle.ensures m.ever st.blocked st.quads k.old can in
    step_is (setup a.rules k) a.w.now a.q.now a.quads.now a.t.now a.g st a.u a.v es m a.w.now a.q.now c.without_trial-off.result by c.settle.new.w c.settle.new.quads a.t.now c.settle.result set (refused Placement nothing_spent st.mesh) ran to
    (off_log (setup a.rules k) a.w.now a.q.now a.quads.now a.t.now a.g st a.u a.v es m c.without_trial-off.result c.without_trial-off.ensures)

pub overflow_add-round : goal.overflow_add-round
overflow_add-round c =
    let a = c.args in
    let m = c.requires in
    let few = round_few (setup a.rules c.requires.0) a.w.now a.q.now a.quads.now a.t.now a.g m.1 a.u a.v m.2 m.3 in
    omega (arith, few)

pub try_quad-made-requires : goal.try_quad-made-requires
try_quad-made-requires c =
    let a = c.args in
    let m = c.requires in
    (m.0.log, m.1.mesh, can_attempt (setup a.rules c.requires.0) a.w.now a.q.now a.quads.now a.t.now a.g m.1 a.u a.v m.2 m.3, locks (setup a.rules c.requires.0) a.w.now a.q.now a.quads.now a.t.now a.g m.1 a.u a.v m.2 m.3 m.4, log_before (setup a.rules c.requires.0) a.w.now a.q.now a.quads.now a.t.now a.g m.1 a.u a.v m.2 m.3, in_round (setup a.rules c.requires.0) a.w.now a.q.now a.quads.now a.t.now a.g m.1 a.u a.v m.2 m.3)

pub settle-requires-2 : goal.settle-requires-2
settle-requires-2 c =
    let a = c.args in
    let m = c.requires in
    let x = (setup a.rules c.requires.0) in
    let on = was_front x a.w.now a.q.now a.quads.now a.t.now a.g m.1 a.u a.v m.2 m.3 c.is_front.result c.is_front.ensures (ap not c.if-not-is_front.false) in
    let ran = on_front x a.w.now a.q.now a.quads.now a.t.now a.g m.1 a.u a.v m.2 m.3 on in
    let to = c.try_quad-made.ensures m.0.log m.1.mesh (can_attempt x a.w.now a.q.now a.quads.now a.t.now a.g m.1 a.u a.v m.2 m.3)
    (locks x a.w.now a.q.now a.quads.now a.t.now a.g m.1 a.u a.v m.2 m.3 m.4) (log_before x a.w.now a.q.now a.quads.now a.t.now a.g m.1 a.u a.v m.2 m.3) (in_round x a.w.now a.q.now a.quads.now a.t.now a.g m.1 a.u a.v m.2 m.3) in
    (m.3.ever, m.1.blocked, m.1.quads, m.0.old, can_settle x a.w.now a.q.now a.quads.now a.t.now a.g m.1 a.u a.v m.2 m.3 c.try_quad-made.new.w c.try_quad-made.new.q c.try_quad-made.result to.beyond (try_quad (settings_of x.rules) m.1.mesh (a.u, a.v)) ran (grows x a.w.now a.q.now a.quads.now a.t.now a.g m.1 a.u a.v m.2 m.3) (tries x a.w.now a.q.now a.quads.now a.t.now a.g m.1 a.u a.v m.2 m.3) to.is)

pub returns : goal.returns
returns c =
    let a = c.args in
    λ k st es m l.
    let x = (setup a.rules k) in
    let on = was_front x a.w.now a.q.now a.quads.now a.t.now a.g st a.u a.v es m c.is_front.result c.is_front.ensures (ap not c.if-not-is_front.false) in
    let ran = on_front x a.w.now a.q.now a.quads.now a.t.now a.g st a.u a.v es m on in
    let to = c.try_quad-made.ensures k.log st.mesh (can_attempt x a.w.now a.q.now a.quads.now a.t.now a.g st a.u a.v es m)
    (locks x a.w.now a.q.now a.quads.now a.t.now a.g st a.u a.v es m l) (log_before x a.w.now a.q.now a.quads.now a.t.now a.g st a.u a.v es m) (in_round x a.w.now a.q.now a.quads.now a.t.now a.g st a.u a.v es m) in
    let can = can_settle x a.w.now a.q.now a.quads.now a.t.now a.g st a.u a.v es m c.try_quad-made.new.w c.try_quad-made.new.q c.try_quad-made.result to.beyond (try_quad (settings_of x.rules) st.mesh (a.u, a.v)) ran (grows x a.w.now a.q.now a.quads.now a.t.now a.g st a.u a.v es m) (tries x a.w.now a.q.now a.quads.now a.t.now a.g st a.u a.v es m) to.is in
    let set = c.settle-2.ensures m.ever st.blocked st.quads k.old can in
    step_is x a.w.now a.q.now a.quads.now a.t.now a.g st a.u a.v es m c.try_quad-made.new.w c.try_quad-made.new.q c.try_quad-made.result to.beyond c.settle-2.new.w c.settle-2.new.quads c.try_quad-made.new.t c.settle-2.result set (try_quad (settings_of x.rules) st.mesh (a.u, a.v)) ran to.is to.log
