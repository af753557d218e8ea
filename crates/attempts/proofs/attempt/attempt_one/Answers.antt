use mathlib.Core.Path.{◌∙◌}
use Rattle.attempts.specs.Runs.{setup}
use Rattle.attempts.proofs.Attempting.{past_is, makes, few_now, limited_step}
use Rattle.attempts.proofs.attempt.attempt_one.Goals as goal

pub limited-requires : goal.limited-requires
limited-requires c =
    let a = c.args in
    let m = c.requires in
    few_now (setup a.rules c.requires.0) a.w.now a.q.now a.quads.now a.t.now a.before m.1 (a.u, a.v) m.2 m.3 c.counted-g.result c.counted-g.ensures

pub returns-then-past_limit : goal.returns-then-past_limit
returns-then-past_limit c =
    let a = c.args in
    λ k st es m l. limited_step (setup a.rules k) a.w.now a.q.now a.quads.now a.t.now a.before st (a.u, a.v) es m c.counted-g.result c.counted-g.ensures
    (past_is (setup a.rules k) a.w.now a.q.now a.quads.now a.t.now a.before st (a.u, a.v) es m c.counted-g.result c.counted-g.ensures c.past_limit.result c.past_limit.ensures ∙ c.if-past_limit.true) c.limited.result c.limited.ensures

pub make_attempt-requires : goal.make_attempt-requires
make_attempt-requires c =
    let a = c.args in
    let m = c.requires in (
      m.0,
      m.1,
      m.2,
      makes (setup a.rules c.requires.0) a.w.now a.q.now a.quads.now a.t.now a.before m.1 (a.u, a.v) m.2 m.3 c.counted-g.result c.counted-g.ensures
          (past_is (setup a.rules c.requires.0) a.w.now a.q.now a.quads.now a.t.now a.before m.1 (a.u, a.v) m.2 m.3 c.counted-g.result c.counted-g.ensures c.past_limit.result c.past_limit.ensures ∙ c.if-past_limit.false),
      m.4,
    )

pub returns : goal.returns
returns c =
    let a = c.args in
    λ k st es m l. c.make_attempt.ensures k st es (makes (setup a.rules k) a.w.now a.q.now a.quads.now a.t.now a.before st (a.u, a.v) es m c.counted-g.result c.counted-g.ensures
    (past_is (setup a.rules k) a.w.now a.q.now a.quads.now a.t.now a.before st (a.u, a.v) es m c.counted-g.result c.counted-g.ensures c.past_limit.result c.past_limit.ensures ∙ c.if-past_limit.false)) l
