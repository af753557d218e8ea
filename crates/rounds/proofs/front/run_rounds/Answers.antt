use mathlib.Core.Path.{◌≡◌, refl, ap, ◌∙◌}
use mathlib.Core.List.{[]}
use Prim.Native.Nat.{ℕ, suc, ◌+◌, ◌<◌}
use native.Mathlib.Omega.{arith}
use Rattle.laws.specs.Kit.{rules}
use Rattle.definition.specs.Front.{State, front_loop}
use Rattle.joints.specs.Table.{Locks}
use Rattle.rules.specs.Settings.{settings_of}
use Rattle.attempts.specs.Runs.{Begun, setup, Goes}
use Rattle.settling.specs.declared.standing.Going.TheVariants as goings
use Rattle.rounds.specs.Loop.{is_progressed}
use Rattle.rounds.proofs.Running.{Running, not_progressed, ends_there, goes_on, fewer}
use Rattle.rounds.proofs.front.run_rounds.Goals as goal

pub loop-rules-init : goal.loop-rules-init
loop-rules-init c =
    (refl, refl, refl, refl, refl, λ z st fuel go lk en. record { st = st; fuel = fuel; goes = go; enough = en; same = refl })

pub round-s-requires : goal.round-s-requires
round-s-requires c =
    let a = c.args in
    let z = c.requires.goes.0 in
    let st = c.requires.goes.1 in
    let fuel = suc a.rules.attempts in
    let go = c.requires.goes.2 in
    let lk = c.requires.goes.3 in
    let en : a.rules.attempts < fuel + st.counts.attempts = omega arith in
    let x = setup a.rules z in
    let p = front_loop fuel (settings_of a.rules) a.rules.given st in
    let so = c.loop-rules.invariant.5 z st fuel go lk en in
    record { goes = (z, so.st, so.goes, lk); slots_in_bounds = omega (arith, c.requires.slots_in_bounds, c.loop-rules.invariant.2) }

pub returns-then-ne : goal.returns-then-ne
returns-then-ne c =
    let a = c.args in
    λ z st fuel go lk en.
    let x = setup a.rules z in
    let p = front_loop fuel (settings_of a.rules) a.rules.given st in
    let so = c.loop-rules.invariant.5 z st fuel go lk en in
    let to = c.round-s.ensures z so.st so.goes lk in
    ends_there c.loop-rules.w c.loop-rules.q c.loop-rules.quads c.loop-rules.t x c.loop-rules.g p so c.round-s.new.w c.round-s.new.q c.round-s.new.quads c.round-s.new.t c.round-s.result to (not_progressed c.round-s.result.kind (λ z. search rules)) c.finished.result c.finished.ensures.0 c.finished.ensures.1

pub loop-rules-smaller : goal.loop-rules-smaller
loop-rules-smaller c =
    let a = c.args in
    let z = c.requires.goes.0 in
    let st = c.requires.goes.1 in
    let fuel = suc a.rules.attempts in
    let go = c.requires.goes.2 in
    let lk = c.requires.goes.3 in
    let en : a.rules.attempts < fuel + st.counts.attempts = omega arith in
    let x = setup a.rules z in
    let p = front_loop fuel (settings_of a.rules) a.rules.given st in
    let so = c.loop-rules.invariant.5 z st fuel go lk en in
    let to = c.round-s.ensures z so.st so.goes lk in
    let on : c.round-s.result.kind ≡ goings.Progressed = search rules in
    fewer c.loop-rules.w c.loop-rules.q c.loop-rules.quads c.loop-rules.t x c.loop-rules.g p so c.round-s.new.w c.round-s.new.q c.round-s.new.quads c.round-s.new.t c.round-s.result to (ap is_progressed on)

pub loop-rules-preserved : goal.loop-rules-preserved
loop-rules-preserved c =
    let a = c.args in
    let go_on : (z : Begun) (st : State) (fuel : ℕ) → Goes a.w.now a.q.now a.quads.now a.t.now (setup a.rules z) a.before st [] → Locks a.j.now z.locked → a.rules.attempts < fuel + st.counts.attempts
    → Running c.round-s.new.w c.round-s.new.q c.round-s.new.quads c.round-s.new.t (setup a.rules z) c.round-s.result.standing (front_loop fuel (settings_of a.rules) a.rules.given st) =
    λ z st fuel go lk en.
    let x = setup a.rules z in
    let p = front_loop fuel (settings_of a.rules) a.rules.given st in
    let so = c.loop-rules.invariant.5 z st fuel go lk en in
    let to = c.round-s.ensures z so.st so.goes lk in
    let on : c.round-s.result.kind ≡ goings.Progressed = search rules in
    goes_on c.loop-rules.w c.loop-rules.q c.loop-rules.quads c.loop-rules.t x c.loop-rules.g p so c.round-s.new.w c.round-s.new.q c.round-s.new.quads c.round-s.new.t c.round-s.result to (ap is_progressed on) in (
      c.round-s.auto.w ∙ c.loop-rules.invariant.0,
      c.round-s.auto.q ∙ c.loop-rules.invariant.1,
      c.round-s.auto.f ∙ c.loop-rules.invariant.2,
      c.round-s.auto.quads ∙ c.loop-rules.invariant.3,
      c.round-s.auto.t ∙ c.loop-rules.invariant.4,
      go_on,
    )
