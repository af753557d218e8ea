use Rattle.cells.specs.Layout.{refused_at}
use Rattle.attempts.specs.Runs.{Begun}
use mathlib.Core.Path.{sym, ◌∙◌, subst}
use Prim.Native.Nat.{ℕ, ◌+◌, ◌*◌}
use Rattle.definition.specs.Front.{start}
use Rattle.rules.specs.Settings.{settings_of}
use Rattle.blocked_edges.specs.Records as Records
use Rattle.blocked_edges.specs.Blocks.{OpenTo}
use Rattle.rounds.proofs.Running.{can_open, starts, fuel_enough, runs_to}
use Rattle.rounds.proofs.front.front_loop.Goals as goal

pub open-requires : goal.open-requires
open-requires c =
    let a = c.args in
    subst (λ (z : ℕ). Records.Room a.w.now z (3 * a.rules.lay.slots) a.rules.lay.points) (sym c.refused_at-b.ensures) (can_open a.w.now a.q.now a.f.now a.quads.now a.t.now a.rules a.c c.requires.0 c.requires.1 c.requires.2 c.requires.3)

pub run_rounds-requires : goal.run_rounds-requires
run_rounds-requires c =
    let a = c.args in
    let lk = c.requires.0 in
    let ts = c.requires.1 in
    let ps = c.requires.2 in
    let k = c.requires.3 in
    let z : Begun = record { locked = lk; ts = ts; ps = ps; floats = a.q.now; old = a.quads.now; log = a.t.now } in
    let st = start (settings_of a.rules) lk ts ps in
    let w₁ = c.«open».new.w in
    let to : OpenTo a.w.now w₁ (refused_at a.rules.lay.slots a.rules.lay.points) (3 * a.rules.lay.slots) a.rules.lay.points = subst (λ (i : ℕ). OpenTo a.w.now w₁ i (3 * a.rules.lay.slots) a.rules.lay.points) c.refused_at-b.ensures c.«open».ensures in
    let go = starts a.w.now a.q.now a.f.now a.quads.now a.t.now a.rules a.c lk ts ps k w₁ to c.begin-g.result c.begin-g.ensures in
    record { goes = (z, st, go, c.requires.4); slots_in_bounds = k.floats }

pub returns : goal.returns
returns c =
    let a = c.args in
    λ lk ts ps k l.
    let z : Begun = record { locked = lk; ts = ts; ps = ps; floats = a.q.now; old = a.quads.now; log = a.t.now } in
    let st = start (settings_of a.rules) lk ts ps in
    let w₁ = c.«open».new.w in
    let to : OpenTo a.w.now w₁ (refused_at a.rules.lay.slots a.rules.lay.points) (3 * a.rules.lay.slots) a.rules.lay.points = subst (λ (i : ℕ). OpenTo a.w.now w₁ i (3 * a.rules.lay.slots) a.rules.lay.points) c.refused_at-b.ensures c.«open».ensures in
    let go = starts a.w.now a.q.now a.f.now a.quads.now a.t.now a.rules a.c lk ts ps k w₁ to c.begin-g.result c.begin-g.ensures in
    runs_to a.w.now a.q.now a.f.now a.quads.now a.t.now a.rules a.c lk ts ps k w₁ to c.begin-g.result c.begin-g.ensures c.run_rounds.new.w c.run_rounds.new.q c.run_rounds.new.f c.run_rounds.new.quads c.run_rounds.new.t c.run_rounds.result (c.run_rounds.auto.w ∙ c.«open».auto.w) c.run_rounds.auto.f
    (c.run_rounds.ensures z st (a.rules.attempts + 2) go l (fuel_enough a.w.now a.q.now a.f.now a.quads.now a.t.now a.rules a.c lk ts ps k w₁ to c.begin-g.result c.begin-g.ensures))
