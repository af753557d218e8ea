use Rattle.std.specs.Prelude.{◌++◌}
use Rattle.laws.specs.Kit.{refl, ◌∙◌, arith, []}
use Rattle.regions.proofs.Visits.{going_start, going_end, going_here, going_seen, going_failed, going_at, going_less, going_on}
use Rattle.regions.proofs.flood.visit_edge.Goals as goal

pub first_owner-c-requires : goal.first_owner-c-requires
first_owner-c-requires c =
    record { rep = (c.requires.state.0, c.requires.state.2.list.rep); edge = c.requires.edge }

pub loop-c-init : goal.loop-c-init
loop-c-init c =
    let a = c.args in
    (refl, omega (arith, c.requires.state.2.list.rep.room.small), λ m done todo h. going_start a.w.now a.lay.slots a.lay.points a.u a.v a.n c.first_owner-c.result m done todo h (c.first_owner-c.ensures m h.list.rep))

pub visit_one-requires : goal.visit_one-requires
visit_one-requires c =
    let a = c.args in
    let here = c.loop-c-test.true in
    let m = c.requires.state.0 in
    let xs = c.requires.state.1 in
    let g = c.loop-c.invariant.2 m [] xs c.requires.state.2 in
    (m, [] ++ g.now, (going_here a.w.now c.loop-c.w a.lay.slots a.lay.points a.u a.v c.loop-c.k c.loop-c.c m [] xs g here).x, going_seen a.w.now c.loop-c.w a.lay.slots a.lay.points a.u a.v c.loop-c.k c.loop-c.c m [] xs g here)

pub returns-in_err-k : goal.returns-in_err-k
returns-in_err-k c = λ m done todo h.
    let a = c.args in
    let here = c.loop-c-test.true in
    let g = c.loop-c.invariant.2 m done todo h in
    let f = c.in_err-k.ensures m done g.now (going_here a.w.now c.loop-c.w a.lay.slots a.lay.points a.u a.v c.loop-c.k c.loop-c.c m done todo g here).x (going_seen a.w.now c.loop-c.w a.lay.slots a.lay.points a.u a.v c.loop-c.k c.loop-c.c m done todo g here) in
    rw c.from_residual.ensures (going_failed a.w.now c.loop-c.w a.lay.slots a.lay.points a.u a.v c.loop-c.k c.loop-c.c m done todo g here c.visit_one.new.w f)

pub next_owner-c-requires : goal.next_owner-c-requires
next_owner-c-requires c =
    let a = c.args in
    let here = c.loop-c-test.true in
    let m = c.requires.state.0 in
    let xs = c.requires.state.1 in
    let g = c.loop-c.invariant.2 m [] xs c.requires.state.2 in
    let f = c.in_ok-k.ensures m [] g.now (going_here a.w.now c.loop-c.w a.lay.slots a.lay.points a.u a.v c.loop-c.k c.loop-c.c m [] xs g here).x (going_seen a.w.now c.loop-c.w a.lay.slots a.lay.points a.u a.v c.loop-c.k c.loop-c.c m [] xs g here) in
    record { at = (g.rest, going_at a.w.now c.loop-c.w a.lay.slots a.lay.points a.u a.v c.loop-c.k c.loop-c.c m [] xs g here c.visit_one.new.w c.in_ok-k.k f); edge = c.requires.edge; c_bound = here }

pub loop-c-smaller : goal.loop-c-smaller
loop-c-smaller c =
    let a = c.args in
    let here = c.loop-c-test.true in
    let m = c.requires.state.0 in
    let xs = c.requires.state.1 in
    let g = c.loop-c.invariant.2 m [] xs c.requires.state.2 in
    let f = c.in_ok-k.ensures m [] g.now (going_here a.w.now c.loop-c.w a.lay.slots a.lay.points a.u a.v c.loop-c.k c.loop-c.c m [] xs g here).x (going_seen a.w.now c.loop-c.w a.lay.slots a.lay.points a.u a.v c.loop-c.k c.loop-c.c m [] xs g here) in
    going_less a.w.now c.loop-c.w a.lay.slots a.lay.points a.u a.v c.loop-c.k c.loop-c.c m [] xs g here c.visit_one.new.w c.in_ok-k.k f c.next_owner-c.result c.next_owner-c.ensures

pub loop-c-preserved : goal.loop-c-preserved
loop-c-preserved c =
    let a = c.args in
    let here = c.loop-c-test.true in (
      c.visit_one.auto.w ∙ c.loop-c.invariant.0,
      c.loop-c.invariant.1,
      λ m done todo h.
          let g = c.loop-c.invariant.2 m done todo h in
          let f = c.in_ok-k.ensures m done g.now (going_here a.w.now c.loop-c.w a.lay.slots a.lay.points a.u a.v c.loop-c.k c.loop-c.c m done todo g here).x (going_seen a.w.now c.loop-c.w a.lay.slots a.lay.points a.u a.v c.loop-c.k c.loop-c.c m done todo g here) in
          going_on a.w.now c.loop-c.w a.lay.slots a.lay.points a.u a.v c.loop-c.k c.loop-c.c m done todo g here c.visit_one.new.w c.in_ok-k.k f c.next_owner-c.result c.next_owner-c.ensures,
    )

pub returns : goal.returns
returns c = λ m done todo h.
    let a = c.args in
    going_end a.w.now c.loop-c.w a.lay.slots a.lay.points a.u a.v c.loop-c.k c.loop-c.c m done todo (c.loop-c.invariant.2 m done todo h) c.loop-c-test.false

pub shape_of-w : goal.shape_of-w
shape_of-w c = c.loop-c.invariant.0
