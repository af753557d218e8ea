-- Before trial i the memory and the trace stand for a mesh from which the trials that are
-- left give what all of them give.
use Rattle.std.specs.Prelude.{◌≡◌, ◌≤◌}
use Rattle.laws.specs.Kit.{refl, arith, rules}
use Rattle.laws.specs.Frames.{keeps_refl, keeps_trans}
use Rattle.pairs.proofs.Orders.{going_start, going_can, made_few, failed_few, full_few, going_made, going_orphaned, going_full, going_on, going_end}
use Rattle.pairs.proofs.try_in_order.Goals as goal

pub loop-i-init : goal.loop-i-init
loop-i-init c = (keeps_refl _ _, refl, omega arith, λ base a b m ts can l v rd. going_start _ _ base _ _ _ _ _ _ _ _ _ _ can.ready v rd)

pub try_pair-o-requires : goal.try_pair-o-requires
try_pair-o-requires c =
    let h = c.requires in
    let l = c.loop-i in
    let g = l.invariant.3 h.0 h.1 h.2 h.3 h.4 h.5 h.6 h.7 h.8 in
    (h.0, g.mesh, going_can h.5 l.invariant.0 g c.loop-i-test.true, rw g.locks h.6, g.log, g.in_round)

pub overflow_add-flips : goal.overflow_add-flips
overflow_add-flips c =
    let h = c.requires in
    let l = c.loop-i in
    let d = c.in-Made in
    let can = h.5 in
    let g = l.invariant.3 h.0 h.1 h.2 h.3 h.4 can h.6 h.7 h.8 in
    let keep = l.invariant.0 in
    let f = c.try_pair-o.ensures h.0 g.mesh (going_can can keep g c.loop-i-test.true) (rw g.locks h.6) g.log g.in_round in
    let few = made_few can keep g c.loop-i-test.true f d.k d.n d.f d.words d.is in
    let k : l.flips ≤ 3145728 = omega (arith, l.invariant.2, c.loop-i-test.true, can.kept.few) in
    search rules

pub overflow_add-flips-in-Failed : goal.overflow_add-flips-in-Failed
overflow_add-flips-in-Failed c =
    let h = c.requires in
    let l = c.loop-i in
    let d = c.in-Failed in
    let can = h.5 in
    let g = l.invariant.3 h.0 h.1 h.2 h.3 h.4 can h.6 h.7 h.8 in
    let keep = l.invariant.0 in
    let f = c.try_pair-o.ensures h.0 g.mesh (going_can can keep g c.loop-i-test.true) (rw g.locks h.6) g.log g.in_round in
    let few = failed_few can keep g c.loop-i-test.true f d.why d.f d.words d.is in
    let k : l.flips ≤ 3145728 = omega (arith, l.invariant.2, c.loop-i-test.true, can.kept.few) in
    search rules

pub overflow_add-result : goal.overflow_add-result
overflow_add-result c =
    let h = c.requires in
    let l = c.loop-i in
    let d = c.in-Full in
    let can = h.5 in
    let g = l.invariant.3 h.0 h.1 h.2 h.3 h.4 can h.6 h.7 h.8 in
    let keep = l.invariant.0 in
    let f = c.try_pair-o.ensures h.0 g.mesh (going_can can keep g c.loop-i-test.true) (rw g.locks h.6) g.log g.in_round in
    let few = full_few can keep g c.loop-i-test.true f d.short d.f d.words d.is in
    let k : l.flips ≤ 3145728 = omega (arith, l.invariant.2, c.loop-i-test.true, can.kept.few) in
    search rules

pub returns-in-Made : goal.returns-in-Made
returns-in-Made c =
    let l = c.loop-i in
    let d = c.in-Made in
    λ base a b m ts can lk v rd.
    let g = l.invariant.3 base a b m ts can lk v rd in
    let keep = l.invariant.0 in
    let f = c.try_pair-o.ensures base g.mesh (going_can can keep g c.loop-i-test.true) (rw g.locks lk) g.log g.in_round in
    going_made can keep g c.loop-i-test.true f d.k d.n d.f d.words c.with_quad.result d.is c.with_quad.ensures

pub returns-in-Orphaned : goal.returns-in-Orphaned
returns-in-Orphaned c =
    let l = c.loop-i in
    λ base a b m ts can lk v rd.
    let g = l.invariant.3 base a b m ts can lk v rd in
    let keep = l.invariant.0 in
    let f = c.try_pair-o.ensures base g.mesh (going_can can keep g c.loop-i-test.true) (rw g.locks lk) g.log g.in_round in
    going_orphaned can keep g c.loop-i-test.true f _ c.in-Orphaned.is
    (record { end = refl; counters = refl; at = refl; inserted = refl; trials = refl; flips = refl })

pub returns-in-Full : goal.returns-in-Full
returns-in-Full c =
    let l = c.loop-i in
    let d = c.in-Full in
    λ base a b m ts can lk v rd.
    let g = l.invariant.3 base a b m ts can lk v rd in
    let keep = l.invariant.0 in
    let f = c.try_pair-o.ensures base g.mesh (going_can can keep g c.loop-i-test.true) (rw g.locks lk) g.log g.in_round in
    going_full can keep g c.loop-i-test.true f d.short d.f d.words _ d.is
    (record { end = refl; counters = refl; at = refl; inserted = refl; trials = refl; flips = refl })

pub loop-i-preserved : goal.loop-i-preserved
loop-i-preserved c =
    let h = c.requires in
    let l = c.loop-i in
    let d = c.in-Failed in
    let can = h.5 in
    let g = l.invariant.3 h.0 h.1 h.2 h.3 h.4 can h.6 h.7 h.8 in
    let keep = l.invariant.0 in
    let f = c.try_pair-o.ensures h.0 g.mesh (going_can can keep g c.loop-i-test.true) (rw g.locks h.6) g.log g.in_round in (
      keeps_trans _ _ _ _ keep f.keeps,
      cc,
      omega (arith, l.invariant.2, failed_few can keep g c.loop-i-test.true f d.why d.f d.words d.is),
      λ base a b m ts can lk v rd.
          let g = l.invariant.3 base a b m ts can lk v rd in
          let f = c.try_pair-o.ensures base g.mesh (going_can can keep g c.loop-i-test.true) (rw g.locks lk) g.log g.in_round in
          going_on can keep g c.loop-i-test.true f d.why d.f d.words d.is,
    )

pub returns : goal.returns
returns c =
    let l = c.loop-i in
    λ base a b m ts can lk v rd.
    let z : c.args.count ≡ l.i = omega (arith, c.loop-i-test.false, l.auto.i-end) in
    going_end can l.invariant.0 (l.invariant.3 base a b m ts can lk v rd) c.loop-i-test.false _
    (record { end = refl; counters = refl; at = refl; inserted = refl; trials = z; flips = refl })
