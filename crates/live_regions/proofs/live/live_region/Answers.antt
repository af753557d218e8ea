use Rattle.std.proofs.Common.{◌≡◌, ℕ, arith, ap, subst, sym, ◌∙◌}
use lib.Ieee.{Float}
use Rattle.plane.specs.declared.points.Spot.{Spot}
use Rattle.live_regions.specs.declared.reach.Reach.{Reach}
use Rattle.definition.specs.Cells.{Mesh}
use Rattle.definition.specs.Plane.{flat}
use Rattle.definition.specs.Candidates.{live_region}
use Rattle.cells.proofs.Slots.{sizes}
use Rattle.live_regions.specs.Stack.{Lent, LiveTo}
use Rattle.live_regions.proofs.Scratches.{scratch_refl, scratch_trans, scratch_rep}
use Rattle.live_regions.proofs.Steps.{living_start, living_pop, living_on, living_end, living_all, scratch_back, live_trans}
use Rattle.live_regions.proofs.live.live_region.Goals as goal

-- the region around the point as it was given
around : (m : Mesh) (seed : ℕ) (o : Reach) (x y r : Float) → (o.at ≡ record { x = x; y = y }) × (o.r ≡ r) → live_region m seed (flat o.at.x o.at.y) o.r ≡ live_region m seed (flat x y) r
around m seed o x y r e = ap (λ (z : Spot). live_region m seed (flat z.x z.y) o.r) e.0 ∙ ap (live_region m seed (flat x y)) e.1

pub empty-requires : goal.empty-requires
empty-requires c =
    let l0 = c.requires.lent.1 in
    record { rep = (c.requires.lent.0, l0.rep, l0.given); p_in_bounds = omega (arith, l0.rep.room.fits) }

pub seed_one-requires : goal.seed_one-requires
seed_one-requires c =
    let l0 = c.requires.lent.1 in
    record { hold = (c.requires.lent.0, (c.empty.ensures c.requires.lent.0 l0.rep l0.given).hold); i_lt_s = c.requires.seed_lt_s }

pub loop-init : goal.loop-init
loop-init c =
    let a = c.args in
    let o = c.new-o.result in
    let m0 = c.requires.lent.0 in
    let l0 = c.requires.lent.1 in
    let g0 = c.empty.ensures m0 l0.rep l0.given in
    let w2 = c.seed_one.new.w in
    let f0 = c.seed_one.ensures m0 g0.hold in
    let sc = scratch_trans a.w.now c.empty.new.w w2 a.lay.slots a.lay.points g0.scratch f0.scratch in
    record {
      lent = (m0, record { rep = scratch_rep a.w.now w2 a.lay.slots a.lay.points m0 sc l0.rep; pts = l0.pts; given = l0.given });
      fits = f0.hold.fits;
      living =
          λ m le.
          let g1 = c.empty.ensures m (scratch_back a.w.now w2 a.lay.slots a.lay.points m sc le.rep) le.given in
          let f1 = c.seed_one.ensures m g1.hold in
          living_start w2 w2 a.lay.slots a.lay.points a.seed m (flat o.at.x o.at.y) o.r (record { hold = f1.hold; scratch = scratch_refl w2 a.lay.slots a.lay.points });
    }

pub top-requires : goal.top-requires
top-requires c =
    let i = c.loop.invariant in
    let g = i.living i.lent.0 i.lent.1 in
    record { p_in_bounds = g.hold.fits; sizes = sizes c.loop.w c.args.lay.slots c.args.lay.points g.hold.rep.room }

pub step-n-requires : goal.step-n-requires
step-n-requires c =
    let a = c.args in
    let o = c.new-o.result in
    let i = c.loop.invariant in
    let m = i.lent.0 in
    let g = i.living m i.lent.1 in
    let g1 = living_pop c.seed_one.new.w c.loop.w a.lay.slots a.lay.points c.loop.n c.loop.counter m (flat o.at.x o.at.y) o.r (live_region m a.seed (flat o.at.x o.at.y) o.r) g c.in-Some.j (sym c.in-Some.is ∙ c.top.ensures m g.out g.seen g.st g.hold) in
    (m, g1.out, g1.seen, g1.st, g1.y, i.lent.1.pts, g1.from)

pub loop-preserved : goal.loop-preserved
loop-preserved c =
    let a = c.args in
    let o = c.new-o.result in
    let i = c.loop.invariant in
    record {
      lent = i.lent;
      fits = i.fits;
      living =
          λ m le.
          let g = i.living m le in
          let q = sym c.in-Some.is ∙ c.top.ensures m g.out g.seen g.st g.hold in
          let g1 = living_pop c.seed_one.new.w c.loop.w a.lay.slots a.lay.points c.loop.n c.loop.counter m (flat o.at.x o.at.y) o.r (live_region m a.seed (flat o.at.x o.at.y) o.r) g c.in-Some.j q in
          living_on c.seed_one.new.w c.loop.w a.lay.slots a.lay.points c.loop.n c.loop.counter m (flat o.at.x o.at.y) o.r (live_region m a.seed (flat o.at.x o.at.y) o.r) g c.in-Some.j q c.step-n.new.w c.step-n.result
          (c.step-n.ensures m g1.out g1.seen g1.st g1.y le.pts g1.from);
    }

pub returns-after-loop : goal.returns-after-loop
returns-after-loop c =
    let a = c.args in
    let o = c.new-o.result in
    let m0 = c.requires.lent.0 in
    let g0 = c.empty.ensures m0 c.requires.lent.1.rep c.requires.lent.1.given in
    let sc = scratch_trans a.w.now c.empty.new.w c.seed_one.new.w a.lay.slots a.lay.points g0.scratch (c.seed_one.ensures m0 g0.hold).scratch in
    λ m le.
    let l2 : Lent c.seed_one.new.w a.q.now a.lay.slots a.lay.points a.used m = record { rep = scratch_rep a.w.now c.seed_one.new.w a.lay.slots a.lay.points m sc le.rep; pts = le.pts; given = le.given } in
    subst (LiveTo a.w.now c.loop.w a.lay.slots a.lay.points c.loop.n m) (around m a.seed o a.x a.y a.r c.new-o.ensures)
    (live_trans a.w.now c.seed_one.new.w c.loop.w a.lay.slots a.lay.points c.loop.n m (live_region m a.seed (flat o.at.x o.at.y) o.r) sc
    (living_all c.seed_one.new.w c.loop.w a.lay.slots a.lay.points c.loop.n c.loop.counter m (flat o.at.x o.at.y) o.r (live_region m a.seed (flat o.at.x o.at.y) o.r) (c.loop.invariant.living m l2) c.loop-test.false))

pub returns-in_default : goal.returns-in_default
returns-in_default c =
    let a = c.args in
    let o = c.new-o.result in
    let m0 = c.requires.lent.0 in
    let g0 = c.empty.ensures m0 c.requires.lent.1.rep c.requires.lent.1.given in
    let sc = scratch_trans a.w.now c.empty.new.w c.seed_one.new.w a.lay.slots a.lay.points g0.scratch (c.seed_one.ensures m0 g0.hold).scratch in
    λ m le.
    let l2 : Lent c.seed_one.new.w a.q.now a.lay.slots a.lay.points a.used m = record { rep = scratch_rep a.w.now c.seed_one.new.w a.lay.slots a.lay.points m sc le.rep; pts = le.pts; given = le.given } in
    let g = c.loop.invariant.living m l2 in
    subst (LiveTo a.w.now c.loop.w a.lay.slots a.lay.points c.loop.n m) (around m a.seed o a.x a.y a.r c.new-o.ensures)
    (live_trans a.w.now c.seed_one.new.w c.loop.w a.lay.slots a.lay.points c.loop.n m (live_region m a.seed (flat o.at.x o.at.y) o.r) sc
    (living_end c.seed_one.new.w c.loop.w a.lay.slots a.lay.points c.loop.n c.loop.counter m (flat o.at.x o.at.y) o.r (live_region m a.seed (flat o.at.x o.at.y) o.r) g (sym c.in_default.is ∙ c.top.ensures m g.out g.seen g.st g.hold)))
