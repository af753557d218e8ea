use mathlib.Core.Path.{refl, ◌∙◌}
use native.Mathlib.Omega.{arith}
use borrow.Author.Tests.{not-true, not-false}
use Rattle.laws.specs.Frames.{keeps_refl, keeps_trans}
use Rattle.cells.specs.Layout.{mesh_end}
use Rattle.flips.proofs.Recovers.{is_edge, going_start, going_there, going_stuck, going_on, going_end}
use Rattle.flips.proofs.recover.recover.Goals as goal

pub loop-k-init : goal.loop-k-init
loop-k-init c =
    let a = c.args in (
      omega arith,
      keeps_refl a.w.now (mesh_end a.lay.slots a.lay.points),
      refl,
      λ base m k e o h. going_start a.w.now a.q.now base a.t.now a.lay.slots a.lay.points a.n a.used a.bucket a.u a.v a.at m k e h,
      omega arith,
    )

pub has_edge-requires : goal.has_edge-requires
has_edge-requires c =
    let a = c.args in
    let p = c.requires.by_index in
    let g = c.loop-k.invariant.3 p.0 p.1 p.2 p.3 p.4 p.5 in
    record { rep = (g.mesh, g.stands.known.rep); edge = is_edge c.loop-k.w a.q.now a.lay.slots a.lay.points a.n a.bucket g.mesh g.stands.known a.u a.v c.requires.segment }

pub shape_of-w-then-has_edge : goal.shape_of-w-then-has_edge
shape_of-w-then-has_edge c = c.loop-k.invariant.1.len

pub shape_of-t-then-has_edge : goal.shape_of-t-then-has_edge
shape_of-t-then-has_edge c = c.loop-k.invariant.2

pub returns-then-has_edge : goal.returns-then-has_edge
returns-then-has_edge c =
    let a = c.args in
    record {
      is = λ base m k e o z.
          let g = c.loop-k.invariant.3 base m k e o z in
          going_there c.loop-k.w a.q.now base c.loop-k.t a.lay.slots a.lay.points a.n a.used a.bucket a.u a.v c.loop-k.k c.loop-k.at c.loop-k.from m e c.loop-k.invariant.0 g c.loop-k-test.true
          c.has_edge.result (c.has_edge.ensures g.mesh g.stands.known.rep) c.if-has_edge.true _ (record { there = refl; short = refl; flips = refl; place = refl });
      keeps = c.loop-k.invariant.1;
    }

pub flip_crossing-f-requires : goal.flip_crossing-f-requires
flip_crossing-f-requires c =
    let p = c.requires.by_index in
    let g = c.loop-k.invariant.3 p.0 p.1 p.2 p.3 p.4 p.5 in
    record {
      by_index = (p.0, g.mesh, g.stands.known, rw g.locks p.4, g.stands.log, g.below);
      segment = c.requires.segment;
      from_le_n = c.loop-k.invariant.4;
    }

pub shape_of-w-then-not-f : goal.shape_of-w-then-not-f
shape_of-w-then-not-f c = c.flip_crossing-f.auto.w ∙ c.loop-k.invariant.1.len

pub shape_of-t-then-not-f : goal.shape_of-t-then-not-f
shape_of-t-then-not-f c = c.flip_crossing-f.auto.t ∙ c.loop-k.invariant.2

pub returns-then-not-f : goal.returns-then-not-f
returns-then-not-f c =
    let a = c.args in
    record {
      is = λ base m k e o z.
          let g = c.loop-k.invariant.3 base m k e o z in
          going_stuck c.loop-k.w a.q.now base c.loop-k.t a.lay.slots a.lay.points a.n a.used a.bucket a.u a.v c.loop-k.k c.loop-k.at c.loop-k.from m e c.loop-k.invariant.0 g c.loop-k-test.true
          c.has_edge.result (c.has_edge.ensures g.mesh g.stands.known.rep) c.if-has_edge.false c.flip_crossing-f.new.w c.flip_crossing-f.new.t
          c.flip_crossing-f.result (c.flip_crossing-f.ensures.is base g.mesh g.stands.known (rw g.locks o) g.stands.log g.below)
          (not-true _ c.if-not-f.true) _ (record { there = refl; short = refl; flips = refl; place = refl });
      keeps = keeps_trans a.w.now c.loop-k.w c.flip_crossing-f.new.w (mesh_end a.lay.slots a.lay.points) c.loop-k.invariant.1 c.flip_crossing-f.ensures.keeps;
    }

pub loop-k-preserved : goal.loop-k-preserved
loop-k-preserved c =
    let a = c.args in (
      omega (arith, c.loop-k-test.true),
      keeps_trans a.w.now c.loop-k.w c.flip_crossing-f.new.w (mesh_end a.lay.slots a.lay.points) c.loop-k.invariant.1 c.flip_crossing-f.ensures.keeps,
      c.flip_crossing-f.auto.t ∙ c.loop-k.invariant.2,
      λ base m k e o z.
          let g = c.loop-k.invariant.3 base m k e o z in
          going_on c.loop-k.w a.q.now base c.loop-k.t a.lay.slots a.lay.points a.n a.used a.bucket a.u a.v c.loop-k.k c.loop-k.at c.loop-k.from m e c.loop-k.invariant.0 g c.loop-k-test.true
          c.has_edge.result (c.has_edge.ensures g.mesh g.stands.known.rep) c.if-has_edge.false c.flip_crossing-f.new.w c.flip_crossing-f.new.t
          c.flip_crossing-f.result (c.flip_crossing-f.ensures.is base g.mesh g.stands.known (rw g.locks o) g.stands.log g.below)
          (not-false _ c.if-not-f.false),
      c.flip_crossing-f.ensures.few,
    )

pub has_edge-there-requires : goal.has_edge-there-requires
has_edge-there-requires c =
    let a = c.args in
    let p = c.requires.by_index in
    let g = c.loop-k.invariant.3 p.0 p.1 p.2 p.3 p.4 p.5 in
    record { rep = (g.mesh, g.stands.known.rep); edge = is_edge c.loop-k.w a.q.now a.lay.slots a.lay.points a.n a.bucket g.mesh g.stands.known a.u a.v c.requires.segment }

pub shape_of-w : goal.shape_of-w
shape_of-w c = c.loop-k.invariant.1.len

pub shape_of-t : goal.shape_of-t
shape_of-t c = c.loop-k.invariant.2

pub returns : goal.returns
returns c =
    let a = c.args in
    record {
      is = λ base m k e o z.
          let g = c.loop-k.invariant.3 base m k e o z in
          going_end c.loop-k.w a.q.now base c.loop-k.t a.lay.slots a.lay.points a.n a.used a.bucket a.u a.v c.loop-k.k c.loop-k.at c.loop-k.from m e c.loop-k.invariant.0 g c.loop-k-test.false
          _ (record { there = c.has_edge-there.ensures g.mesh g.stands.known.rep; short = refl; flips = omega (arith, c.loop-k-test.false, c.loop-k.invariant.0); place = refl });
      keeps = c.loop-k.invariant.1;
    }
