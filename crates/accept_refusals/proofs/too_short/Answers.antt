-- `accept_refusals::too_short` meets its contract: a test that is taken finds a length too
-- small; where none is, all suffice.
-- Assumes nothing.
use Rattle.std.proofs.Common.{sym, arith}
use Rattle.laws.specs.Bools.{holds}
use Rattle.accept_refusals.specs.Passed.{long, long_pass}
use Rattle.accept_refusals.proofs.too_short.Goals as goal

pub returns-then-given-a : goal.returns-then-given-a
returns-then-given-a c = sym (holds _ (λ e. let h = (long _ e).given in let k = c.if-given-a.true in omega arith))

pub returns-then-triangles-a : goal.returns-then-triangles-a
returns-then-triangles-a c = sym (holds _ (λ e. let h = (long _ e).triangles in let k = c.if-triangles-a.true in omega arith))

pub returns-then-points-a : goal.returns-then-points-a
returns-then-points-a c = sym (holds _ (λ e. let h = (long _ e).points in let k = c.if-points-a.true in omega arith))

pub returns-then-quads-a : goal.returns-then-quads-a
returns-then-quads-a c = sym (holds _ (λ e. let h = (long _ e).quads in let k = c.if-quads-a.true in omega arith))

pub returns-then-left-a : goal.returns-then-left-a
returns-then-left-a c = sym (holds _ (λ e. let h = (long _ e).left in let k = c.if-left-a.true in omega arith))

pub returns-then-joints-a : goal.returns-then-joints-a
returns-then-joints-a c = sym (holds _ (λ e. let h = (long _ e).joints in let k = c.if-joints-a.true in omega arith))

pub returns-then-components-a : goal.returns-then-components-a
returns-then-components-a c = sym (holds _ (λ e. let h = (long _ e).components in let k = c.if-components-a.true in omega arith))

pub returns-then-work-a : goal.returns-then-work-a
returns-then-work-a c = sym (holds _ (λ e. let h = (long _ e).work in let k = c.if-work-a.true in omega arith))

pub returns-then-parents-a : goal.returns-then-parents-a
returns-then-parents-a c = sym (holds _ (λ e. let h = (long _ e).parents in let k = c.if-parents-a.true in omega arith))

pub returns : goal.returns
returns c =
    sym (long_pass _ (record {
      given = c.if-given-a.false;
      triangles = c.if-triangles-a.false;
      points = c.if-points-a.false;
      quads = c.if-quads-a.false;
      left = c.if-left-a.false;
      joints = c.if-joints-a.false;
      components = c.if-components-a.false;
      work = c.if-work-a.false;
      parents = c.if-parents-a.false;
    }))
