-- Each test that is taken finds a length too small; where none is, all suffice. The limits keep every product small.
use Rattle.laws.specs.Kit.{refl, sym, ap, arith, length}
use Rattle.laws.specs.Bools.{holds}
use Rattle.refusals.specs.Tests.{too_small, enough}
use Rattle.refusals.specs.Passed.{roomy, room_passes}
use Rattle.refusals.proofs.too_short.Goals as goal

pub returns-then-points-capacity : goal.returns-then-points-capacity
returns-then-points-capacity c = λ l h. sym (holds _ (λ e. too_small (roomy _ l e).points (ap length h.points) c.if-points-capacity.true))

pub returns-then-triangles-count : goal.returns-then-triangles-count
returns-then-triangles-count c = λ l h. sym (holds _ (λ e. too_small (roomy _ l e).triangles (ap length h.triangles) c.if-triangles-count.true))

pub returns-then-joints-a : goal.returns-then-joints-a
returns-then-joints-a c = λ l h. sym (holds _ (λ e. too_small (roomy _ l e).joints (ap length h.joints) (omega (arith, c.if-joints-a.true))))

pub returns-then-n-slots : goal.returns-then-n-slots
returns-then-n-slots c = λ l h. sym (holds _ (λ e. too_small (roomy _ l e).quads h.quads c.if-n-slots.true))

pub returns-then-n-slots-2 : goal.returns-then-n-slots-2
returns-then-n-slots-2 c = λ l h. sym (holds _ (λ e. too_small (roomy _ l e).triangles_out h.triangles_out c.if-n-slots-2.true))

pub returns-then-n-slots-3 : goal.returns-then-n-slots-3
returns-then-n-slots-3 c = λ l h. sym (holds _ (λ e. too_small (roomy _ l e).components h.components c.if-n-slots-3.true))

pub returns-then-n-slots-4 : goal.returns-then-n-slots-4
returns-then-n-slots-4 c = λ l h. sym (holds _ (λ e. too_small (roomy _ l e).work h.work c.if-n-slots-4.true))

pub returns-then-n-slots-5 : goal.returns-then-n-slots-5
returns-then-n-slots-5 c = λ l h. sym (holds _ (λ e. too_small (roomy _ l e).float_work h.float_work c.if-n-slots-5.true))

pub returns-then-capacity-a : goal.returns-then-capacity-a
returns-then-capacity-a c = λ l h. sym (holds _ (λ e. too_small (roomy _ l e).given refl c.if-capacity-a.true))

pub returns-then-slots-count : goal.returns-then-slots-count
returns-then-slots-count c = λ l h. sym (holds _ (λ e. too_small (roomy _ l e).count refl c.if-slots-count.true))

pub returns : goal.returns
returns c =
    λ l h.
    sym (room_passes _ l (record {
      points = enough (ap length h.points) c.if-points-capacity.false;
      triangles = enough (ap length h.triangles) c.if-triangles-count.false;
      joints = enough (ap length h.joints) (omega (arith, c.if-joints-a.false));
      quads = enough h.quads c.if-n-slots.false;
      triangles_out = enough h.triangles_out c.if-n-slots-2.false;
      components = enough h.components c.if-n-slots-3.false;
      work = enough h.work c.if-n-slots-4.false;
      float_work = enough h.float_work c.if-n-slots-5.false;
      given = c.if-capacity-a.false;
      count = c.if-slots-count.false;
    }))
