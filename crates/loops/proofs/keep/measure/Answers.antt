-- One loop needs no perimeter, with the second come two, and then one at a time.
use Rattle.laws.specs.Kit.{arith, length-set}
use Rattle.loops.proofs.Keeping.{first_is, measured_two, measured_more}
use Rattle.loops.proofs.keep.measure.Goals as goal

pub returns-then-j-eq0 : goal.returns-then-j-eq0
returns-then-j-eq0 c = λ m l ls k two. absurd (omega (arith, c.if-j-eq0.true, two))

pub perimeter-requires : goal.perimeter-requires
perimeter-requires c =
    let t = c.requires in
    let r = first_is t.3 c.if-j-eq1.true in
    (t.0, r.0, t.3.room, t.3.pts, t.3.first r.0 r.1)

pub perimeter-requires-then-j-eq1 : goal.perimeter-requires-then-j-eq1
perimeter-requires-then-j-eq1 c = let t = c.requires in (t.0, t.1, t.3.room, t.3.pts, t.3.at)

pub bounds-f-1 : goal.bounds-f-1
bounds-f-1 c = simp length-set (omega (arith, c.requires.3.inside, c.if-j-eq1.true))

pub returns-then-j-eq1 : goal.returns-then-j-eq1
returns-then-j-eq1 c =
    let h = c.if-j-eq1.true in
    λ m l ls k. measured_two k h _ _ (c.perimeter.ensures m (first_is k h).0 k.pts (k.first (first_is k h).0 (first_is k h).1)) (c.perimeter-then-j-eq1.ensures m l k.pts k.at)

pub perimeter-requires-2 : goal.perimeter-requires-2
perimeter-requires-2 c = let t = c.requires in (t.0, t.1, t.3.room, t.3.pts, t.3.at)

pub returns : goal.returns
returns c = λ m l ls k. measured_more k c.if-j-eq0.false c.if-j-eq1.false _ (c.perimeter-2.ensures m l k.pts k.at)

pub shape_of-f-then-j-eq1 : goal.shape_of-f-then-j-eq1
shape_of-f-then-j-eq1 c = simp length-set

pub shape_of-f : goal.shape_of-f
shape_of-f c = simp length-set
