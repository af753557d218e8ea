use Rattle.laws.specs.Kit.{◌∙◌, rules}
use Rattle.definition.specs.Plane.{segments_cross}
use Rattle.plane.proofs.Ground.{parts_ground}
use Rattle.plane.proofs.sides.segments_cross.Goals as goal

pub returns-then-parts_of : goal.returns-then-parts_of
unfolding segments_cross
returns-then-parts_of c =
    let u = c.at-su.ensures in
    let v = c.at-sv.ensures in
    let a = c.at-sa.ensures in
    let b = c.at-sb.ensures in
    rw (← parts_ground _ _ u v _ a _ b, ← c.parts_of.ensures, c.if-parts_of.true)
    (c.parts_of-then-parts_of.ensures ∙ parts_ground _ _ a b _ u _ v)

pub returns : goal.returns
unfolding segments_cross
returns c =
    let u = c.at-su.ensures in
    let v = c.at-sv.ensures in
    let a = c.at-sa.ensures in
    let b = c.at-sb.ensures in
    rw (← parts_ground _ _ u v _ a _ b, ← c.parts_of.ensures, c.if-parts_of.false)
