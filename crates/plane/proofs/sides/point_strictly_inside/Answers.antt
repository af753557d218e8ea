use Rattle.laws.specs.Kit.{◌∙◌, rules}
use Rattle.definition.specs.Plane.{flat}
use Rattle.plane.proofs.Ground.{spot_ground, cross_ground}
use Rattle.plane.proofs.Inside.{strictly_by}
use Rattle.plane.proofs.sides.point_strictly_inside.Goals as goal

pub returns-then-all_positive : goal.returns-then-all_positive
returns-then-all_positive c =
    let args = c.args in
    let p = flat args.x args.y in
    let g = spot_ground args.x args.y in
    let sa = c.at-sa.ensures in
    let sb = c.at-sb.ensures in
    let sc = c.at-sc.ensures in
    let x = c.cross_of-d.ensures ∙ cross_ground _ _ sa sb p g in
    let y = c.cross_of-e.ensures ∙ cross_ground _ _ sb sc p g in
    let z = c.cross_of-f.ensures ∙ cross_ground _ _ sc sa p g in
    rw (strictly_by _ _ _ p x y z, ← c.all_positive.ensures, c.if-all_positive.true)

pub returns : goal.returns
returns c =
    let args = c.args in
    let p = flat args.x args.y in
    let g = spot_ground args.x args.y in
    let sa = c.at-sa.ensures in
    let sb = c.at-sb.ensures in
    let sc = c.at-sc.ensures in
    let x = c.cross_of-d.ensures ∙ cross_ground _ _ sa sb p g in
    let y = c.cross_of-e.ensures ∙ cross_ground _ _ sb sc p g in
    let z = c.cross_of-f.ensures ∙ cross_ground _ _ sc sa p g in
    rw (strictly_by _ _ _ p x y z, ← c.all_positive.ensures, c.if-all_positive.false, ← c.all_negative.ensures)
