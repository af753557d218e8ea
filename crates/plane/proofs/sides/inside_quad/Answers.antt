use Rattle.plane.proofs.Inside.{inside_by}
use Rattle.laws.specs.Kit.{rules}
use Rattle.plane.proofs.sides.inside_quad.Goals as goal

pub returns-then-any_positive : goal.returns-then-any_positive
returns-then-any_positive c =
    let x = c.cross-ab.ensures in
    let y = c.cross-bc.ensures in
    let z = c.cross-cd.ensures in
    let w = c.cross-da.ensures in
    rw (inside_by _ _ _ _ _ x y z w, ← c.any_positive.ensures, c.if-any_positive.true, ← c.any_negative.ensures)

pub returns : goal.returns
returns c =
    let x = c.cross-ab.ensures in
    let y = c.cross-bc.ensures in
    let z = c.cross-cd.ensures in
    let w = c.cross-da.ensures in
    rw (inside_by _ _ _ _ _ x y z w, ← c.any_positive.ensures, c.if-any_positive.false)
