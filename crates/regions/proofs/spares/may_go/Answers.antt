-- An edge that is not locked may go, and a locked one where it is a side.
use Rattle.definition.specs.Cells.{key, new_quad}
use Rattle.regions.proofs.Locked.{go_free, go_side}
use Rattle.regions.proofs.spares.may_go.Goals as goal

pub returns-then-locked_between : goal.returns-then-locked_between
returns-then-locked_between c = λ m h.
    let a = c.args in
    go_side m (new_quad a.a a.b a.c a.d) (key a.u a.v) c.locked_between.result (c.locked_between.ensures m.locked h) c.if-locked_between.true c.is_side.result c.is_side.ensures

pub returns : goal.returns
returns c = λ m h.
    let a = c.args in
    go_free m (new_quad a.a a.b a.c a.d) (key a.u a.v) c.locked_between.result (c.locked_between.ensures m.locked h) c.if-locked_between.false
