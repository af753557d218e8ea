use Rattle.flips.proofs.Flips.{convex_same, convex_rest, convex_flat}
use borrow.Author.Rules.{rules}
use Rattle.flips.proofs.flip.convex_pair.Goals as goal

pub returns-then-x-y : goal.returns-then-x-y
returns-then-x-y c = λ m f. let a = c.args in convex_same a.q.now m a.u a.v a.x a.y f c.if-x-y.true

pub returns-then-apart : goal.returns-then-apart
returns-then-apart c = λ m f.
    let a = c.args in
    convex_rest a.q.now m a.u a.v a.x a.y f c.if-x-y.false c.apart.result c.apart.ensures c.if-apart.true c.apart-then-apart.result c.apart-then-apart.ensures

pub returns : goal.returns
returns c = λ m f.
    let a = c.args in
    convex_flat a.q.now m a.u a.v a.x a.y f c.if-x-y.false c.apart.result c.apart.ensures c.if-apart.false
