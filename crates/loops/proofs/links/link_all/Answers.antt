-- The loop's invariant: the edges from number i on are in the lists of their ends. The measure is how many are left.
use Rattle.laws.specs.Kit.{refl, ◌∙◌, arith}
use Rattle.loops.proofs.Linking.{going_start, going_end, going_next, going_on}
use Rattle.loops.proofs.links.link_all.Goals as goal

pub link_edge-requires : goal.link_edge-requires
link_edge-requires c =
    let g = c.loop-i.invariant.1 c.requires.0 c.requires.1 c.requires.2 in
    (c.requires.0, c.args.k, g.m, c.requires.1, going_next c.loop-i-test.true g)

pub loop-i-preserved : goal.loop-i-preserved
loop-i-preserved c =
    let x = c.loop-i in
    let h = c.loop-i-test.true in
    (c.link_edge.auto.w ∙ x.invariant.0, λ n es q. let g = x.invariant.1 n es q in going_on h g (c.link_edge.ensures n _ g.m es (going_next h g)))

pub loop-i-init : goal.loop-i-init
loop-i-init c = (refl, λ n es g. going_start g)

pub loop-i-smaller : goal.loop-i-smaller
loop-i-smaller c = omega (arith, c.loop-i-test.true)

pub shape_of-w : goal.shape_of-w
shape_of-w c = c.loop-i.invariant.0

pub returns : goal.returns
returns c = λ n es q. going_end c.loop-i-test.false (c.loop-i.invariant.1 n es q)
