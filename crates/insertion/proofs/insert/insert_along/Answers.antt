-- No share before place k gave a place.
use Rattle.laws.specs.Kit.{subst, arith, rules}
use Rattle.definition.specs.Cells.{node_at}
use Rattle.definition.specs.Insertion.{insert_near, along}
use Rattle.plane.specs.Vectors.{vec}
use Rattle.insertion.specs.Places.{Place, InsertedTo}
use Rattle.insertion.proofs.Shares.{trying_start, can_again, logged_again, trying_end, trying_stop, trying_more}
use Rattle.insertion.proofs.insert.insert_along.Goals as goal

pub loop-k-init : goal.loop-k-init
loop-k-init c =
    let a = c.args in
    (omega arith, trying_start a.w.now a.q.now a.t.now a.lay.slots a.lay.points a.used a.n a.bucket a.at a.seed a.a (vec a.normal) a.target)

pub share-requires : goal.share-requires
share-requires c = c.loop-k-test.true

pub insert_share-place-requires : goal.insert_share-place-requires
insert_share-place-requires c =
    let a = c.args in
    (c.requires.0, c.requires.1, can_again a.w.now c.loop-k.w a.q.now c.loop-k.q a.t.now c.loop-k.t a.lay.slots a.lay.points a.used a.n a.bucket a.at a.seed a.a (vec a.normal) a.target c.loop-k.k c.loop-k.invariant.1 c.requires.0 c.requires.1 c.requires.2 c.requires.3, logged_again a.w.now c.loop-k.w a.q.now c.loop-k.q a.t.now c.loop-k.t a.lay.slots a.lay.points a.used a.n a.bucket a.at a.seed a.a (vec a.normal) a.target c.loop-k.k c.loop-k.invariant.1 c.requires.0 c.requires.1 c.requires.3)

pub returns-then-ne : goal.returns-then-ne
returns-then-ne c =
    let a = c.args in
    λ base m settings suits k g.
    trying_stop a.w.now c.loop-k.w a.q.now c.loop-k.q a.t.now c.loop-k.t a.lay.slots a.lay.points a.used a.n a.bucket a.at a.seed a.a (vec a.normal) a.target c.loop-k.k c.loop-k.invariant.1 c.loop-k-test.true c.share.result c.share.ensures c.insert_share-place.new.w c.insert_share-place.new.q c.insert_share-place.new.t
    c.insert_share-place.result (λ z. search rules) base m settings suits k g
    (c.insert_share-place.ensures base m settings suits (can_again a.w.now c.loop-k.w a.q.now c.loop-k.q a.t.now c.loop-k.t a.lay.slots a.lay.points a.used a.n a.bucket a.at a.seed a.a (vec a.normal) a.target c.loop-k.k c.loop-k.invariant.1 base m k g)
    (logged_again a.w.now c.loop-k.w a.q.now c.loop-k.q a.t.now c.loop-k.t a.lay.slots a.lay.points a.used a.n a.bucket a.at a.seed a.a (vec a.normal) a.target c.loop-k.k c.loop-k.invariant.1 base m g))

pub loop-k-preserved : goal.loop-k-preserved
loop-k-preserved c =
    let a = c.args in (
      omega (arith, c.loop-k-test.true),
      trying_more a.w.now c.loop-k.w a.q.now c.loop-k.q a.t.now c.loop-k.t a.lay.slots a.lay.points a.used a.n a.bucket a.at a.seed a.a (vec a.normal) a.target c.loop-k.k c.loop-k.invariant.1 c.loop-k-test.true c.share.result c.share.ensures c.insert_share-place.new.w c.insert_share-place.new.q c.insert_share-place.new.t c.requires.0 c.requires.1 c.requires.2 c.requires.3
          (λ base m settings suits k g.
          subst (λ (r : Place). InsertedTo c.loop-k.w c.insert_share-place.new.w c.loop-k.q c.insert_share-place.new.q base c.loop-k.t c.insert_share-place.new.t a.lay.slots a.lay.points a.used a.n a.bucket m
          (insert_near settings m a.seed (along (node_at m a.a) (vec a.normal) a.target c.share.result)) r)
          (search rules) (c.insert_share-place.ensures base m settings suits k g)),
    )

pub returns : goal.returns
returns c =
    let a = c.args in
    trying_end a.w.now c.loop-k.w a.q.now c.loop-k.q a.t.now c.loop-k.t a.lay.slots a.lay.points a.used a.n a.bucket a.at a.seed a.a (vec a.normal) a.target c.loop-k.k c.loop-k.invariant.1 c.loop-k-test.false
