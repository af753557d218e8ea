use Rattle.laws.specs.Kit.{subst}
use Rattle.definition.specs.Plane.{Node}
use Rattle.definition.specs.Insertion.{insert_near}
use Rattle.insertion.specs.Places.{InsertedTo}
use Rattle.insertion.proofs.Shares.{along_read}
use Rattle.insertion.proofs.insert.insert_share.Goals as goal

pub returns : goal.returns
returns c =
    let a = c.args in
    λ base m settings suits k l.
    subst (λ (z : Node). InsertedTo a.w.now c.insert_near.new.w a.q.now c.insert_near.new.q base a.t.now c.insert_near.new.t a.lay.slots a.lay.points a.used a.n a.bucket m (insert_near settings m a.seed z) c.insert_near.result)
    (along_read a.w.now a.q.now a.lay.slots a.lay.points a.used a.n a.bucket a.seed a.a m k c.at-o.result a.normal a.target a.share c.at-o.ensures)
    (c.insert_near.ensures base m settings suits k l)
