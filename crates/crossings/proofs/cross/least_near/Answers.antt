use Rattle.laws.specs.Kit.{rules}
use Rattle.definition.specs.Call.{point_at}
use Rattle.plane.specs.Points.{node_of}
use Rattle.crossings.proofs.Limits.{least_away}
use Rattle.crossings.proofs.Tests.{drawn}
use Rattle.crossings.proofs.cross.least_near.Goals as goal

pub returns-then-passed_over : goal.returns-then-passed_over
returns-then-passed_over c =
    let a = c.args in record {
      keeps = c.passed_over.ensures.keeps;
      is = λ m k.
          let z = c.passed_over.ensures.is a.bucket m k in
          let f = node_of m a.n a.q.now (drawn a.w.now a.q.now a.lay.slots a.lay.points a.n a.bucket m k).are in (
            z.0,
            least_away a.bucket m k.side a.n a.u a.v a.a (point_at a.q.now a.u) (point_at a.q.now a.v) (f a.u c.requires.segment.first) (f a.v c.requires.segment.second)
                a.l c.requires.limits (z.1 c.if-passed_over.true),
          );
    }

pub least_beside-requires : goal.least_beside-requires
least_beside-requires c =
    let y = c.requires.known in
    record { known = (y.0, (c.passed_over.ensures.is c.args.bucket y.0 y.1).0); segment = c.requires.segment; a_lt_n = c.requires.a_lt_n }

pub returns : goal.returns
returns c =
    let a = c.args in record { keeps = c.passed_over.ensures.keeps; is = λ m k. let h = (c.passed_over.ensures.is a.bucket m k).0 in (h, c.least_beside.ensures m h) }
