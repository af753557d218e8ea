use Rattle.laws.specs.Kit.{sym, ◌∙◌, ap}
use Rattle.std.specs.Prelude.{Option, is_some}
use Rattle.plane.specs.Vectors.{vec}
use Rattle.plane.specs.declared.vectors.Vec as direction
use Rattle.edge_candidates.proofs.Keeping.{node_none, node_some}
use Rattle.edge_candidates.proofs.wishes.list_node.Goals as goal

pub returns-in_default : goal.returns-in_default
returns-in_default c =
    let a = c.args in
    λ m k.
    let y = c.ideal_of.ensures m k.list.rep k.list.pts (record { node = k.list.ends.node; end = k.end }) in
    node_none a.w.now a.q.now a.lay.slots a.lay.points a.a a.other a.b m (vec a.u) a.g a.v k (sym (ap (λ (o : Option direction.Vec). is_some o) c.in_default.is) ∙ y.yes)

pub returns : goal.returns
returns c =
    let a = c.args in
    λ m k.
    let y = c.ideal_of.ensures m k.list.rep k.list.pts (record { node = k.list.ends.node; end = k.end }) in
    node_some a.w.now a.q.now a.lay.slots a.lay.points a.a a.other a.b m (vec a.u) a.g a.v k (sym (ap (λ (o : Option direction.Vec). is_some o) c.in-Some.is) ∙ y.yes) (vec c.in-Some.x) (y.is c.in-Some.x c.in-Some.is)
    c.keep-k.new.w c.keep-k.result c.keep-k.ensures
