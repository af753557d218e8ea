use Rattle.laws.specs.Kit.{refl}
use Rattle.settling.proofs.Settling.{can_put, put_settles, can_record, record_settles, end_settles}
use Rattle.settling.proofs.settle.settle.Goals as goal

pub put_quad-requires : goal.put_quad-requires
put_quad-requires c =
    let a = c.args in
    let h = c.requires in
    (h.0, h.1, h.2, h.3, can_put a.w.now a.quads.now a.lay.slots a.lay.points a.g a.t a.u a.v h.0 h.1 h.2 h.3 h.4 c.tried-h.result c.tried-h.ensures c.in-Placed.z c.in-Placed.is)

pub returns-in-Placed : goal.returns-in-Placed
returns-in-Placed c =
    let a = c.args in
    λ ever bl qs old h. put_settles a.w.now a.quads.now a.lay.slots a.lay.points a.g a.t a.u a.v ever bl qs old h c.tried-h.result c.tried-h.ensures c.in-Placed.z c.in-Placed.is c.put_quad.new.w c.put_quad.new.quads c.put_quad.result
    (c.put_quad.ensures ever bl qs old (can_put a.w.now a.quads.now a.lay.slots a.lay.points a.g a.t a.u a.v ever bl qs old h c.tried-h.result c.tried-h.ensures c.in-Placed.z c.in-Placed.is))

pub refused-requires : goal.refused-requires
refused-requires c = c.tried-h.ensures.few

pub put_record-requires : goal.put_record-requires
put_record-requires c =
    let a = c.args in
    let h = c.requires in
    (h.0, h.1, can_record a.w.now a.quads.now a.lay.slots a.lay.points a.g a.t a.u a.v h.0 h.1 h.2 h.3 h.4 c.tried-h.result c.tried-h.ensures c.in-Refused.kind c.refused.result c.refused.ensures c.in-Refused.is)

pub returns-in-Refused : goal.returns-in-Refused
returns-in-Refused c =
    let a = c.args in
    λ ever bl qs old h. record_settles a.w.now a.quads.now a.lay.slots a.lay.points a.g a.t a.u a.v ever bl qs old h c.tried-h.result c.tried-h.ensures c.in-Refused.kind c.refused.result c.refused.ensures c.in-Refused.is c.put_record.new.w c.put_record.result
    (c.put_record.ensures ever bl (can_record a.w.now a.quads.now a.lay.slots a.lay.points a.g a.t a.u a.v ever bl qs old h c.tried-h.result c.tried-h.ensures c.in-Refused.kind c.refused.result c.refused.ensures c.in-Refused.is))

pub returns-in-Short : goal.returns-in-Short
returns-in-Short c =
    let a = c.args in
    λ ever bl qs old h. end_settles a.w.now a.quads.now a.lay.slots a.lay.points a.g a.t a.u a.v ever bl qs old h c.tried-h.result c.tried-h.ensures c.in-Short.short _ c.in-Short.is refl refl
