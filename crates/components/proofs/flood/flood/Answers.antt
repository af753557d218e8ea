use Rattle.laws.specs.Kit.{◌∙◌, arith, dec_le}
use Rattle.components.specs.Flood.{tri_live}
use Rattle.components.proofs.Floods.{begin_can, begin_more, begun_flood, flooded_from, flood_few, flood_end}
use Rattle.components.proofs.flood.flood.Goals as goal

pub append-requires : goal.append-requires
append-requires c = let q = c.requires in let e = begin_can q.2 q.3 q.4 in record { can_list = e.0; can_list_2 = e.1 }

pub overflow_add-n : goal.overflow_add-n
overflow_add-n c =
    let q = c.requires in
    omega (arith, begin_more q.2 q.3 q.4, q.2.rep.room.small)

pub spread-all-requires : goal.spread-all-requires
spread-all-requires c =
    let q = c.requires in
    record { flooding = (q.0, q.1, tri_live c.args.i q.3.t, begun_flood q.2 q.3 q.4 c.append.ensures); from_lt_k = (omega arith, begin_more q.2 q.3 q.4) }

pub shape_of-w : goal.shape_of-w
shape_of-w c = let o = c in o.spread-all.auto.w ∙ o.append.auto.w

pub returns : goal.returns
returns c = λ m xs h ti out.
    let a = c.args in
    let g = c.spread-all.ensures.flooding_2 m xs (tri_live a.i ti.t) (begun_flood h ti out c.append.ensures) in
    flooded_from h ti out c.append.ensures
    (flood_end g (elim (dec_le a.lay.slots c.spread-all.result.head) [ yes l ↦ omega (arith, l, flood_few g) | no l ↦ c.spread-all.ensures.count_le_head (omega (arith, l)) ]))
