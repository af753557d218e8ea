-- Stretch after stretch: the flood so far, with what the last look around the region found.
use Rattle.std.specs.Prelude.{is_some, ◌≡◌, ◌++◌}
use Rattle.laws.specs.Kit.{refl, ◌∙◌, false, arith}
use Rattle.components.specs.Flood.{tri_live}
use Rattle.components.proofs.Floods.{begin_can, begin_more, begun_flood, flood_few}
use Rattle.components.proofs.Pieces.{begun_aside, flooding_from, flooding_at, flooding_around, pieced}
use Rattle.components.proofs.near.take_piece.Goals as goal

-- ---- the first stretch
pub append-requires : goal.append-requires
append-requires c = let q = c.requires in let b = begin_can q.3.state q.4 q.5 in record { can_list = b.0; can_list_2 = b.1 }

pub overflow_add-k : goal.overflow_add-k
overflow_add-k c = let q = c.requires in omega (arith, begin_more q.3.state q.4 q.5, q.3.state.rep.room.small)

pub overflow_add-k-2 : goal.overflow_add-k-2
overflow_add-k-2 c = let q = c.requires in omega (arith, begin_more q.3.state q.4 q.5, q.3.state.rep.room.small)

pub spread-first-requires : goal.spread-first-requires
spread-first-requires c =
    let q = c.requires in
    record { flooding = (q.0, q.2, tri_live c.args.i q.4.t, begun_flood q.3.state q.4 q.5 c.append.ensures); from_lt_k = (omega arith, omega arith) }

pub beside-found-requires : goal.beside-found-requires
beside-found-requires c =
    let q = c.requires in
    let g = c.spread-first.ensures.flooding_2 q.0 q.2 (tri_live c.args.i q.4.t) (begun_flood q.3.state q.4 q.5 c.append.ensures) in
    (c.spread-first.result.count, q.0, q.1, q.2 ++ (g.done ++ g.todo), flooding_around g q.1 q.3.rest q.3.parts q.3.len)

pub loop-lay-init : goal.loop-lay-init
loop-lay-init c =
    let q = c.requires in (
      refl,
      c.spread-first.ensures.from_lt_head,
      flood_few (c.spread-first.ensures.flooding_2 q.0 q.2 (tri_live c.args.i q.4.t) (begun_flood q.3.state q.4 q.5 c.append.ensures)),
      omega (arith, q.3.state.rep.room.small),
      λ m region xs rest x g e l. record { flood = g; looked = c.beside-found.ensures c.spread-first.result.count m region (xs ++ (g.done ++ g.todo)) (flooding_around g region rest e l) },
    )

-- ---- the loop
pub shape_of-w-then-head-count : goal.shape_of-w-then-head-count
shape_of-w-then-head-count c = c.loop-lay.invariant.0 ∙ c.spread-first.auto.w ∙ c.append.auto.w

pub returns-then-head-count : goal.returns-then-head-count
returns-then-head-count c = λ m region xs h t out.
    let a = c.args in
    let g = c.spread-first.ensures.flooding_2 m xs (tri_live a.i t.t) (begun_flood h.state t out c.append.ensures) in
    pieced (begun_aside h.state t out c.append.ensures g.aside) (c.loop-lay.invariant.4 m region xs h.rest (tri_live a.i t.t) (flooding_at g) h.parts h.len) (λ q. c.if-head-count.true)

pub overflow_sub-head : goal.overflow_sub-head
overflow_sub-head c = omega (arith, c.loop-lay.invariant.1)

pub overflow_add-head : goal.overflow_add-head
overflow_add-head c = let l = c.loop-lay.invariant in omega (arith, l.1, l.2, l.3, c.if-head-count.false)

pub spread-on-requires : goal.spread-on-requires
spread-on-requires c =
    let a = c.args in
    let q = c.requires in
    let l = c.loop-lay.invariant in
    let g = c.spread-first.ensures.flooding_2 q.0 q.2 (tri_live a.i q.4.t) (begun_flood q.3.state q.4 q.5 c.append.ensures) in
    record { flooding = (q.0, q.2, tri_live a.i q.4.t, flooding_at (l.4 q.0 q.1 q.2 q.3.rest (tri_live a.i q.4.t) (flooding_at g) q.3.parts q.3.len).flood); from_lt_k = (c.if-head-count.false, omega (arith, l.1)) }

pub beside-found-requires-in-loop-lay : goal.beside-found-requires-in-loop-lay
beside-found-requires-in-loop-lay c =
    let a = c.args in
    let q = c.requires in
    let b = c.spread-first.ensures.flooding_2 q.0 q.2 (tri_live a.i q.4.t) (begun_flood q.3.state q.4 q.5 c.append.ensures) in
    let g = c.spread-on.ensures.flooding_2 q.0 q.2 (tri_live a.i q.4.t) (flooding_at (c.loop-lay.invariant.4 q.0 q.1 q.2 q.3.rest (tri_live a.i q.4.t) (flooding_at b) q.3.parts q.3.len).flood) in
    (c.spread-on.result.count, q.0, q.1, q.2 ++ (g.done ++ g.todo), flooding_around g q.1 q.3.rest q.3.parts q.3.len)

pub loop-lay-smaller : goal.loop-lay-smaller
loop-lay-smaller c = omega (arith, c.spread-on.ensures.from_lt_head, c.if-head-count.false, c.loop-lay.invariant.2)

pub loop-lay-preserved : goal.loop-lay-preserved
loop-lay-preserved c =
    let a = c.args in
    let q = c.requires in
    let l = c.loop-lay.invariant in
    let b = c.spread-first.ensures.flooding_2 q.0 q.2 (tri_live a.i q.4.t) (begun_flood q.3.state q.4 q.5 c.append.ensures) in (
      c.spread-on.auto.w ∙ l.0,
      omega (arith, c.spread-on.ensures.from_lt_head, l.1),
      flood_few (c.spread-on.ensures.flooding_2 q.0 q.2 (tri_live a.i q.4.t) (flooding_at (l.4 q.0 q.1 q.2 q.3.rest (tri_live a.i q.4.t) (flooding_at b) q.3.parts q.3.len).flood)),
      l.3,
      λ m region xs rest x g e r.
          let f = l.4 m region xs rest x g e r in
          let u = flooding_from (c.spread-on.ensures.flooding_2 m xs x (flooding_at f.flood)) f.flood.aside in
          record { flood = u; looked = c.beside-found-in-loop-lay.ensures c.spread-on.result.count m region (xs ++ (u.done ++ u.todo)) (flooding_around u region rest e r) },
    )

pub shape_of-w : goal.shape_of-w
shape_of-w c = c.loop-lay.invariant.0 ∙ c.spread-first.auto.w ∙ c.append.auto.w

pub returns : goal.returns
returns c = λ m region xs h t out.
    let a = c.args in
    let g = c.spread-first.ensures.flooding_2 m xs (tri_live a.i t.t) (begun_flood h.state t out c.append.ensures) in
    pieced (begun_aside h.state t out c.append.ensures g.aside) (c.loop-lay.invariant.4 m region xs h.rest (tri_live a.i t.t) (flooding_at g) h.parts h.len)
    (λ q. absurd (let z : false ≡ is_some c.loop-lay.found = c.loop-lay-test.ensures in cc))
