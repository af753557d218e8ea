-- The loop's invariant: the walk from here on, through the edges left, gives what the whole walk gives.
-- The measure is how many edges have no place.
use Rattle.laws.specs.Kit.{refl, ◌∙◌, arith}
use Rattle.loops.proofs.Places.{place_room}
use Rattle.loops.proofs.Walking.{walking_start, walking_end, walking_place, walking_behind, walking_at, walking_stop, walking_on}
use Rattle.loops.proofs.walks.walk.Goals as goal

pub first_left-left-requires : goal.first_left-left-requires
first_left-left-requires c =
    let t = c.requires in
    (t.0, t.2, t.4.placed.ready, t.4.known)

pub loop-left-init : goal.loop-left-init
loop-left-init c = (refl, λ n a es path q. walking_start q (c.first_left-left.ensures n es q.placed.ready q.known))

pub place-requires : goal.place-requires
place-requires c =
    let t = c.requires in
    let g = c.loop-left.invariant.1 t.0 t.1 t.2 t.3 t.4 in
    (t.0, c.args.k, t.1, t.2, g.way, walking_place g c.in-Some.is)

pub overflow_add-count : goal.overflow_add-count
overflow_add-count c =
    let t = c.requires in
    let g = c.loop-left.invariant.1 t.0 t.1 t.2 t.3 t.4 in
    omega (arith, place_room (walking_place g c.in-Some.is), c.ranges.k)

pub far-end-requires : goal.far-end-requires
far-end-requires c =
    let t = c.requires in
    let h = c.in-Some.is in
    let g = c.loop-left.invariant.1 t.0 t.1 t.2 t.3 t.4 in
    let f = c.place.ensures t.0 c.args.k t.1 t.2 g.way (walking_place g h) in
    (t.0, c.args.k, (walking_behind g h).l, t.2, walking_at g h f)

pub shape_of-w-then-end-start : goal.shape_of-w-then-end-start
shape_of-w-then-end-start c = let pl = c in pl.place.auto.w ∙ pl.loop-left.invariant.0

pub returns-then-end-start : goal.returns-then-end-start
returns-then-end-start c =
    let k = c.args.k in
    let h = c.in-Some.is in
    λ n a es path q.
    let g = c.loop-left.invariant.1 n a es path q in
    let f = c.place.ensures n k a es g.way (walking_place g h) in
    walking_stop g h f (c.far-end.ensures n k (walking_behind g h).l es (walking_at g h f)) c.if-end-start.true

pub first_left-left-requires-in-Some : goal.first_left-left-requires-in-Some
first_left-left-requires-in-Some c =
    let t = c.requires in
    let k = c.args.k in
    let h = c.in-Some.is in
    let g = c.loop-left.invariant.1 t.0 t.1 t.2 t.3 t.4 in
    let f = c.place.ensures t.0 k t.1 t.2 g.way (walking_place g h) in
    (t.0, t.2, f.placed.ready, (c.far-end.ensures t.0 k (walking_behind g h).l t.2 (walking_at g h f)).known)

pub loop-left-smaller : goal.loop-left-smaller
loop-left-smaller c =
    let t = c.requires in
    let g = c.loop-left.invariant.1 t.0 t.1 t.2 t.3 t.4 in
    omega (arith, place_room (walking_place g c.in-Some.is))

pub loop-left-preserved : goal.loop-left-preserved
loop-left-preserved c =
    let k = c.args.k in
    let h = c.in-Some.is in (
      c.place.auto.w ∙ c.loop-left.invariant.0,
      λ n a es path q.
          let g = c.loop-left.invariant.1 n a es path q in
          let f = c.place.ensures n k a es g.way (walking_place g h) in
          let d = c.far-end.ensures n k (walking_behind g h).l es (walking_at g h f) in
          walking_on g h f d c.if-end-start.false (c.first_left-left-in-Some.ensures n es f.placed.ready d.known),
    )

pub returns : goal.returns
returns c = λ n a es path q. walking_end (c.loop-left.invariant.1 n a es path q) c.in_default.is

pub shape_of-w : goal.shape_of-w
shape_of-w c = c.loop-left.invariant.0
