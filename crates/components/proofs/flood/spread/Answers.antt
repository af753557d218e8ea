-- The flood goes on: what is listed and crossed is a flood from the same triangle, and never fewer are listed.
use Rattle.std.specs.Prelude.{◌≡◌, ◌∷◌, ◌++◌}
use Rattle.laws.specs.Kit.{refl, ◌∙◌, subst, ℕ, arith}
use Rattle.components.specs.Flood.{Flooding}
use Rattle.components.proofs.Floods.{flood_few, flood_can, popped, popped_tri, flood_on}
use Rattle.components.proofs.Pieces.{met_more}
use Rattle.components.proofs.flood.spread.Goals as goal

pub loop-head-init : goal.loop-head-init
loop-head-init c =
    let g = c.requires.flooding.3 in
    (refl, omega arith, omega arith, flood_few g, omega (arith, g.state.rep.room.small), λ m xs x h. h)

pub shape_of-w-then-head-count : goal.shape_of-w-then-head-count
shape_of-w-then-head-count c = c.loop-head.invariant.0

pub returns-then-head-count : goal.returns-then-head-count
returns-then-head-count c =
    let l = c.loop-head.invariant in
    record { flooding_2 = λ m xs x h. l.5 m xs x h; from_lt_head = omega (arith, c.if-head-count.true, l.2, c.requires.from_lt_k.0); count_le_head = λ q. c.if-head-count.true }

pub listed-j-requires : goal.listed-j-requires
listed-j-requires c =
    let q = c.requires.flooding in
    flood_can (c.loop-head.invariant.5 q.0 q.1 q.2 q.3) c.if-head-count.false

pub meet_tri-count-requires : goal.meet_tri-count-requires
meet_tri-count-requires c =
    let q = c.requires.flooding in
    let b = popped (c.loop-head.invariant.5 q.0 q.1 q.2 q.3) c.if-head-count.false c.listed-j.ensures in
    (q.0, q.1 ++ (b.done ++ b.y ∷ b.todo), b.state, popped_tri b)

pub loop-head-preserved : goal.loop-head-preserved
loop-head-preserved c =
    let l = c.loop-head.invariant in
    let q = c.requires.flooding in
    let b = popped (l.5 q.0 q.1 q.2 q.3) c.if-head-count.false c.listed-j.ensures in
    let f = c.meet_tri-count.ensures q.0 (q.1 ++ (b.done ++ b.y ∷ b.todo)) b.state (popped_tri b) in (
      c.meet_tri-count.auto.w ∙ l.0,
      omega (arith, l.1),
      omega (arith, l.2, met_more b.state f),
      flood_few (flood_on b f),
      l.4,
      λ m xs x h.
          let b = popped (l.5 m xs x h) c.if-head-count.false c.listed-j.ensures in
          flood_on b (c.meet_tri-count.ensures m (xs ++ (b.done ++ b.y ∷ b.todo)) b.state (popped_tri b)),
    )

pub shape_of-w : goal.shape_of-w
shape_of-w c = c.loop-head.invariant.0

pub returns : goal.returns
returns c =
    let a = c.args in
    let l = c.loop-head in
    let e : l.head ≡ a.stop = omega (arith, c.loop-head-test.false, c.requires.from_lt_k.1) in
    record {
      flooding_2 = λ m xs x h. subst (λ (v : ℕ). Flooding a.w.now l.w a.lay.slots a.lay.points l.count v m xs x) e (l.invariant.5 m xs x h);
      from_lt_head = c.requires.from_lt_k.1;
      count_le_head = λ q. absurd (omega arith);
    }
