-- Component after component: those taken so far are even (Odds.Evens).
use Rattle.std.specs.Prelude.{◌++◌}
use Rattle.laws.specs.Kit.{refl, ◌∙◌, arith}
use Rattle.components.proofs.Sweeps.{joined}
use Rattle.components.proofs.Odds.{evens_start, taken_least, evens_on, odd_found, none_odd}
use Rattle.components.proofs.odd.leaves_odd_anywhere.Goals as goal

pub loop-i-init : goal.loop-i-init
loop-i-init c =
    let q = c.requires in
    (refl, omega (arith, q.2.rep.used, q.3), omega (arith, q.2.rep.room.small), λ m xs h e. evens_start h)

pub take_component-next-requires : goal.take_component-next-requires
take_component-next-requires c =
    let q = c.requires in
    let l = c.loop-i.invariant in
    let g = l.3 q.0 q.1 (c.mark_listed.ensures q.0 q.1 q.2 q.3).state q.3 in
    record { marked = (q.0, q.1 ++ joined g.pieces, g.sweep.state); i_lt_s = omega (arith, c.loop-i-test.true, l.1) }

pub overflow_sub-next : goal.overflow_sub-next
overflow_sub-next c =
    let q = c.requires in
    let g = c.loop-i.invariant.3 q.0 q.1 (c.mark_listed.ensures q.0 q.1 q.2 q.3).state q.3 in
    (taken_least g (c.take_component-next.ensures q.0 (q.1 ++ joined g.pieces) g.sweep.state)).0

pub shape_of-w-then-next-k-ne0 : goal.shape_of-w-then-next-k-ne0
shape_of-w-then-next-k-ne0 c = c.take_component-next.auto.w ∙ c.loop-i.invariant.0 ∙ c.mark_listed.auto.w

pub returns-then-next-k-ne0 : goal.returns-then-next-k-ne0
returns-then-next-k-ne0 c = λ m xs hs e.
    let h = c.mark_listed.ensures m xs hs e in
    let g = c.loop-i.invariant.3 m xs h.state e in
    odd_found g (c.take_component-next.ensures m (xs ++ joined g.pieces) g.sweep.state) c.if-next-k-ne0.true hs h.aside

pub loop-i-preserved : goal.loop-i-preserved
loop-i-preserved c =
    let l = c.loop-i.invariant in (
      c.take_component-next.auto.w ∙ l.0,
      l.1,
      l.2,
      λ m xs h e. let g = l.3 m xs h e in evens_on g (c.take_component-next.ensures m (xs ++ joined g.pieces) g.sweep.state) c.if-next-k-ne0.false,
    )

pub shape_of-w : goal.shape_of-w
shape_of-w c = c.loop-i.invariant.0 ∙ c.mark_listed.auto.w

pub returns : goal.returns
returns c = λ m xs hs e.
    let h = c.mark_listed.ensures m xs hs e in
    none_odd (c.loop-i.invariant.3 m xs h.state e) (omega (arith, c.loop-i-test.false, e)) hs h.aside
