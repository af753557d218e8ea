use Prim.{absurd}
use mathlib.Core.Path.{refl, sym, ◌∙◌, subst}
use Prim.Native.Nat.{ℕ, ◌+◌}
use native.Mathlib.Omega.{arith}
use lib.ListN.{length, set}
use Rattle.laws.specs.Frames.{only_refl}
use Rattle.cells.specs.Layout.{tried_at, heads_at}
use Rattle.cells.proofs.Slots.{sizes}
use Rattle.rounds.specs.Turns.{MarksOnly}
use Rattle.edges.specs.Kept.{on_place}
use Rattle.rounds.proofs.Places.{Opened, opened_more, opened_all, marks_set, marks_same, shows_kept, places_kept, open_edge, opens_at}
use Rattle.rounds.proofs.turns.open_places.Goals as goal

pub loop-i-init : goal.loop-i-init
loop-i-init c =
    let a = c.args in
    (refl, omega arith, only_refl a.w.now (tried_at a.lay.slots a.lay.points) (heads_at a.lay.slots a.lay.points), λ m bl l h o. record { done = λ j x y. absurd (omega arith) })

pub first_on-u-requires : goal.first_on-u-requires
first_on-u-requires c =
    let a = c.args in
    let w = c.loop-i.w in
    let mk = c.loop-i.invariant.2 in
    let o = places_kept a.w.now w a.lay.slots a.lay.points a.b a.e (length c.requires.0.points) (length c.requires.0.points) c.requires.2 (omega arith) (marks_same a.w.now w a.lay.slots a.lay.points mk) c.requires.4 in
    let sh = shows_kept a.w.now w a.lay.slots a.lay.points c.requires.0 c.requires.1 mk.len (λ i l. mk.low i (omega arith)) c.requires.3 in
    on_place o sh.rep.room c.loop-i.i c.loop-i.invariant.1 c.loop-i-test.true

pub second_on-v-requires : goal.second_on-v-requires
second_on-v-requires c =
    let a = c.args in
    let w = c.loop-i.w in
    let mk = c.loop-i.invariant.2 in
    let o = places_kept a.w.now w a.lay.slots a.lay.points a.b a.e (length c.requires.0.points) (length c.requires.0.points) c.requires.2 (omega arith) (marks_same a.w.now w a.lay.slots a.lay.points mk) c.requires.4 in
    let sh = shows_kept a.w.now w a.lay.slots a.lay.points c.requires.0 c.requires.1 mk.len (λ i l. mk.low i (omega arith)) c.requires.3 in
    on_place o sh.rep.room c.loop-i.i c.loop-i.invariant.1 c.loop-i-test.true

pub closed-requires : goal.closed-requires
closed-requires c =
    let a = c.args in
    let w = c.loop-i.w in
    let mk = c.loop-i.invariant.2 in
    let sh = shows_kept a.w.now w a.lay.slots a.lay.points c.requires.0 c.requires.1 mk.len (λ i l. mk.low i (omega arith)) c.requires.3 in
    record { shows = (c.requires.0, c.requires.1, sh); edge = open_edge a.w.now w a.lay.slots a.lay.points a.b a.e (length c.requires.0.points) c.requires.2 c.requires.4 mk c.loop-i.i c.loop-i.invariant.1 c.loop-i-test.true c.first_on-u.result c.second_on-v.result c.first_on-u.ensures c.second_on-v.ensures c.requires.3.rep.points }

pub overflow_add-w : goal.overflow_add-w
overflow_add-w c =
    omega (arith, c.tried_at-t.ensures, c.loop-i-test.true, c.requires.4.few, c.requires.3.rep.room.small)

pub offset_bounds-w-t : goal.offset_bounds-w-t
offset_bounds-w-t c =
    omega (arith, c.tried_at-t.ensures, c.loop-i-test.true, c.requires.4.few, c.requires.3.rep.room.small)

pub bounds-w-t : goal.bounds-w-t
bounds-w-t c =
    omega (arith, c.tried_at-t.ensures, c.loop-i-test.true, c.requires.4.few, c.requires.3.rep.room.fits, c.loop-i.invariant.0)

pub loop-i-preserved : goal.loop-i-preserved
loop-i-preserved c =
    let a = c.args in
    let w = c.loop-i.w in
    let mk = c.loop-i.invariant.2 in
    let e = c.tried_at-t.ensures in
    let v = c.closed.result in
    let i = c.loop-i.i in
    let to : MarksOnly a.w.now (set w (c.tried_at-t.result + i) v) a.lay.slots a.lay.points = subst (λ (z : ℕ). MarksOnly a.w.now (set w (z + i) v) a.lay.slots a.lay.points) (sym e) (marks_set a.w.now w a.lay.slots a.lay.points i v (omega (arith, c.loop-i-test.true, c.requires.4.few)) mk) in (
      to.len,
      omega (arith, c.loop-i.invariant.1),
      to,
      λ m bl l h o.
          let sh = shows_kept a.w.now w a.lay.slots a.lay.points m bl mk.len (λ j l. mk.low j (omega arith)) h in
          subst (λ (z : ℕ). Opened a.w.now (set w (z + i) v) a.lay.slots a.lay.points a.b (i + 1) m bl) (sym e)
          (opened_more a.w.now w a.lay.slots a.lay.points a.b a.e (length m.points) i v l m bl o c.loop-i-test.true o.few (omega (arith, sh.rep.room.fits)) (c.loop-i.invariant.3 m bl l h o)
          (c.closed.ensures m bl sh ∙ opens_at a.w.now w a.lay.slots a.lay.points a.b a.e (length m.points) l o mk i c.loop-i.invariant.1 c.loop-i-test.true m bl c.first_on-u.result c.second_on-v.result c.first_on-u.ensures c.second_on-v.ensures)),
    )

pub returns : goal.returns
returns c =
    let a = c.args in
    λ m bl l h o. opened_all a.w.now c.loop-i.w a.lay.slots a.lay.points a.b a.e (length m.points) c.loop-i.i l m bl o c.loop-i.invariant.2 (c.loop-i.invariant.3 m bl l h o) c.loop-i-test.false
