-- The cells from place j on decide.
use Rattle.std.specs.Prelude.{◌+◌}
use Rattle.laws.specs.Kit.{◌∙◌, ap, true, false, ℕ, arith, get_or}
use Rattle.definition.specs.Lists.{find}
use Rattle.definition.specs.Plane.{flat}
use Rattle.side_candidates.proofs.Scans.{scan_here}
use Rattle.insertion.specs.Hold.{holds_at}
use Rattle.insertion.proofs.Holders.{seeking_start, seeking_stop, seeking_more, seeking_end, spot_holds}
use Rattle.insertion.proofs.holder.first_listed.Goals as goal

pub loop-j-init : goal.loop-j-init
loop-j-init c =
    let a = c.args in
    (omega arith, λ m g h. seeking_start a.w.now a.q.now a.lay.slots a.lay.points a.k m (holds_at m (flat a.x a.y)) g h)

pub overflow_add-list_at : goal.overflow_add-list_at
overflow_add-list_at c =
    let a = c.args in
    omega (arith, c.list_at.ensures, c.loop-j-test.true, c.requires.2.few, c.requires.2.rep.room.small)

pub offset_bounds-w-list_at : goal.offset_bounds-w-list_at
offset_bounds-w-list_at c =
    let a = c.args in
    omega (arith, c.list_at.ensures, c.loop-j-test.true, c.requires.2.few, c.requires.2.rep.room.small)

pub bounds-w-list_at : goal.bounds-w-list_at
bounds-w-list_at c =
    let a = c.args in
    omega (arith, c.list_at.ensures, c.loop-j-test.true, c.requires.2.few, c.requires.2.rep.room.fits)

pub holds-requires : goal.holds-requires
holds-requires c =
    let a = c.args in
    let m = c.requires.0 in
    let h = c.requires.2 in
    let b = c.loop-j.invariant.1 m c.requires.1 h in
    let y = scan_here a.w.now a.lay.slots a.lay.points a.k c.loop-j.j c.wide-i.result m b.rest h.rep b.scan c.loop-j-test.true (c.wide-i.ensures ∙ ap (λ (z : ℕ). get_or a.w.now (z + c.loop-j.j) 0) c.list_at.ensures) in
    record { drawn = (m, record { rep = h.rep; pts = h.pts }); i_lt_s = y.inside }

pub returns-then-holds : goal.returns-then-holds
returns-then-holds c =
    let a = c.args in
    λ m g h.
    let o = flat a.x a.y in
    let b = c.loop-j.invariant.1 m g h in
    let y = scan_here a.w.now a.lay.slots a.lay.points a.k c.loop-j.j c.wide-i.result m b.rest h.rep b.scan c.loop-j-test.true (c.wide-i.ensures ∙ ap (λ (z : ℕ). get_or a.w.now (z + c.loop-j.j) 0) c.list_at.ensures) in
    seeking_stop a.w.now a.lay.slots a.lay.points a.k c.loop-j.j m (holds_at m o) (find (holds_at m o) g) c.wide-i.result b y
    (spot_holds a.w.now a.lay.slots a.lay.points m h.rep o c.wide-i.result y.x y.top true c.holds.result c.if-holds.true (c.holds.ensures m (record { rep = h.rep; pts = h.pts })))

pub loop-j-preserved : goal.loop-j-preserved
loop-j-preserved c =
    let a = c.args in (
      omega (arith, c.loop-j-test.true),
      λ m g h.
          let o = flat a.x a.y in
          let b = c.loop-j.invariant.1 m g h in
          let y = scan_here a.w.now a.lay.slots a.lay.points a.k c.loop-j.j c.wide-i.result m b.rest h.rep b.scan c.loop-j-test.true (c.wide-i.ensures ∙ ap (λ (z : ℕ). get_or a.w.now (z + c.loop-j.j) 0) c.list_at.ensures) in
          seeking_more a.w.now a.lay.slots a.lay.points a.k c.loop-j.j m (holds_at m o) (find (holds_at m o) g) c.wide-i.result b y
          (spot_holds a.w.now a.lay.slots a.lay.points m h.rep o c.wide-i.result y.x y.top false c.holds.result c.if-holds.false (c.holds.ensures m (record { rep = h.rep; pts = h.pts }))),
    )

pub returns : goal.returns
returns c =
    let a = c.args in
    λ m g h. seeking_end a.w.now a.lay.slots a.lay.points a.k c.loop-j.j m (holds_at m (flat a.x a.y)) (find (holds_at m (flat a.x a.y)) g) (c.loop-j.invariant.1 m g h) c.loop-j-test.false
