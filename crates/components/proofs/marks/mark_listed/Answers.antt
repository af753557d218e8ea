-- Listed still, where no mark is, and marked one after the other.
use Rattle.laws.specs.Kit.{refl, ◌∙◌, arith}
use Rattle.regions.proofs.Listings.{few, aside_trans}
use Rattle.regions.proofs.Seeds.{cleared_aside}
use Rattle.components.proofs.Markings.{cleared_none, cleared_listed, marking_start, marking_end, marking_can, upcoming, upcoming_can, marking_on}
use Rattle.components.proofs.marks.mark_listed.Goals as goal

pub clear_marks-requires : goal.clear_marks-requires
clear_marks-requires c =
    let q = c.requires in
    record { fits = omega (arith, q.2.rep.room.fits); small = q.2.rep.room.small; few = omega (arith, q.2.rep.used, q.3) }

pub loop-i-init : goal.loop-i-init
loop-i-init c =
    let q = c.requires in
    (refl, omega (arith, few q.2, q.2.rep.used), omega arith, omega (arith, q.2.rep.room.small), λ m xs h k. marking_start h k)

pub listed-j-requires : goal.listed-j-requires
listed-j-requires c =
    let q = c.requires in
    let e = c.clear_marks.ensures in
    let h = cleared_listed e q.2 in
    marking_can h (c.loop-i.invariant.4 q.0 q.1 h (cleared_none e q.2.rep q.3)) c.loop-i-test.true c.loop-i.invariant.1

pub append-requires : goal.append-requires
append-requires c =
    let q = c.requires in
    let e = c.clear_marks.ensures in
    let h = cleared_listed e q.2 in
    let g = c.loop-i.invariant.4 q.0 q.1 h (cleared_none e q.2.rep q.3) in
    let b = upcoming_can h g c.loop-i-test.true (upcoming h g c.loop-i-test.true c.listed-j.ensures) in
    record { can_list = b.0; can_list_2 = b.1 }

pub loop-i-preserved : goal.loop-i-preserved
loop-i-preserved c =
    let l = c.loop-i.invariant in (
      c.append.auto.w ∙ l.0,
      l.1,
      omega (arith, c.loop-i-test.true),
      l.3,
      λ m xs h k.
          let g = l.4 m xs h k in
          marking_on h g c.loop-i-test.true (upcoming h g c.loop-i-test.true c.listed-j.ensures) c.append.ensures l.1,
    )

pub shape_of-w : goal.shape_of-w
shape_of-w c = c.loop-i.invariant.0 ∙ c.clear_marks.auto.w

pub returns : goal.returns
returns c = λ m xs hs u.
    let a = c.args in
    let l = c.loop-i in
    let e = c.clear_marks.ensures in
    let h = cleared_listed e hs in
    let f = marking_end h (l.invariant.4 m xs h (cleared_none e hs.rep u)) c.loop-i-test.false l.invariant.2 in
    record { state = f.state; aside = aside_trans a.w.now c.clear_marks.new.w l.w a.lay.slots a.lay.points (cleared_aside a.w.now c.clear_marks.new.w a.lay.slots a.lay.points a.used e) f.aside }
