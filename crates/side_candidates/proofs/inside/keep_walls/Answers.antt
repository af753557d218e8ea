use mathlib.Core.Path.{◌≡◌, ap, sym, ◌∙◌, subst}
use mathlib.Core.List.{List}
use Prim.Native.Nat.{ℕ, ◌+◌}
use native.Mathlib.Omega.{arith}
use lib.ListN.{get_or, set}
use lib.Ieee.{Float}
use Rattle.definition.specs.Cells.{Live, Mesh}
use Rattle.cells.specs.Layout.{marks_at}
use Rattle.live_regions.specs.Walls.{wall_mark}
use Rattle.side_candidates.specs.Hand.{InHand}
use Rattle.side_candidates.proofs.Scans.{Spot, scan_here}
use Rattle.side_candidates.proofs.Keeping.{Keeping, keeping_word, keeping_mark, keeping_hit, keeping_miss, keeping_end}
use Rattle.side_candidates.proofs.inside.keep_walls.Goals as goal
use Rattle.side_candidates.proofs.inside.keep_walls.Goals.{After-wide, then-f-ne8, else-f-ne8}

-- the slot at the place
abbrev slot : After-wide → ℕ
slot c = get_or c.loop-i.w (c.list_at-at.result + c.loop-i.i) 0

spot : (c : After-wide) (q : List Float) (m : Mesh) (g : List Live) (h : InHand c.args.w.now q c.args.lay.slots c.args.lay.points c.args.k m g) → Spot c.args.w.now c.args.lay.slots c.args.lay.points c.args.k c.loop-i.i (slot c) m (c.loop-i.invariant.keeping q m g h).rest
spot c q m g h =
    let a = c.args in
    let l = c.loop-i in
    let f = l.invariant.keeping q m g h in
    scan_here a.w.now a.lay.slots a.lay.points a.k l.i (slot c) m f.rest h.rep f.scan c.loop-i-test.true
    (keeping_word a.w.now q a.lay.slots a.lay.points a.k m g h l.w l.i l.r f l.auto.w l.invariant.few (slot c) (ap (λ (z : ℕ). get_or l.w (z + l.i) 0) c.list_at-at.ensures))

pub bounds-w-marks : goal.bounds-w-marks
bounds-w-marks c =
    let r = c.requires in
    let z = spot (goal.at.bounds-w-marks c).After-wide r.0 r.1 r.2 r.3 in
    omega (arith, c.marks_at-marks.ensures, c.wide.ensures, z.inside, r.3.rep.room.fits)

-- its mark, as it was read
mark_read : (c : After-wide) (q : List Float) (m : Mesh) (g : List Live) (h : InHand c.args.w.now q c.args.lay.slots c.args.lay.points c.args.k m g)
    → get_or c.loop-i.w (c.marks_at-marks.result + c.wide.result) 0 ≡ wall_mark m (spot c q m g h).x
mark_read c q m g h =
    let a = c.args in
    let l = c.loop-i in
    let e : c.marks_at-marks.result + c.wide.result ≡ marks_at a.lay.slots a.lay.points + slot c = omega (arith, c.marks_at-marks.ensures, c.wide.ensures) in
    keeping_mark a.w.now q a.lay.slots a.lay.points a.k m g h l.w l.i l.r (l.invariant.keeping q m g h) l.auto.w l.invariant.few (slot c) (spot c q m g h)
    (get_or l.w (c.marks_at-marks.result + c.wide.result) 0) (ap (λ (z : ℕ). get_or l.w z 0) e)

pub loop-i-preserved : goal.loop-i-preserved
loop-i-preserved c =
    let a = c.args in
    let x = c.loop-i in
    let k = (goal.at.loop-i-preserved c).After-wide in
    elim c.if-f-ne8.branch [
      | then-f-ne8 y ↦
          record {
            few = omega (arith, y.r-is, x.invariant.few);
            keeping =
                λ q m g h.
                rw (y.w-is, y.r-is)
                (subst (λ (z : ℕ). Keeping a.w.now (set x.w (z + x.r) (slot k)) a.lay.slots a.lay.points a.k (x.i + 1) (x.r + 1) m g) (sym c.list_at-at.ensures)
                (keeping_hit a.w.now q a.lay.slots a.lay.points a.k m g h x.w x.i x.r (x.invariant.keeping q m g h) x.auto.w x.invariant.few (slot k) (spot k q m g h)
                (λ z. y.if-f-ne8.true (mark_read k q m g h ∙ z)) c.loop-i-test.true));
          }
      | else-f-ne8 y ↦
          record {
            few = omega (arith, y.r-is, x.invariant.few);
            keeping =
                λ q m g h.
                rw (y.w-is, y.r-is)
                (keeping_miss a.w.now q a.lay.slots a.lay.points a.k m g h x.w x.i x.r (x.invariant.keeping q m g h) x.auto.w x.invariant.few (slot k) (spot k q m g h)
                (sym (mark_read k q m g h) ∙ y.if-f-ne8.false));
          }
    ]

pub returns : goal.returns
returns c =
    let a = c.args in
    let x = c.loop-i in
    λ q m g h. keeping_end a.w.now q a.lay.slots a.lay.points a.k m g h x.w x.i x.r (x.invariant.keeping q m g h) x.auto.w x.invariant.few x.auto.i-end c.loop-i-test.false
