use mathlib.Core.Path.{◌≡◌, ap, sym, ◌∙◌, subst}
use mathlib.Core.List.{List}
use Prim.Native.Nat.{ℕ, ◌+◌, ◌<◌}
use native.Mathlib.Omega.{arith}
use lib.ListN.{get_or}
use Rattle.definition.specs.Cells.{Live, Mesh, tri, new_live}
use Rattle.definition.specs.Candidates.{walls, segment_inside}
use Rattle.live_regions.specs.Walls.{wall_mark}
use Rattle.side_candidates.specs.Blocks.{open_cell, Passing, CanPass}
use Rattle.side_candidates.proofs.Scans.{Spot, scan_here, passing_stop, passing_more, spot_walls, spot_open}
use Rattle.side_candidates.proofs.Skipping.{through_start, through_stop}
use Rattle.side_candidates.proofs.inside.cells_open.Goals as goal
use Rattle.side_candidates.proofs.inside.cells_open.Goals.{After-wide-i}

-- the triangle at the place
spot : (c : After-wide-i) (m : Mesh) (g : List Live) (h : CanPass c.args.w.now c.args.q.now c.args.lay.slots c.args.lay.points c.args.n c.args.j m g c.args.a c.args.b)
    → Spot c.args.w.now c.args.lay.slots c.args.lay.points c.args.n c.loop-g.g c.wide-i.result m (c.loop-g.invariant m g h).rest
spot c m g h =
    let a = c.args in
    scan_here a.w.now a.lay.slots a.lay.points a.n c.loop-g.g c.wide-i.result m (c.loop-g.invariant m g h).rest h.hand.rep (c.loop-g.invariant m g h).scan (omega (arith, c.requires.j_le_k.1))
    (c.wide-i.ensures ∙ ap (λ (z : ℕ). get_or a.w.now (z + c.loop-g.g) 0) c.list_at-at.ensures)

inside : (c : After-wide-i) → c.wide-i.result < c.args.lay.slots
inside c = let r = c.requires.can_pass in (spot c r.0 r.1 r.2).inside

-- its mark, as it was read
mark_read : (c : After-wide-i) (m : Mesh) (g : List Live) (h : CanPass c.args.w.now c.args.q.now c.args.lay.slots c.args.lay.points c.args.n c.args.j m g c.args.a c.args.b)
    → get_or c.args.w.now (c.marks_at-marks.result + c.wide-i.result) 0 ≡ wall_mark m (new_live c.wide-i.result (tri (spot c m g h).top.t.t))
mark_read c m g h =
    let a = c.args in
    let i = c.wide-i.result in
    ap (λ (z : ℕ). get_or a.w.now (z + i) 0) c.marks_at-marks.ensures ∙ spot_walls a.w.now a.lay.slots a.lay.points a.n c.loop-g.g i m (c.loop-g.invariant m g h).rest (spot c m g h)

pub bounds-w-marks : goal.bounds-w-marks
bounds-w-marks c = omega (arith, c.marks_at-marks.ensures, inside (goal.at.bounds-w-marks c).After-wide-i, c.requires.can_pass.2.hand.rep.room.fits)

pub open_cell-requires : goal.open_cell-requires
open_cell-requires c =
    let r = c.requires.can_pass in
    let h = r.2 in
    record { rep = (r.0, h.hand.rep, h.hand.pts, h.ends, (spot (goal.at.open_cell-requires c).After-wide-i r.0 r.1 h).top.t); i_lt_s = inside (goal.at.open_cell-requires c).After-wide-i }

pub returns-then-not-open_cell : goal.returns-then-not-open_cell
returns-then-not-open_cell c =
    let a = c.args in
    let k = (goal.at.returns-then-not-open_cell c).After-wide-i in
    λ m g h.
    let y = spot k m g h in
    let e = spot_open m c.wide-i.result a.a a.b y.x y.top ∙ sym (c.open_cell.ensures m h.hand.rep h.hand.pts h.ends y.top.t (mark_read k m g h)) in
    let total = segment_inside m a.a a.b (walls m g) in
    through_stop a.w.now a.lay.slots a.lay.points a.n a.k m a.a a.b total
    (passing_stop a.w.now a.lay.slots a.lay.points a.n c.loop-g.g m (open_cell m a.a a.b) total c.wide-i.result (c.loop-g.invariant m g h) y (e ∙ c.if-not-open_cell.true))

pub loop-g-preserved : goal.loop-g-preserved
loop-g-preserved c =
    let a = c.args in
    let k = (goal.at.loop-g-preserved c).After-wide-i in
    λ m g h.
    let y = spot k m g h in
    let e = spot_open m c.wide-i.result a.a a.b y.x y.top ∙ sym (c.open_cell.ensures m h.hand.rep h.hand.pts h.ends y.top.t (mark_read k m g h)) in
    passing_more a.w.now a.lay.slots a.lay.points a.n c.loop-g.g m (open_cell m a.a a.b) (segment_inside m a.a a.b (walls m g)) c.wide-i.result (c.loop-g.invariant m g h) y
    (e ∙ c.if-not-open_cell.false)

pub returns : goal.returns
returns c =
    let a = c.args in
    λ m g h.
    let total = segment_inside m a.a a.b (walls m g) in
    let e : c.loop-g.g ≡ a.k = omega arith in
    through_start a.w.now a.lay.slots a.lay.points a.n a.k m a.a a.b total c.requires.j_le_k.1
    (subst (λ (z : ℕ). Passing a.w.now a.lay.slots a.lay.points a.n z m (open_cell m a.a a.b) total) e (c.loop-g.invariant m g h))
