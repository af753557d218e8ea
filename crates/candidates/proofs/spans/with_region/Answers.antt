-- The loop's invariant: the span has the nodes of the triangles before place i.
use mathlib.Core.Path.{ap, ◌∙◌}
use Prim.Native.Nat.{ℕ, ◌+◌}
use native.Mathlib.Omega.{arith}
use lib.ListN.{get_or}
use Rattle.side_candidates.proofs.Scans.{scan_here}
use Rattle.candidates.proofs.Growth.{read_start, read_more, read_end}
use Rattle.candidates.proofs.spans.with_region.Goals as goal

pub loop-i-init : goal.loop-i-init
loop-i-init c =
    let a = c.args in
    (omega arith, λ q m region h. read_start a.w.now a.lay.slots a.lay.points a.k m region a.g q h)

pub overflow_add-list_at : goal.overflow_add-list_at
overflow_add-list_at c =
    omega (arith, c.list_at.ensures, c.loop-i-test.true, c.requires.3.few, c.requires.3.rep.room.small)

pub offset_bounds-w-list_at : goal.offset_bounds-w-list_at
offset_bounds-w-list_at c =
    omega (arith, c.list_at.ensures, c.loop-i-test.true, c.requires.3.few, c.requires.3.rep.room.small)

pub bounds-w-list_at : goal.bounds-w-list_at
bounds-w-list_at c =
    omega (arith, c.list_at.ensures, c.loop-i-test.true, c.requires.3.few, c.requires.3.rep.room.fits)

pub with_triangle-h-requires : goal.with_triangle-h-requires
with_triangle-h-requires c =
    let a = c.args in
    let m = c.requires.1 in
    let h = c.requires.3 in
    let b = c.loop-i.invariant.1 c.requires.0 m c.requires.2 h in
    let y = scan_here a.w.now a.lay.slots a.lay.points a.k c.loop-i.i c.wide.result m b.rest h.rep b.scan c.loop-i-test.true (c.wide.ensures ∙ ap (λ (z : ℕ). get_or a.w.now (z + c.loop-i.i) 0) c.list_at.ensures) in
    record { rep = (m, h.rep, y.top.t); i_lt_s = y.inside }

pub loop-i-preserved : goal.loop-i-preserved
loop-i-preserved c =
    let a = c.args in (
      omega (arith, c.loop-i-test.true),
      λ q m region h.
          let b = c.loop-i.invariant.1 q m region h in
          let y = scan_here a.w.now a.lay.slots a.lay.points a.k c.loop-i.i c.wide.result m b.rest h.rep b.scan c.loop-i-test.true (c.wide.ensures ∙ ap (λ (z : ℕ). get_or a.w.now (z + c.loop-i.i) 0) c.list_at.ensures) in
          read_more a.w.now a.lay.slots a.lay.points a.k m region a.g c.loop-i.i c.wide.result c.loop-i.h c.with_triangle-h.result b y (c.with_triangle-h.ensures m h.rep y.top.t),
    )

pub returns : goal.returns
returns c =
    let a = c.args in
    λ q m region h. read_end a.w.now a.lay.slots a.lay.points a.k m region a.g c.loop-i.i c.loop-i.i c.loop-i.h c.loop-i.h (c.loop-i.invariant.1 q m region h) c.loop-i-test.false
