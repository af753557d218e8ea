use mathlib.Core.Path.{sym, subst}
use Prim.Native.Nat.{ℕ, ◌+◌}
use lib.ListN.{get_or, set}
use Rattle.rings.specs.Rings.{CanUnlink, UnlinkedFrom}
use Rattle.live_regions.specs.Stack.{TakeTo}
use Rattle.live_regions.proofs.Takes.{top_can, taken}
use Rattle.live_regions.proofs.stack.take.Goals as goal

pub unlink-requires : goal.unlink-requires
unlink-requires c =
    let a = c.args in
    subst (λ (z : ℕ). CanUnlink a.w.now z (a.lay.slots + 1) a.i) (sym c.stack_at-stack.ensures)
    (top_can a.w.now a.lay.slots a.lay.points a.i c.requires.0 c.requires.1 c.requires.2 c.requires.3 c.requires.4 c.requires.5)

pub returns : goal.returns
returns c =
    let a = c.args in
    let w1 = c.unlink.new.w in
    λ m out seen st x h.
    subst (λ (z : ℕ). TakeTo a.w.now (set w1 (z + a.i) 2) a.lay.slots a.lay.points a.i (get_or a.w.now (z + a.i) 0) m out seen st x) (sym c.marks_at-marks.ensures)
    (taken a.w.now a.lay.slots a.lay.points a.i m out seen st x h w1 (subst (λ (z : ℕ). UnlinkedFrom a.w.now w1 z (a.lay.slots + 1) a.i) c.stack_at-stack.ensures c.unlink.ensures))
