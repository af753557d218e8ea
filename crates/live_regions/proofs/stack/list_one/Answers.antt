use mathlib.Core.Path.{sym, subst}
use mathlib.Core.List.{[], ◌∷◌, ◌++◌}
use Prim.Native.Nat.{ℕ, ◌+◌}
use native.Mathlib.Omega.{arith}
use lib.ListN.{set, length-set}
use Rattle.cells.specs.Layout.{marks_at}
use Rattle.live_regions.specs.Stack.{PushTo}
use Rattle.live_regions.proofs.Takes.{listed_one}
use Rattle.live_regions.proofs.stack.list_one.Goals as goal

pub bounds-w-marks : goal.bounds-w-marks
bounds-w-marks c =
    simp length-set (omega (arith, c.marks_at-marks.ensures, c.requires.5.inside, c.requires.5.hold.fits))

pub returns : goal.returns
returns c =
    let a = c.args in
    λ m out seen st x h.
    subst (λ (z : ℕ). PushTo a.w.now (set (set a.w.now (c.list_at-list.result + a.n) a.i) (z + a.i) a.f) a.lay.slots a.lay.points m (out ++ x ∷ []) seen st) (sym c.marks_at-marks.ensures)
    (subst (λ (z : ℕ). PushTo a.w.now (set (set a.w.now (z + a.n) a.i) (marks_at a.lay.slots a.lay.points + a.i) a.f) a.lay.slots a.lay.points m (out ++ x ∷ []) seen st) (sym c.list_at-list.ensures)
    (listed_one a.w.now a.lay.slots a.lay.points a.n a.i a.f m out seen st x h))
