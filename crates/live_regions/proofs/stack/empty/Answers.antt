use mathlib.Core.Path.{sym, subst}
use mathlib.Core.List.{[]}
use Prim.Native.Nat.{ℕ, ◌+◌}
use native.Mathlib.Omega.{arith}
use lib.ListN.{set, length-set}
use Rattle.live_regions.specs.Stack.{PushTo}
use Rattle.live_regions.proofs.Takes.{emptied}
use Rattle.live_regions.proofs.stack.empty.Goals as goal

pub clear_marks-requires : goal.clear_marks-requires
clear_marks-requires c =
    record { fits = c.requires.p_in_bounds; few = omega (arith, c.requires.rep.2, c.requires.rep.1.used); small = c.requires.rep.1.room.small }

pub bounds-w-stack-2 : goal.bounds-w-stack-2
bounds-w-stack-2 c =
    simp length-set (omega (arith, c.stack_at-stack.ensures, c.requires.p_in_bounds, c.clear_marks.ensures.scratch.len))

pub returns : goal.returns
returns c =
    let a = c.args in
    let w1 = c.clear_marks.new.w in
    λ m r e.
    subst (λ (z : ℕ). PushTo a.w.now (set (set w1 (z + a.lay.slots) a.lay.slots) (z + (a.lay.slots + 1) + a.lay.slots) a.lay.slots) a.lay.slots a.lay.points m [] [] []) (sym c.stack_at-stack.ensures)
    (emptied a.w.now w1 a.lay.slots a.lay.points a.n m c.requires.p_in_bounds r e c.clear_marks.ensures)
