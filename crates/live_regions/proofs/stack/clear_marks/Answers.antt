use mathlib.Core.Path.{◌≡◌, subst}
use mathlib.Core.List.{List}
use Prim.Native.Nat.{ℕ, ◌+◌, ◌<◌, ◌≤◌}
use native.Mathlib.Omega.{arith}
use lib.ListN.{get_or}
use Rattle.laws.specs.Frames.{Only}
use Rattle.cells.specs.Layout.{marks_at}
use Rattle.live_regions.specs.Stack.{Unmarked}
use Rattle.live_regions.proofs.stack.clear_marks.Goals as goal

unmarked : (w w' : List ℕ) (s p n b : ℕ) → b ≡ marks_at s p → n ≤ s → Only w w' b (b + n) → ((k : ℕ) → k < n → get_or w' (b + k) 0 ≡ 0) → Unmarked w w' s p n
unmarked w w' s p n b e h o z =
    record {
      zero = λ i l. subst (λ (x : ℕ). get_or w' (x + i) 0 ≡ 0) e (z i l);
      scratch = record { len = o.len; mesh = λ i l. o.low i (omega (arith, e, l)); rest = λ i l k. o.high i (omega (arith, e, h, l)) };
    }

pub returns : goal.returns
returns c =
    let a = c.args in
    unmarked a.w.now c.clear_range.new.w a.lay.slots a.lay.points a.n c.marks_at.result c.marks_at.ensures c.requires.few c.clear_range.ensures.only c.clear_range.ensures.by_index
