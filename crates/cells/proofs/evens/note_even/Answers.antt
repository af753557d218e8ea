-- The word is set.
use mathlib.Core.Path.{ap}
use Prim.Native.Nat.{ℕ}
use lib.ListN.{set}
use Rattle.cells.proofs.evens.note_even.Goals as goal

pub returns : goal.returns
returns c =
    let a = c.args in
    ap (λ (i : ℕ). set a.w.now i 1) c.even_at.ensures
