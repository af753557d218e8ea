-- The word is compared with 1.
use mathlib.Core.Path.{ap}
use Prim.Native.Nat.{ℕ}
use lib.Dec.{eqb}
use lib.ListN.{get_or}
use Rattle.cells.proofs.evens.is_even.Goals as goal

pub returns : goal.returns
returns c =
    let a = c.args in
    ap (λ (i : ℕ). eqb (get_or a.w.now i 0) 1) c.even_at.ensures
