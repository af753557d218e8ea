use mathlib.Core.Path.{◌≡◌}
use Prim.Native.Nat.{ℕ, ◌+◌, ◌*◌, ◌<◌}
use lib.ListN.{length}
use Rattle.sorting.specs.Places.{key_at}
use Rattle.balance.specs.Codes.{side_at, either, code}
use Rattle.uprights.specs.Sides.{upright_words}
use Rattle.uprights.proofs.sides.put_uprights.Given as goal

abbrev pub invariant-loop-i : goal.invariant-loop-i
invariant-loop-i l =
    (length l.w ≡ length l.initial.w) × ((j : ℕ) → j < 3 * l.i → key_at l.w (l.at + j) ≡ code (either l.turned (side_at (upright_words l.points l.triangles l.n) 3 j))) × ((j : ℕ) → j < l.at → key_at l.w j ≡ key_at l.initial.w j)
