use Rattle.std.specs.Prelude.{◌≡◌, ◌+◌, ◌<◌}
use Rattle.laws.specs.Kit.{ℕ, length}
use Rattle.sorting.specs.Places.{key_at}
use Rattle.balance.specs.Codes.{side_at, either, code}
use Rattle.balance.proofs.places.put_sides.Given as goal

abbrev pub invariant-loop-j : goal.invariant-loop-j
invariant-loop-j l =
    (length l.w ≡ length l.initial.w) × ((i : ℕ) → i < l.j → key_at l.w (l.at + i) ≡ code (either l.turned (side_at l.cells l.c i))) × ((i : ℕ) → i < l.at → key_at l.w i ≡ key_at l.initial.w i)
