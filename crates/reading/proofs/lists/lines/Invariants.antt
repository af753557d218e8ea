use Rattle.std.specs.Prelude.{◌≡◌, ◌-◌, ◌*◌, ◌≤◌}
use Rattle.laws.specs.Kit.{ℕ, List, drop, map}
use Rattle.reading.proofs.Rows.{prepend}
use Rattle.definition.specs.Lists.{rows}
use Rattle.definition.specs.Text.{Bytes, Reader, three, times}
use Rattle.reading.proofs.lists.lines.Given as goal

-- i rows are read, and what is left of the list is at the front of rest
pub record Reading {A : Type 0} (number : A → ℕ) (r : Reader ℕ) (s : Bytes) (n : ℕ) (before now : List A) (rest : Bytes) (i : ℕ) : Type 0 where
  pub within : i ≤ n
  pub reads : times n (three r) s ≡ prepend (rows 3 i (map number now)) (times (n - i) (three r) rest)
  pub past : drop (3 * n) now ≡ drop (3 * n) before

abbrev pub invariant-loop-i : goal.invariant-loop-i
invariant-loop-i g l = Reading g.T.Listed.number_of g.T.Listed.reader l.s l.n l.initial.into l.into l.rest l.i
