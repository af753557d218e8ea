-- What one visit makes of the list and of the stack.
use Rattle.std.specs.Prelude.{Bool, true, false}
use mathlib.Core.List.{List, [], ◌∷◌, ◌++◌, foldl}
use Rattle.definition.specs.Cells.{Live, Mesh}
use Rattle.definition.specs.Candidates.{on_top, neighbours}

-- a cell in reach comes to the end of the list
abbrev pub out_after : Bool → List Live → Live → List Live
out_after true out x = out ++ (x ∷ [])
out_after false out x = out

-- and its neighbours come onto the stack
abbrev pub stack_after : Bool → Mesh → List Live → List Live → Live → List Live
stack_after true m seen st x = foldl (on_top (x ∷ seen)) st (neighbours m x)
stack_after false m seen st x = st
