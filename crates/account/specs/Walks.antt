-- Whatever an attempt keeps, the walk over edges, loops and rounds keeps; nothing is asked of the meshes.
-- Where a limit ends the run, what holds may be another thing.
use Rattle.std.specs.Prelude.{◌≡◌, ◌⊎◌, ◌∷◌}
use Rattle.laws.specs.Kit.{refl, inl, inr, ℕ, zero, suc, List, []}
use Rattle.definition.specs.Numbers.{Settings}
use Rattle.definition.specs.Counts.{emptied}
use Rattle.definition.specs.Plane.{Edge}
use Rattle.definition.specs.Cells.{front}
use Rattle.definition.specs.Loops.{front_loops}
use Rattle.definition.specs.Front.{State, Progress, stuck, progressed, limited, stopped, counting, attempt, try_edges, open_edges, try_loops, round, front_loop}

-- G of a state that goes on or that want of lent memory ended, L of one that a limit ended
abbrev pub Goes : (State → Type 0) → (State → Type 0) → Progress → Type 0
Goes G L (stuck st) = G st
Goes G L (progressed st) = G st
Goes G L (limited st) = L st
Goes G L (stopped w st) = G st

-- at the end of the rounds, which make no difference of a limit
abbrev pub Ends : (State → Type 0) → (State → Type 0) → Progress → Type 0
Ends G L (stuck st) = G st ⊎ L st
Ends G L (progressed st) = G st
Ends G L (limited st) = L st
Ends G L (stopped w st) = G st
