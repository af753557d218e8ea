-- The walk over edges, loops and rounds where every mesh on the way is valid and every edge tried has its smaller
-- node
-- first; how want of lent memory ended the run is told.
use Rattle.std.specs.Prelude.{◌≡◌, ◌⊎◌, ◌<◌, ◌∷◌}
use Rattle.laws.specs.Kit.{refl, inl, inr, ℕ, zero, suc, List, []}
use Rattle.definition.specs.Numbers.{Settings}
use Rattle.definition.specs.Counts.{emptied, Want}
use Rattle.definition.specs.Plane.{Edge}
use Rattle.definition.specs.Cells.{front}
use Rattle.definition.specs.Loops.{front_loops}
use Rattle.definition.specs.Front.{State, Progress, stuck, progressed, limited, stopped, counting, attempt, try_edges, open_edges, try_loops, round, front_loop}
use Rattle.laws.specs.Lists.{In}
use Rattle.account.specs.Valid.{Valid}
use Rattle.account.proofs.Fronts.{front_in}
use Rattle.account.specs.Run.{Rule, ProgressOk, Ordered}
use Rattle.account.proofs.Run.{loops_ordered, open_front, attempt_ok}

-- G of a state that goes on, L of one that a limit ended, W of one that a want of lent memory ended
abbrev pub Leads : (State → Type 0) → (State → Type 0) → (Want → State → Type 0) → Progress → Type 0
Leads G L W (stuck st) = G st
Leads G L W (progressed st) = G st
Leads G L W (limited st) = L st
Leads G L W (stopped w st) = W w st

-- at the end of the rounds, which make no difference of a limit
abbrev pub Closes : (State → Type 0) → (State → Type 0) → (Want → State → Type 0) → Progress → Type 0
Closes G L W (stuck st) = G st ⊎ L st
Closes G L W (progressed st) = G st
Closes G L W (limited st) = L st
Closes G L W (stopped w st) = W w st
