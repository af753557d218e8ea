-- Births: the leftover triangles are the given ones and two for each insertion, less those that the quads replaced.
use Rattle.std.specs.Prelude.{◌≡◌, ◌+◌, ◌*◌, ◌∷◌, ◌++◌}
use Rattle.laws.specs.Kit.{sym, ap, subst, Bool, ℕ, arith, List, [], map, length}
use Rattle.definition.specs.Numbers.{Settings}
use Rattle.definition.specs.Counts.{Counts, tally, ◌⊞◌, no_counts, emptied, one_attempt, spending, at_limit}
use Rattle.definition.specs.Plane.{Node, Edge}
use Rattle.definition.specs.Cells.{Tri, Quad, Mesh, live_tris, tris_of, triangles}
use Rattle.definition.specs.Account.{sum}
use Rattle.definition.specs.Attempt.{replaced}
use Rattle.definition.specs.Front.{counting, Result, ran, start, result, run_front}
use Rattle.account.specs.Start.{Proper}
use Rattle.account.specs.Run.{Rule}

-- the triangles that the quads replaced
unfoldable pub all_replaced : List Quad → ℕ
all_replaced qs = sum (map (λ q. q.replaced) qs)

-- the live triangles, with n insertions since the counts
abbrev pub Balanced : ℕ → Counts → Mesh → List Quad → ℕ → Type 0
Balanced given c m qs n = live_tris m + all_replaced qs ≡ given + 2 * (c.mismatch_insertions + n)
