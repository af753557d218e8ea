-- How many attempts a run has made: while it goes on, and where it ends at the limit.
use Rattle.std.specs.Prelude.{◌≡◌, ◌⊎◌, ◌+◌, ◌<◌, ◌≤◌}
use Rattle.laws.specs.Kit.{ℕ}
use Rattle.definition.specs.Numbers.{max_triangles}
use Rattle.definition.specs.Counts.{Counts}
use Rattle.definition.specs.Cells.{live_tris}
use Rattle.definition.specs.Front.{State}

-- ---- a state that goes on, and one that a limit ended
-- at most so many attempts, and no limit
pub record Going (most : ℕ) (st : State) : Type 0 where
  pub made : st.counts.attempts ≤ most
  pub no_limit : st.counts.limit ≡ 0

-- A limit ended the run: the attempt that it stopped is counted.
-- It is the limit on attempts, or, with no more attempts than theirs, that on live triangles.
pub record Limited (most given : ℕ) (st : State) : Type 0 where
  pub counted : st.counts.attempts ≤ most + 1
  pub limit : st.counts.limit ≡ 1
  pub which_one : (st.counts.attempts ≡ most + 1) ⊎ ((st.counts.attempts ≤ most) × (max_triangles given < live_tris st.mesh))
