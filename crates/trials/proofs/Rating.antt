-- One pair's trial: in the slice and in the mesh, and what keeping it gives.
use mathlib.Core.Path.{◌≡◌, sym}
use mathlib.Core.Bool.{true, false}
use mathlib.Core.List.{List, [], ◌∷◌}
use Prim.Native.Nat.{ℕ, ◌≤◌, ◌<◌}
use native.Mathlib.Omega.{arith}
use lib.ListN.{take}
use lib.Seq.{take_all, take-nil}
use lib.Ieee.{Float}
use Rattle.definition.specs.Call.{first_points}
use Rattle.definition.specs.Cells.{Mesh, Quad, new_quad}
use Rattle.definition.specs.Lists.{insert, table, numbers, below}
use Rattle.definition.specs.Metrics.{Metrics, absent, passes, score}
use Rattle.definition.specs.Numbers.{Quality}
use Rattle.definition.specs.Trials.{Trial, rated, metrics_of, trial, trial_before}
use Rattle.plane.specs.Points.{node_of}
use Rattle.trials.specs.Kept.{Keeps, length_listed, listed, onto}
use Rattle.trials.specs.Ranked.{metrics_at, trial_at}

-- in a mesh whose points are the slice's first
pub trial_mesh : (y : Quality) (m : Mesh) (n : ℕ) (q : List Float) → m.points ≡ first_points n q → (a b c d : ℕ) → a < n → b < n → c < n → d < n
    → trial y m a b c d ≡ trial_at y q a b c d
unfolding trial trial_at metrics_of metrics_at new_quad
trial_mesh y m n q e a b c d ha hb hc hd = rw (node_of m n q e a ha, node_of m n q e b hb, node_of m n q e c hc, node_of m n q e d hd)

-- ---- the quad's metrics

module _ (y : Quality) (q : Quad) (k : Metrics) where
  pub rated_absent : k ≡ absent → rated y q k ≡ []
  unfolding rated passes
  rated_absent e = rw e

  pub rated_fails : passes y k ≡ false → rated y q k ≡ []
  unfolding rated
  rated_fails e = rw e

  pub rated_passes : (s : Float) → passes y k ≡ true → s ≡ score k → rated y q k ≡ record { score = s; nodes = q } ∷ []
  unfolding rated
  rated_passes s e f = rw (e, f)

-- ---- what is kept

-- none yet
pub kept_none : (s : List Float) (n : List ℕ) (pairs : ℕ) → Keeps s n pairs 0 (take pairs [])
unfolding listed below numbers table
kept_none s n pairs = record { few = omega arith; list = sym (take-nil pairs) }

module _ (s : List Float) (n : List ℕ) (pairs k : ℕ) where
  -- without a trial all stay
  pub kept_same : (xs : List Trial) → k ≤ pairs → xs ≡ [] → Keeps s n pairs k (take pairs (onto trial_before xs (listed s n k)))
  unfolding onto
  kept_same xs h e = record { few = h; list = rw e (sym (take_all pairs (listed s n k) (rw length_listed h))) }

  -- with one it is inserted
  pub kept_one : (x : Trial) (xs l : List Trial) → Keeps s n pairs k (take pairs (insert trial_before x l)) → xs ≡ x ∷ []
      → Keeps s n pairs k (take pairs (onto trial_before xs l))
  unfolding onto
  kept_one x xs l h e = rw e h
