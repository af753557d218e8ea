-- The corners of a quad, one after the other: the first that is none of the points, and the metrics where all are.
use Rattle.std.specs.Prelude.{◌≡◌, ◌+◌, ◌*◌, ◌<◌, ◌≤◌}
use Rattle.laws.specs.Kit.{true, ℕ, leb, lt-leb, le-leb, List, get_or, Float}
use Rattle.definition.specs.Lists.{any}
use Rattle.definition.specs.Metrics.{quad_metrics}
use Rattle.definition.specs.Cells.{quad_nodes}
use Rattle.definition.specs.Call.{point_at, quad_at, first_points}
use Rattle.definition.specs.Account.{measures}
use Rattle.laws.specs.Cells.{point_of}
use Rattle.laws.specs.Bools.{or-false}
use Rattle.sheet.specs.Promise.{Corners}
use Rattle.sheet.specs.Refusals.{unknown_in}

module _ (n : ℕ) (qs : List ℕ) (i : ℕ) where
  pub at_first : n ≤ get_or qs (8 * i) 0 → true ≡ unknown_in n qs i
  unfolding unknown_in any quad_nodes quad_at
  at_first h = rw (le-leb _ _ h)

  pub at_second : get_or qs (8 * i) 0 < n → n ≤ get_or qs (8 * i + 1) 0 → true ≡ unknown_in n qs i
  unfolding unknown_in any quad_nodes quad_at
  at_second h k = rw (lt-leb _ _ h, le-leb _ _ k)

  pub at_third : get_or qs (8 * i) 0 < n → get_or qs (8 * i + 1) 0 < n → n ≤ get_or qs (8 * i + 2) 0 → true ≡ unknown_in n qs i
  unfolding unknown_in any quad_nodes quad_at
  at_third h k l = rw (lt-leb _ _ h, lt-leb _ _ k, le-leb _ _ l)

  pub at_fourth : get_or qs (8 * i) 0 < n → get_or qs (8 * i + 1) 0 < n → get_or qs (8 * i + 2) 0 < n → leb n (get_or qs (8 * i + 3) 0) ≡ unknown_in n qs i
  unfolding unknown_in any quad_nodes quad_at
  at_fourth h k l = rw (lt-leb _ _ h, lt-leb _ _ k, lt-leb _ _ l) (or-false _)

  -- all four are among the first n points
  pub measures_at : (ps : List Float) → Corners n qs i
      → quad_metrics (point_at ps (get_or qs (8 * i) 0)) (point_at ps (get_or qs (8 * i + 1) 0)) (point_at ps (get_or qs (8 * i + 2) 0)) (point_at ps (get_or qs (8 * i + 3) 0))
      ≡ measures (first_points n ps) (quad_at qs i)
  unfolding measures quad_at
  measures_at ps h = rw (point_of n ps _ h.c0, point_of n ps _ h.c1, point_of n ps _ h.c2, point_of n ps _ h.c3)
