-- What is asked of exact geometry, and what follows: every point of a run lies within the limit,
-- and every quad is convex and counterclockwise, with no corner sharper than the set allows.
use Rattle.std.specs.Prelude.{◌≡◌, ◌<◌, ◌∷◌}
use Rattle.laws.specs.Kit.{refl, sym, ◌∙◌, ap, subst, inl, inr, Bool, true, false, ℕ, zero, suc, List, [], length, Float, binary64, of_bits, fits, le}
use Rattle.definition.specs.Floats.{◌≼◌, abs, f64, 0·0, 8·0}
use Rattle.definition.specs.Numbers.{Quality, Settings, base, insert_shares, tiny_length}
use Rattle.definition.specs.Plane.{Edge, Node, flat, point, point_strictly_inside, from_to, norm, dist, edge_length}
use Rattle.definition.specs.Metrics.{Corner, corners, quad_metrics, passes}
use Rattle.definition.specs.Cells.{Tri, Quad, tri, Mesh, node_at, quad_nodes}
use Rattle.definition.specs.Insertion.{holds, along}
use Rattle.definition.specs.Attempt.{inward_normal, target_of}
use Rattle.definition.specs.Front.{counting, Result, ran, new_mesh, start, result, run_front}
use Rattle.definition.specs.Call.{Asked, bad_size, good_quality, outside, most_coordinate}
use Rattle.definition.specs.Exact.{TurnsLeft, CosineUpTo, WideEnough}
use Rattle.definition.specs.Account.{All, ◌∈◌, quad_corners, measures, NamesPoint}
use Rattle.laws.specs.Lists.{In, all_from, all_at, in_either}
use Rattle.exact.specs.Limits.{Limit}
use Rattle.exact.specs.Theorems.{Within}
use Rattle.exact.proofs.Theorems.{within_finite}
use Rattle.account.specs.Rated.{Rated}
use Rattle.account.specs.Start.{Proper}
use Rattle.account.specs.Steps.{OnNormal}
use Rattle.account.specs.Run.{Rule}

-- proved of the floats elsewhere
pub record Geometry : Type 0 where
  -- a quad whose metrics pass a set is exactly convex and counterclockwise,
  -- and the exact cosine of each corner is at most the set's cosine plus 1e-9
  pub passing : (y : Quality) → Limit y.largest_cosine → (a b c d : Node) → Within a → Within b → Within c → Within d → passes y (quad_metrics a b c d) ≡ true
      → All TurnsLeft (corners a b c d) × All (CosineUpTo y.largest_cosine) (corners a b c d)
  -- the largest cosine of a set in its ranges is one that may be asked for
  pub limit : (y : Quality) → good_quality y ≡ true → fits binary64 y.largest_cosine ≡ true → Limit y.largest_cosine
  -- by the cosine of the standard set no corner is under 24.99 degrees
  pub wide : (t : Float) → t ≡ base.largest_cosine → (k : Corner) → CosineUpTo t k → WideEnough k
  -- a point on the normal of an edge a b, strictly inside a triangle t u v, is within the limit
  pub inside : (s : Settings) (asked : Asked) → s.size ≡ asked.size → bad_size asked ≡ false
      → (a b o t u v : Node) → Within a → Within b → Within o → Within t → Within u → Within v
      → (share : Float) → share ∈ insert_shares
      → (norm (from_to a b) ≼ tiny_length) ≡ false
      → (p : Node) → p ≡ along o (inward_normal (from_to a b) (norm (from_to a b))) (target_of s (dist b a)) share
      → point_strictly_inside t u v p ≡ true → Within p

-- ---- points within the limit
-- every point is within the limit
abbrev pub AllWithin : List Node → Type 0
AllWithin ps = (p : Node) → In p ps → Within p

-- ---- one quad
-- a quad that passed the set by points within the limit
pub record SoundQuad (y : Quality) (ps : List Node) (q : Quad) : Type 0 where
  pub names : All (NamesPoint ps) (quad_nodes q)
  pub passing : passes y (measures ps q) ≡ true
  pub convex : All TurnsLeft (quad_corners ps q)
  pub cosines : All (CosineUpTo y.largest_cosine) (quad_corners ps q)
  pub wide : y.largest_cosine ≡ base.largest_cosine → All WideEnough (quad_corners ps q)
