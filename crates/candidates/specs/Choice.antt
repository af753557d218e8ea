-- The side nodes for an end of a front edge, listed in lent memory.
use Rattle.std.specs.Prelude.{◌≡◌, Bool, true, ◌&&◌, ◌||◌, List, ℕ, ◌+◌, ◌<◌, ◌≤◌, length, get_or, take, drop, Float}
use Rattle.std.specs.Float.{binary64}
use Rattle.std.specs.Float.Ieee.{fits}
use Rattle.rings.specs.Rings.{Below}
use Rattle.definition.specs.Lists.{filter}
use Rattle.definition.specs.Floats.{◌⊗◌, ◌≺◌}
use Rattle.definition.specs.Numbers.{Quality, Turn, edge_high}
use Rattle.definition.specs.Root.{sqrt}
use Rattle.definition.specs.Plane.{Vec}
use Rattle.definition.specs.Cells.{Live, Mesh}
use Rattle.definition.specs.Candidates.{walls, side_candidate}
use Rattle.laws.specs.Lists.{Stored}
use Rattle.cells.specs.Layout.{marks_at, refused_at, near_at, stack_at}
use Rattle.live_regions.specs.Stack.{Lent}
use Rattle.side_candidates.specs.Hand.{InHand, fenced}
use Rattle.edge_candidates.specs.Wanted.{by_edge}
use Rattle.edge_candidates.specs.Wishes.{Wished}
use Rattle.edge_candidates.specs.declared.wishes.Wish.{Wish}
use Rattle.candidates.specs.Spans.{In, Spans}
use Rattle.candidates.specs.Words.{Told}
use Rattle.candidates.specs.declared.spans.Span.{Span}

-- what a search for the side nodes of a asks: the mesh in lent memory, nodes and a seed,
-- and p words from `at` on between the candidates' areas
pub record CanChoose (w : List ℕ) (q : List Float) (s p used n at a other seed : ℕ) (m : Mesh) : Type 0 where
  pub lent : Lent w q s p used m
  pub count : n ≡ length m.points
  pub first : a < n
  pub second : other < n
  pub apart : a ≡ other → ⊥
  pub seeded : seed < s
  pub from : near_at s p ≤ at
  pub to : at + p ≤ stack_at s p

-- nothing changed but marks, list, stack and the p words from `at` on
pub record Spare (w w' : List ℕ) (s p at : ℕ) : Type 0 where
  pub len : length w' ≡ length w
  pub mesh : (i : ℕ) → i < marks_at s p → get_or w' i 0 ≡ get_or w i 0
  pub before : (i : ℕ) → refused_at s p ≤ i → i < at → get_or w' i 0 ≡ get_or w i 0
  pub behind : (i : ℕ) → at + p ≤ i → i < stack_at s p → get_or w' i 0 ≡ get_or w i 0

-- the k nodes cs, all below n, stand from `at` on
pub record ChosenTo (w w' : List ℕ) (s p n at k : ℕ) (cs : List ℕ) : Type 0 where
  pub len : k ≡ length cs
  pub few : k ≤ n
  pub are : take k (drop at w') ≡ cs
  pub below : (i : ℕ) → i < k → get_or w' (at + i) 0 < n
  pub spare : Spare w w' s p at

-- ---- one node

-- a length beyond the reach of either kind of candidate
abbrev pub too_far : Quality → Float → Float → Bool
too_far y d target = (edge_high ⊗ target ≺ d) && (y.side_high ⊗ target ≺ d)

-- a length is too far where its square is beyond x
abbrev pub FarFrom : Quality → Float → Float → Type 0
FarFrom y x target = (z : Float) → fits binary64 z ≡ true → (x ≺ z) ≡ true → too_far y (sqrt z) target ≡ true

-- v is a side node for a, by an edge or from the region in hand
abbrev pub is_choice : Quality → Turn → Mesh → ℕ → ℕ → Vec → Float → List Live → ℕ → Bool
is_choice y t m a other n target region v = by_edge t m a other target v || side_candidate y m a other n target region (walls m region) v

-- ---- the scan

-- the region is in hand, what is wanted is listed from i on, and the nodes of the mesh are scanned
pub record CanScan (w : List ℕ) (q : List Float) (s p k n at a other i : ℕ) (o : Wish) (m : Mesh) (region : List Live) : Type 0 where
  pub hand : InHand w q s p k m region
  pub count : n ≡ length m.points
  pub first : a < n
  pub second : other < n
  pub from : near_at s p ≤ at
  pub to : at + p ≤ i
  pub wish : Wished w q s i o m a other

-- the region's triangles with a wall are in hand, and the words from `at` on tell of the nodes
-- of a span that has all side nodes
pub record CanPick (w : List ℕ) (q : List Float) (s p k at a other i : ℕ) (o : Wish) (g : Span) (m : Mesh) (region : List Live) : Type 0 where
  pub hand : InHand w q s p k m (filter (fenced m) region)
  pub end : a < length m.points
  pub from : near_at s p ≤ at
  pub to : at + p ≤ i
  pub wish : Wished w q s i o m a other
  pub spans : Spans m a region g
  pub told : (v : ℕ) → In g v → Told m a region v (get_or w (at + v) 0)

-- the r nodes cs stand from b on
pub record ScannedTo (w w' : List ℕ) (s p n b r : ℕ) (cs : List ℕ) : Type 0 where
  pub len : r ≡ length cs
  pub few : r ≤ n
  pub stored : Stored w' b cs
  pub known : Below n cs
  pub spare : Spare w w' s p b
