-- The numbers that decide what a run does: those that may be set, in a record of which the standard set is `base`;
-- the module's constants; and what the caller asks for and lends.
use Rattle.std.specs.Prelude.{Bool, List, [], ◌∷◌, ℕ, ◌+◌, ◌*◌, Float}
use Rattle.definition.specs.Floats.{0·2, 0·25, 0·3, 0·4, 0·5, 0·6, 0·7, 0·8, 0·866, 0·9, 0·90630778703665, 1·0, 1·5, 2·2, 2·5, 3·0, 1e-12, 1e-9}

-- ---- the quality set

-- the quality set: what an office may set
pub record Quality : Type 0 where
  -- a quad passes with a scaled Jacobian of at least the first and a largest cosine of at most the second
  pub least_jacobian : Float
  pub largest_cosine : Float
  -- the distance of a side node, in targets
  pub side_low : Float
  pub side_high : Float
  -- how many pairs are tried
  pub pairs : ℕ

-- the standard set
unfoldable pub base : Quality
base = record { least_jacobian = 0·3; largest_cosine = 0·90630778703665; side_low = 0·5; side_high = 2·2; pairs = 8 }

-- ---- the constants

-- a side node: its way along the normal, in targets, and its way across, as a multiple of its way along
unfoldable pub side_along : Float
side_along = 0·25

unfoldable pub side_across : Float
side_across = 2·5

-- side nodes are looked for within side_high and this many targets more
unfoldable pub side_margin : Float
side_margin = 0·8

-- an edge candidate: its length in targets, its least dot product with an ideal
unfoldable pub edge_low : Float
edge_low = 0·4

unfoldable pub edge_high : Float
edge_high = 2·5

unfoldable pub edge_dot : Float
edge_dot = 0·866

-- the least sum of units that gives an ideal
unfoldable pub ideal_sum : Float
ideal_sum = 0·2

-- a quarter turn
pub data Turn : Type 0 where
  leftward : Turn
  rightward : Turn

-- With no ideal from other front edges: how the direction to the other end is turned at the first end of the edge,
-- and at the second.
-- The triangle lies on the left from the first to the second, so both look into it.
unfoldable pub first_turn : Turn
first_turn = leftward

unfoldable pub second_turn : Turn
second_turn = rightward

-- an edge shorter or longer than these many targets is off its target
unfoldable pub mismatch_low : Float
mismatch_low = 0·5

unfoldable pub mismatch_high : Float
mismatch_high = 1·5

-- insertion: the shares of the target in their order; the least distance to a node and the reach of the search,
-- in buckets
unfoldable pub insert_shares : List Float
insert_shares = 1·0 ∷ 0·9 ∷ 0·8 ∷ 0·7 ∷ 0·6 ∷ 0·5 ∷ 0·4 ∷ 0·3 ∷ []

unfoldable pub node_spacing : Float
node_spacing = 0·25

unfoldable pub insert_reach : Float
insert_reach = 3·0

-- a cross product or twice an area counts as zero up to this
unfoldable pub tiny_cross : Float
tiny_cross = 1e-12

-- a length counts as zero up to this
unfoldable pub tiny_length : Float
tiny_length = 1e-12

-- a region's area may be off by this times the greater of the quad's area and 1
unfoldable pub area_slack : Float
area_slack = 1e-9

-- a size up to this is none, and the bucket is then 1.0
unfoldable pub tiny_size : Float
tiny_size = 1e-9

-- the most attempts, and the most live triangles, for so many given triangles
unfoldable pub max_attempts : ℕ → ℕ
max_attempts given = 200 * given + 10000

unfoldable pub max_triangles : ℕ → ℕ
max_triangles given = 4 * given + 100

-- ---- the settings of a run

-- what a run is given beside the mesh: the quality set, the most attempts, point capacity, slots,
-- the words of the lent trace (0 where none is lent), target size, and whether the stop rule is the even one
pub record Settings : Type 0 where
  pub quality : Quality
  pub attempts : ℕ
  pub capacity : ℕ
  pub slots : ℕ
  pub room : ℕ
  pub size : Float
  pub even : Bool
