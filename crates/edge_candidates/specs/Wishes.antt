-- What is wanted at an end, listed in lent memory: nodes that give an ideal from b on, at most two a slot,
-- and the ideals of the first of them behind, at most one a slot.
use Rattle.std.specs.Prelude.{◌≡◌, ◌||◌, ◌+◌, ◌*◌, ◌^◌, ◌<◌, ◌≤◌, Option, Some, is_some}
use Rattle.laws.specs.Kit.{Bool, true, false, cond, ℕ, List, length, get_or, set, Float}
use Rattle.definition.specs.Floats.{◌≼◌}
use Rattle.definition.specs.Numbers.{tiny_length}
use Rattle.definition.specs.Plane.{Vec, norm, over, from_to}
use Rattle.definition.specs.Cells.{Mesh}
use Rattle.definition.specs.Call.{point_at}
use Rattle.definition.specs.Candidates.{toward, plus}
use Rattle.cells.specs.Layout.{mesh_end}
use Rattle.cells.specs.Rep.{Rep, Pts}
use Rattle.cells.specs.Walk.{one_if}
use Rattle.plane.specs.Points.{Within}
use Rattle.plane.specs.Vectors.{vec}
use Rattle.edge_candidates.specs.Words.{Numbers, vec_at}
use Rattle.edge_candidates.specs.Wanted.{near, gives, At}
use Rattle.edge_candidates.specs.declared.wishes.Wish.{Wish}
use Rattle.plane.specs.declared.vectors.Vec as direction
use Rattle.edge_candidates.specs.declared.wishes.Found.{Found}

-- ---- one ideal

-- the direction halfway between the unit u and that of d
unfoldable pub between : Vec → Vec → Vec
between u d =
    let h = plus u (over d (norm d)) in
    over h (norm h)

-- the ideal by the mesh, and by the points as they are read
abbrev pub ideal : Mesh → ℕ → Vec → ℕ → Vec
ideal m a u v = between u (toward m a v)

abbrev pub ideal_from : List Float → ℕ → Vec → ℕ → Vec
ideal_from q a u v = between u (from_to (point_at q a) (point_at q v))

-- whether the edge from a to v gives an ideal, and which
pub record GivenBy (q : List Float) (m : Mesh) (a other : ℕ) (u : Vec) (v : ℕ) (r : Option direction.Vec) : Type 0 where
  pub yes : is_some r ≡ gives m a other u v
  pub is : (x : direction.Vec) → r ≡ Some x → vec x ≡ ideal_from q a u v

-- ---- lists of nodes

-- what a node more at the end of r asks
pub record CanAdd (w : List ℕ) (b r v : ℕ) : Type 0 where
  pub fits : b + r < length w
  pub small : v < 2 ^ 32

-- v stands behind the r nodes from b on, if it counts
pub record AddedTo (w w' : List ℕ) (b r v : ℕ) (yes : Bool) (k : ℕ) : Type 0 where
  pub text : w' ≡ cond yes (set w (b + r) v) w
  pub count : k ≡ r + one_if yes
  pub most : k ≤ r + 1

-- nothing changed but the p words from b on
pub record Besides (w w' : List ℕ) (b p : ℕ) : Type 0 where
  pub len : length w' ≡ length w
  pub before : (i : ℕ) → i < b → get_or w' i 0 ≡ get_or w i 0
  pub behind : (i : ℕ) → b + p ≤ i → get_or w' i 0 ≡ get_or w i 0

-- v is one of the r nodes from b on
pub record Place (w : List ℕ) (b r v : ℕ) : Type 0 where
  pub i : ℕ
  pub inside : i < r
  pub is : get_or w (b + i) 0 ≡ v

-- the r nodes from b on are those that give an ideal
pub record Listed (w : List ℕ) (b r : ℕ) (m : Mesh) (a other : ℕ) (u : Vec) : Type 0 where
  pub known : (i : ℕ) → i < r → get_or w (b + i) 0 < length m.points
  pub each : (i : ℕ) → i < r → gives m a other u (get_or w (b + i) 0) ≡ true
  pub all : (v : ℕ) → gives m a other u v ≡ true → Place w b r v

-- what listing them asks: the mesh in lent memory, and six words a slot from b on behind it
pub record CanList (w : List ℕ) (q : List Float) (s p a other b : ℕ) (m : Mesh) : Type 0 where
  pub rep : Rep w s p m
  pub pts : Pts q p m
  pub ends : At m a other
  pub from : mesh_end s p ≤ b
  pub to : b + 6 * s ≤ length w

-- ---- ideals kept

-- those of the first k nodes are kept
pub record Kept (w : List ℕ) (q : List Float) (s a : ℕ) (u : Vec) (b k : ℕ) : Type 0 where
  pub few : k ≤ s
  pub numbers : (i : ℕ) → i < k → Numbers w (b + 2 * s + 4 * i)
  pub each : (i : ℕ) → i < k → vec_at w (b + 2 * s + 4 * i) ≡ ideal_from q a u (get_or w (b + i) 0)

-- r nodes from b on can be read with a
pub record CanTest (w : List ℕ) (q : List Float) (a b r : ℕ) : Type 0 where
  pub fits : b + r ≤ length w
  pub node : Within q a
  pub nodes : (i : ℕ) → i < r → Within q (get_or w (b + i) 0)

-- k ideals from b on can be read
pub record CanGet (w : List ℕ) (b k : ℕ) : Type 0 where
  pub fits : b + 4 * k ≤ length w
  pub numbers : (i : ℕ) → i < k → Numbers w (b + 4 * i)

-- what keeping the ideal of node i asks, where k are kept
pub record CanKeep (w : List ℕ) (s b i k : ℕ) : Type 0 where
  pub some : k ≤ i
  pub few : k ≤ s
  pub to : b + 6 * s ≤ length w

-- r are kept, if x is the ideal of node i
pub record KeepTo (w w' : List ℕ) (s b i k : ℕ) (x : Vec) (r : ℕ) : Type 0 where
  pub some : r ≤ i + 1
  pub besides : Besides w w' (b + 2 * s) (4 * s)
  pub kept : (q : List Float) (a : ℕ) (u : Vec) → Kept w q s a u b k → x ≡ ideal_from q a u (get_or w (b + i) 0) → Kept w' q s a u b r

-- ---- one node

-- what listing the node v asks
pub record CanNode (w : List ℕ) (q : List Float) (s p a other b : ℕ) (m : Mesh) (u : Vec) (g : Found) (v : ℕ) : Type 0 where
  pub list : CanList w q s p a other b m
  pub end : v < length m.points
  pub room : g.count < 2 * s
  pub some : g.kept ≤ g.count
  pub kept : Kept w q s a u b g.kept

-- v stands behind the nodes found, if its edge gives an ideal
pub record NodeTo (w w' : List ℕ) (q : List Float) (s a other b : ℕ) (m : Mesh) (u : Vec) (g : Found) (v : ℕ) (h : Found) : Type 0 where
  pub besides : Besides w w' b (6 * s)
  pub same : (i : ℕ) → i < g.count → get_or w' (b + i) 0 ≡ get_or w (b + i) 0
  pub count : h.count ≡ g.count + one_if (gives m a other u v)
  pub new : gives m a other u v ≡ true → get_or w' (b + g.count) 0 ≡ v
  pub some : h.kept ≤ h.count
  pub kept : Kept w' q s a u b h.kept

-- all are listed, and ideals of the first of them are kept
pub record ListedTo (w w' : List ℕ) (q : List Float) (s b : ℕ) (g : Found) (m : Mesh) (a other : ℕ) (u : Vec) : Type 0 where
  pub listed : Listed w' b g.count m a other u
  pub few : g.count ≤ 2 * s
  pub some : g.kept ≤ g.count
  pub kept : Kept w' q s a u b g.kept
  pub besides : Besides w w' b (6 * s)

-- ---- the wish

pub record Wished (w : List ℕ) (q : List Float) (s b : ℕ) (o : Wish) (m : Mesh) (a other : ℕ) : Type 0 where
  pub ends : At m a other
  pub near : o.near ≡ (norm (toward m a other) ≼ tiny_length)
  pub unit : vec o.unit ≡ over (toward m a other) (norm (toward m a other))
  pub to : b + 6 * s ≤ length w
  pub few : o.count ≤ 2 * s
  pub some : o.kept ≤ o.count
  pub listed : Listed w b o.count m a other (vec o.unit)
  pub kept : Kept w q s a (vec o.unit) b o.kept

pub record WishedTo (w w' : List ℕ) (q : List Float) (s b : ℕ) (o : Wish) (m : Mesh) (a other : ℕ) : Type 0 where
  pub wished : Wished w' q s b o m a other
  pub besides : Besides w w' b (6 * s)

-- ---- a test of each

-- the kept ideal i is near e
abbrev pub kept_test : List ℕ → ℕ → Vec → ℕ → Bool
kept_test w b e i = near e (vec_at w (b + 4 * i))

-- one of the four at `at` is
unfoldable pub four_test : List ℕ → ℕ → Vec → Bool
four_test w at e = (near e (vec_at w at) || near e (vec_at w (at + 4))) || (near e (vec_at w (at + 8)) || near e (vec_at w (at + 12)))

-- that of node i is
abbrev pub node_test : List ℕ → List Float → ℕ → Vec → ℕ → Vec → ℕ → Bool
node_test w q a u b e i = near e (ideal_from q a u (get_or w (b + i) 0))

-- one that passes
pub record Hit (f : ℕ → Bool) (k r : ℕ) : Type 0 where
  pub i : ℕ
  pub from : k ≤ i
  pub to : i < r
  pub is : f i ≡ true

-- whether one from k to r passes
pub record Tested (f : ℕ → Bool) (k r : ℕ) (y : Bool) : Type 0 where
  pub hit : y ≡ true → Hit f k r
  pub miss : y ≡ false → (i : ℕ) → k ≤ i → i < r → f i ≡ false
