-- What a flip asks and gives.
use Rattle.std.specs.Prelude.{◌≡◌, Bool, true, false, List, [], ◌∷◌, ℕ, ◌<◌, length, get_or, Float}
use Rattle.std.proofs.Math.Option.{Option, none, some}
use Rattle.definition.specs.Cells.{Tri, tri, Mesh, new_live, key, owners}
use Rattle.definition.specs.Flips.{flip, flipped}
use Rattle.laws.specs.Frames.{Keeps}
use Rattle.cells.specs.Layout.{mesh_end}
use Rattle.cells.specs.Rep.{Rep, Pts}
use Rattle.joints.specs.Table.{Locks}
use Rattle.crossings.specs.Cross.{NoneBelow}
use Rattle.flips.specs.Nodes.{tri_read}
use Rattle.flips.specs.declared.flip.Turned.{Turned}
use Rattle.flips.specs.declared.flip.Turned.TheVariants.{Not, Short, Flipped}

-- both slots hold triangles
pub record Kinds (w : List ℕ) (i j : ℕ) : Type 0 where
  pub first : get_or w i 0 ≡ 3
  pub second : get_or w j 0 ≡ 3

-- the owners of u-v are two triangles, in slots i and j
pub record TwinsAt (m : Mesh) (u v i j : ℕ) : Type 0 where
  pub s : Tri
  pub t : Tri
  pub own : owners m (key u v) ≡ new_live i (tri s) ∷ new_live j (tri t) ∷ []

-- the slots i and j were given out, and u, v, x, y are four nodes
pub record CanTurn (m : Mesh) (u v i j x y : ℕ) : Type 0 where
  pub i_given : i < m.used
  pub j_given : j < m.used
  pub u_known : u < length m.points
  pub v_known : v < length m.points
  pub x_known : x < length m.points
  pub y_known : y < length m.points
  pub xy : x ≡ y → ⊥
  pub xu : x ≡ u → ⊥
  pub xv : x ≡ v → ⊥
  pub yu : y ≡ u → ⊥
  pub yv : y ≡ v → ⊥

-- the triangles in slots i and j, turned to the diagonal x-y, are what the flip of the edge u-v makes
pub record IsFlip (w : List ℕ) (s : ℕ) (m : Mesh) (u v i j x y : ℕ) : Type 0 where
  pub can : CanTurn m u v i j x y
  pub up : u < v
  pub is : flip m (key u v) ≡ some (flipped m (u, v) i (tri_read w s i) j x y)

-- the answer, with room for the entry or without, and the mesh that the memory stands for afterwards
abbrev pub FlipTo : List ℕ → ℕ → ℕ → Mesh → Option Mesh → Bool → Turned → Type 0
FlipTo w s p m none room r = (r ≡ Not) × Rep w s p m
FlipTo w s p m (some m') true r = (r ≡ Flipped) × Rep w s p m'
FlipTo w s p m (some m') false r = (r ≡ Short) × Rep w s p m

-- the edge u-v was flipped as the definition says, for each mesh that the memory stood for and whose locked edges are
-- the joints; beyond the mesh's own areas nothing changed
pub record Flips (w w' : List ℕ) (q : List Float) (j : List ℕ) (s p u v : ℕ) (room : Bool) (r : Turned) : Type 0 where
  pub is : (m : Mesh) → Rep w s p m → Pts q p m → Locks j m.locked → FlipTo w' s p m (flip m (key u v)) room r
  pub keeps : Keeps w w' (mesh_end s p)

-- where no crossing edge was below u, the flip of u-v leaves none below r
abbrev pub StaysBelow : Mesh → ℕ → ℕ → ℕ → Type 0
StaysBelow m u v r = (m' : Mesh) → flip m (key u v) ≡ some m' → (a b : ℕ) → NoneBelow m a b u → NoneBelow m' a b r
