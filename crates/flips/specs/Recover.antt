-- What the recovery of an edge gives.
use Rattle.std.specs.Prelude.{◌≡◌, true, false, List, ℕ, ◌*◌, ◌≤◌, Float}
use Rattle.std.proofs.Math.Option.{none, some}
use Rattle.definition.specs.Cells.{Mesh}
use Rattle.definition.specs.Trace.{in_room}
use Rattle.definition.specs.Flips as defined
use Rattle.definition.specs.Flips.{first_crossing, flip_first, recover}
use Rattle.flips.specs.declared.recover.Flipping.{Flipping}
use Rattle.flips.specs.declared.recover.Recovered.{Recovered}
use Rattle.laws.specs.Frames.{Keeps}
use Rattle.cells.specs.Layout.{mesh_end}
use Rattle.joints.specs.Table.{Locks}
use Rattle.traces.specs.Log.{Logged}
use Rattle.crossings.specs.Cross.{Known, NoneBelow}

-- both slices stand for the mesh afterwards, and the trace has its words
pub record Stands (w : List ℕ) (q : List Float) (base t : List ℕ) (s p n : ℕ) (bucket : Float) (at : ℕ) (m : Mesh) : Type 0 where
  pub known : Known w q s p n bucket m
  pub log : Logged base t at m

-- no edge that crosses u-v was flipped; there is one, but its entry does not fit; or it was flipped
pub data FlipOnceTo (w : List ℕ) (q : List Float) (base t : List ℕ) (s p n : ℕ) (bucket : Float) (u v : ℕ) (m : Mesh) (r : Flipping) : Type 0 where
  stuck : flip_first m (first_crossing m u v) ≡ none → r.made ≡ false → r.short ≡ false → Stands w q base t s p n bucket r.at m
      → FlipOnceTo w q base t s p n bucket u v m r
  short : (m' : Mesh) → flip_first m (first_crossing m u v) ≡ some m' → in_room m' ≡ false → r.made ≡ false → r.short ≡ true → Stands w q base t s p n bucket r.at m
      → FlipOnceTo w q base t s p n bucket u v m r
  made : (m' : Mesh) → flip_first m (first_crossing m u v) ≡ some m' → in_room m' ≡ true → r.made ≡ true → Stands w q base t s p n bucket r.at m'
      → NoneBelow m' u v r.from → FlipOnceTo w q base t s p n bucket u v m r

-- so for each mesh that the memory stood for and in which no edge below `from` crosses;
-- beyond the mesh's own areas nothing changed
pub record FlipsOnce (w w' : List ℕ) (q : List Float) (j t t' : List ℕ) (s p n : ℕ) (bucket : Float) (at u v from : ℕ) (r : Flipping) : Type 0 where
  pub is : (base : List ℕ) (m : Mesh) → Known w q s p n bucket m → Locks j m.locked → Logged base t at m → NoneBelow m u v from → FlipOnceTo w' q base t' s p n bucket u v m r
  pub few : r.from ≤ n
  pub keeps : Keeps w w' (mesh_end s p)

-- the answer, the flips, no more than slots were given out for each edge, and the mesh afterwards,
-- which has as many points and slots and whose words the trace has
pub record RecoverTo (w : List ℕ) (q : List Float) (base t : List ℕ) (s p n used edges : ℕ) (bucket : Float) (x : defined.Recovered) (r : Recovered) : Type 0 where
  pub there : r.there ≡ x.there
  pub short : r.short ≡ x.short
  pub flips : r.flips ≡ x.flips
  pub few : x.flips ≤ edges * used
  pub known : Known w q s p n bucket x.mesh
  pub same : x.mesh.used ≡ used
  pub log : Logged base t r.at x.mesh

-- the edge u-v was recovered as the definition says; beyond the mesh's own areas nothing changed
pub record Recovers (w w' : List ℕ) (q : List Float) (j t t' : List ℕ) (s p n used : ℕ) (bucket : Float) (at u v : ℕ) (r : Recovered) : Type 0 where
  pub is : (base : List ℕ) (m : Mesh) → Known w q s p n bucket m → m.used ≡ used → Locks j m.locked → Logged base t at m
      → RecoverTo w' q base t' s p n used 1 bucket (recover m u v) r
  pub keeps : Keeps w w' (mesh_end s p)
