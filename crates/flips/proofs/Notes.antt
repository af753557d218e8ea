-- A noted event changes no point, and a flip notes its edge.
use mathlib.Core.Path.{◌≡◌, refl, ap, subst}
use mathlib.Core.List.{List}
use mathlib.Core.Option.{some}
use Prim.Native.Nat.{ℕ, ◌<◌}
use lib.Ieee.{Float}
use Rattle.definition.specs.Plane.{Edge}
use Rattle.definition.specs.Cells.{Event, was_flipped, Mesh, key, noting, set_cell, with_live}
use Rattle.definition.specs.Flips.{set_tris, flip}
use Rattle.account.proofs.Flips.{flip_made}
use Rattle.cells.specs.Rep.{Pts}
use Rattle.cells.proofs.Edges.{key_up}
use Rattle.cells.proofs.Points.{pts_as}
use Rattle.traces.specs.Log.{Notes}

pub pts_noting : (v : Event) (m : Mesh) (q : List Float) (p : ℕ) → Pts q p m → Pts q p (noting v m)
unfolding noting
pts_noting v m q p r = pts_as q p m (noting v m) refl r

-- a flip notes its edge
pub flip_notes : (m : Mesh) (e : Edge) (m' : Mesh) → flip m e ≡ some m' → Notes (was_flipped e) m m'
unfolding noting set_tris set_cell with_live
flip_notes m e m' f =
    let g = flip_made m e m' f in
    record { room = ap (λ (n : Mesh). n.room) g.after; history = ap (λ (n : Mesh). n.history) g.after }

-- the smaller node first
pub flip_notes_up : (m : Mesh) (a b : ℕ) (m' : Mesh) → a < b → flip m (key a b) ≡ some m' → Notes (was_flipped (a, b)) m m'
flip_notes_up m a b m' up f = subst (λ (e : Edge). Notes (was_flipped e) m m') (key_up a b up) (flip_notes m (key a b) m' f)
