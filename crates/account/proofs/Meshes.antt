-- The meshes within an attempt: what the steps that change a mesh keep, in the words that the proofs of the code use.
use Rattle.std.specs.Prelude.{◌≡◌}
use Rattle.laws.specs.Kit.{refl, ◌∙◌, some, ℕ, List}
use Rattle.definition.specs.Plane.{Node, Edge}
use Rattle.definition.specs.Cells.{Tri, tri, Live, Mesh, all_edges}
use Rattle.definition.specs.Flips.{flip, recover}
use Rattle.definition.specs.Insertion.{split_triangle}
use Rattle.definition.specs.Attempt.{recover_all}
use Rattle.laws.specs.Lists.{In}
use Rattle.account.specs.Flips.{TriAt}
use Rattle.account.proofs.Flips.{flip_made, flip_points, flip_used, flip_tri_at}
use Rattle.account.specs.Valid.{Valid}
use Rattle.account.proofs.FlipKeeps.{flip_kept}
use Rattle.account.proofs.SplitKeeps.{split_kept}
use Rattle.account.proofs.Steps.{recover_ok, recover_all_ok}
use Rattle.account.specs.Meshes.{Turned}

-- a flip, a split and a quad keep a mesh valid
pub flip_valid : (m m' : Mesh) (e : Edge) → Valid m → In e (all_edges m) → flip m e ≡ some m' → Valid m'
flip_valid m m' e ok i f = (flip_kept m e m' ok i (flip_made m e m' f)).valid

pub split_valid : (m : Mesh) (x : Live) (t : Tri) (p : Node) → Valid m → In x m.live → x.cell ≡ tri t → Valid (split_triangle m x.slot t p)
split_valid m x t p ok at cell = (split_kept m x t p ok at cell).valid

turned_flips : (m : Mesh) (n : ℕ) (a b : Mesh) (e : Edge) → Turned m a → In e (all_edges a) → flip a e ≡ some b → Turned m b
turned_flips m n a b e w i f = record {
  valid = flip_valid a b e w.valid i f;
  points = flip_points a e b f ∙ w.points;
  used = flip_used a e b f ∙ w.used;
  tris = λ id h. flip_tri_at a e b id f (w.tris id h);
}

unturned : (m : Mesh) → Valid m → Turned m m
unturned m ok = record { valid = ok; points = refl; used = refl; tris = λ id h. h }

-- recovery is flips alone
pub recover_turned : (m : Mesh) (u v : ℕ) → Valid m → Turned m (recover m u v).mesh
recover_turned m u v ok = recover_ok (λ n a. Turned m a) (turned_flips m) 0 m u v (unturned m ok)

pub recover_all_turned : (m : Mesh) (es : List Edge) → Valid m → Turned m (recover_all m es).mesh
recover_all_turned m es ok = recover_all_ok (λ n a. Turned m a) (turned_flips m) 0 m es (unturned m ok)
