-- Splits and quads are made only where there is room:
use Rattle.std.specs.Prelude.{◌≡◌, ◌+◌, ◌≤◌}
use Rattle.laws.specs.Kit.{ap, Bool, ℕ, arith, List, length}
use Rattle.definition.specs.Numbers.{Settings}
use Rattle.definition.specs.Plane.{Edge, Node}
use Rattle.definition.specs.Cells.{Tri, Mesh, with_live, noting, set_cell, push_cell}
use Rattle.definition.specs.Insertion.{with_point, split_triangle}
use Rattle.definition.specs.Front.{counting, new_mesh, start}
use Rattle.account.proofs.Flips.{flip_points, flip_used}
use Rattle.account.proofs.QuadKeeps.{replaced_points, replaced_used}
use Rattle.account.proofs.Steps.{split_count}
use Rattle.account.specs.Run.{Rule}
use Rattle.account.specs.Rooms.{Fits}

-- a split takes two slots
pub split_used : (m : Mesh) (id : ℕ) (t : Tri) (p : Node) → (split_triangle m id t p).used ≡ m.used + 2
unfolding split_triangle push_cell set_cell with_live noting with_point
split_used m id t p = omega arith

-- every state fits
pub fits_rule : (s : Settings) → Rule s (λ st es. Fits s st.mesh) (λ st es n m. Fits s m) (λ st. Fits s st.mesh)
unfolding counting
fits_rule s = record {
  opens = λ st es ok h f. h;
  begins = λ st es h. h;
  flips = λ st es n m m' e ok h i f. record { points = omega (arith, ap length (flip_points m e m' f), h.points); slots = omega (arith, flip_used m e m' f, h.slots) };
  splits = λ st es n m x t p ok h w. record { points = omega (arith, split_count m x.slot t p, w.point_left); slots = omega (arith, split_used m x.slot t p, w.slots_left) };
  refuses = λ st e es why n m h ok w. w;
  places = λ st e es n m q h w. record {
    points = omega (arith, ap (λ k. length k.points) w.after, ap length (replaced_points w.mesh q w.cells), w.before.1.points);
    slots = omega (arith, ap (λ k. k.used) w.after, replaced_used w.mesh q w.cells, w.slot_left);
  };
  ends = λ st e es n m h ok w. w;
  limits = λ st es h. h;
  empties = λ st h. h;
}

-- the start fits
pub start_fits : (s : Settings) (lk : Edge → Bool) (ts : List Tri) (ps : List Node) → length ps ≤ s.capacity → length ts ≤ s.slots → Fits s (start s lk ts ps).mesh
unfolding start new_mesh
start_fits s lk ts ps a b = record { points = a; slots = b }
