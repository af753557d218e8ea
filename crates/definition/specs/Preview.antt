-- What a front edge would give: one attempt on a copy of the starting mesh.
use Rattle.std.specs.Prelude.{not, ◌&&◌, cond, ℕ, eqb}
use Rattle.std.proofs.Math.Option.{none, some}
use Rattle.definition.specs.Lists.{find}
use Rattle.definition.specs.Floats.{0·0}
use Rattle.definition.specs.Numbers.{Settings}
use Rattle.definition.specs.Counts.{Refusal, Spent, nothing_spent, number}
use Rattle.definition.specs.Plane.{Edge}
use Rattle.definition.specs.Cells.{Quad, Mesh, key, is_front}
use Rattle.definition.specs.Attempt.{Attempt, placed, refused, ended, try_quad}
use Rattle.definition.specs.Front.{new_mesh}
use Rattle.definition.specs.Call.{Asked, Lent, given_points, given_tris, given_locks, all_of, conditions, settings}

-- what it would cost: insertions and flips
pub record Cost : Type 0 where
  pub insertions : ℕ
  pub flips : ℕ

-- not on the front, at no cost; the quad, in round 1; what the attempt is refused under; or a refusal's number
pub data Shown : Type 0 where
  off_front : Cost → Shown
  shown_quad : Quad → Cost → Shown
  shown_kind : Refusal → Cost → Shown
  shown_refusal : ℕ → Shown

-- the cost of the attempt
unfoldable pub cost : Spent → Cost
cost n = record { insertions = n.insertions; flips = n.flips }

-- what is shown, as the attempt ends
unfoldable pub shown : Attempt → Shown
shown (placed n m q) = shown_quad q (cost n)
shown (refused why n m) = shown_kind why (cost n)
shown (ended w n m) = shown_refusal (number w)

-- the attempt on an edge of the mesh, if it is on the front; otherwise nothing is inserted and nothing flipped
unfoldable pub show_edge : Settings → Mesh → Edge → Shown
show_edge s m e = let tried = shown (try_quad s m e) in cond (not (eqb e.0 e.1) && is_front m e) tried (off_front (cost nothing_spent))

-- the slices with both work slices cleared, all else as it was
unfoldable pub cleared : Lent → Lent
cleared l =
    record {
      points = l.points;
      triangles = l.triangles;
      joints = l.joints;
      quads = l.quads;
      triangles_out = l.triangles_out;
      components = l.components;
      work = all_of 0 l.work;
      float_work = all_of 0·0 l.float_work;
      trace = l.trace;
    }

-- what is shown, and the contents of the slices at exit
pub record Previewed : Type 0 where
  pub shown : Shown
  pub lent : Lent

-- the inputs of a run, and the edge between u and v
unfoldable pub preview : Asked → Lent → ℕ → ℕ → Previewed
preview a l u v =
    let s = settings a in
    elim (find (λ c. c.1) (conditions a l)) [
      | none ↦ record { shown = show_edge s (new_mesh s (given_locks a l) (given_tris a l) (given_points a l)) (key u v); lent = cleared l }
      | some c ↦ record { shown = shown_refusal c.0; lent = l }
    ]
