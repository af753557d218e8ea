-- What was noted of the components is forgotten before a cell comes or goes.
use Rattle.std.specs.Prelude.{◌≡◌, ◌≤◌}
use Rattle.laws.specs.Kit.{sym, ◌∙◌, ap, subst, ℕ, arith, List, length, get_or, set}
use Rattle.definition.specs.Cells.{Mesh}
use Rattle.laws.specs.Frames.{on, Keeps, keeps_set}
use Rattle.cells.specs.Layout.{even_at, mesh_end}
use Rattle.cells.specs.Rep.{Room, Uneven, Rep}
use Rattle.cells.proofs.Frames.{rep_even}

module _ (w w' : List ℕ) (s p : ℕ) (h : 1 ≤ s) (e : w' ≡ set w (even_at s p) 0) where
  -- the memory stands for the same mesh
  pub forgotten_rep : (m : Mesh) → Rep w s p m → Rep w' s p m
  forgotten_rep m r = subst (λ (z : List ℕ). Rep z s p m) (sym e) (rep_even w s p 0 m h (λ q. absurd (omega (arith, q))) r)

  pub forgotten_none : Room w s p → Uneven w' s p
  forgotten_none r = ap (λ (z : List ℕ). get_or z (even_at s p) 0) e ∙ on w (even_at s p) 0 (omega (arith, r.fits, h))

  pub forgotten_keeps : Keeps w w' (mesh_end s p)
  forgotten_keeps = subst (λ (z : List ℕ). Keeps w z (mesh_end s p)) (sym e) (keeps_set w (mesh_end s p) (even_at s p) 0 (omega (arith, h)))

  pub forgotten_length : length w' ≡ length w
  forgotten_length = forgotten_keeps.len
