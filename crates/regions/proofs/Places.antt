-- The listed cells removed one after the other: what `remove_cells` removes at once.
use Rattle.std.specs.Prelude.{◌≡◌, ◌+◌, ◌<◌, ◌≤◌, ◌∷◌}
use Rattle.laws.specs.Kit.{sym, ◌∙◌, ap, subst, ℕ, arith, List, [], map, get_or, drop}
use Rattle.definition.specs.Plane.{Edge}
use Rattle.definition.specs.Cells.{quad, Live, was_placed, Mesh, with_live, remove_cell, remove_cells, push_cell, new_live}
use Rattle.definition.specs.Attempt.{replaced}
use Rattle.laws.specs.Cells.{none_gone, one_by_one}
use Rattle.laws.specs.Frames.{Keeps, keeps_trans}
use Rattle.cells.specs.Layout.{mesh_end, list_at}
use Rattle.cells.specs.Rep.{Rep}
use Rattle.meshes.specs.Changes.{Turns, Anything, CanPush, quad_of_nodes, born_of_nodes}
use Rattle.cells.proofs.Slots.{rep_noting}
use Rattle.regions.specs.Listing.{Listed}
use Rattle.regions.specs.Fill.{Gone, Replaced}
use Rattle.regions.proofs.Visits.{tri_inside}
use Rattle.regions.proofs.Fills.{Item, item, items_end}

-- ---- one after the other

unfoldable pub removes : Mesh → List Live → Mesh
removes m [] = m
removes m (x ∷ xs) = removes (remove_cell m x.slot) xs

removes_all : (m : Mesh) (xs : List Live) → removes m xs ≡ remove_cells m xs
unfolding removes remove_cells remove_cell with_live
removes_all m [] = sym (ap (λ (l : List Live). with_live m m.used l) (none_gone m.live))
removes_all m (x ∷ xs) = removes_all (remove_cell m x.slot) xs ∙ ap (λ (l : List Live). with_live m m.used l) (one_by_one x xs m.live)

-- ---- the loop: the cells of the first i places are gone

pub record Removing (w : List ℕ) (s p i : ℕ) (m : Mesh) (xs : List Live) : Type 0 where
  pub now : Mesh
  pub rep : Rep w s p now
  pub rest : removes now (drop i xs) ≡ remove_cells m xs

pub remove_start : (w : List ℕ) (s p n : ℕ) (m : Mesh) (xs : List Live) → Listed w s p n m xs → Removing w s p 0 m xs
remove_start w s p n m xs h = record { now = m; rep = h.rep; rest = removes_all m xs }

module _ (w₀ w : List ℕ) (s p n i : ℕ) (m : Mesh) (xs : List Live) (h : Listed w₀ s p n m xs) (k : Keeps w₀ w (mesh_end s p)) (g : Removing w s p i m xs) where
  pub remove_end : n ≤ i → Rep w s p (remove_cells m xs)
  unfolding removes
  remove_end l = subst (λ (v : Mesh). Rep w s p v) (sym (ap (removes g.now) (items_end w₀ s p n i m xs h l)) ∙ g.rest) g.rep

  module _ (l : i < n) (j : ℕ) (e : j ≡ get_or w (list_at s p + i) 0) where
    here : Item m xs i j
    here = item w₀ s p n i m xs h l j (e ∙ k.high (list_at s p + i) (omega arith))

    pub removed_inside : j < s
    removed_inside = tri_inside w₀ s p m h.rep j here.tri

    pub remove_more : (w' : List ℕ) → Turns w w' s p Anything (λ m. remove_cell m j) → Removing w' s p (i + 1) m xs
    unfolding removes new_live
    remove_more w' t =
        record {
          now = remove_cell g.now j;
          rep = t.rep g.now g.rep tt;
          rest = sym (ap (removes g.now) here.is) ∙ g.rest;
        }

-- ---- the quad

module _ (w w1 w2 : List ℕ) (s p i n a b c d : ℕ) (g : Gone w w1 s p n remove_cells)
    (t : (e : Edge) (round gone : ℕ) → Turns w1 w2 s p (λ m. CanPush m s i (quad_of_nodes a b c d)) (λ m. push_cell m (quad (born_of_nodes e round gone a b c d)))) where
  pub replacing : Replaced w w2 s p i n a b c d
  unfolding replaced remove_cells with_live
  replacing =
      record {
        rep = λ m xs e round gone h k.
            let q = born_of_nodes e round gone a b c d in
            rep_noting (was_placed q (map (λ x. x.slot) xs)) (push_cell (remove_cells m xs) (quad q)) w2 s p
            ((t e round gone).rep (remove_cells m xs) (g.rep m xs h) (record { next = k.next; free = k.free; shape = k.shape }));
        keeps = keeps_trans w w1 w2 (mesh_end s p) g.keeps (t (0, 0) 0 0).keeps;
      }

pub can_push : (m : Mesh) (xs : List Live) (s i a b c d : ℕ) → CanPush m s i (quad_of_nodes a b c d) → CanPush (remove_cells m xs) s i (quad_of_nodes a b c d)
unfolding remove_cells with_live
can_push m xs s i a b c d k = record { next = k.next; free = k.free; shape = k.shape }
