-- A flip keeps the components even: where none was odd, none is odd after it.
use mathlib.Core.Path.{◌≡◌, refl, sym, subst}
use mathlib.Core.Logic.{inl, inr}
use mathlib.Core.Bool.{Bool, true, false}
use mathlib.Core.List.{List}
use mathlib.Core.Option.{some}
use Prim.Native.Nat.{ℕ, ◌%◌, ◌≤◌, ◌<◌}
use native.Mathlib.Omega.{arith}
use lib.Dec.{eqb}
use lib.ListN.{get_or, set}
use borrow.Author.Tests.{eqb-true}
use Rattle.definition.specs.Lists.{any}
use Rattle.definition.specs.Plane.{Edge}
use Rattle.definition.specs.Cells.{Tri, Live, Mesh, key, owns, owners, has_edge, all_edges, tris_of}
use Rattle.definition.specs.Components.{component_sizes, odd_one}
use Rattle.definition.specs.Flips.{flip, flipped}
use Rattle.definition.specs.Account.{Even}
use Rattle.laws.specs.Bools.{which}
use Rattle.laws.specs.Lists.{In, all_at, in_filter, in_any, any_in}
use Rattle.laws.specs.Frames.{keeps_trans, keeps_set}
use Rattle.account.specs.Even.{AllEven}
use Rattle.account.specs.Classes.{AllDistinct}
use Rattle.account.proofs.Sizes.{sizes_even, even_sizes, none_odd}
use Rattle.account.proofs.Flips.{flip_made}
use Rattle.account.proofs.FlipKeeps.{flip_kept}
use Rattle.cells.specs.Layout.{even_at, mesh_end}
use Rattle.cells.specs.Rep.{NoneOdd, Rep}
use Rattle.cells.proofs.Edges.{key_up}
use Rattle.cells.proofs.Frames.{rep_even, even_noted}
use Rattle.meshes.specs.Changes.{Turns}
use Rattle.crossings.proofs.Sides.{edge_in}
use Rattle.meshes.proofs.Valid.{valid}
use Rattle.flips.specs.Nodes.{tri_read}
use Rattle.flips.specs.Flip.{CanTurn, IsFlip}

-- ---- no component is odd

even_none : (ts : List Tri) → AllDistinct ts → AllEven ts → odd_one ts ≡ false
unfolding odd_one
even_none ts d h = elim (which (any (λ n. eqb (n % 2) 1) (component_sizes ts))) [
  | inl e ↦
      let g = any_in (λ n. eqb (n % 2) 1) (component_sizes ts) e in
      let a : g.0 % 2 ≡ 1 = eqb-true (g.0 % 2) 1 g.2 in
      let b : g.0 % 2 ≡ 0 = all_at Even (component_sizes ts) (even_sizes ts d h) g.0 g.1 in
      absurd (omega arith)
  | inr e ↦ e
]

-- ---- a flip

module _ (m : Mesh) (u v : ℕ) (m' : Mesh) (up : u < v) (f : flip m (key u v) ≡ some m') where
  -- an edge that is flipped is one of the mesh
  there_is : has_edge m u v ≡ true
  unfolding has_edge owners
  there_is =
      let g = flip_made m (key u v) m' f in
      let o = in_filter (owns (key u v)) m.live (subst (λ (l : List Live). In g.x l) (sym g.owned) (inl refl)) in
      in_any (owns (key u v)) m.live (g.x, o.0, o.1)

  pub flipped_in : In (key u v) (all_edges m)
  flipped_in = subst (λ (e : Edge). In e (all_edges m)) (sym (key_up u v up)) (edge_in m u v up there_is)

  pub flip_none_odd : (w : List ℕ) (s p : ℕ) → Rep w s p m → NoneOdd m → NoneOdd m'
  flip_none_odd w s p r h =
      let ok = valid w s p m r in
      let k = flip_kept m (key u v) m' ok flipped_in (flip_made m (key u v) m' f) in
      let d : AllDistinct (tris_of m.live) = λ t i. (ok.tris t i).distinct in
      even_none (tris_of m'.live) (λ t i. (k.valid.tris t i).distinct) (k.even (sizes_even (tris_of m.live) d (none_odd (tris_of m.live) d h)))

-- ---- the note

module _ (w w1 : List ℕ) (s p u v i j x y : ℕ) where
  abbrev turned : Mesh → Mesh
  turned m = flipped m (u, v) i (tri_read w s i) j x y

  module _ (t : Turns w w1 s p (λ m. CanTurn m u v i j x y) turned) where
    -- nothing was noted
    pub turned_only : Turns w w1 s p (λ m. IsFlip w s m u v i j x y) turned
    turned_only = record { rep = λ m r k. t.rep m r k.can; keeps = t.keeps }

    -- what was noted is noted again
    pub turned_noted : (w2 : List ℕ) → 1 ≤ s → (b : Bool) → b ≡ eqb (get_or w (even_at s p) 0) 1 → b ≡ true → w2 ≡ set w1 (even_at s p) 1
        → Turns w w2 s p (λ m. IsFlip w s m u v i j x y) turned
    turned_noted w2 h b e g z =
        let k : Turns w (set w1 (even_at s p) 1) s p (λ m. IsFlip w s m u v i j x y) turned =
        record {
          rep = λ m r k.
              rep_even w1 s p 1 (turned m) h (λ q. flip_none_odd m u v (turned m) k.up k.is w s p r (even_noted w s p m b h e g r)) (t.rep m r k.can);
          keeps = keeps_trans w w1 (set w1 (even_at s p) 1) (mesh_end s p) t.keeps (keeps_set w1 (mesh_end s p) (even_at s p) 1 (omega arith));
        } in
        subst (λ (l : List ℕ). Turns w l s p (λ m. IsFlip w s m u v i j x y) turned) (sym z) k
