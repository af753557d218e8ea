-- The two triangles of an edge, as they are found in the memory, and their third nodes.
use mathlib.Core.Path.{◌≡◌, ap, sym, ◌∙◌, subst}
use mathlib.Core.Bool.{Bool, true, false}
use mathlib.Core.List.{List}
use mathlib.Core.Option.{none}
use Prim.Native.Nat.{ℕ, ◌≤◌, ◌<◌}
use native.Mathlib.Omega.{arith}
use lib.ListN.{length}
use lib.Ieee.{Float}
use Rattle.definition.specs.Cells.{Tri, Mesh, key, is_locked}
use Rattle.definition.specs.Flips.{third, convex_pair, flip}
use Rattle.plane.specs.Points.{Within}
use Rattle.cells.specs.Rep.{Rep, Pts}
use Rattle.cells.specs.Walk.{CanSee}
use Rattle.cells.proofs.Slots.{rep_see}
use Rattle.crossings.specs.Nodes.{Four}
use Rattle.flips.specs.Nodes.{tri_read, Up}
use Rattle.flips.specs.Flip.{TwinsAt, IsFlip, StaysBelow}
use Rattle.flips.proofs.Flips.{Third, Twin, twin1, twin2, flip_flat, flip_turned, can_turn, convex_apart, within, four}
use Rattle.flips.proofs.Resumes.{stays_below}

module _ (w : List ℕ) (s p u v : ℕ) (m : Mesh) (r : Rep w s p m) (up : Up p u v) (i j : ℕ) (is : TwinsAt m u v i j) where
  pub one : Twin w s u v i m is.s
  one = twin1 w s p u v m r (λ e. omega (arith, up.up, e)) i j is

  pub two : Twin w s u v j m is.t
  two = twin2 w s p u v m r (λ e. omega (arith, up.up, e)) i j is

  pub see1 : CanSee w s i
  see1 = rep_see w s p m r i (omega (arith, one.given, r.used))

  pub see2 : CanSee w s j
  see2 = rep_see w s p m r j (omega (arith, two.given, r.used))

  module _ (x y : ℕ) (ex : x ≡ third (tri_read w s i) (u, v)) (ey : y ≡ third (tri_read w s j) (u, v)) where
    is1 : x ≡ third is.s (u, v)
    is1 = ex ∙ ap (λ (t : Tri). third t (u, v)) one.read

    is2 : y ≡ third is.t (u, v)
    is2 = ey ∙ ap (λ (t : Tri). third t (u, v)) two.read

    third1 : Third (length m.points) u v x
    third1 = subst (λ (z : ℕ). Third (length m.points) u v z) (sym is1) one.third

    third2 : Third (length m.points) u v y
    third2 = subst (λ (z : ℕ). Third (length m.points) u v z) (sym is2) two.third

    pub below : (k : ℕ) → k ≤ u → k ≤ x → k ≤ y → StaysBelow m u v k
    below k a b c = stays_below w s p m r u v up.up i j x y k is is1 is2 a b c

    module _ (q : List Float) (pts : Pts q p m) where
      pub four_within : Within q u × Within q v × Within q x × Within q y
      four_within =
          let f = third1 in
          let in_slice : (z : ℕ) → z < length m.points → Within q z = λ z h. within q p (length m.points) z h r.points pts.fits in
          (in_slice u f.u_known, in_slice v f.v_known, in_slice x f.x_known, in_slice y third2.x_known)

      pub four_nodes : Four q m u v x y
      four_nodes = let f = third1 in four q p m pts u v x y f.u_known f.v_known f.x_known third2.x_known

    -- a test said whether the pair is convex
    module _ (b : Bool) (e : b ≡ convex_pair m u v x y) where
      pub none_flat : b ≡ false → flip m (key u v) ≡ none
      none_flat h = flip_flat m u v i j up.up is x y is1 is2 b e h

      -- the turn is the flip
      pub is_flip : is_locked m (key u v) ≡ false → b ≡ true → IsFlip w s m u v i j x y
      is_flip l h =
          record {
            can = can_turn m u v i j x y one.given two.given third1 third2 (convex_apart m u v x y (sym e ∙ h));
            up = up.up;
            is = flip_turned m u v i j up.up is x y is1 is2 b e l h (tri_read w s i) one.read;
          }
