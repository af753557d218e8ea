-- A distance by its square: the root keeps the order.
use mathlib.Core.Path.{◌≡◌, refl, ap, sym, ◌∙◌}
use mathlib.Core.Bool.{Bool, true, false, not, false≢true}
use lib.Ieee.{Float, nan, inf, fin, binary64, fits, lt}
use lib.Ieee.Fits.{add-fits}
use Rattle.definition.specs.Floats.{◌≺◌, ◌⊕◌, ◌⊗◌}
use Rattle.definition.specs.Root.{sqrt}
use Rattle.definition.specs.Plane.{Vec, Node, norm, from_to, dist}
use Rattle.laws.specs.Bools.{of_T}
use Rattle.rounding.proofs.RootOrder.{root_beyond, root_within}
use Rattle.live_regions.specs.Squares.{square, WithinReach, BeyondReach}

pub norm_root : (d : Vec) → norm d ≡ sqrt (square d)
unfolding norm
norm_root d = refl

pub square_fits : (d : Vec) → fits binary64 (square d) ≡ true
unfolding ◌⊕◌
square_fits d = of_T (fits binary64 (square d)) (add-fits binary64 (d.dx ⊗ d.dx) (d.dy ⊗ d.dy))

-- ---- the two squares

pub near_of : (r : Float) (d : Vec) → (r ≺ norm d) ≡ false → WithinReach r (square d)
near_of r d k z f l = root_within r (square d) z (square_fits d) f (sym (ap (λ (x : Float). r ≺ x) (norm_root d)) ∙ k) l

pub far_of : (r : Float) (d : Vec) → (r ≺ norm d) ≡ true → BeyondReach r (square d)
far_of r d k z f l = root_beyond r (square d) z (square_fits d) f (sym (ap (λ (x : Float). r ≺ x) (norm_root d)) ∙ k) l

-- nothing is below minus infinity
pub near_none : (r : Float) → WithinReach r (inf true)
unfolding ◌≺◌ lt
near_none r nan f l = absurd (false≢true l)
near_none r (inf true) f l = absurd (false≢true l)
near_none r (inf false) f l = absurd (false≢true l)
near_none r (fin s m e) f l = absurd (false≢true l)

-- nor beyond infinity
pub far_none : (r : Float) → BeyondReach r (inf false)
unfolding ◌≺◌ lt
far_none r nan f l = absurd (false≢true l)
far_none r (inf s) f l = absurd (false≢true l)
far_none r (fin s m e) f l = absurd (false≢true l)

-- ---- a distance

-- o is the point that the distance is measured from
module _ (r : Float) (p o : Node) (d : Vec) (e : d ≡ from_to o p) where
  dist_root : dist p o ≡ sqrt (square d)
  unfolding dist
  dist_root = ap norm (sym e) ∙ norm_root d

  pub dist_is : (b : Bool) → (r ≺ sqrt (square d)) ≡ b → not b ≡ not (r ≺ dist p o)
  dist_is b k = ap not (sym k ∙ ap (λ (x : Float). r ≺ x) (sym dist_root))
