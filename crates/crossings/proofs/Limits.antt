-- Limits of a segment: beyond them no edge overlaps it in bucket range,
-- so a node that lies there with its neighbours has no edge that crosses.
use Rattle.std.specs.Prelude.{◌≡◌, ◌&&◌}
use Rattle.laws.specs.Kit.{refl, sym, ◌∙◌, subst, inl, inr, Bool, true, false, not, false≢true, ℕ, arith, T, Float, binary64, nan, of_bits, lt, le, div}
use lib.Ieee.{is_nan}
use Rattle.definition.specs.Floats.{◌⊘◌, ◌≺◌, ◌≼◌, 0·0, f64}
use Rattle.definition.specs.Root.{floor}
use Rattle.definition.specs.Plane.{Node, segments_cross}
use Rattle.definition.specs.Cells.{Mesh, node_at, touches}
use Rattle.definition.specs.Flips.{bucket_key, overlaps, is_crossing}
use Rattle.rounding.proofs.Order.{real_right}
use Rattle.rounding.proofs.Keys.{key_not_above, apart_low, apart_high}
use Rattle.crossings.specs.Cross.{axis_meets, Meets, LeastAt}
use Rattle.crossings.specs.Limits.{InOrder, Before, After, IsLimits}
use Rattle.crossings.specs.Boxes.{Away, to_left, to_right, below, above}
use Rattle.crossings.specs.declared.buckets.Limits.{Limits}

-- ---- one coordinate

pub in_order : (bucket x y kx ky : Float) → lt 0·0 bucket ≡ true → kx ≡ floor (x ⊘ bucket) → ky ≡ floor (y ⊘ bucket) → lt kx ky ≡ true → InOrder bucket x y
unfolding ◌≺◌
in_order bucket x y kx ky h ex ey l = record { wide = h; before = rw (← ex, ← ey) l }

-- nothing compares to a NaN
not_real : (c : Float) → (c ≼ nan) ≡ true → ⊥
unfolding ◌≼◌ is_nan
not_real c h = real_right c nan (subst T (sym h) tt)

not_real_left : (c : Float) → (nan ≼ c) ≡ true → ⊥
unfolding ◌≼◌ le lt
not_real_left c h = false≢true h

nan_is : div binary64 0·0 0·0 ≡ nan
unfolding div 0·0 f64 of_bits
nan_is = refl

module _ (bucket x y : Float) where
  pub before_nan : Before bucket x y (div binary64 0·0 0·0)
  before_nan = rw nan_is (record { apart = λ c d h k. absurd (not_real c h) })

  pub after_nan : After bucket x y (div binary64 0·0 0·0)
  after_nan = rw nan_is (record { apart = λ c d h k. absurd (not_real_left c h) })

  pub before_is : (t : Float) → InOrder bucket t x → InOrder bucket t y → Before bucket x y t
  unfolding axis_meets
  before_is t hx hy =
      record {
        apart = λ c d h k. apart_low (floor (t ⊘ bucket)) (floor (x ⊘ bucket)) (floor (y ⊘ bucket)) (floor (c ⊘ bucket)) (floor (d ⊘ bucket)) hx.before hy.before
            (key_not_above bucket c t hx.wide h) (key_not_above bucket d t hx.wide k);
      }

  pub after_is : (t : Float) → InOrder bucket x t → InOrder bucket y t → After bucket x y t
  unfolding axis_meets
  after_is t hx hy =
      record {
        apart = λ c d h k. apart_high (floor (t ⊘ bucket)) (floor (x ⊘ bucket)) (floor (y ⊘ bucket)) (floor (c ⊘ bucket)) (floor (d ⊘ bucket)) hx.before hy.before
            (key_not_above bucket t c hx.wide h) (key_not_above bucket t d hx.wide k);
      }

-- ---- a node that lies beyond

off_left : (a b : Bool) → a ≡ false → (a && b) ≡ false
off_left a b h = rw h

off_right : (a b : Bool) → b ≡ false → (a && b) ≡ false
off_right true b h = h
off_right false b h = refl

last_not : (a b c : Bool) → (a && b && c && false) ≡ false
last_not true true true = refl
last_not true true false = refl
last_not true false c = refl
last_not false b c = refl

module _ (bucket : Float) (m : Mesh) (e : m.bucket ≡ bucket) (u v a b : ℕ) where
  no_columns : axis_meets bucket (node_at m u).x (node_at m v).x (node_at m a).x (node_at m b).x ≡ false
      → overlaps m (node_at m u) (node_at m v) (node_at m a) (node_at m b) ≡ false
  unfolding overlaps bucket_key axis_meets
  no_columns h =
      off_left _ _ (subst (λ (t : Float). axis_meets t (node_at m u).x (node_at m v).x (node_at m a).x (node_at m b).x ≡ false) (sym e) h)

  no_rows : axis_meets bucket (node_at m u).y (node_at m v).y (node_at m a).y (node_at m b).y ≡ false
      → overlaps m (node_at m u) (node_at m v) (node_at m a) (node_at m b) ≡ false
  unfolding overlaps bucket_key axis_meets
  no_rows h =
      off_right (axis_meets m.bucket (node_at m u).x (node_at m v).x (node_at m a).x (node_at m b).x) _
      (subst (λ (t : Float). axis_meets t (node_at m u).y (node_at m v).y (node_at m a).y (node_at m b).y ≡ false) (sym e) h)

  no_cross : overlaps m (node_at m u) (node_at m v) (node_at m a) (node_at m b) ≡ false → is_crossing m u v (a, b) ≡ true → ⊥
  unfolding is_crossing
  no_cross h k =
      let z : is_crossing m u v (a, b) ≡ false = rw h (last_not (not (touches (a, b) u)) (not (touches (a, b) v)) (segments_cross (node_at m u) (node_at m v) (node_at m a) (node_at m b))) in
      false≢true (sym z ∙ k)

  no_edge : (l : Limits) → IsLimits bucket (node_at m u) (node_at m v) l → Away m a l → Meets m u v a b → ⊥
  no_edge l i (to_left f) g = no_cross (no_columns (i.left.apart (node_at m a).x (node_at m b).x (f a (inl refl)) (f b (inr g.edge)))) g.crosses
  no_edge l i (to_right f) g = no_cross (no_columns (i.right.apart (node_at m a).x (node_at m b).x (f a (inl refl)) (f b (inr g.edge)))) g.crosses
  no_edge l i (below f) g = no_cross (no_rows (i.low.apart (node_at m a).y (node_at m b).y (f a (inl refl)) (f b (inr g.edge)))) g.crosses
  no_edge l i (above f) g = no_cross (no_rows (i.high.apart (node_at m a).y (node_at m b).y (f a (inl refl)) (f b (inr g.edge)))) g.crosses

-- it has no edge that crosses
pub least_away : (bucket : Float) (m : Mesh) → m.bucket ≡ bucket → (n u v a : ℕ) (s t : Node) → node_at m u ≡ s → node_at m v ≡ t → (l : Limits) → IsLimits bucket s t l → Away m a l
    → LeastAt m n u v a n
least_away bucket m e n u v a s t es et l i h =
    record {
      most = omega arith;
      meets = λ z. absurd (omega (arith, z));
      least = λ b g. absurd (no_edge bucket m e u v a b l (rw (es, et) i) h g);
    }
