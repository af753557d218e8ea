-- The point that the definition tries for an insertion is within 40, and where a triangle holds it, within 8.
use Rattle.std.specs.Prelude.{◌≡◌, ◌&&◌, ◌||◌, ◌+◌, ◌*◌, ◌^◌, ◌<◌, ◌≤◌, ◌∷◌}
use Rattle.laws.specs.Kit.{refl, sym, ap, subst, inl, inr, Bool, true, false, cond, ℕ, arith, le_of_mul-le-mul_right, eqb, lit≤, T, List, Float, binary64, nan, fin, inf, down, up, of_bits, eq, lt, le, neg, mul}
use Rattle.std.proofs.Common.{le_trans, eqb→eq}
use Rattle.std.specs.Float.Ieee.Fits.{and_l, and_r, down_pos, neg-fits}
use Rattle.definition.specs.Floats.{◌≺◌, ◌≼◌, f64, 0·0, 1/64, 8·0, 1e-12, 0·3, 0·4, 0·5, 0·6, 0·7, 0·8, 0·9, 1·0}
use Rattle.definition.specs.Floats as floats
use Rattle.definition.specs.Numbers.{Settings, insert_shares, tiny_length}
use Rattle.definition.specs.Plane.{Node, Vec, flat, from_to}
use Rattle.definition.specs.Plane as plane
use Rattle.definition.specs.Insertion.{along}
use Rattle.definition.specs.Attempt.{target_of, inward_normal}
use Rattle.definition.specs.Account.{All, ◌∈◌}
use Rattle.definition.specs.Call.{Asked, bad_size, least_size, most_size}
use Rattle.laws.specs.Bools.{TOr}
use Rattle.exact.specs.Near.{Whole, Near, abs, ◌⊖◌, ◌⊙◌}
use Rattle.exact.proofs.Near.{abs_turned}
use Rattle.exact.specs.Values.{whole, sign, signed, mag, Ok}
use Rattle.exact.proofs.Values.{ok_finite}
use Rattle.exact.specs.Sums.{Number}
use Rattle.exact.proofs.Sums.{mag_cut, neg_whole}
use Rattle.exact.specs.Order.{◌⊏◌}
use Rattle.exact.proofs.Order.{not_le}
use Rattle.exact.proofs.Room.{room64}
use Rattle.exact.specs.Dot.{dot}
use Rattle.exact.proofs.Dot.{Comp, comp}
use Rattle.exact.specs.Corner.{norm}
use Rattle.exact.proofs.Corner.{Length}
use Rattle.exact.specs.Units.{wx, wy}
use Rattle.exact.proofs.Lengths.{length_root}
use Rattle.exact.specs.Points.{At, tiny_units}
use Rattle.exact.proofs.Points.{not-false, le_numbers, tiny_ok, tiny_is, cut_small}
use Rattle.exact.specs.Strict.{Doubles}
use Rattle.exact.proofs.Along.{long, span_most, unit, share, moved}
use Rattle.exact.specs.Inserted.{Size}

none : (a d X L : ℕ) → 0 < d → a * 1 ≡ 0 → X * d ≤ a * L → X ≤ 8 * L
none a d X L P h k = le_of_mul-le-mul_right (omega (arith, ap (λ (z : ℕ). z * L) h)) P

nothing : (a d : ℕ) → a ≡ 0 * 1 * d → a ≡ 0
nothing a d h = omega arith

not_minus : (a : ℕ) (b : Bool) → 0 < a → T (b && (false || eqb a 0)) → ⊥
not_minus a b P t = let e = eqb→eq a 0 (and_r b (eqb a 0) t) in omega arith

one_times : (a : ℕ) → 0 < a → 0 < 1 * 1 * a
one_times a h = omega arith

-- a size that the call accepts
pub size_of : (x : Float) → T (eq x 0·0 || least_size ≼ x && x ≼ most_size) → Size 8 x
unfolding ◌≼◌ eq le lt least_size most_size 0·0 1/64 8·0 f64 of_bits
size_of nan t = absurd t
size_of (inf false) t = absurd t
size_of (inf true) t = absurd t
size_of (fin s m e) t = elim (TOr (eq (fin s m e) 0·0) (least_size ≼ fin s m e && fin s m e ≼ most_size) t) [
  | inl z ↦ (tt, none (m * up e) (down e) (mag binary64 (fin s m e)) (2 ^ 1074) (down_pos e) (nothing (m * up e * 1) (down e) (eqb→eq (m * up e * 1) (0 * 1 * down e) (and_l (eqb (m * up e * 1) (0 * 1 * down e)) _ z))) (mag_cut binary64 (fin s m e)).0)
  | inr z ↦ go s (and_l (least_size ≼ fin s m e) (fin s m e ≼ most_size) z) (and_r (least_size ≼ fin s m e) (fin s m e ≼ most_size) z)
]
  where
    go : (s : Bool) → T (least_size ≼ fin s m e) → T (fin s m e ≼ most_size) → Size 8 (fin s m e)
    go false l h = (tt, cut_small (m * up e) (down e) (mag binary64 (fin false m e)) (2 ^ 1074) (down_pos e) (le_numbers (m * up e * 1) (8 * down e) h) (mag_cut binary64 (fin false m e)).0)
    go true l h = absurd (not_minus (1 * 1 * down e) (eqb (1 * 1 * down e) (m * up e * 2 ^ 6)) (one_times (down e) (down_pos e)) l)

-- the shares are from 0.3 to 1
shares_small : All (Size 1) insert_shares
unfolding insert_shares 0·3 0·4 0·5 0·6 0·7 0·8 0·9 1·0 f64 of_bits
shares_small = ((tt, lit≤ tt), ((tt, lit≤ tt), ((tt, lit≤ tt), ((tt, lit≤ tt), ((tt, lit≤ tt), ((tt, lit≤ tt), ((tt, lit≤ tt), ((tt, lit≤ tt), tt))))))))

pub from_all : {A : Type 0} (P : A → Type 0) (xs : List A) (x : A) → All P xs → x ∈ xs → P x
from_all {A = A} P mathlib.Core.List.[] x _ x5 = elim x5 [ ]
from_all P (y ∷ ys) x (p, ps) (inl e) = subst P (sym e) p
from_all P (y ∷ ys) x (p, ps) (inr m) = from_all P ys x ps m

pub share_small : (x : Float) → x ∈ insert_shares → Size 1 x
share_small x m = from_all (Size 1) insert_shares x shares_small m

-- ---- the normal
neg_ok : (x : Float) → Ok binary64 x → Ok binary64 (neg x)
unfolding neg
neg_ok (inf _) o = elim o [ ]
neg_ok nan o = elim o [ ]
neg_ok (fin s m e) o = neg-fits binary64 (fin s m e) o

abbrev Component : Float → Whole → Type 0
Component x z = Comp binary64 (2 ^ 1021) room64 x z

turned_near : (X z : Whole) (Q a b : ℕ) → b ≡ a → Near (X ⊙ Q) (z ⊙ Q) (a + 4 * Q) → Near ((X.1, X.0) ⊙ Q) ((z.1, z.0) ⊙ Q) (b + 4 * Q)
turned_near X z Q a b e h = omega arith

neg_component : (x : Float) (z : Whole) → Component x z → Component (neg x) (z.1, z.0)
neg_component x z c = (
  neg_ok x c.0,
  subst (λ (v : Whole). Near (v ⊙ 2 ^ 53) ((z.1, z.0) ⊙ 2 ^ 53) (abs (z.1, z.0) + 4 * 2 ^ 53)) (sym (neg_whole binary64 x (ok_finite binary64 x c.0))) (turned_near (whole binary64 x) z (2 ^ 53) (abs z) (abs (z.1, z.0)) (abs_turned z) c.1),
  subst (λ (a : ℕ). a ≤ 16 * 2 ^ 1074) (sym (abs_turned z)) c.2,
)

first_square : (a b : ℕ) → a * a ≤ a * a + b * b
first_square a b = omega arith

second_square : (a b : ℕ) → b * b ≤ a * a + b * b
second_square a b = omega arith

-- ---- the point
mag_most : (x : Float) (B : ℕ) → (whole binary64 x).1 ≡ 0 → (whole binary64 x).0 ≤ B → mag binary64 x ≤ B
unfolding whole
mag_most x B z h = go (sign x) z h
  where
    go : (s : Bool) → (signed s (mag binary64 x)).1 ≡ 0 → (signed s (mag binary64 x)).0 ≤ B → mag binary64 x ≤ B
    go false z h = h
    go true z h = omega arith

over_tiny : (w t : Whole) (T : ℕ) → t ≡ (T, 0) → w.1 ≡ 0 → t ⊏ w → T ≤ w.0
over_tiny w t T e z h = go (rw e at h)
  where
    go : (T, 0) ⊏ w → T ≤ w.0
    go h = omega arith

short : tiny_length ≡ 1e-12
unfolding tiny_length
short = refl

module _ (s : Settings) (size : Size 8 s.size) (a b : Node) (A : At 8 a) (B : At 8 b) (far : (plane.norm (from_to a b) ≼ tiny_length) ≡ false) where
  abbrev span : Float
  span = plane.norm (from_to a b)

  x_part : Component (from_to a b).dx (wx a b)
  unfolding from_to floats.◌⊖◌
  x_part = comp binary64 (2 ^ 1021) room64 b.x a.x B.0 A.0

  y_part : Component (from_to a b).dy (wy a b)
  unfolding from_to floats.◌⊖◌
  y_part = comp binary64 (2 ^ 1021) room64 b.y a.y B.1 A.1

  span_root : Length binary64 (2 ^ 1021) room64 span (norm (wx a b) (wy a b)) × (tiny_units ≤ (whole binary64 span).0)
  unfolding plane.norm dot floats.◌⊕◌ floats.◌⊗◌ ◌≼◌
  span_root =
      let dx = (from_to a b).dx in
      let dy = (from_to a b).dy in
      let r = length_root dx dy (wx a b) (wy a b) x_part y_part in
      let t = over_tiny (whole binary64 span) (whole binary64 1e-12) tiny_units tiny_is r.1 (not_le binary64 span 1e-12 r.0 tiny_ok (rw short at far)) in
      (long binary64 (2 ^ 1021) room64 dx dy span (wx a b) (wy a b) tiny_units x_part y_part r (lit≤ tt) t, t)

  abbrev normal : Vec
  normal = inward_normal (from_to a b) span

  big : 1000000 ≤ (whole binary64 span).0
  big = le_trans (lit≤ tt) span_root.1

  normal_x : Ok binary64 normal.dx × (4 * abs (whole binary64 normal.dx) ≤ 5 * 2 ^ 1074)
  unfolding inward_normal floats.◌⊘◌
  normal_x =
      let z = wy a b in
      let e = abs_turned z in
      unit binary64 (2 ^ 1021) room64 (neg (from_to a b).dy) span (z.1, z.0) (norm (wx a b) (wy a b)) (neg_component (from_to a b).dy z y_part)
      (subst (λ (k : ℕ). k * k ≤ norm (wx a b) (wy a b)) (sym e) (second_square (abs (wx a b)) (abs z))) span_root.0 big

  normal_y : Ok binary64 normal.dy × (4 * abs (whole binary64 normal.dy) ≤ 5 * 2 ^ 1074)
  unfolding inward_normal floats.◌⊘◌
  normal_y = unit binary64 (2 ^ 1021) room64 (from_to a b).dx span (wx a b) (norm (wx a b) (wy a b)) x_part (first_square (abs (wx a b)) (abs (wy a b))) span_root.0 big

  target_size : Size 23 (target_of s span)
  unfolding target_of
  target_size = go (tiny_length ≺ s.size)
    where
      more : (a L : ℕ) → a ≤ 8 * L → a ≤ 23 * L
      more a L h = omega arith

      go : (l : Bool) → Size 23 (cond l s.size span)
      go true = (size.0, more (mag binary64 s.size) (2 ^ 1074) size.1)
      go false =
          let l = span_root.0 in
          (ok_finite binary64 span l.0, mag_most span (23 * 2 ^ 1074) l.1 (span_most binary64 (2 ^ 1021) room64 span (wx a b) (wy a b) l x_part.2 y_part.2))

  -- the point tried, from o
  pub tried : (o : Node) (k : Float) → At 8 o → Size 1 k → Doubles (along o normal (target_of s span) k) × At 40 (along o normal (target_of s span) k)
  unfolding along flat floats.◌⊕◌ floats.◌⊗◌
  tried o k O K =
      let t = target_of s span in
      let m = share binary64 (2 ^ 1021) room64 k t K.0 target_size.0 K.1 target_size.1 in
      let x = moved binary64 (2 ^ 1021) room64 o.x (mul binary64 k t) normal.dx O.0 m.0 m.1 normal_x.0 normal_x.1 in
      let y = moved binary64 (2 ^ 1021) room64 o.y (mul binary64 k t) normal.dy O.1 m.0 m.1 normal_y.0 normal_y.1 in
      let p = along o normal t k in
      ((x.0, y.0), ((ok_finite binary64 p.x x.0, x.1), (ok_finite binary64 p.y y.0, y.1)))

pub size_asked : (q : Asked) → bad_size q ≡ false → Size 8 q.size
unfolding bad_size
size_asked q e = size_of q.size (not-false (eq q.size 0·0 || least_size ≼ q.size && q.size ≼ most_size) e)
