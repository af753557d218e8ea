-- The definition's units of a float are its `whole`:
use Rattle.laws.specs.Kit.{refl, Bool, true, false, not, cond, ℕ, zero, suc, arith, ltb, T, ℤ, pos, negsuc, Float, binary64, nan, fin, inf, down, up}
use Rattle.std.specs.Prelude.{neg_ℤ, nat_abs, ◌+ℤ◌, ◌-ℤ◌, ◌*ℤ◌, ◌≡◌, ◌-◌, ◌*◌, ◌/◌, ◌^◌, ◌<◌, ◌≤◌}
use Rattle.std.proofs.Math.IntN.{sub_ℕ}
use Rattle.std.proofs.Common.{ltb→lt, nltb→le}
use Rattle.definition.specs.Plane.{Node}
use Rattle.definition.specs.Exact as ex
use Rattle.definition.specs.Exact.{units, arrow, exact_cross, exact_dot, squared_length, AboveZero}
use Rattle.exact.specs.Near.{Whole, Near, ◌⊕◌, ◌⊖◌, ◌⊗◌}
use Rattle.exact.proofs.Near.{near_same, same_times}
use Rattle.exact.specs.Values.{whole, signed}
use Rattle.exact.specs.Dot.{dotW}
use Rattle.exact.specs.Corner.{norm}
use Rattle.exact.proofs.Corner.{norm_is}
use Rattle.exact.specs.Units.{W, ofℤ, wx, wy}

neg_is : (k : ℕ) → Near (ofℤ (neg_ℤ (pos k))) (0, k) 0
neg_is zero = omega arith
neg_is (suc k) = omega arith

swap_is : (b : ℤ) → Near (ofℤ (neg_ℤ b)) ((ofℤ b).1, (ofℤ b).0) 0
swap_is (pos k) = neg_is k
swap_is (negsuc k) = omega arith

sub_is : (a b : ℕ) → Near (ofℤ (sub_ℕ a b)) (a, b) 0
sub_is a b = go (ltb a b) (ltb→lt a b) (nltb→le a b)
  where
    go : (l : Bool) → (T l → a < b) → (T (not l) → b ≤ a) → Near (ofℤ (cond l (negsuc (b - suc a)) (pos (a - b)))) (a, b) 0
    go true h k = omega (arith, h tt)
    go false h k = omega (arith, k tt)

add_is : (a b : ℤ) → Near (ofℤ (a +ℤ b)) (ofℤ a ⊕ ofℤ b) 0
add_is (pos a) (pos b) = omega arith
add_is (pos a) (negsuc b) = omega (arith, sub_is a (suc b))
add_is (negsuc a) (pos b) = omega (arith, sub_is b (suc a))
add_is (negsuc a) (negsuc b) = omega arith

minus_is : (a b : ℤ) → Near (ofℤ (a -ℤ b)) (ofℤ a ⊖ ofℤ b) 0
minus_is a b = omega (arith, add_is a (neg_ℤ b), swap_is b)

times_is : (a b : ℤ) → Near (ofℤ (a *ℤ b)) (ofℤ a ⊗ ofℤ b) 0
times_is (pos a) (pos b) = omega arith
times_is (pos a) (negsuc b) = omega (arith, neg_is (a * suc b))
times_is (negsuc a) (pos b) = omega (arith, neg_is (suc a * b))
times_is (negsuc a) (negsuc b) = omega arith

pub add_same : (a b : ℤ) (X Y : Whole) → Near (ofℤ a) X 0 → Near (ofℤ b) Y 0 → Near (ofℤ (a +ℤ b)) (X ⊕ Y) 0
add_same a b X Y h k = omega (arith, add_is a b)

sub_same : (a b : ℤ) (X Y : Whole) → Near (ofℤ a) X 0 → Near (ofℤ b) Y 0 → Near (ofℤ (a -ℤ b)) (X ⊖ Y) 0
sub_same a b X Y h k = omega (arith, minus_is a b)

pub mul_same : (a b : ℤ) (X Y : Whole) → Near (ofℤ a) X 0 → Near (ofℤ b) Y 0 → Near (ofℤ (a *ℤ b)) (X ⊗ Y) 0
mul_same a b X Y h k = near_same (ofℤ (a *ℤ b)) (ofℤ a ⊗ ofℤ b) (X ⊗ Y) 0 (times_is a b) (same_times (ofℤ a) X (ofℤ b) Y h k)

-- ---- the definition's units
signed_is : (s : Bool) (n : ℕ) → Near (ofℤ (ex.signed s n)) (signed s n) 0
unfolding ex.signed
signed_is false n = omega arith
signed_is true n = neg_is n

pub units_is : (x : Float) → Near (ofℤ (units x)) (whole binary64 x) 0
unfolding units whole
units_is nan = omega arith
units_is (inf false) = omega arith
units_is (inf true) = omega arith
units_is (fin s m e) = signed_is s (m * up e * 2 ^ 1074 / down e)

arrow_x : (p q : Node) → Near (ofℤ (arrow p q).ax) (wx p q) 0
unfolding arrow
arrow_x p q = sub_same (units q.x) (units p.x) (W q.x) (W p.x) (units_is q.x) (units_is p.x)

arrow_y : (p q : Node) → Near (ofℤ (arrow p q).ay) (wy p q) 0
unfolding arrow
arrow_y p q = sub_same (units q.y) (units p.y) (W q.y) (W p.y) (units_is q.y) (units_is p.y)

-- the cross product of the vectors from p to q and from r to s
pub cross_is : (p q r s : Node) → Near (ofℤ (exact_cross (arrow p q) (arrow r s))) (wx p q ⊗ wy r s ⊖ wy p q ⊗ wx r s) 0
unfolding exact_cross
cross_is p q r s =
    sub_same ((arrow p q).ax *ℤ (arrow r s).ay) ((arrow p q).ay *ℤ (arrow r s).ax) (wx p q ⊗ wy r s) (wy p q ⊗ wx r s)
    (mul_same (arrow p q).ax (arrow r s).ay (wx p q) (wy r s) (arrow_x p q) (arrow_y r s)) (mul_same (arrow p q).ay (arrow r s).ax (wy p q) (wx r s) (arrow_y p q) (arrow_x r s))

-- their dot product
pub dot_is : (p q r s : Node) → Near (ofℤ (exact_dot (arrow p q) (arrow r s))) (dotW (wx p q) (wy p q) (wx r s) (wy r s)) 0
unfolding exact_dot
dot_is p q r s =
    add_same ((arrow p q).ax *ℤ (arrow r s).ax) ((arrow p q).ay *ℤ (arrow r s).ay) (wx p q ⊗ wx r s) (wy p q ⊗ wy r s)
    (mul_same (arrow p q).ax (arrow r s).ax (wx p q) (wx r s) (arrow_x p q) (arrow_x r s)) (mul_same (arrow p q).ay (arrow r s).ay (wy p q) (wy r s) (arrow_y p q) (arrow_y r s))

abs_of : (z : ℤ) (n : ℕ) → Near (ofℤ z) (n, 0) 0 → nat_abs z ≡ n
abs_of (pos k) n h = omega arith
abs_of (negsuc k) n h = absurd (omega arith)

pub length_is : (p q : Node) → squared_length (arrow p q) ≡ norm (wx p q) (wy p q)
unfolding squared_length
length_is p q = abs_of (exact_dot (arrow p q) (arrow p q)) (norm (wx p q) (wy p q)) (near_same (ofℤ (exact_dot (arrow p q) (arrow p q))) (dotW (wx p q) (wy p q) (wx p q) (wy p q)) (norm (wx p q) (wy p q), 0) 0 (dot_is p q p q) (norm_is (wx p q) (wy p q)))

-- ---- above zero
pub above_zero : (z : ℤ) (C : Whole) → Near (ofℤ z) C 0 → C.1 < C.0 → AboveZero z
above_zero (pos zero) C h k = absurd (omega arith)
above_zero (pos (suc n)) C h k = (n, refl)
above_zero (negsuc n) C h k = absurd (omega arith)
