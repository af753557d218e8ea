-- The square of a difference is that of the difference the other way round:
-- the two differ in the sign alone, or are one zero.
use Rattle.std.specs.Prelude.{◌≡◌, ◌&&◌, ◌+◌, ◌-◌, ◌*◌, ◌<◌}
use Rattle.laws.specs.Kit.{refl, sym, ◌∙◌, ap, Bool, true, false, not, cond, ℕ, zero, suc, arith, ltb, le-ltb, ltb-true, ltb-false, Float, nan, fin, inf, down, up, round, neg, add, sub, mul}
use native.Mathlib.Nat.{mul_comm}
use lib.Ieee.{Format, odd, units, sum}
use Rattle.definition.specs.Floats.{◌⊖◌, ◌⊗◌}
use Rattle.definition.specs.Plane.{Node, norm, from_to, dist}

-- ---- a rounded number with the other sign

neg_odd : (d : ℕ) (s : Bool) (q k l : ℕ) → neg (odd d s q k l) ≡ odd d (not s) q k l
unfolding neg odd
neg_odd d s zero k l = refl
neg_odd d s (suc q) k l = refl

neg_cond : (b : Bool) (x y : Float) → neg (cond b x y) ≡ cond b (neg x) (neg y)
neg_cond true x y = refl
neg_cond false x y = refl

neg_units : (f : Format) (s : Bool) (q k : ℕ) → neg (units f s q k) ≡ units f (not s) q k
unfolding units neg
neg_units f s q k = rw (neg_cond, neg_odd)

neg_round : (f : Format) (s : Bool) (n d : ℕ) → neg (round f s n d) ≡ round f (not s) n d
unfolding round
neg_round f s n d = neg_units f s _ _

-- ---- squares

abbrev square : Format → Float → Float
square f x = mul f x x

square_neg : (f : Format) (x : Float) → square f (neg x) ≡ square f x
unfolding mul neg
square_neg f nan = refl
square_neg f (inf true) = refl
square_neg f (inf false) = refl
square_neg f (fin true m e) = refl
square_neg f (fin false m e) = refl

turned : (f : Format) (s : Bool) (n d : ℕ) → square f (round f s n d) ≡ square f (round f (not s) n d)
turned f s n d = sym (square_neg f (round f s n d)) ∙ ap (square f) (neg_round f s n d)

square_round : (f : Format) (s t : Bool) (n d : ℕ) → square f (round f s n d) ≡ square f (round f t n d)
square_round f true true n d = refl
square_round f true false n d = turned f true n d
square_round f false true n d = turned f false n d
square_round f false false n d = refl

-- ---- differences

-- a / c less b / c, both of the sign s
abbrev gap : Format → Bool → ℕ → ℕ → ℕ → Float
gap f s a b c = cond (ltb a b) (round f (not s) (b - a) c) (round f (s && ltb b a) (a - b) c)

-- where a is below b
gap_below : (f : Format) (s : Bool) (a b c : ℕ) → ltb a b ≡ true → square f (gap f s a b c) ≡ square f (gap f s b a c)
gap_below f s a b c h =
    let l : a < b = ltb-true a b h in
    let k : ltb b a ≡ false = le-ltb b a (omega arith) in
    rw (h, k) (square_round f (not s) (s && true) (b - a) c)

gap_mirror : (f : Format) (s : Bool) (a b c : ℕ) (p q : Bool) → ltb a b ≡ p → ltb b a ≡ q → square f (gap f s a b c) ≡ square f (gap f s b a c)
gap_mirror f s a b c true q h k = gap_below f s a b c h
gap_mirror f s a b c false true h k = sym (gap_below f s b a c k)
gap_mirror f s a b c false false h k =
    let e : a - b ≡ b - a = omega (arith, ltb-false a b h, ltb-false b a k) in
    rw (h, k, e)

sum_mirror : (f : Format) (s t : Bool) (a b c : ℕ) → square f (sum f s a (not t) b c) ≡ square f (sum f t b (not s) a c)
unfolding sum
sum_mirror f true true a b c = gap_mirror f true a b c _ _ refl refl
sum_mirror f false false a b c = gap_mirror f false a b c _ _ refl refl
sum_mirror f true false a b c = let e : a + b ≡ b + a = omega arith in rw e (square_round f true false (b + a) c)
sum_mirror f false true a b c = let e : a + b ≡ b + a = omega arith in rw e (square_round f false true (b + a) c)

sub_mirror : (f : Format) (x y : Float) → square f (sub f x y) ≡ square f (sub f y x)
unfolding sub add neg mul
sub_mirror f nan nan = refl
sub_mirror f nan (inf t) = refl
sub_mirror f nan (fin t n d) = refl
sub_mirror f (inf s) nan = refl
sub_mirror f (inf true) (inf true) = refl
sub_mirror f (inf true) (inf false) = refl
sub_mirror f (inf false) (inf true) = refl
sub_mirror f (inf false) (inf false) = refl
sub_mirror f (inf true) (fin t n d) = refl
sub_mirror f (inf false) (fin t n d) = refl
sub_mirror f (fin s m e) nan = refl
sub_mirror f (fin s m e) (inf true) = refl
sub_mirror f (fin s m e) (inf false) = refl
sub_mirror f (fin s m e) (fin t n d) =
    sum_mirror f s t (m * up e * down d) (n * up d * down e) (down e * down d)
    ∙ ap (λ (c : ℕ). square f (sum f t (n * up d * down e) (not s) (m * up e * down d) c)) (mul_comm (down e) (down d))

-- two nodes are as far apart one way as the other
norm_mirror : (a b : Node) → norm (from_to a b) ≡ norm (from_to b a)
unfolding norm from_to ◌⊖◌ ◌⊗◌
norm_mirror a b = rw (sub_mirror _ b.x a.x, sub_mirror _ b.y a.y)

pub dist_mirror : (a b : Node) → dist a b ≡ dist b a
unfolding dist
dist_mirror a b = norm_mirror b a
