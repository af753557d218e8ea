-- Sums and products that need no rounding: of numbers that are whole multiples of a power of two,
use Rattle.std.specs.Prelude.{◌≡◌, ◌+◌, ◌-◌, ◌*◌, ◌^◌, ◌<◌, ◌≤◌}
use Rattle.laws.specs.Kit.{refl, sym, ap, ap₂, subst, Bool, true, false, not, cond, ℕ, arith, mul-pos, mul-le-mul, mul-le-mul_right, le_of_mul-le-mul_right, ltb, T, ℤ, pos, Float, fin, down, up, round, neg, add, sub, mul, div, inf, nan}
use Rattle.std.proofs.Math.Nat.{lt_of_mul-lt-mul_right, eq_of_mul-eq-mul_right, mul-sub}
use Rattle.std.proofs.Common.{ltb→lt, nltb→le}
use Rattle.std.specs.Float.{Format}
use Rattle.std.specs.Float.Ieee.{prec, low, unlike, sum}
use Rattle.std.specs.Float.Ieee.Fits.{down_pos}
use Rattle.std.specs.Float.Ieee.Exact.{HasValue, round_exact}
use Rattle.std.specs.Float.Ieee.Scale.{overflow}
use Rattle.definition.specs.Floats as floats
use Rattle.exact.specs.Near.{Whole, Near, Within, abs, ◌⊕◌, ◌⊖◌, ◌⊗◌}
use Rattle.exact.proofs.Near.{near_same, same_times}
use Rattle.exact.specs.Values.{whole, signed, mag}
use Rattle.exact.proofs.Sums.{mag_cut}
use Rattle.exact.specs.Exactly.{Is}

-- from one fraction to another of the same size
rescale : (x : Float) (s : Bool) (a c k C : ℕ) → 0 < c → a * C ≡ k * c → HasValue x s a c → HasValue x s k C
rescale (lib.Ieee.inf _) s a c k C P h v = elim v [ ]
rescale lib.Ieee.nan s a c k C P h v = elim v [ ]
rescale (fin t m e) s a c k C P h v = (v.0, eq_of_mul-eq-mul_right c P (m * up e * C) (k * down e) (go (m * up e) (down e) v.1))
  where
    go : (n d : ℕ) → n * c ≡ a * d → n * C * c ≡ k * d * c
    go n d e = omega (arith, ap (λ (z : ℕ). z * C) e, ap (λ (z : ℕ). z * d) h)

-- a fraction A / c that is k parts of 1 / C
exact_round : (f : Format) (s : Bool) (A c k C j : ℕ) → 0 < c → 2 ^ low f ≡ C * 2 ^ j → k < 2 ^ prec f → k * 2 ^ j < overflow f → A * C ≡ k * c → HasValue (round f s A c) s k C
exact_round f s A c k C j P l d o h = rescale (round f s A c) s A c k C P h (round_exact f s A c k j P d o (go (2 ^ low f) (2 ^ j) l))
  where
    go : (L J : ℕ) → L ≡ C * J → A * L ≡ k * J * c
    go L J e = omega (arith, ap (λ (z : ℕ). A * z) e, ap (λ (z : ℕ). z * J) h)

less : (A B a b C c : ℕ) → 0 < c → A * C ≡ a * c → B * C ≡ b * c → A ≤ B → (a ≤ b) × ((B - A) * C ≡ (b - a) * c)
less A B a b C c P p q h = (le_of_mul-le-mul_right (omega (arith, mul-le-mul_right C h)) P, omega (arith, mul-sub C B A, mul-sub c b a))

module _ (f : Format) (C j : ℕ) (l : 2 ^ low f ≡ C * 2 ^ j) (N : ℕ) (d : N < 2 ^ prec f) (o : N * 2 ^ j < overflow f) where
  rounded : (s : Bool) (A c k : ℕ) (z : Whole) → 0 < c → k ≤ N → A * C ≡ k * c → Near (signed s k) z 0 → Is (round f s A c) z C
  rounded s A c k z P h e n = (s, k, exact_round f s A c k C j P l (omega (arith, d)) (go (2 ^ j) (overflow f) o) e, n)
    where
      go : (J O : ℕ) → N * J < O → k * J < O
      go J O t = omega (arith, mul-le-mul_right J h)

  sum_is : (s : Bool) (A : ℕ) (t : Bool) (B c a b : ℕ) → 0 < c → A * C ≡ a * c → B * C ≡ b * c → a + b ≤ N → Is (sum f s A t B c) (signed s a ⊕ signed t b) C
  unfolding sum
  sum_is false A false B c a b P p q h = rounded false (A + B) c (a + b) (a + b, 0 + 0) P h (omega arith) (omega arith)
  sum_is true A true B c a b P p q h = rounded true (A + B) c (a + b) (0 + 0, a + b) P h (omega arith) (omega arith)
  sum_is false A true B c a b P p q h = go (ltb A B) (ltb→lt A B) (nltb→le A B)
    where
      go : (x : Bool) → (T x → A < B) → (T (not x) → B ≤ A) → Is (cond x (round f true (B - A) c) (round f false (A - B) c)) (a + 0, 0 + b) C
      go true u v = let w = less A B a b C c P p q (omega (arith, u tt)) in rounded true (B - A) c (b - a) (a + 0, 0 + b) P (omega arith) w.1 (omega arith)
      go false u v = let w = less B A b a C c P q p (v tt) in rounded false (A - B) c (a - b) (a + 0, 0 + b) P (omega arith) w.1 (omega arith)
  sum_is true A false B c a b P p q h = go (ltb A B) (ltb→lt A B) (nltb→le A B) (ltb B A) (nltb→le B A)
    where
      go : (x : Bool) → (T x → A < B) → (T (not x) → B ≤ A) → (y : Bool) → (T (not y) → A ≤ B) → Is (cond x (round f false (B - A) c) (round f y (A - B) c)) (0 + b, a + 0) C
      go true u v y m = let w = less A B a b C c P p q (omega (arith, u tt)) in rounded false (B - A) c (b - a) (0 + b, a + 0) P (omega arith) w.1 (omega arith)
      go false u v true m = let w = less B A b a C c P q p (v tt) in rounded true (A - B) c (a - b) (0 + b, a + 0) P (omega arith) w.1 (omega arith)
      go false u v false m =
          let w = less B A b a C c P q p (v tt) in
          let i = less A B a b C c P p q (m tt) in
          rounded false (A - B) c (a - b) (0 + b, a + 0) P (omega arith) w.1 (omega arith)

  add_values : (u : Bool) (m : ℕ) (e : ℤ) (v : Bool) (n : ℕ) (g : ℤ) (a b : ℕ) → m * up e * C ≡ a * down e → n * up g * C ≡ b * down g → a + b ≤ N → Is (add f (fin u m e) (fin v n g)) (signed u a ⊕ signed v b) C
  unfolding add
  add_values u m e v n g a b p q h =
      sum_is u (m * up e * down g) v (n * up g * down e) (down e * down g) a b (mul-pos (down_pos e) (down_pos g)) (widen (m * up e) a (down e) (down g) p) (widen' (n * up g) b (down g) (down e) q) h
    where
      widen : (m a d c : ℕ) → m * C ≡ a * d → m * c * C ≡ a * (d * c)
      widen m a d c h = omega (arith, ap (λ (z : ℕ). z * c) h)

      widen' : (m a d c : ℕ) → m * C ≡ a * d → m * c * C ≡ a * (c * d)
      widen' m a d c h = omega (arith, ap (λ (z : ℕ). z * c) h)

-- ---- by the whole numbers
pub same : (x : Float) (z w : Whole) (C : ℕ) → Near z w 0 → Is x z C → Is x w C
same x z w C h i = (i.0, i.1, i.2, go (signed i.0 i.1) i.3)
  where
    go : (k : Whole) → Near k z 0 → Near k w 0
    go k n = omega arith

size : (s : Bool) (k A : ℕ) (z : Whole) → Near (signed s k) z 0 → Within z A → k ≤ A
size false k A z n h = omega arith
size true k A z n h = omega arith

both : (x z y w : Whole) → Near x z 0 → Near y w 0 → Near (x ⊕ y) (z ⊕ w) 0
both x z y w h k = omega arith

module _ (f : Format) (C j : ℕ) (l : 2 ^ low f ≡ C * 2 ^ j) (N : ℕ) (d : N < 2 ^ prec f) (o : N * 2 ^ j < overflow f) where
  pub add_is : (x y : Float) (z w : Whole) (A B : ℕ) → Is x z C → Is y w C → Within z A → Within w B → A + B ≤ N → Is (add f x y) (z ⊕ w) C
  add_is (fin u m e) (inf _) z w A B _ (_, _, q, _) hz hw h = elim q [ ]
  add_is (fin u m e) nan z w A B _ (_, _, q, _) hz hw h = elim q [ ]
  add_is (inf _) y z w A B (_, _, q, _) _ hz hw h = elim q [ ]
  add_is nan y z w A B (_, _, q, _) _ hz hw h = elim q [ ]
  add_is (fin u m e) (fin v n g) z w A B (s, a, (p, p'), i) (t, b, (q, q'), k) hz hw h =
      let ia : Near (signed u a) z 0 = subst (λ (c : Bool). Near (signed c a) z 0) (sym p) i in
      let ib : Near (signed v b) w 0 = subst (λ (c : Bool). Near (signed c b) w 0) (sym q) k in
      let la = size u a A z ia hz in
      let lb = size v b B w ib hw in
      same (add f (fin u m e) (fin v n g)) (signed u a ⊕ signed v b) (z ⊕ w) C (both (signed u a) z (signed v b) w ia ib) (add_values f C j l N d o u m e v n g a b p' q' (omega arith))

  neg_is : (x : Float) (z : Whole) → Is x z C → Is (neg x) (z.1, z.0) C
  unfolding neg
  neg_is (inf _) z (_, _, q, _) = elim q [ ]
  neg_is nan z (_, _, q, _) = elim q [ ]
  neg_is (fin u m e) z (s, a, (p, p'), i) = (not s, a, (ap not p, p'), go s i)
    where
      go : (s : Bool) → Near (signed s a) z 0 → Near (signed (not s) a) (z.1, z.0) 0
      go false n = omega arith
      go true n = omega arith

  pub sub_is : (x y : Float) (z w : Whole) (A B : ℕ) → Is x z C → Is y w C → Within z A → Within w B → A + B ≤ N → Is (sub f x y) (z ⊖ w) C
  unfolding sub
  sub_is x y z w A B hx hy hz hw h = add_is x (neg y) z (w.1, w.0) A B hx (neg_is y w hy) hz (omega arith) h

  -- what it is in units
  pub in_units : (x : Float) (z : Whole) → Is x z C → Near (whole f x) (z.0 * 2 ^ j, z.1 * 2 ^ j) 0
  unfolding whole
  in_units (inf _) z (_, _, q, _) = elim q [ ]
  in_units nan z (_, _, q, _) = elim q [ ]
  in_units (fin u m e) z (s, a, (p, p'), i) =
      let k = exactly (m * up e) (down e) (mag f (fin u m e)) (2 ^ low f) (2 ^ j) (down_pos e) l p' (mag_cut f (fin u m e)) in
      go u (mag f (fin u m e)) (2 ^ j) k (subst (λ (c : Bool). Near (signed c a) z 0) (sym p) i)
    where
      exactly : (n d X L J : ℕ) → 0 < d → L ≡ C * J → n * C ≡ a * d → (X * d ≤ n * L) × (n * L < (X + 1) * d) → X ≡ a * J
      exactly n d X L J P e h c =
          let t : n * L ≡ a * J * d = omega (arith, ap (λ (z : ℕ). n * z) e, ap (λ (z : ℕ). z * J) h) in
          let lo : X ≤ a * J = le_of_mul-le-mul_right (omega arith) P in
          let hi : a * J < X + 1 = lt_of_mul-lt-mul_right d (omega arith) in
          omega arith

      go : (s : Bool) (X J : ℕ) → X ≡ a * J → Near (signed s a) z 0 → Near (signed s X) (z.0 * J, z.1 * J) 0
      go false X J e n = omega (arith, mul-le-mul_right J n.0, mul-le-mul_right J n.1)
      go true X J e n = omega (arith, mul-le-mul_right J n.0, mul-le-mul_right J n.1)

-- ---- products
signed_times : (s t : Bool) (a b : ℕ) → Near (signed (unlike s t) (a * b)) (signed s a ⊗ signed t b) 0
signed_times false false a b = omega arith
signed_times false true a b = omega arith
signed_times true false a b = omega arith
signed_times true true a b = omega arith

near_times : (k x y z w : Whole) → Near k (x ⊗ y) 0 → Near x z 0 → Near y w 0 → Near k (z ⊗ w) 0
near_times k x y z w h p q = near_same k (x ⊗ y) (z ⊗ w) 0 h (same_times x z y w p q)

pub mul_is : (f : Format) (C D j : ℕ) → 2 ^ low f ≡ C * D * 2 ^ j → (N : ℕ) → N < 2 ^ prec f → N * 2 ^ j < overflow f
    → (x y : Float) (z w : Whole) (A B : ℕ) → Is x z C → Is y w D → Within z A → Within w B → A * B ≤ N → Is (mul f x y) (z ⊗ w) (C * D)
unfolding mul
mul_is f C D j l N d o (fin u m e) (inf _) z w A B _ (_, _, q, _) hz hw h = elim q [ ]
mul_is f C D j l N d o (fin u m e) nan z w A B _ (_, _, q, _) hz hw h = elim q [ ]
mul_is f C D j l N d o (inf _) y z w A B (_, _, q, _) _ hz hw h = elim q [ ]
mul_is f C D j l N d o nan y z w A B (_, _, q, _) _ hz hw h = elim q [ ]
mul_is f C D j l N d o (fin u m e) (fin v n g) z w A B (s, a, (p, p'), i) (t, b, (q, q'), k) hz hw h =
    let ia : Near (signed u a) z 0 = subst (λ (c : Bool). Near (signed c a) z 0) (sym p) i in
    let ib : Near (signed v b) w 0 = subst (λ (c : Bool). Near (signed c b) w 0) (sym q) k in
    let ab : a * b ≤ A * B = mul-le-mul (size u a A z ia hz) (size v b B w ib hw) in
    let c = down e * down g in (
      unlike u v,
      a * b,
      exact_round f (unlike u v) (m * up e * (n * up g)) c (a * b) (C * D) j (mul-pos (down_pos e) (down_pos g)) l (omega arith) (small (2 ^ j) (overflow f) ab o) (product (m * up e) (n * up g) (down e) (down g) p' q'),
      near_times (signed (unlike u v) (a * b)) (signed u a) (signed v b) z w (signed_times u v a b) ia ib,
    )
  where
    small : (J O : ℕ) → a * b ≤ A * B → N * J < O → a * b * J < O
    small J O r t = omega (arith, mul-le-mul_right J r, mul-le-mul_right J h)

    product : (m n d c : ℕ) → m * C ≡ a * d → n * D ≡ b * c → m * n * (C * D) ≡ a * b * (d * c)
    product m n d c p q = omega (arith, ap₂ (λ (x y : ℕ). x * y) p q)

-- ---- halves, and the magnitude
-- half of it is as many parts of half the size
pub half_is : (f : Format) (C j : ℕ) → 2 ^ low f ≡ C * 2 * 2 ^ j → (N : ℕ) → N < 2 ^ prec f → N * 2 ^ j < overflow f
    → (x : Float) (z : Whole) → Is x z C → Within z N → Is (div f x (fin false 1 (pos 1))) z (C * 2)
unfolding div
half_is f C j l N d o (inf _) z (_, _, q, _) h = elim q [ ]
half_is f C j l N d o nan z (_, _, q, _) h = elim q [ ]
half_is f C j l N d o (fin u m e) z (s, a, (p, p'), i) h =
    let ia : Near (signed u a) z 0 = subst (λ (c : Bool). Near (signed c a) z 0) (sym p) i in
    let la = size u a N z ia h in
    go u ia (exact_round f u (m * up e * 1) (1 * 2 * down e) a (C * 2) j (twofold (down e) (down_pos e)) l (omega (arith, d)) (small (2 ^ j) (overflow f) la o) (halved (m * up e) (down e) p'))
  where
    twofold : (d : ℕ) → 0 < d → 0 < 1 * 2 * d
    twofold d P = omega arith

    small : (J O : ℕ) → a ≤ N → N * J < O → a * J < O
    small J O r t = omega (arith, mul-le-mul_right J r)

    halved : (n d : ℕ) → n * C ≡ a * d → n * 1 * (C * 2) ≡ a * (1 * 2 * d)
    halved n d e = omega (arith, ap (λ (x : ℕ). 2 * x) e)

    go : (u : Bool) → Near (signed u a) z 0 → HasValue (round f u (m * up e * 1) (1 * 2 * down e)) u a (C * 2) → Is (round f (unlike u false) (m * up e * 1) (1 * 2 * down e)) z (C * 2)
    go false n v = (false, a, v, n)
    go true n v = (true, a, v, n)

-- without the sign
pub abs_is : (x : Float) (z : Whole) (C : ℕ) → Is x z C → Is (floats.abs x) (abs z, 0) C
unfolding floats.abs abs
abs_is (inf _) z C (_, _, q, _) = elim q [ ]
abs_is nan z C (_, _, q, _) = elim q [ ]
abs_is (fin u m e) z C (s, a, (p, p'), i) = (false, a, (refl, p'), go s z i)
  where
    go : (s : Bool) (z : Whole) → Near (signed s a) z 0 → Near (a, 0) (abs z, 0) 0
    go false z n = omega arith
    go true z n = omega arith
