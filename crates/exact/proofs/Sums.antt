-- Sums and differences of any two numbers, doubles or not:
use Rattle.std.specs.Prelude.{◌≡◌, ◌+◌, ◌-◌, ◌*◌, ◌/◌, ◌%◌, ◌^◌, ◌<◌, ◌≤◌}
use Rattle.laws.specs.Kit.{refl, sym, subst, Bool, true, false, not, cond, ℕ, arith, mul-pos, mul-le-mul_left, mul-le-mul_right, mul-lt-mul_of_pos_right, le_of_mul-le-mul_right, ltb, T, pow_pos, pow_mono, Float, fin, down, up, round, neg, add, sub}
use Rattle.std.proofs.Math.Nat.{le_of_mul-le-mul_left, mul-sub}
use Rattle.std.proofs.Common.{lt_of_mul-lt-mul_right, mod-lt, div-add-mod', ltb→lt, nltb→le}
use Rattle.std.specs.Float.{Format}
use Rattle.std.specs.Float.Ieee.{prec, low, sum}
use Rattle.std.specs.Float.Ieee.Fits.{down_pos}
use Rattle.std.specs.Float.Ieee.Scale.{grid, overflow, finite}
use Rattle.std.specs.Float.Ieee.Positive.{num, den, den_pos}
use Rattle.exact.specs.Near.{Whole, Near, Within, ◌⊕◌, ◌⊖◌, ◌⊙◌}
use Rattle.exact.proofs.Near.{near_cut, near_weaken}
use Rattle.exact.specs.Round.{Close}
use Rattle.exact.proofs.Round.{rounded_err}
use Rattle.exact.specs.Values.{whole, signed, mag, Ok}
use Rattle.exact.proofs.Values.{round_got, prec_pos, half_le}
use Rattle.exact.specs.Sums.{Almost, Cut, Got, Number}

pub mag_cut : (f : Format) (x : Float) → Cut (num x) (2 ^ low f) (mag f x) (den x)
mag_cut f x = go (num x * 2 ^ low f) (den x) (num x * 2 ^ low f / den x) (num x * 2 ^ low f % den x) (div-add-mod' (num x * 2 ^ low f) (den x)) (mod-lt (num x * 2 ^ low f) (den_pos x))
  where
    go : (n d q r : ℕ) → q * d + r ≡ n → r < d → (q * d ≤ n) × (n < (q + 1) * d)
    go n d q r e h = omega arith

-- x and y over one denominator
widen : (a L X d c : ℕ) → 0 < c → Cut a L X d → Cut (a * c) L X (d * c)
widen a L X d c P h = (omega (arith, mul-le-mul_right c h.0), omega (arith, mul-lt-mul_of_pos_right h.1 P))

widen' : (a L X d c : ℕ) → 0 < c → Cut a L X d → Cut (a * c) L X (c * d)
widen' a L X d c P h = (omega (arith, mul-le-mul_right c h.0), omega (arith, mul-lt-mul_of_pos_right h.1 P))

-- ---- rounding what is w units to 2 units
loose : (Q H g n c w : ℕ) → 0 < c → 2 ≤ Q → H ≤ Q → n ≤ (w + 2) * c → w * c ≤ n + c → Close Q (g * c) n (n + H * c) → Close Q g w (w + 4 * Q)
loose Q H g n c w P q h a b k =
    let x : Q * n ≤ Q * ((w + 2) * c) = mul-le-mul_left Q a in
    let y : Q * (w * c) ≤ Q * (n + c) = mul-le-mul_left Q b in
    let u : H * c ≤ Q * c = mul-le-mul_right c h in
    let v : 2 * c ≤ Q * c = mul-le-mul_right c q in
    (le_of_mul-le-mul_right (omega arith) P, le_of_mul-le-mul_right (omega arith) P)

at_most : (Q g w : ℕ) → 0 < Q → Q * g ≤ Q * w + (w + 4 * Q) → g ≤ 2 * w + 4
at_most Q g w P h = le_of_mul-le-mul_left (omega (arith, mul-le-mul_right w P)) P

signed_near : (s : Bool) (Q g w B : ℕ) (z : Whole) → Close Q g w (w + 4 * Q) → w ≤ B → Near (signed s w) z 0 → Near (signed s g ⊙ Q) (z ⊙ Q) (B + 4 * Q)
signed_near false Q g w B z h k n = omega (arith, mul-le-mul_right Q n.0, mul-le-mul_right Q n.1)
signed_near true Q g w B z h k n = omega (arith, mul-le-mul_right Q n.0, mul-le-mul_right Q n.1)

two_le : (f : Format) → 2 ≤ 2 ^ prec f
two_le f = pow_mono {i = 1} {j = prec f} (prec_pos f)

round_near : (f : Format) (s : Bool) (a c w : ℕ) (z : Whole) (B : ℕ) → 0 < c → a * 2 ^ low f ≤ (w + 2) * c → w * c ≤ a * 2 ^ low f + c → w ≤ B → 2 * B + 4 < overflow f → Near (signed s w) z 0 → Almost f (round f s a c) z B
round_near f s a c w z B C i j h o n =
    let Q = 2 ^ prec f in
    let r = loose Q (2 ^ (prec f - 1)) (grid f a c) (a * 2 ^ low f) c w C (two_le f) (half_le f) i j (rounded_err (prec f) (a * 2 ^ low f) c (prec_pos f) C) in
    let g = round_got f s a c (omega (arith, at_most Q (grid f a c) w (pow_pos (prec f)) r.0)) in
    (g.0, subst (λ (x : Whole). Near (x ⊙ Q) (z ⊙ Q) (B + 4 * Q)) (sym g.1) (signed_near s Q (grid f a c) w B z r h n))

-- ---- the sum
less : (a b X Y L c : ℕ) → 0 < c → Cut a L X c → Cut b L Y c → a ≤ b → (X ≤ Y) × ((b - a) * L ≤ (Y - X + 2) * c) × ((Y - X) * c ≤ (b - a) * L + c)
less a b X Y L c P p q h =
    let l : a * L ≤ b * L = mul-le-mul_right L h in
    let m : X < Y + 1 = lt_of_mul-lt-mul_right c (omega arith) in
    let e = mul-sub L b a in
    let e' = mul-sub c Y X in
    (omega arith, omega arith, omega arith)

sum_near : (f : Format) (s : Bool) (a : ℕ) (t : Bool) (b c X Y B : ℕ) → 0 < c → Cut a (2 ^ low f) X c → Cut b (2 ^ low f) Y c → Within (signed s X ⊕ signed t Y) B → 2 * B + 4 < overflow f
    → Almost f (sum f s a t b c) (signed s X ⊕ signed t Y) B
unfolding sum
sum_near f false a false b c X Y B C p q h o = round_near f false (a + b) c (X + Y) (X + Y, 0 + 0) B C (omega arith) (omega arith) (omega arith) o (omega arith)
sum_near f true a true b c X Y B C p q h o = round_near f true (a + b) c (X + Y) (0 + 0, X + Y) B C (omega arith) (omega arith) (omega arith) o (omega arith)
sum_near f false a true b c X Y B C p q h o = go (ltb a b) (ltb→lt a b) (nltb→le a b)
  where
    go : (l : Bool) → (T l → a < b) → (T (not l) → b ≤ a) → Almost f (cond l (round f true (b - a) c) (round f false (a - b) c)) (X + 0, 0 + Y) B
    go true l g = let d = less a b X Y (2 ^ low f) c C p q (omega (arith, l tt)) in round_near f true (b - a) c (Y - X) (X + 0, 0 + Y) B C d.1 d.2 (omega arith) o (omega arith)
    go false l g = let d = less b a Y X (2 ^ low f) c C q p (g tt) in round_near f false (a - b) c (X - Y) (X + 0, 0 + Y) B C d.1 d.2 (omega arith) o (omega arith)
sum_near f true a false b c X Y B C p q h o = go (ltb a b) (ltb→lt a b) (nltb→le a b) (ltb b a) (nltb→le b a)
  where
    go : (l : Bool) → (T l → a < b) → (T (not l) → b ≤ a) → (k : Bool) → (T (not k) → a ≤ b) → Almost f (cond l (round f false (b - a) c) (round f k (a - b) c)) (0 + Y, X + 0) B
    go true l g k m = let d = less a b X Y (2 ^ low f) c C p q (omega (arith, l tt)) in round_near f false (b - a) c (Y - X) (0 + Y, X + 0) B C d.1 d.2 (omega arith) o (omega arith)
    go false l g true m = let d = less b a Y X (2 ^ low f) c C q p (g tt) in round_near f true (a - b) c (X - Y) (0 + Y, X + 0) B C d.1 d.2 (omega arith) o (omega arith)
    -- a zero, whose sign is +
    go false l g false m =
        let d = less b a Y X (2 ^ low f) c C q p (g tt) in
        let u = less a b X Y (2 ^ low f) c C p q (m tt) in
        round_near f false (a - b) c (X - Y) (0 + Y, X + 0) B C d.1 d.2 (omega arith) o (omega arith)

pub add_near : (f : Format) (x y : Float) (B : ℕ) → Number x → Number y → Within (whole f x ⊕ whole f y) B → 2 * B + 4 < overflow f → Almost f (add f x y) (whole f x ⊕ whole f y) B
unfolding add whole
add_near f (fin s m e) (lib.Ieee.inf _) B o u h small = elim u [ ]
add_near f (fin s m e) lib.Ieee.nan B o u h small = elim u [ ]
add_near f (lib.Ieee.inf _) y B o u h small = elim o [ ]
add_near f lib.Ieee.nan y B o u h small = elim o [ ]
add_near f (fin s m e) (fin t n d) B o u h small =
    sum_near f s (m * up e * down d) t (n * up d * down e) (down e * down d) (mag f (fin s m e)) (mag f (fin t n d)) B (mul-pos (down_pos e) (down_pos d))
    (widen (m * up e) (2 ^ low f) (mag f (fin s m e)) (down e) (down d) (down_pos d) (mag_cut f (fin s m e))) (widen' (n * up d) (2 ^ low f) (mag f (fin t n d)) (down d) (down e) (down_pos e) (mag_cut f (fin t n d))) h small

pub neg_whole : (f : Format) (x : Float) → Number x → whole f (neg x) ≡ ((whole f x).1, (whole f x).0)
unfolding neg whole
neg_whole f (lib.Ieee.inf _) o = elim o [ ]
neg_whole f lib.Ieee.nan o = elim o [ ]
neg_whole f (fin false m e) o = refl
neg_whole f (fin true m e) o = refl

pub neg_number : (x : Float) → Number x → Number (neg x)
unfolding neg
neg_number (lib.Ieee.inf _) o = elim o [ ]
neg_number lib.Ieee.nan o = elim o [ ]
neg_number (fin s m e) o = tt

pub sub_near : (f : Format) (x y : Float) (B : ℕ) → Number x → Number y → Within (whole f x ⊖ whole f y) B → 2 * B + 4 < overflow f → Almost f (sub f x y) (whole f x ⊖ whole f y) B
unfolding sub
sub_near f x y B o u h small =
    let w = neg_whole f y u in
    rw w at (add_near f x (neg y) B o (neg_number y u) (rw w h) small)

got : (f : Format) (r : Float) (z : Whole) (B E : ℕ) → B ≤ 2 ^ prec f * E → Almost f r z B → Got f r z E
got f r z B E h k = (k.0, near_cut (whole f r) z (E + 4) (2 ^ prec f) (pow_pos (prec f)) (near_weaken (whole f r ⊙ 2 ^ prec f) (z ⊙ 2 ^ prec f) (B + 4 * 2 ^ prec f) ((E + 4) * 2 ^ prec f) (omega arith) k.1))

pub add_got : (f : Format) (x y : Float) (A B E : ℕ) → Number x → Number y → Within (whole f x) A → Within (whole f y) B → A + B ≤ 2 ^ prec f * E → 2 * (A + B) + 4 < overflow f → Got f (add f x y) (whole f x ⊕ whole f y) E
add_got f x y A B E o u h k le small = got f (add f x y) (whole f x ⊕ whole f y) (A + B) E le (add_near f x y (A + B) o u (omega arith) small)

pub sub_got : (f : Format) (x y : Float) (A B E : ℕ) → Number x → Number y → Within (whole f x) A → Within (whole f y) B → A + B ≤ 2 ^ prec f * E → 2 * (A + B) + 4 < overflow f → Got f (sub f x y) (whole f x ⊖ whole f y) E
sub_got f x y A B E o u h k le small = got f (sub f x y) (whole f x ⊖ whole f y) (A + B) E le (sub_near f x y (A + B) o u (omega arith) small)
