-- Total orders with the answers before, same and after: one order after the other, lists and numbers.
use Rattle.std.specs.Cmp.{nat_cmp_is}
use Rattle.std.specs.Ordering.{nat_cmp, ordering_then, ordering_reverse}
use Rattle.std.specs.Prelude.{◌≡◌, ◌+◌, ◌*◌, ◌<◌, ◌∷◌}
use Rattle.laws.specs.Kit.{refl, sym, ◌∙◌, ap, subst, ℕ, arith, dec_lt, mul-lt-mul_of_pos_right, lt-ltb, le-ltb, List, []}
use Rattle.std.proofs.Common.{lt_of_mul-lt-mul_right}
use Rattle.std.proofs.Math.Nat.{eq_of_mul-eq-mul_right}
use Rattle.definition.specs.Account.{All}
use Rattle.std.specs.declared.cmp.Ordering.{Ordering}
use Rattle.std.specs.declared.cmp.Ordering.TheVariants.{Less, Equal, Greater}
use Rattle.filing.specs.Filing.{order_numbers, order_lists}
use Rattle.filing.specs.Totals.{Any, Chained, Stand, less, equal, more, Total}

-- ---- one order after the other
reverse_then : (p q : Ordering) → ordering_reverse (ordering_then p q) ≡ ordering_then (ordering_reverse p) (ordering_reverse q)
reverse_then Less q = refl
reverse_then Equal q = refl
reverse_then Greater q = refl

pub chained_then : (p₁ p₂ p₃ q₁ q₂ q₃ : Ordering) → Chained p₁ p₂ p₃ → Chained q₁ q₂ q₃ → Chained (ordering_then p₁ q₁) (ordering_then p₂ q₂) (ordering_then p₃ q₃)
chained_then Less Less p₃ q₁ q₂ q₃ h k = ap (λ o. ordering_then o q₃) h
chained_then Less Equal p₃ q₁ Less q₃ h k = ap (λ o. ordering_then o q₃) h
chained_then Less Equal p₃ q₁ Equal q₃ h k = ap (λ o. ordering_then o q₃) h
chained_then Less Equal p₃ q₁ Greater q₃ h k = tt
chained_then Less Greater p₃ q₁ q₂ q₃ h k = tt
chained_then Equal Less p₃ Less q₂ q₃ h k = ap (λ o. ordering_then o q₃) h
chained_then Equal Less p₃ Equal q₂ q₃ h k = ap (λ o. ordering_then o q₃) h
chained_then Equal Less p₃ Greater q₂ q₃ h k = tt
chained_then Equal Equal p₃ q₁ q₂ q₃ h k = subst (λ o. Chained q₁ q₂ (ordering_then o q₃)) (sym h) k
chained_then Equal Greater p₃ Less q₂ q₃ h k = tt
chained_then Equal Greater p₃ Equal q₂ q₃ h k = ap (λ o. ordering_then o q₃) h
chained_then Equal Greater p₃ Greater q₂ q₃ h k = ap (λ o. ordering_then o q₃) h
chained_then Greater Less p₃ q₁ q₂ q₃ h k = tt
chained_then Greater Equal p₃ q₁ Less q₃ h k = tt
chained_then Greater Equal p₃ q₁ Equal q₃ h k = ap (λ o. ordering_then o q₃) h
chained_then Greater Equal p₃ q₁ Greater q₃ h k = ap (λ o. ordering_then o q₃) h
chained_then Greater Greater p₃ q₁ q₂ q₃ h k = ap (λ o. ordering_then o q₃) h

module _ {A : Type 0} (Good : A → Type 0) (p q : A → A → Ordering) (f : Total Good p) (g : Total Good q) where
  pub in_turn : Total Good (λ a b. ordering_then (p a b) (q a b))
  in_turn =
      record {
        self = λ a h. ap (λ o. ordering_then o (q a a)) (f.self a h) ∙ g.self a h;
        back = λ a b h k.
            ap (λ o. ordering_then o (q b a)) (f.back a b h k) ∙ ap (λ o. ordering_then (ordering_reverse (p a b)) o) (g.back a b h k) ∙ sym (reverse_then (p a b) (q a b));
        chain = λ a b c h k l. chained_then (p a b) (p b c) (p a c) (q a b) (q b c) (q a c) (f.chain a b c h k l) (g.chain a b c h k l);
      }

-- by what a function gives
pub along : {A B : Type 0} (Good : A → Type 0) (OK : B → Type 0) (f : A → B) (o : B → B → Ordering)
    → ((a : A) → Good a → OK (f a)) → Total OK o → Total Good (λ a b. o (f a) (f b))
along Good OK f o ok t =
    record {
      self = λ a h. t.self (f a) (ok a h);
      back = λ a b h k. t.back (f a) (f b) (ok a h) (ok b k);
      chain = λ a b c h k l. t.chain (f a) (f b) (f c) (ok a h) (ok b k) (ok c l);
    }

-- ---- lists
module _ {A : Type 0} (Good : A → Type 0) (o : A → A → Ordering) (t : Total Good o) where
  lists_self : (xs : List A) → All Good xs → order_lists o xs xs ≡ Equal
  unfolding order_lists
  lists_self [] h = refl
  lists_self (x ∷ xs) h = rw (t.self x h.0, lists_self xs h.1)

  lists_back : (xs ys : List A) → All Good xs → All Good ys → order_lists o ys xs ≡ ordering_reverse (order_lists o xs ys)
  unfolding order_lists
  lists_back [] [] h k = refl
  lists_back [] (y ∷ ys) h k = refl
  lists_back (x ∷ xs) [] h k = refl
  lists_back (x ∷ xs) (y ∷ ys) h k =
      ap (λ p. ordering_then p (order_lists o ys xs)) (t.back x y h.0 k.0)
      ∙ ap (λ p. ordering_then (ordering_reverse (o x y)) p) (lists_back xs ys h.1 k.1)
      ∙ sym (reverse_then (o x y) (order_lists o xs ys))

  from_before : (p : Ordering) → Chained Less p Less
  from_before Less = refl
  from_before Equal = refl
  from_before Greater = tt

  to_after : (p : Ordering) → Chained p Greater Greater
  to_after Less = tt
  to_after Equal = refl
  to_after Greater = refl

  lists_chain : (xs ys zs : List A) → All Good xs → All Good ys → All Good zs → Chained (order_lists o xs ys) (order_lists o ys zs) (order_lists o xs zs)
  unfolding order_lists
  lists_chain [] [] zs h k l = refl
  lists_chain [] (y ∷ ys) [] h k l = tt
  lists_chain [] (y ∷ ys) (z ∷ zs) h k l = from_before (ordering_then (o y z) (order_lists o ys zs))
  lists_chain (x ∷ xs) [] [] h k l = refl
  lists_chain (x ∷ xs) [] (z ∷ zs) h k l = tt
  lists_chain (x ∷ xs) (y ∷ ys) [] h k l = to_after (ordering_then (o x y) (order_lists o xs ys))
  lists_chain (x ∷ xs) (y ∷ ys) (z ∷ zs) h k l =
      chained_then (o x y) (o y z) (o x z) (order_lists o xs ys) (order_lists o ys zs) (order_lists o xs zs)
      (t.chain x y z h.0 k.0 l.0)
      (lists_chain xs ys zs h.1 k.1 l.1)

  pub lists : Total (All Good) (order_lists o)
  lists = record { self = lists_self; back = lists_back; chain = lists_chain }

pub stand : (a b : ℕ) → Stand a b
unfolding order_numbers
stand a b = elim (dec_lt a b) [
  | yes l ↦ less l (rw (lt-ltb a b l))
  | no l ↦ elim (dec_lt b a) [
    | yes m ↦ more m (rw (le-ltb a b (omega arith), lt-ltb b a m))
    | no m ↦ equal (omega arith) (rw (le-ltb a b (omega arith), le-ltb b a (omega arith)))
  ]
]

pub less_is : (a b : ℕ) → a < b → order_numbers a b ≡ Less
unfolding order_numbers
less_is a b l = rw (lt-ltb a b l)

pub equal_is : (a b : ℕ) → a ≡ b → order_numbers a b ≡ Equal
unfolding order_numbers
equal_is a b e = rw (le-ltb a b (omega arith), le-ltb b a (omega arith))

pub more_is : (a b : ℕ) → b < a → order_numbers a b ≡ Greater
unfolding order_numbers
more_is a b l = rw (le-ltb a b (omega arith), lt-ltb b a l)

-- what `cmp` answers
pub cmp_is : (a b : ℕ) → nat_cmp a b ≡ order_numbers a b
cmp_is a b = elim (stand a b) [
  | less l e ↦ sym (nat_cmp_is a b Less l) ∙ sym e
  | equal l e ↦ sym (nat_cmp_is a b Equal l) ∙ sym e
  | more l e ↦ sym (nat_cmp_is a b Greater l) ∙ sym e
]

pub numbers_back : (a b : ℕ) → order_numbers b a ≡ ordering_reverse (order_numbers a b)
numbers_back a b = elim (stand a b) [
  | less l e ↦ more_is b a l ∙ sym (ap ordering_reverse e)
  | equal l e ↦ equal_is b a (sym l) ∙ sym (ap ordering_reverse e)
  | more l e ↦ less_is b a l ∙ sym (ap ordering_reverse e)
]

pub numbers_same : (a b : ℕ) → order_numbers a b ≡ Equal → a ≡ b
numbers_same a b h = elim (stand a b) [
  | less l e ↦ absurd (let z : Less ≡ Equal = sym e ∙ h in let y : ◌≡◌ {A = ℕ} 0 1 = cc in omega arith)
  | equal l e ↦ l
  | more l e ↦ absurd (let z : Greater ≡ Equal = sym e ∙ h in let y : ◌≡◌ {A = ℕ} 0 1 = cc in omega arith)
]

-- three differences of which two, each weighed, make up the third
module _ (a b c d e f u v w : ℕ) (pu : 0 < u) (pv : 0 < v) (pw : 0 < w) (sums : a * u + c * v + f * w ≡ b * u + d * v + e * w) where
  pub weighed : Chained (order_numbers a b) (order_numbers c d) (order_numbers e f)
  weighed = go (stand a b) (stand c d)
    where
      up_to : (x y k : ℕ) → 0 < k → x < y → x * k < y * k
      up_to x y k p l = mul-lt-mul_of_pos_right l p

      go : Stand a b → Stand c d → Chained (order_numbers a b) (order_numbers c d) (order_numbers e f)
      go (less l p) (less m q) = rw (p, q) (less_is e f (lt_of_mul-lt-mul_right w (omega (arith, up_to a b u pu l, up_to c d v pv m))))
      go (less l p) (equal m q) = rw (p, q) (less_is e f (lt_of_mul-lt-mul_right w (omega (arith, up_to a b u pu l, ap (λ z. z * v) m))))
      go (less l p) (more m q) = rw (p, q) tt
      go (equal l p) (less m q) = rw (p, q) (less_is e f (lt_of_mul-lt-mul_right w (omega (arith, ap (λ z. z * u) l, up_to c d v pv m))))
      go (equal l p) (equal m q) = rw (p, q) (equal_is e f (eq_of_mul-eq-mul_right w pw e f (omega (arith, ap (λ z. z * u) l, ap (λ z. z * v) m))))
      go (equal l p) (more m q) = rw (p, q) (more_is e f (lt_of_mul-lt-mul_right w (omega (arith, ap (λ z. z * u) l, up_to d c v pv m))))
      go (more l p) (less m q) = rw (p, q) tt
      go (more l p) (equal m q) = rw (p, q) (more_is e f (lt_of_mul-lt-mul_right w (omega (arith, up_to b a u pu l, ap (λ z. z * v) m))))
      go (more l p) (more m q) = rw (p, q) (more_is e f (lt_of_mul-lt-mul_right w (omega (arith, up_to b a u pu l, up_to d c v pv m))))

pub numbers : Total {A = ℕ} Any order_numbers
numbers =
    record {
      self = λ a h. equal_is a a refl;
      back = λ a b h k. numbers_back a b;
      chain = λ a b c h k l. weighed a b b c a c 1 1 1 (omega arith) (omega arith) (omega arith) (omega arith);
    }
