-- Tests: what `&&`, `||` and `not` say of their parts, and a test as a proposition.
use Rattle.std.specs.Prelude.{◌≡◌, ◌⊎◌, ◌&&◌, ◌||◌, ◌≤◌}
use Rattle.laws.specs.Kit.{refl, sym, subst, inl, inr, Bool, true, false, cond, ℕ, arith, T}

-- ---- one test

-- a test passes or fails
pub which : (b : Bool) → (b ≡ true) ⊎ (b ≡ false)
which true = inl refl
which false = inr refl

-- a test does not pass and fail
pub never : {A : Type 0} (b : Bool) → b ≡ true → b ≡ false → A
never b e f = absurd (let z : ◌≡◌ {A = ℕ} 0 1 = cc in omega arith)

-- a test that can't pass fails
pub fails : (b : Bool) → (b ≡ true → ⊥) → b ≡ false
fails true h = absurd (h refl)
fails false h = refl

-- a test that can't fail passes
pub holds : (b : Bool) → (b ≡ false → ⊥) → b ≡ true
holds true h = refl
holds false h = absurd (h refl)

pub to_T : {b : Bool} → b ≡ true → T b
to_T e = subst T (sym e) tt

pub of_T : (b : Bool) → T b → b ≡ true
of_T true t = refl
of_T false t = absurd t

pub refuted : (b : Bool) → (T b → ⊥) → b ≡ false
refuted b h = fails b (λ e. h (to_T e))

-- both branches
pub cond_ok : {A : Type 0} (Q : A → Type 0) (b : Bool) (x y : A) → (b ≡ true → Q x) → (b ≡ false → Q y) → Q (cond b x y)
cond_ok Q true x y h k = h refl
cond_ok Q false x y h k = k refl

-- ---- two tests

-- tests that pass together are the same
pub same_bool : (a b : Bool) → (a ≡ true → b ≡ true) → (b ≡ true → a ≡ true) → a ≡ b
same_bool true b f g = sym (f refl)
same_bool false true f g = g refl
same_bool false false f g = refl

pub and_left : (a b : Bool) → (a && b) ≡ true → a ≡ true
and_left true b h = refl
and_left false b h = h

pub and_right : (a b : Bool) → (a && b) ≡ true → b ≡ true
and_right true b h = h
and_right false b h = never false h refl

pub both : (a b : Bool) → (a && b) ≡ true → (a ≡ true) × (b ≡ true)
both a b h = (and_left a b h, and_right a b h)

pub not_and : (a b : Bool) → a ≡ true → b ≡ true → (a && b) ≡ false → ⊥
not_and true true p q h = never true refl h
not_and true false p q h = never false q refl
not_and false b p q h = never false p refl

pub either : (a b : Bool) → (a || b) ≡ true → (a ≡ true) ⊎ (b ≡ true)
either true b h = inl refl
either false b h = inr h

pub or_second : (a b : Bool) → b ≡ true → (a || b) ≡ true
or_second true b h = refl
or_second false b h = h

pub or-false : (b : Bool) → b ≡ (b || false)
or-false true = refl
or-false false = refl

pub none_left : (a b : Bool) → (a || b) ≡ false → a ≡ false
none_left true b h = h
none_left false b h = refl

pub none_right : (a b : Bool) → (a || b) ≡ false → b ≡ false
none_right true b h = never true refl h
none_right false b h = h

pub or_none : (a b : Bool) → (a || b) ≡ false → (a ≡ false) × (b ≡ false)
or_none a b h = (none_left a b h, none_right a b h)

-- ---- two tests as propositions

pub TOr : (a b : Bool) → T (a || b) → T a ⊎ T b
TOr true b t = inl tt
TOr false b t = inr t

pub TLeft : (a b : Bool) → T a → T (a || b)
TLeft true b t = tt
TLeft false b t = absurd t

pub TRight : (a b : Bool) → T b → T (a || b)
TRight true b t = tt
TRight false b t = t

-- ---- a test kept as a number

pub at_most_one : (b : Bool) → cond b 1 0 ≤ 1
at_most_one true = omega arith
at_most_one false = omega arith

pub not_marked : (b : Bool) → ◌≡◌ {A = ℕ} (cond b 1 0) 0 → b ≡ false
not_marked true e = absurd (omega arith)
not_marked false e = refl

pub marked : (b : Bool) → (◌≡◌ {A = ℕ} (cond b 1 0) 0 → ⊥) → b ≡ true
marked true h = refl
marked false h = absurd (h refl)
