-- A line of three values: each with the byte after it.
use Rattle.std.specs.Prelude.{◌≡◌, ◌∷◌}
use Rattle.laws.specs.Kit.{refl, sym, subst, length, Bool, true, false, cond, Option, none, some, ℕ, leb, List, []}
use mathlib.Core.Path.{fun_ext}
use Rattle.definition.specs.Text.{Bytes, Taken, Reader, take_on, exactly, bytes, lit, give, ensure, ◌>>=◌, ◌>>◌, dec, node, most_node, three}
use Rattle.reading.specs.Found.{taken, limited, up_to, and_then}

-- a value with its byte, and then f: the value, the byte, f
module _ {A B : Type 0} (b : ℕ) (r : Reader A) (f : A → Reader B) where
  byte_on : (v : A) (o : Option (Taken (Unit {0}))) → take_on f (take_on (λ _. give v) o) ≡ take_on (λ _. f v) o
  unfolding take_on give
  byte_on v none = refl
  byte_on v (some u) = refl

  value_on : (o : Option (Taken A)) → take_on f (take_on (λ v. exactly (b ∷ []) >> give v) o) ≡ take_on (λ v. exactly (b ∷ []) >> f v) o
  unfolding take_on ◌>>◌
  value_on none = refl
  value_on (some t) = byte_on t.value (exactly (b ∷ []) t.rest)

  pub on : (x : Bytes) → take_on f (and_then b r x) ≡ take_on (λ v. exactly (b ∷ []) >> f v) (r x)
  unfolding and_then ◌>>=◌
  on x = value_on (r x)

module _ (r : Reader ℕ) where
  -- what follows two values, one, none
  third : ℕ → ℕ → Reader (List ℕ)
  third a b = r >>= λ c. exactly (10 ∷ []) >> give (a ∷ b ∷ c ∷ [])

  second : ℕ → Reader (List ℕ)
  second a = r >>= λ b. exactly (32 ∷ []) >> third a b

  three_on : (x : Bytes) → three r x ≡ take_on second (and_then 32 r x)
  unfolding three second third lit bytes ◌>>=◌
  three_on x = sym (on 32 r second x)

  second_on : (a : ℕ) (x : Bytes) → second a x ≡ take_on (third a) (and_then 32 r x)
  unfolding second ◌>>=◌
  second_on a x = sym (on 32 r (third a) x)

  third_on : (a b : ℕ) (x : Bytes) → third a b x ≡ take_on (λ c. give (a ∷ b ∷ c ∷ [])) (and_then 10 r x)
  unfolding third ◌>>=◌
  third_on a b x = sym (on 10 r (λ c. give (a ∷ b ∷ c ∷ [])) x)

module _ (r : Reader ℕ) (x : Bytes) where
  pub three_off : none ≡ and_then 32 r x → none ≡ three r x
  unfolding take_on
  three_off e = rw (three_on r x, ← e)

  module _ (a : ℕ) (p : Bytes) (e : taken a p ≡ and_then 32 r x) where
    pub three_one : none ≡ and_then 32 r p → none ≡ three r x
    unfolding take_on
    three_one f = rw (three_on r x, ← e, second_on r a p, ← f)

    module _ (b : ℕ) (q : Bytes) (f : taken b q ≡ and_then 32 r p) where
      pub three_two : none ≡ and_then 10 r q → none ≡ three r x
      unfolding take_on
      three_two g = rw (three_on r x, ← e, second_on r a p, ← f, third_on r a b q, ← g)

      pub three_all : (c : ℕ) (t : Bytes) → taken c t ≡ and_then 10 r q → taken (a ∷ b ∷ c ∷ []) t ≡ three r x
      unfolding take_on give
      three_all c t g = rw (three_on r x, ← e, second_on r a p, ← f, third_on r a b q, ← g)

-- a line has three values
Three : Option (Taken (List ℕ)) → Type 0
Three none = Unit {0}
Three (some t) = length t.value ≡ 3

on_each : {A : Type 0} (f : A → Reader (List ℕ)) → ((a : A) (x : Bytes) → Three (f a x)) → (o : Option (Taken A)) → Three (take_on f o)
unfolding take_on Three
on_each f h none = tt
on_each f h (some t) = h t.value t.rest

three_is : (r : Reader ℕ) (x : Bytes) → Three (three r x)
unfolding three ◌>>=◌ ◌>>◌ give Three
three_is r x = on_each _ (λ a x. on_each _ (λ u x. on_each _ (λ b x. on_each _ (λ u x. on_each _ (λ c x. on_each _ (λ u x. refl) _) _) _) _) _) _

pub row_long : (r : Reader ℕ) (x : Bytes) {row : List ℕ} {y : Bytes} → taken row y ≡ three r x → length row ≡ 3
unfolding Three
row_long r x e = subst Three (sym e) (three_is r x)

-- a node number is a decimal number up to the largest
node_at : (o : Option (Taken ℕ)) → take_on (λ v. ensure (leb v most_node) >> give v) o ≡ limited most_node o
unfolding take_on limited ◌>>◌ ensure give
node_at none = refl
node_at (some t) = go (leb t.value most_node)
  where
    go : (b : Bool) → (ensure b >> give t.value) t.rest ≡ cond b (some t) none
    go true = refl
    go false = refl

pub node_is : node ≡ up_to 4294967295
unfolding node up_to ◌>>=◌ most_node
node_is = fun_ext λ x. node_at (dec x)
