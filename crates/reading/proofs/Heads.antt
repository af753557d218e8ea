-- The line of the input's numbers: four values, each with the byte after it.
-- The counts' limit, which the definition tests after the line, is tested with each.
use Rattle.std.specs.Prelude.{◌≡◌, ◌&&◌, ◌<◌, ◌≤◌, ◌∷◌}
use Rattle.laws.specs.Kit.{refl, sym, ◌∙◌, subst, Bool, true, false, cond, Option, none, some, ℕ, leb, lt-leb, le-leb, leb-false, []}
use borrow.Author.Tests.{leb-true}
use Rattle.definition.specs.Text.{Bytes, Taken, Reader, take_on, ◌>>=◌, ◌>>◌, give, ensure, exactly, bytes, lit, dec, hex, one_digit, most_listed}
use Rattle.reading.specs.Found.{taken, limited, up_to, and_then}
use Rattle.reading.specs.Whole.{heading}
use Rattle.reading.specs.declared.found.Header.{Header}
use Rattle.reading.proofs.Threes.{on}

-- ---- a limit tested early

-- where what follows refuses every value, so does the whole
refused : {A B : Type 0} (f : A → Reader B) (o : Option (Taken A)) → ((a : A) (x : Bytes) → f a x ≡ none) → take_on f o ≡ none
unfolding take_on
refused f none h = refl
refused f (some t) h = h t.value t.rest

module _ {B : Type 0} (m b : ℕ) (f : ℕ → Reader B) (over : (v : ℕ) (x : Bytes) → m < v → f v x ≡ none) where
  early_at : (o : Option (Taken ℕ)) → take_on f (take_on (λ v. exactly (b ∷ []) >> give v) o) ≡ take_on f (take_on (λ v. exactly (b ∷ []) >> give v) (limited m o))
  unfolding take_on limited ◌>>◌ give
  early_at none = refl
  early_at (some t) = go (leb t.value m) refl
    where
      late : (o : Option (Taken (Unit {0}))) → m < t.value → take_on f (take_on (λ _. give t.value) o) ≡ none
      late none h = refl
      late (some u) h = over t.value u.rest h

      go : (k : Bool) → leb t.value m ≡ k
          → take_on f ((exactly (b ∷ []) >> give t.value) t.rest) ≡ take_on f (take_on (λ v. exactly (b ∷ []) >> give v) (cond (leb t.value m) (some t) none))
      go true e = rw e
      go false e = rw e (late (exactly (b ∷ []) t.rest) (leb-false t.value m e))

  -- a number over the limit may be refused before what follows it
  early : (x : Bytes) → take_on f (and_then b dec x) ≡ take_on f (and_then b (up_to m) x)
  unfolding and_then ◌>>=◌ up_to
  early x = early_at (dec x)

-- ---- a number that was read is within its limit

abbrev Within : ℕ → Option (Taken ℕ) → Type 0
Within m none = Unit {0}
Within m (some t) = t.value ≤ m

within_at : (m b : ℕ) (o : Option (Taken ℕ)) → Within m (take_on (λ v. exactly (b ∷ []) >> give v) (limited m o))
unfolding take_on limited ◌>>◌ give
within_at m b none = tt
within_at m b (some t) = go (leb t.value m) refl
  where
    inside : (o : Option (Taken (Unit {0}))) → t.value ≤ m → Within m (take_on (λ _. give t.value) o)
    inside none h = tt
    inside (some u) h = h

    go : (k : Bool) → leb t.value m ≡ k → Within m (take_on (λ v. exactly (b ∷ []) >> give v) (cond (leb t.value m) (some t) none))
    go true e = rw e (inside (exactly (b ∷ []) t.rest) (leb-true t.value m e))
    go false e = rw e tt

pub within : (m b v : ℕ) (p x : Bytes) → taken v p ≡ and_then b (up_to m) x → v ≤ m
unfolding and_then ◌>>=◌ up_to
within m b v p x e = subst (Within m) (sym e) (within_at m b (dec x))

-- ---- what follows each value

last : ℕ → ℕ → ℕ → ℕ → Reader Header
last t p z r = ensure (leb t 64 && leb p 64) >> give (record { triangles = t; points = p; size = z; stop = r })

rule : ℕ → ℕ → ℕ → Reader Header
rule t p z = one_digit >>= λ r. exactly (10 ∷ []) >> last t p z r

size : ℕ → ℕ → Reader Header
size t p = hex >>= λ z. exactly (32 ∷ []) >> rule t p z

points : ℕ → Reader Header
points t = dec >>= λ p. exactly (32 ∷ []) >> size t p

triangles : Reader Header
triangles = dec >>= λ t. exactly (32 ∷ []) >> points t

heading_is : (x : Bytes) → heading x ≡ take_on (λ _. triangles) (exactly (bytes "triangles points size stop\n") x)
unfolding heading triangles points size rule last lit bytes most_listed ◌>>=◌ ◌>>◌
heading_is x = refl

-- too many are refused at the end of the line
last_over : (t p z r : ℕ) (x : Bytes) → leb t 64 && leb p 64 ≡ false → last t p z r x ≡ none
unfolding last ensure ◌>>◌ take_on
last_over t p z r x e = rw e

size_over : (t p : ℕ) (x : Bytes) → leb t 64 && leb p 64 ≡ false → size t p x ≡ none
unfolding size rule ◌>>=◌ ◌>>◌
size_over t p x e = refused _ _ λ z y. refused _ _ λ u y. refused _ _ λ r y. refused _ _ λ u y. last_over t p z r y e

points_over : (t : ℕ) (x : Bytes) → leb t 64 ≡ false → points t x ≡ none
unfolding points ◌>>=◌ ◌>>◌
points_over t x e = refused _ _ λ p y. refused _ _ λ u y. size_over t p y (rw e)

and-false : (a : Bool) → a && false ≡ false
and-false true = refl
and-false false = refl

triangles_on : (x : Bytes) → triangles x ≡ take_on points (and_then 32 (up_to 64) x)
unfolding triangles ◌>>=◌
triangles_on x = sym (on 32 dec points x) ∙ early 64 32 points (λ t y h. points_over t y (lt-leb t 64 h)) x

points_on : (t : ℕ) (x : Bytes) → points t x ≡ take_on (size t) (and_then 32 (up_to 64) x)
unfolding points ◌>>=◌
points_on t x = sym (on 32 dec (size t) x) ∙ early 64 32 (size t) (λ p y h. size_over t p y (rw (lt-leb p 64 h) (and-false (leb t 64)))) x

size_on : (t p : ℕ) (x : Bytes) → size t p x ≡ take_on (rule t p) (and_then 32 hex x)
unfolding size ◌>>=◌
size_on t p x = sym (on 32 hex (rule t p) x)

rule_on : (t p z : ℕ) (x : Bytes) → rule t p z x ≡ take_on (last t p z) (and_then 10 one_digit x)
unfolding rule ◌>>=◌
rule_on t p z x = sym (on 10 one_digit (last t p z) x)

last_in : (t p z r : ℕ) (x : Bytes) → t ≤ 64 → p ≤ 64 → last t p z r x ≡ some (record { value = record { triangles = t; points = p; size = z; stop = r }; rest = x })
unfolding last ensure ◌>>◌ take_on give
last_in t p z r x h k = rw (le-leb t 64 h, le-leb p 64 k)

-- ---- each way out of the reading

module _ (x : Bytes) where
  pub no_names : none ≡ exactly (bytes "triangles points size stop\n") x → none ≡ heading x
  unfolding take_on
  no_names e = rw (heading_is x, ← e)

  module _ (a : Bytes) (e : taken tt a ≡ exactly (bytes "triangles points size stop\n") x) where
    start : heading x ≡ take_on points (and_then 32 (up_to 64) a)
    unfolding take_on
    start = rw (heading_is x, ← e) (triangles_on a)

    pub no_triangles : none ≡ and_then 32 (up_to 64) a → none ≡ heading x
    unfolding take_on
    no_triangles f = rw (start, ← f)

    module _ (t : ℕ) (b : Bytes) (f : taken t b ≡ and_then 32 (up_to 64) a) where
      start_t : heading x ≡ take_on (size t) (and_then 32 (up_to 64) b)
      unfolding take_on
      start_t = rw (start, ← f) (points_on t b)

      pub no_points : none ≡ and_then 32 (up_to 64) b → none ≡ heading x
      unfolding take_on
      no_points g = rw (start_t, ← g)

      module _ (p : ℕ) (c : Bytes) (g : taken p c ≡ and_then 32 (up_to 64) b) where
        start_p : heading x ≡ take_on (rule t p) (and_then 32 hex c)
        unfolding take_on
        start_p = rw (start_t, ← g) (size_on t p c)

        pub no_size : none ≡ and_then 32 hex c → none ≡ heading x
        unfolding take_on
        no_size h = rw (start_p, ← h)

        module _ (z : ℕ) (d : Bytes) (h : taken z d ≡ and_then 32 hex c) where
          start_z : heading x ≡ take_on (last t p z) (and_then 10 one_digit d)
          unfolding take_on
          start_z = rw (start_p, ← h) (rule_on t p z d)

          pub no_rule : none ≡ and_then 10 one_digit d → none ≡ heading x
          unfolding take_on
          no_rule k = rw (start_z, ← k)

          pub all_read : (r : ℕ) (q : Bytes) → taken r q ≡ and_then 10 one_digit d → taken (record { triangles = t; points = p; size = z; stop = r }) q ≡ heading x
          unfolding take_on
          all_read r q k = rw (start_z, ← k) (sym (last_in t p z r q (within 64 32 t b a f) (within 64 32 p c b g)))
