-- The ideals at a node asked together: some front edge, the turned unit, and the tests of an edge candidate.
use Rattle.std.specs.Prelude.{◌≡◌, ◌≢◌, ◌&&◌, ◌||◌, ◌+◌, ◌<◌, ◌≤◌, ◌∷◌, ◌++◌}
use Rattle.laws.specs.Kit.{refl, sym, ◌∙◌, ap, Bool, true, false, not, false≢true, none, some, ℕ, zero, suc, arith, eq-eqb, ne_eqb, List, [], length, Float}
use mathlib.Core.Bool.{and-false, and-true, or-false, or-true, or_assoc}
use Rattle.rings.proofs.Lists.{Same, same, differ, decide}
use Rattle.definition.specs.Lists.{filter, any, first, flat_map, numbers, below}
use Rattle.definition.specs.Floats.{◌≼◌}
use Rattle.definition.specs.Numbers.{Turn, tiny_length}
use Rattle.definition.specs.Plane.{Vec, norm, over}
use Rattle.definition.specs.Cells.{Live, Mesh, key, live_tri, owns, owners, tri_owners, tri_owner, cells_at, front_owners, is_front}
use Rattle.definition.specs.Candidates.{toward, ideal_by, turned, or_turned, ideals, edge_candidate}
use Rattle.cells.proofs.Near.{near_owners}
use Rattle.edge_candidates.specs.Wanted.{near, wanted_by, every, some_wanted, near_ideal, edge_reach, by_edge}
use Rattle.edge_candidates.proofs.Halves.{by_other, by_inner}

-- ---- lists

any_append : {A : Type 0} (f : A → Bool) (l k : List A) → any f (l ++ k) ≡ (any f l || any f k)
unfolding any
any_append f [] k = refl
any_append f (x ∷ l) k = ap (λ (b : Bool). f x || b) (any_append f l k) ∙ sym (or_assoc (f x) (any f l) (any f k))

any_flat : {A B : Type 0} (f : B → Bool) (g : A → List B) (l : List A) → any f (flat_map g l) ≡ any (λ x. any f (g x)) l
unfolding any flat_map
any_flat f g [] = refl
any_flat f g (x ∷ l) = any_append f (g x) (flat_map g l) ∙ ap (λ (b : Bool). any f (g x) || b) (any_flat f g l)

any_and : {A : Type 0} (f g : A → Bool) (l : List A) → any f (filter g l) ≡ any (λ x. f x && g x) l
unfolding any filter
any_and f g [] = refl
any_and {A} f g (x ∷ l) = go (g x) refl (any_and f g l)
  where
    go : (b : Bool) → g x ≡ b → any f (filter g l) ≡ any (λ y. f y && g y) l → any f (filter g (x ∷ l)) ≡ any (λ y. f y && g y) (x ∷ l)
    go true e r = rw (e, and-true (f x)) (ap (λ (b : Bool). f x || b) r)
    go false e r = rw (e, and-false (f x)) r

any_hit : (f : ℕ → Bool) (a n v : ℕ) → a ≤ v → v < a + n → f v ≡ true → any f (numbers a n) ≡ true
unfolding any numbers
any_hit f a zero v h k e = absurd (omega (arith, h, k))
any_hit f a (suc n) v h k e = go (decide v a) (any_hit f (suc a) n v)
  where
    go : Same v a → (suc a ≤ v → v < suc a + n → f v ≡ true → any f (numbers (suc a) n) ≡ true) → (f a || any f (numbers (suc a) n)) ≡ true
    go (same q) r = let z : f a ≡ true = ap f (sym q) ∙ e in rw z
    go (differ q) r = rw (r (omega arith) (omega arith) e) (or-true (f a))

any_miss : (f : ℕ → Bool) (a n : ℕ) → ((v : ℕ) → f v ≡ false) → any f (numbers a n) ≡ false
unfolding any numbers
any_miss f a zero h = refl
any_miss f a (suc n) h = rw (h a) (any_miss f (suc a) n h)

first_any : {A : Type 0} (f : A → Bool) (l : List A) (x : A) → first (filter f l) ≡ some x → any f l ≡ true
unfolding any filter first
first_any f [] x h = let z : ◌≡◌ {A = Bool} false true = cc in absurd (false≢true z)
first_any {A} f (y ∷ l) x h = go (f y) refl (first_any f l x)
  where
    go : (b : Bool) → f y ≡ b → (first (filter f l) ≡ some x → any f l ≡ true) → (f y || any f l) ≡ true
    go true e r = rw e
    go false e r = rw e (r (rw e at h))

none_any : {A : Type 0} (f : A → Bool) (l : List A) → first (filter f l) ≡ none → any f l ≡ false
unfolding any filter first
none_any f [] h = refl
none_any {A} f (y ∷ l) h = go (f y) refl (none_any f l)
  where
    go : (b : Bool) → f y ≡ b → (first (filter f l) ≡ none → any f l ≡ false) → (f y || any f l) ≡ false
    go true e r = let k : some y ≡ none = (rw e at h) in let z : ◌≡◌ {A = Bool} true false = cc in absurd (false≢true (sym z))
    go false e r = rw e (r (rw e at h))

-- ---- some front edge

module _ (f : Vec → Bool) (m : Mesh) (a other : ℕ) (u : Vec) where
  some_each : some_wanted f m a other u ≡ any (wanted_by f m a other u) (numbers 0 (length m.points))
  unfolding below
  some_each = any_flat f (ideal_by m a other u (cells_at m a)) (numbers 0 (length m.points))

  pub some_hit : (v : ℕ) → v < length m.points → wanted_by f m a other u v ≡ true → some_wanted f m a other u ≡ true
  some_hit v h k = some_each ∙ any_hit (wanted_by f m a other u) 0 (length m.points) v (omega arith) (omega arith) k

  pub some_none : ((v : ℕ) → wanted_by f m a other u v ≡ false) → some_wanted f m a other u ≡ false
  some_none h = some_each ∙ any_miss (wanted_by f m a other u) 0 (length m.points) h

  inner : (v : ℕ) → owners m (key a v) ≡ [] → is_front m (key a v) ≡ false
  unfolding is_front front_owners filter
  inner v o = rw o

  -- an edge that nobody owns gives no ideal
  pub bare_fails : (v : ℕ) → a ≢ v → owners m (key a v) ≡ [] → wanted_by f m a other u v ≡ false
  bare_fails v d o = go (decide v other)
    where
      go : Same v other → wanted_by f m a other u v ≡ false
      go (same q) = sym (by_other f m a other u v (λ z. d (sym z)) q)
      go (differ q) = sym (by_inner f m a other u v (λ z. d (sym z)) q (inner v o))

-- ---- near an ideal

or_some : (g : Vec → Bool) (t : Turn) (u : Vec) (l : List Vec) → any g l ≡ true → any g (or_turned t u l) ≡ true
unfolding any or_turned
or_some g t u [] h = absurd (false≢true h)
or_some g t u (i ∷ l) h = h

or_other : (g : Vec → Bool) (t : Turn) (u : Vec) (l : List Vec) → any g l ≡ false → any every l ≡ true → any g (or_turned t u l) ≡ false
unfolding any or_turned
or_other g t u [] h k = absurd (false≢true k)
or_other g t u (i ∷ l) h k = h

or_alone : (g : Vec → Bool) (t : Turn) (u : Vec) (l : List Vec) → any every l ≡ false → any g (or_turned t u l) ≡ g (turned t u)
unfolding any or_turned
or_alone g t u [] h = or-false (g (turned t u))
or_alone g t u (i ∷ l) h = absurd (false≢true (sym h))

module _ (t : Turn) (m : Mesh) (a other : ℕ) (u e : Vec) where
  pub near_some : some_wanted (near e) m a other u ≡ true → near_ideal t m a other u e ≡ true
  unfolding ideals
  near_some h = or_some (near e) t u (flat_map (ideal_by m a other u (cells_at m a)) (below (length m.points))) h

  pub near_other : some_wanted (near e) m a other u ≡ false → some_wanted every m a other u ≡ true → near_ideal t m a other u e ≡ false
  unfolding ideals
  near_other h k = or_other (near e) t u (flat_map (ideal_by m a other u (cells_at m a)) (below (length m.points))) h k

  pub near_turned : some_wanted every m a other u ≡ false → near_ideal t m a other u e ≡ near e (turned t u)
  unfolding ideals
  near_turned k = or_alone (near e) t u (flat_map (ideal_by m a other u (cells_at m a)) (below (length m.points))) k

-- ---- a live side

live_each : (m : Mesh) (a v : ℕ) → any (λ x. live_tri x && owns (key a v) x) (cells_at m a) ≡ any live_tri (owners m (key a v))
live_each m a v = sym (any_and live_tri (owns (key a v)) (cells_at m a)) ∙ ap (any live_tri) (near_owners m a v)

pub live_some : (m : Mesh) (a v : ℕ) (x : Live) → tri_owner m (key a v) ≡ some x → any (λ y. live_tri y && owns (key a v) y) (cells_at m a) ≡ true
unfolding tri_owner tri_owners
live_some m a v x h = live_each m a v ∙ first_any live_tri (owners m (key a v)) x h

pub live_none : (m : Mesh) (a v : ℕ) → tri_owner m (key a v) ≡ none → any (λ y. live_tri y && owns (key a v) y) (cells_at m a) ≡ false
unfolding tri_owner tri_owners
live_none m a v h = live_each m a v ∙ none_any live_tri (owners m (key a v)) h

-- ---- an edge candidate, test after test

and_off : (b x : Bool) → x ≡ false → false ≡ (b && x)
and_off b x h = rw (h, and-false b)

module _ (t : Turn) (m : Mesh) (a other : ℕ) (target : Float) (v : ℕ) where
  pub edge_same : v ≡ a → false ≡ by_edge t m a other target v
  unfolding edge_candidate
  edge_same h = and_off (not (norm (toward m a other) ≼ tiny_length)) _ (rw (eq-eqb v a h))

  pub edge_other : v ≢ a → v ≡ other → false ≡ by_edge t m a other target v
  unfolding edge_candidate
  edge_other d h = and_off (not (norm (toward m a other) ≼ tiny_length)) _ (rw (ne_eqb v a d, eq-eqb v other h))

  pub edge_far : v ≢ a → v ≢ other → false ≡ edge_reach (norm (toward m a v)) target → false ≡ by_edge t m a other target v
  unfolding edge_candidate
  edge_far d k h = and_off (not (norm (toward m a other) ≼ tiny_length)) _ (rw (ne_eqb v a d, ne_eqb v other k, ← h, and-false (any (λ x. live_tri x && owns (key a v) x) (cells_at m a))))

  pub edge_bare : v ≢ a → v ≢ other → tri_owner m (key a v) ≡ none → false ≡ by_edge t m a other target v
  unfolding edge_candidate
  edge_bare d k h = and_off (not (norm (toward m a other) ≼ tiny_length)) _ (rw (ne_eqb v a d, ne_eqb v other k, live_none m a v h))

  pub edge_tiny : (norm (toward m a other) ≼ tiny_length) ≡ true → false ≡ by_edge t m a other target v
  edge_tiny h = rw h

  pub edge_near : (b : Bool) (x : Live) → v ≢ a → v ≢ other → true ≡ edge_reach (norm (toward m a v)) target → tri_owner m (key a v) ≡ some x
      → (norm (toward m a other) ≼ tiny_length) ≡ false
      → b ≡ near_ideal t m a other (over (toward m a other) (norm (toward m a other))) (over (toward m a v) (norm (toward m a v))) → b ≡ by_edge t m a other target v
  unfolding edge_candidate
  edge_near b x d k h l z g = rw (z, ne_eqb v a d, ne_eqb v other k, live_some m a v x l, ← h) g
