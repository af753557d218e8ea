-- The direction halfway between two units, and the ideal that a front edge gives.
use Rattle.std.specs.Prelude.{◌≡◌, Some, None, ◌≢◌, ◌&&◌, ◌∷◌}
use Rattle.laws.specs.Kit.{refl, sym, ◌∙◌, ap, subst, Bool, true, false, not, cond, false≢true, ℕ, eqb, eq-eqb, ne_eqb, List, [], length, Float}
use mathlib.Core.Bool.{or-false}
use Rattle.definition.specs.Floats.{◌≺◌, ◌≼◌}
use Rattle.definition.specs.Lists.{filter, any}
use Rattle.definition.specs.Numbers.{ideal_sum, tiny_length}
use Rattle.definition.specs.Plane.{Node, Vec, norm, over, from_to}
use Rattle.definition.specs.Cells.{Mesh, key, node_at, owns, cells_at, front_owners, is_front}
use Rattle.definition.specs.Candidates.{toward, plus, halfway, ideal_by}
use Rattle.definition.specs.Call.{point_at}
use Rattle.cells.proofs.Near.{near_front}
use Rattle.plane.specs.Vectors.{vec}
use Rattle.plane.specs.declared.vectors.Vec as direction
use Rattle.cells.specs.Rep.{Pts}
use Rattle.plane.specs.Points.{node_of}
use Rattle.edge_candidates.specs.Wanted.{wanted_by, every, gives, At}
use Rattle.edge_candidates.specs.Wishes.{between, ideal, ideal_from, GivenBy}

-- ---- halfway

-- two units give an ideal where their sum is long enough
pub half_gives : (u v b : Vec) (n : Float) → b ≡ plus u v → n ≡ norm b → (ideal_sum ≺ n) ≡ any every (halfway u v)
unfolding halfway any
half_gives u v b n eb en = rw (← eb, ← en) (go (ideal_sum ≺ n))
  where
    go : (y : Bool) → y ≡ any every (cond y (over b n ∷ []) [])
    go true = refl
    go false = refl

-- ---- a front edge

module _ (f : Vec → Bool) (m : Mesh) (a other : ℕ) (u : Vec) (v : ℕ) where
  pub by_same : v ≡ a → false ≡ wanted_by f m a other u v
  unfolding ideal_by any
  by_same h = rw (eq-eqb v a h)

  pub by_other : v ≢ a → v ≡ other → false ≡ wanted_by f m a other u v
  unfolding ideal_by any
  by_other n h = rw (ne_eqb v a n, eq-eqb v other h)

  pub by_inner : v ≢ a → v ≢ other → is_front m (key a v) ≡ false → false ≡ wanted_by f m a other u v
  unfolding ideal_by any
  by_inner n k h = rw (ne_eqb v a n, ne_eqb v other k, near_front m a v, h)

  pub by_tiny : v ≢ a → v ≢ other → is_front m (key a v) ≡ true → (norm (toward m a v) ≼ tiny_length) ≡ true → false ≡ wanted_by f m a other u v
  unfolding ideal_by any
  by_tiny n k h l = rw (ne_eqb v a n, ne_eqb v other k, near_front m a v, h, l)

  pub by_half : (x : Bool) → v ≢ a → v ≢ other → is_front m (key a v) ≡ true → (norm (toward m a v) ≼ tiny_length) ≡ false
      → x ≡ any f (halfway u (over (toward m a v) (norm (toward m a v)))) → x ≡ wanted_by f m a other u v
  unfolding ideal_by
  by_half x n k h l g = rw (ne_eqb v a n, ne_eqb v other k, near_front m a v, h, l) g

-- ---- an edge that gives an ideal

only : (x : Vec) (c d : Bool) → any every (cond c (cond d (x ∷ []) []) []) ≡ true → cond c (cond d (x ∷ []) []) [] ≡ x ∷ []
unfolding any
only x true true h = refl
only x true false h = absurd (false≢true h)
only x false d h = absurd (false≢true h)

none_pass : (f : Vec → Bool) (l : List Vec) → any every l ≡ false → any f l ≡ false
unfolding any
none_pass f [] h = refl
none_pass f (x ∷ l) h = absurd (false≢true (sym h))

module _ (m : Mesh) (a other : ℕ) (u : Vec) (v : ℕ) where
  ideal_is : gives m a other u v ≡ true → ideal_by m a other u (cells_at m a) v ≡ ideal m a u v ∷ []
  unfolding ideal_by halfway between
  ideal_is h =
      only (ideal m a u v) (not (eqb v a) && not (eqb v other) && front_owners (filter (owns (key a v)) (cells_at m a)) && not (norm (toward m a v) ≼ tiny_length))
      (ideal_sum ≺ norm (plus u (over (toward m a v) (norm (toward m a v))))) h

  -- it passes a test where its ideal does
  pub gives_passes : (f : Vec → Bool) → gives m a other u v ≡ true → wanted_by f m a other u v ≡ f (ideal m a u v)
  unfolding any
  gives_passes f h = rw (ideal_is h) (or-false (f (ideal m a u v)))

  pub gives_none : (f : Vec → Bool) → gives m a other u v ≡ false → wanted_by f m a other u v ≡ false
  gives_none f h = none_pass f (ideal_by m a other u (cells_at m a) v) h

-- the way from a to v, by the points as they are read
pub toward_read : (q : List Float) (p : ℕ) (m : Mesh) → Pts q p m → (a v : ℕ) → At m a v → (d : Vec) → d ≡ from_to (point_at q a) (point_at q v) → d ≡ toward m a v
unfolding toward
toward_read q p m k a v e d h =
    let r = node_of m (length m.points) q k.are in
    h ∙ ap (λ (y : Node). from_to y (point_at q v)) (sym (r a e.node)) ∙ ap (from_to (node_at m a)) (sym (r v e.end))

pub ideal_read : (q : List Float) (p : ℕ) (m : Mesh) → Pts q p m → (a v : ℕ) → At m a v → (u : Vec) → ideal_from q a u v ≡ ideal m a u v
ideal_read q p m k a v e u = ap (between u) (toward_read q p m k a v e (from_to (point_at q a) (point_at q v)) refl)

-- ---- an edge's ideal step by step

pub half_is : (q : List Float) (a v : ℕ) (u d o h x : Vec) (n l : Float) → d ≡ from_to (point_at q a) (point_at q v) → n ≡ norm d → o ≡ over d n → h ≡ plus u o → l ≡ norm h → x ≡ over h l
    → x ≡ ideal_from q a u v
unfolding between
half_is q a v u d o h x n l ed en eo eh el ex =
    let t = from_to (point_at q a) (point_at q v) in
    let k = plus u (over t (norm t)) in
    let i : n ≡ norm t = en ∙ ap norm ed in
    let j : o ≡ over t (norm t) = eo ∙ ap (λ (z : Vec). over z n) ed ∙ ap (over t) i in
    let f : h ≡ k = eh ∙ ap (plus u) j in
    let g : l ≡ norm k = el ∙ ap norm f in
    ex ∙ ap (λ (z : Vec). over z l) f ∙ ap (over k) g

-- no ideal
pub not_given : (q : List Float) (m : Mesh) (a other : ℕ) (u : Vec) (v : ℕ) → false ≡ gives m a other u v → GivenBy q m a other u v None
not_given q m a other u v h = record { yes = h; is = λ x e. cc }

-- the ideal
pub given : (q : List Float) (m : Mesh) (a other : ℕ) (u : Vec) (v : ℕ) (x : direction.Vec) → true ≡ gives m a other u v → vec x ≡ ideal_from q a u v → GivenBy q m a other u v (Some x)
given q m a other u v x h i = record { yes = h; is = λ y e. let z : x ≡ y = cc in subst (λ (d : direction.Vec). vec d ≡ ideal_from q a u v) z i }
