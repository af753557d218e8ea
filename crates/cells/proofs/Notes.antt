-- Notes stay true: where their words are the same, and where the owners of the node's edges are.
use mathlib.Core.Path.{◌≡◌, refl, ap, sym, ◌∙◌, subst}
use mathlib.Core.Logic.{◌≢◌, inl, inr}
use mathlib.Core.Bool.{Bool, true, false, cond, ◌||◌}
use mathlib.Core.List.{List, [], ◌∷◌}
use Prim.Native.Nat.{ℕ, zero, suc, ◌+◌, ◌*◌, ◌%◌, ◌≤◌, ◌<◌}
use native.Mathlib.Omega.{arith}
use lib.Dec.{eqb, ltb}
use lib.ListN.{length, get_or}
use borrow.Author.Tests.{eq-eqb, ne_eqb, ltb-true, ltb-false}
use Rattle.rings.proofs.Lists.{Same, same, differ, decide}
use Rattle.definition.specs.Lists.{filter, any, contains}
use Rattle.definition.specs.Cells.{Mesh, key, owns, owners, front_owners, is_front, has_edge, node_at}
use Rattle.cells.specs.Layout.{fronts_at, boxes_at, even_at}
use Rattle.cells.specs.Notes.{note, ends, noted, bound, Fronts, Near, Box, NoteAt, IsNoted}

-- nothing is noted
pub note_none : (w : List ℕ) (s p : ℕ) (m : Mesh) (u : ℕ) → note w s p u ≡ 0 → NoteAt w s p m u
note_none w s p m u e = record { inside = λ h. absurd (omega arith); fronts = λ h. absurd (omega arith); box = λ h. absurd (omega arith) }

-- ---- the same words

-- the words that the note of u stands in are the same
pub record Spared (w w' : List ℕ) (s p u : ℕ) : Type 0 where
  pub same : note w' s p u ≡ note w s p u
  pub more : u < s → (i : ℕ) → fronts_at s p ≤ i → i < even_at s p → get_or w' i 0 ≡ get_or w i 0

pub ends_few : (k a b a' b' : ℕ) → k ≤ 1 → ends (k % 4) a' b' ≡ ends (k % 4) a b
ends_few zero a b a' b' h = refl
ends_few (suc zero) a b a' b' h = refl
ends_few (suc (suc k)) a b a' b' h = absurd (omega arith)

module _ (w w' : List ℕ) (s p u : ℕ) (word : note w' s p u ≡ note w s p u)
    (first : u < s → get_or w' (fronts_at s p + 2 * u) 0 ≡ get_or w (fronts_at s p + 2 * u) 0)
    (second : u < s → get_or w' (fronts_at s p + 2 * u + 1) 0 ≡ get_or w (fronts_at s p + 2 * u + 1) 0)
    (sides : u < s → (j : ℕ) → j < 4 → bound w' s p u j ≡ bound w s p u j) where
  noted_same : (1 < note w s p u → u < s) → noted w' s p u ≡ noted w s p u
  noted_same h = go (ltb 1 (note w s p u)) refl
    where
      go : (c : Bool) → ltb 1 (note w s p u) ≡ c → noted w' s p u ≡ noted w s p u
      go true e = let us : u < s = h (ltb-true 1 (note w s p u) e) in rw (word, first us, second us)
      go false e =
          rw word
          (ends_few (note w s p u) (get_or w (fronts_at s p + 2 * u) 0) (get_or w (fronts_at s p + 2 * u + 1) 0) (get_or w' (fronts_at s p + 2 * u) 0) (get_or w' (fronts_at s p + 2 * u + 1) 0)
          (ltb-false 1 (note w s p u) e))

  -- a note whose words are the same is true as before
  pub note_same : (m : Mesh) → NoteAt w s p m u → NoteAt w' s p m u
  note_same m n =
      record {
        inside = λ h. n.inside (rw (← word) h);
        fronts = λ h. subst (λ (vs : List ℕ). Fronts m u vs) (sym (noted_same n.inside)) (n.fronts (rw (← word) h));
        box = λ h.
            let h' : 4 ≤ note w s p u = rw (← word) h in
            let us : u < s = n.inside (omega arith) in
            rw (sides us 0 (omega arith), sides us 1 (omega arith), sides us 2 (omega arith), sides us 3 (omega arith)) (n.box h');
      }

module _ (w w' : List ℕ) (s p u : ℕ) (k : Spared w w' s p u) where
  pub note_spared : (m : Mesh) → NoteAt w s p m u → NoteAt w' s p m u
  note_spared m n =
      note_same w w' s p u k.same (λ us. k.more us (fronts_at s p + 2 * u) (omega arith) (omega arith)) (λ us. k.more us (fronts_at s p + 2 * u + 1) (omega arith) (omega arith))
      (λ us j l. k.more us (boxes_at s p + 4 * u + j) (omega arith) (omega arith)) m n

-- ---- the same owners

-- the edges of u have the same owners
abbrev pub SameAt : Mesh → Mesh → ℕ → Type 0
SameAt m m' u = (v : ℕ) → u ≢ v → owners m' (key u v) ≡ owners m (key u v)

-- the points are the same, and there may be more
pub record Grown (m m' : Mesh) : Type 0 where
  pub more : length m.points ≤ length m'.points
  pub same : (v : ℕ) → v < length m.points → node_at m' v ≡ node_at m v

pub grown_same : (m m' : Mesh) → m'.points ≡ m.points → Grown m m'
unfolding node_at
grown_same m m' e = record { more = rw e (omega arith); same = λ v h. rw e }

-- there is an element
abbrev occupied : {A : Type 0} → List A → Bool
occupied [] = false
occupied (x ∷ l) = true

any_occupied : {A : Type 0} (f : A → Bool) (l : List A) → any f l ≡ occupied (filter f l)
unfolding any filter
any_occupied f [] = refl
any_occupied f (x ∷ l) = go (f x) refl (any_occupied f l)
  where
    go : (b : Bool) → f x ≡ b → any f l ≡ occupied (filter f l) → (f x || any f l) ≡ occupied (cond (f x) (x ∷ filter f l) (filter f l))
    go true e r = rw e
    go false e r = rw e r

pub edge_same : (m m' : Mesh) (u v : ℕ) → owners m' (key u v) ≡ owners m (key u v) → has_edge m' u v ≡ has_edge m u v
unfolding has_edge owners
edge_same m m' u v e = any_occupied (owns (key u v)) m'.live ∙ ap occupied e ∙ sym (any_occupied (owns (key u v)) m.live)

module _ (m m' : Mesh) (u : ℕ) (o : SameAt m m' u) where
  front_same : (v : ℕ) → u ≢ v → is_front m' (key u v) ≡ is_front m (key u v)
  unfolding is_front
  front_same v d = ap front_owners (o v d)

  pub fronts_mesh : (vs : List ℕ) → Fronts m u vs → Fronts m' u vs
  fronts_mesh vs f = record { up = f.up; all = λ v h. front_same v (λ e. omega arith) ∙ f.all v h }

  module _ (g : Grown m m') where
    near_back : (v : ℕ) → Near m' u v → Near m u v
    near_back v (inl e) = inl e
    near_back v (inr e) = go (decide u v)
      where
        go : Same u v → Near m u v
        go (same z) = inl (sym z)
        go (differ d) = inr (sym (edge_same m m' u v (o v d)) ∙ e)

    pub box_mesh : (a b c d : ℕ) → Box m u a b c d → Box m' u a b c d
    box_mesh a b c d k =
        let old : (v : ℕ) → v < length m.points → node_at m' v ≡ node_at m v = g.same in
        record {
          a_known = omega (arith, k.a_known, g.more);
          b_known = omega (arith, k.b_known, g.more);
          c_known = omega (arith, k.c_known, g.more);
          d_known = omega (arith, k.d_known, g.more);
          known = λ v h. omega (arith, k.known v (near_back v h), g.more);
          left = λ v h. rw (old a k.a_known, old v (k.known v (near_back v h))) (k.left v (near_back v h));
          right = λ v h. rw (old b k.b_known, old v (k.known v (near_back v h))) (k.right v (near_back v h));
          low = λ v h. rw (old c k.c_known, old v (k.known v (near_back v h))) (k.low v (near_back v h));
          high = λ v h. rw (old d k.d_known, old v (k.known v (near_back v h))) (k.high v (near_back v h));
        }

  pub note_mesh : Grown m m' → (w : List ℕ) (s p : ℕ) → NoteAt w s p m u → NoteAt w s p m' u
  note_mesh g w s p n =
      record {
        inside = n.inside;
        fronts = λ h. fronts_mesh (noted w s p u) (n.fronts h);
        box = λ h. box_mesh g (bound w s p u 0) (bound w s p u 1) (bound w s p u 2) (bound w s p u 3) (n.box h);
      }

-- ---- what noted ends tell of an edge

-- v is the first end
ends_first : (k a b v : ℕ) → 1 < k → a ≡ v → true ≡ contains (ends k a b) v
unfolding contains any
ends_first zero a b v h e = absurd (omega arith)
ends_first (suc zero) a b v h e = absurd (omega arith)
ends_first (suc (suc zero)) a b v h e = rw (eq-eqb v a (sym e))
ends_first (suc (suc (suc k))) a b v h e = rw (eq-eqb v a (sym e))

-- it is not, and there is no other
ends_one : (a b v : ℕ) → a ≢ v → false ≡ contains (ends 2 a b) v
unfolding contains any
ends_one a b v d = rw (ne_eqb v a (λ e. d (sym e)))

-- it is the second or none
ends_second : (k a b v : ℕ) → 2 < k → a ≢ v → eqb b v ≡ contains (ends k a b) v
unfolding contains any
ends_second zero a b v h d = absurd (omega arith)
ends_second (suc zero) a b v h d = absurd (omega arith)
ends_second (suc (suc zero)) a b v h d = absurd (omega arith)
ends_second (suc (suc (suc k))) a b v h d = rw (ne_eqb v a (λ e. d (sym e))) (go (decide b v))
  where
    go : Same b v → eqb b v ≡ (eqb v b || false)
    go (same e) = rw (eq-eqb b v e, eq-eqb v b (sym e))
    go (differ e) = rw (ne_eqb b v e, ne_eqb v b (λ z. e (sym z)))

module _ (w : List ℕ) (s p u v known : ℕ) (k : IsNoted w s p u v known) (m : Mesh) (n : NoteAt w s p m u) where
  -- the edge is a front edge where v is one of the ends
  noted_law : contains (ends known (get_or w (fronts_at s p + 2 * u) 0) (get_or w (fronts_at s p + 2 * u + 1) 0)) v ≡ is_front m (key u v)
  noted_law = rw k.is (sym ((n.fronts (omega (arith, k.is, k.some))).all v k.above))

  pub noted_none : known ≡ 1 → false ≡ is_front m (key u v)
  unfolding contains any
  noted_none e = ap (λ (i : ℕ). contains (ends i (get_or w (fronts_at s p + 2 * u) 0) (get_or w (fronts_at s p + 2 * u + 1) 0)) v) (sym e) ∙ noted_law

  pub noted_first : (a : ℕ) → a ≡ get_or w (fronts_at s p + 2 * u) 0 → known ≢ 1 → a ≡ v → true ≡ is_front m (key u v)
  noted_first a i d e =
      ends_first known (get_or w (fronts_at s p + 2 * u) 0) (get_or w (fronts_at s p + 2 * u + 1) 0) v (omega (arith, k.some, d)) (sym i ∙ e) ∙ noted_law

  pub noted_one : (a : ℕ) → a ≡ get_or w (fronts_at s p + 2 * u) 0 → known ≡ 2 → a ≢ v → false ≡ is_front m (key u v)
  noted_one a i e d =
      ends_one (get_or w (fronts_at s p + 2 * u) 0) (get_or w (fronts_at s p + 2 * u + 1) 0) v (λ z. d (i ∙ z))
      ∙ ap (λ (j : ℕ). contains (ends j (get_or w (fronts_at s p + 2 * u) 0) (get_or w (fronts_at s p + 2 * u + 1) 0)) v) (sym e) ∙ noted_law

  pub noted_second : (a b : ℕ) → a ≡ get_or w (fronts_at s p + 2 * u) 0 → b ≡ get_or w (fronts_at s p + 2 * u + 1) 0 → known ≢ 1 → known ≢ 2 → a ≢ v
      → eqb b v ≡ is_front m (key u v)
  noted_second a b i j d2 d3 d =
      rw j
      (ends_second known (get_or w (fronts_at s p + 2 * u) 0) (get_or w (fronts_at s p + 2 * u + 1) 0) v (omega (arith, k.some, d2, d3)) (λ z. d (i ∙ z)) ∙ noted_law)
