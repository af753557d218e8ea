-- The laws of a walk over an edge's owners: where it starts, what stands at a corner, where it ends.
use mathlib.Core.Path.{◌≡◌, refl, ap, sym, ◌∙◌, subst}
use mathlib.Core.List.{List, [], ◌∷◌}
use Prim.Native.Nat.{ℕ, suc, ◌+◌, ◌*◌, ◌/◌, ◌≤◌, ◌<◌}
use native.Mathlib.Omega.{arith}
use lib.ListN.{length}
use Rattle.rings.specs.Rings.{nx}
use Rattle.definition.specs.Cells.{Live, Mesh, key, owners}
use Rattle.cells.specs.Layout.{rings_at}
use Rattle.cells.specs.Rep.{Held, Rep}
use Rattle.cells.specs.Walk.{own, Pos, Sought, nobody, somebody, At, Next}
use Rattle.cells.proofs.Walks.{start, got, ended, sought_walk}

-- what stands at a corner of the walk: the first of the owners still to come
pub record Here (w : List ℕ) (s p c : ℕ) (xs : List Live) : Type 0 where
  pub x : Live
  pub more : List Live
  pub is : xs ≡ x ∷ more
  pub slot : c / 4 ≡ x.slot
  pub held : Held w s s p x

module _ (w : List ℕ) (s p u v c : ℕ) where
  pub at_start : (m : Mesh) → Rep w s p m → u < p → ((rest : List Live) → Pos w s p u (nx w (rings_at s) (4 * s + u)) rest → Sought w s p u v c rest)
      → At w s p u v c (owners m (key u v))
  unfolding owners
  at_start m r h f = record { rest = m.live; sought = f m.live (start w s p u m r h); are = refl }

  pub at_here : (xs : List Live) → At w s p u v c xs → c < 4 * s → Here w s p c xs
  at_here xs a h =
      let g = got w s p u v c a.rest a.sought h in
      record { x = g.e; more = own u v g.more; is = sym a.are ∙ g.own_is; slot = g.slot; held = g.held }

  pub at_end : (xs : List Live) → At w s p u v c xs → 4 * s ≤ c → xs ≡ []
  at_end xs a h = sym a.are ∙ ended w s p u v c a.rest a.sought h

  -- a walk that has owners to come is at a corner
  pub at_more : (x : Live) (xs : List Live) → At w s p u v c (x ∷ xs) → c < 4 * s
  at_more x xs a = go a.sought a.are
    where
      go : Sought w s p u v c a.rest → own u v a.rest ≡ x ∷ xs → c < 4 * s
      go (nobody o e) q = let z : ◌≡◌ {A = ℕ} 0 (suc (length xs)) = ap length (sym o ∙ q) in absurd (omega arith)
      go (somebody y m o d b k n t z) q = b

  -- the place after it
  pub at_pos : (xs : List Live) (a : At w s p u v c xs) → c < 4 * s → (rest : List Live) × Pos w s p u (nx w (rings_at s) c) rest
  at_pos xs a h = let g = got w s p u v c a.rest a.sought h in (g.more, g.then)

  pub at_next : (r : ℕ) (xs : List Live) → At w s p u v c xs → c < 4 * s
      → ((rest : List Live) → Pos w s p u (nx w (rings_at s) c) rest → Sought w s p u v r rest) → Next w s p u v c r
  at_next r xs a h f =
      let g = got w s p u v c a.rest a.sought h in
      record {
        fewer = omega (arith, g.far, sought_walk w s p u v r g.more (f g.more g.then));
        at = λ y ys b.
            let k = got w s p u v c b.rest b.sought h in
            let o : own u v b.rest ≡ k.e ∷ own u v k.more = k.own_is in
            let q : own u v b.rest ≡ y ∷ ys = b.are in
            record { rest = k.more; sought = f k.more k.then; are = cc };
      }

-- ---- one law for a walk, whatever it folds: is_front, tri_owner, a flood's visits and a stack's pushes are such folds

module _ {A : Type 0} (f : A → Live → A) where
  -- the owners one after the other
  unfoldable pub fold : A → List Live → A
  fold a [] = a
  fold a (x ∷ xs) = fold (f a x) xs

  -- what was counted so far, a, and with the owners still to come `total`
  pub record Walking (w : List ℕ) (s p u v c : ℕ) (a total : A) : Type 0 where
    pub xs : List Live
    pub at : At w s p u v c xs
    pub rest : fold a xs ≡ total

  pub walk_start : (w : List ℕ) (s p u v c : ℕ) (a : A) (xs : List Live) → At w s p u v c xs → Walking w s p u v c a (fold a xs)
  walk_start w s p u v c a xs h = record { xs = xs; at = h; rest = refl }

  pub walk_here : (w : List ℕ) (s p u v c : ℕ) (a total : A) (k : Walking w s p u v c a total) → c < 4 * s → Here w s p c k.xs
  walk_here w s p u v c a total k h = at_here w s p u v c k.xs k.at h

  -- one owner on; the memory may have changed beyond the mesh since (at-under)
  pub walk_more : (w : List ℕ) (s p u v c r : ℕ) (a total : A) (k : Walking w s p u v c a total) (h : c < 4 * s) → Next w s p u v c r
      → Walking w s p u v r (f a (walk_here w s p u v c a total k h).x) total
  unfolding fold walk_here
  walk_more w s p u v c r a total k h n =
      let g = at_here w s p u v c k.xs k.at h in
      record {
        xs = g.more;
        at = n.at g.x g.more (subst (λ (l : List Live). At w s p u v c l) g.is k.at);
        rest = sym (ap (fold a) g.is) ∙ k.rest;
      }

  pub walk_end : (w : List ℕ) (s p u v c : ℕ) (a total : A) → Walking w s p u v c a total → 4 * s ≤ c → a ≡ total
  unfolding fold
  walk_end w s p u v c a total k h = sym (ap (fold a) (at_end w s p u v c k.xs k.at h)) ∙ k.rest
