-- Owners counted, and the first triangle among them.
use mathlib.Core.Path.{◌≡◌, refl, ap, sym, ◌∙◌, subst}
use mathlib.Core.Bool.{Bool, true, false, ◌&&◌, ◌||◌}
use mathlib.Core.List.{List, [], ◌∷◌}
use Prim.Native.Nat.{ℕ, suc, ◌+◌, ◌*◌, ◌/◌, ◌≤◌, ◌<◌}
use native.Mathlib.Omega.{arith}
use lib.Dec.{eqb, ltb, leb}
use lib.ListN.{length, get_or}
use borrow.Author.Tests.{eq-eqb, ne_eqb, le-leb, lt-leb, ltb-true, ltb-false}
use Rattle.definition.specs.Lists.{filter, any, first}
use Rattle.definition.specs.Cells.{Cell, tri, quad, Live, Mesh, nodes, tri_nodes, quad_nodes, key, is_tri, live_tri, owns, owners, tri_owners, tri_owner, front_owners, is_front, has_edge}
use Rattle.laws.specs.Lists.{any_none, filter_yes, filter_no}
use Rattle.cells.specs.Rep.{CellAt, Held}
use Rattle.cells.specs.Walk.{At, Next, one_if, slot_or}
use Rattle.cells.proofs.Owners.{Here, at_here, at_end}

-- the kind tells triangles
pub kind_tri : (w : List ℕ) (s i : ℕ) (t : Cell) → CellAt w s i t → eqb (get_or w i 0) 3 ≡ is_tri t
unfolding nodes tri_nodes quad_nodes is_tri
kind_tri w s i (tri t) h = rw h.kind
kind_tri w s i (quad q) h = rw h.kind

pub held_tri : (w : List ℕ) (s k n : ℕ) (x : Live) → Held w s k n x → eqb (get_or w x.slot 0) 3 ≡ live_tri x
unfolding live_tri
held_tri w s k n x h = kind_tri w s x.slot x.cell h.at

pub one_most : (b : Bool) → one_if b ≤ 1
one_most true = omega arith
one_most false = omega arith

pub tri_more : (x : Live) (l : List Live) → length (filter live_tri (x ∷ l)) ≡ one_if (live_tri x) + length (filter live_tri l)
tri_more x l = go (live_tri x) refl
  where
    go : (b : Bool) → live_tri x ≡ b → length (filter live_tri (x ∷ l)) ≡ one_if b + length (filter live_tri l)
    go true e = rw (filter_yes live_tri x l e) (omega arith)
    go false e = rw (filter_no live_tri x l e) (omega arith)

-- some owner is an owner
any_filter : (f : Live → Bool) (l k : List Live) (x : Live) → filter f l ≡ x ∷ k → any f l ≡ true
unfolding any filter
any_filter f [] k x h = let z : ◌≡◌ {A = ℕ} 0 (suc (length k)) = ap length h in absurd (omega arith)
any_filter f (y ∷ l) k x h = go (f y) refl (any_filter f l k x)
  where
    go : (b : Bool) → f y ≡ b → (filter f l ≡ x ∷ k → any f l ≡ true) → (f y || any f l) ≡ true
    go true e r = rw e
    go false e r = rw e (r (sym (filter_no f y l e) ∙ h))

no_both : (b : Bool) → false ≡ (b && false)
no_both true = refl
no_both false = refl

-- `all` owners and `t` triangles among them were passed; the corner c is the next owner's
pub record Counted (w : List ℕ) (s p u v all t c : ℕ) (m : Mesh) : Type 0 where
  pub xs : List Live
  pub at : At w s p u v c xs
  pub sum : all + length xs ≡ length (owners m (key u v))
  pub tris : t + length (filter live_tri xs) ≡ length (filter live_tri (owners m (key u v)))

-- the owners from c on have the same triangles as all
pub record NoTri (w : List ℕ) (s p u v c : ℕ) (m : Mesh) : Type 0 where
  pub xs : List Live
  pub at : At w s p u v c xs
  pub tris : tri_owners m (key u v) ≡ filter live_tri xs

module _ (w : List ℕ) (s p u v c : ℕ) (m : Mesh) where
  pub counted_start : At w s p u v c (owners m (key u v)) → Counted w s p u v 0 0 c m
  counted_start h = record { xs = owners m (key u v); at = h; sum = omega arith; tris = omega arith }

  -- the triangles to come: that of c, if it is one, and those after it
  tris_here : c < 4 * s → (x : ℕ) → x ≡ one_if (eqb (get_or w (c / 4) 0) 3) → (xs : List Live) (g : Here w s p c xs)
      → length (filter live_tri xs) ≡ x + length (filter live_tri g.more)
  tris_here h x e xs g =
      let z : eqb (get_or w (c / 4) 0) 3 ≡ live_tri g.x = ap (λ (i : ℕ). eqb (get_or w i 0) 3) g.slot ∙ held_tri w s s p g.x g.held in
      ap (λ (l : List Live). length (filter live_tri l)) g.is ∙ tri_more g.x g.more ∙ ap (λ (y : ℕ). y + length (filter live_tri g.more)) (ap one_if (sym z) ∙ sym e)

  pub counted_more : (all t r x : ℕ) → c < 4 * s → x ≡ one_if (eqb (get_or w (c / 4) 0) 3) → Counted w s p u v all t c m → Next w s p u v c r
      → Counted w s p u v (all + 1) (t + x) r m
  counted_more all t r x h e k f =
      let g = at_here w s p u v c k.xs k.at h in
      let n : length k.xs ≡ suc (length g.more) = ap length g.is in
      let q = tris_here h x e k.xs g in
      record {
        xs = g.more;
        at = f.at g.x g.more (subst (λ (l : List Live). At w s p u v c l) g.is k.at);
        sum = omega (arith, k.sum);
        tris = omega (arith, k.tris);
      }

  pub front_many : (t all : ℕ) → all ≡ 2 → c < 4 * s → Counted w s p u v all t c m → false ≡ is_front m (key u v)
  unfolding is_front front_owners
  front_many t all a h k =
      let g = at_here w s p u v c k.xs k.at h in
      let n : length k.xs ≡ suc (length g.more) = ap length g.is in
      rw (lt-leb (length (owners m (key u v))) 2 (omega (arith, k.sum)))

  -- a second triangle is seen at c
  pub front_twice : (all t x : ℕ) → t + x ≡ 2 → c < 4 * s → x ≡ one_if (eqb (get_or w (c / 4) 0) 3) → Counted w s p u v all t c m → false ≡ is_front m (key u v)
  unfolding is_front front_owners
  front_twice all t x a h e k =
      let g = at_here w s p u v c k.xs k.at h in
      let q = tris_here h x e k.xs g in
      rw (ne_eqb (length (filter live_tri (owners m (key u v)))) 1 (omega (arith, k.tris))) (no_both (leb (length (owners m (key u v))) 2))

  pub front_end : (all t : ℕ) → all ≤ 2 → 4 * s ≤ c → Counted w s p u v all t c m → eqb t 1 ≡ is_front m (key u v)
  unfolding is_front front_owners filter
  front_end all t a h k =
      let o : k.xs ≡ [] = at_end w s p u v c k.xs k.at h in
      let n : length k.xs ≡ 0 = ap length o in
      let q : length (filter live_tri k.xs) ≡ 0 = ap (λ (l : List Live). length (filter live_tri l)) o in
      let z : length (filter live_tri (owners m (key u v))) ≡ t = omega (arith, k.tris) in
      rw (le-leb (length (owners m (key u v))) 2 (omega (arith, k.sum)), z)

  pub edge_test : At w s p u v c (owners m (key u v)) → ltb c (4 * s) ≡ has_edge m u v
  unfolding has_edge owners
  edge_test a = go (ltb c (4 * s)) refl
    where
      open_test : c < 4 * s → true ≡ has_edge m u v
      open_test h =
          let g = at_here w s p u v c (owners m (key u v)) a h in
          sym (any_filter (owns (key u v)) m.live g.more g.x g.is)

      shut_test : 4 * s ≤ c → false ≡ has_edge m u v
      shut_test h = sym (any_none (owns (key u v)) m.live (at_end w s p u v c (owners m (key u v)) a h))

      go : (b : Bool) → ltb c (4 * s) ≡ b → b ≡ has_edge m u v
      go true e = open_test (ltb-true c (4 * s) e)
      go false e = shut_test (ltb-false c (4 * s) e)

  pub no_tri_start : At w s p u v c (owners m (key u v)) → NoTri w s p u v c m
  unfolding tri_owners
  no_tri_start h = record { xs = owners m (key u v); at = h; tris = refl }

  pub no_tri_hit : c < 4 * s → get_or w (c / 4) 0 ≡ 3 → NoTri w s p u v c m → c / 4 ≡ slot_or s (tri_owner m (key u v))
  unfolding tri_owner first
  no_tri_hit h z k =
      let g = at_here w s p u v c k.xs k.at h in
      let q : live_tri g.x ≡ true = sym (held_tri w s s p g.x g.held) ∙ eq-eqb (get_or w g.x.slot 0) 3 (rw (← g.slot) z) in
      let e : tri_owners m (key u v) ≡ g.x ∷ filter live_tri g.more = k.tris ∙ ap (filter live_tri) g.is ∙ filter_yes live_tri g.x g.more q in
      rw e g.slot

  pub no_tri_more : (r : ℕ) → c < 4 * s → (get_or w (c / 4) 0 ≡ 3 → ⊥) → NoTri w s p u v c m → Next w s p u v c r → NoTri w s p u v r m
  no_tri_more r h z k f =
      let g = at_here w s p u v c k.xs k.at h in
      let q : live_tri g.x ≡ false = sym (held_tri w s s p g.x g.held) ∙ ne_eqb (get_or w g.x.slot 0) 3 (rw (← g.slot) z) in
      record {
        xs = g.more;
        at = f.at g.x g.more (subst (λ (l : List Live). At w s p u v c l) g.is k.at);
        tris = k.tris ∙ ap (filter live_tri) g.is ∙ filter_no live_tri g.x g.more q;
      }

  pub no_tri_end : 4 * s ≤ c → NoTri w s p u v c m → s ≡ slot_or s (tri_owner m (key u v))
  unfolding tri_owner first filter
  no_tri_end h k =
      let e : tri_owners m (key u v) ≡ [] = k.tris ∙ ap (filter live_tri) (at_end w s p u v c k.xs k.at h) in
      rw e
