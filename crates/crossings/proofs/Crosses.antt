-- The least node beside a node whose edge crosses a segment, found in the node's ring;
-- and the smallest crossing edge of the mesh.
use Rattle.std.specs.Prelude.{◌≡◌, ◌≢◌, ◌&&◌, ◌||◌, ◌+◌, ◌*◌, ◌<◌, ◌≤◌, ◌∷◌}
use Rattle.laws.specs.Kit.{refl, sym, ◌∙◌, ap, subst, Bool, true, false, cond, true≢false, false≢true, none, ℕ, arith, eqb, ltb, eq-eqb, ne_eqb, eqb-false, le-ltb, ltb-true, ltb-false, List, [], length}
use mathlib.Core.Bool.{and-false, or-true}
use Rattle.rings.specs.Rings.{nx}
use Rattle.rings.proofs.Lists.{Same, same, differ, decide}
use Rattle.definition.specs.Plane.{Edge}
use Rattle.definition.specs.Lists.{filter, any, first}
use Rattle.definition.specs.Cells.{Live, Mesh, key, has_side, owns, has_edge, edge_before, all_edges}
use Rattle.definition.specs.Flips.{is_crossing, first_crossing}
use Rattle.laws.specs.Lists.{In, in_filter, filter_in}
use Rattle.cells.specs.Layout.{rings_at}
use Rattle.cells.specs.Rep.{Rep}
use Rattle.cells.specs.Walk.{own, Pos, left, beside, node_after, node_before, CanRead}
use Rattle.cells.proofs.Walks.{There, there, seek_end, ended, start, pos_walk, can_read}
use Rattle.crossings.specs.Cross.{Choice, stays, takes, Meets, LeastAt, NoneBelow, FirstAt}
use Rattle.crossings.proofs.Sorts.{sort_least, sort_none}
use Rattle.crossings.proofs.Sides.{edge_of, edge_in, edge_known}

-- ---- some owner

-- there is one
abbrev pub some_in : List Live → Bool
some_in [] = false
some_in (x ∷ l) = true

any_some : (f : Live → Bool) (l : List Live) → any f l ≡ some_in (filter f l)
unfolding any filter
any_some f [] = refl
any_some f (x ∷ l) = go (f x) (any_some f l)
  where
    go : (b : Bool) → any f l ≡ some_in (filter f l) → (b || any f l) ≡ some_in (cond b (x ∷ filter f l) (filter f l))
    go true r = refl
    go false r = r

pub edge_some : (m : Mesh) (a x : ℕ) → has_edge m a x ≡ some_in (own a x m.live)
unfolding has_edge
edge_some m a x = any_some (owns (key a x)) m.live

-- ---- the better of two

record Better (m : Mesh) (n u v a x best r : ℕ) : Type 0 where
  pub most : r ≤ best
  pub good : (best < n → Meets m u v a best) → r < n → Meets m u v a r
  pub skip : (z : ℕ) → z < r → Meets m u v a z → z ≢ x

better : (m : Mesh) (n u v a x best r : ℕ) → Choice m u v a x best r → (a < x → has_edge m a x ≡ true) → Better m n u v a x best r
better m n u v a x best r (stays q k) j =
    record {
      most = omega arith;
      good = λ g h. subst (λ (z : ℕ). Meets m u v a z) (sym q) (g (omega arith));
      skip = λ z h g d. k (omega (arith, g.up)) (omega arith) (subst (λ (y : ℕ). is_crossing m u v (a, y) ≡ true) d g.crosses);
    }
better m n u v a x best r (takes q l up t) j =
    record {
      most = omega arith;
      good = λ g h. subst (λ (z : ℕ). Meets m u v a z) (sym q) (record { up = up; edge = j up; crosses = t });
      skip = λ z h g d. omega arith;
    }

-- ---- the walk

-- the best so far; what is still to come has every better one
pub record Best (w : List ℕ) (s p n u v a best c : ℕ) (m : Mesh) : Type 0 where
  pub rest : List Live
  pub here : Pos w s p a c rest
  pub most : best ≤ n
  pub good : best < n → Meets m u v a best
  pub sub : (x : ℕ) → a ≢ x → some_in (own a x rest) ≡ true → has_edge m a x ≡ true
  pub left : (x : ℕ) → x < best → Meets m u v a x → some_in (own a x rest) ≡ true

module _ (w : List ℕ) (s p n u v a : ℕ) (m : Mesh) where
  pub best_start : Rep w s p m → a < p → Best w s p n u v a n (nx w (rings_at s) (4 * s + a)) m
  best_start r h =
      record {
        rest = m.live;
        here = start w s p a m r h;
        most = omega arith;
        good = λ q. absurd (omega (arith, q));
        sub = λ x d q. edge_some m a x ∙ q;
        left = λ x q g. sym (edge_some m a x) ∙ g.edge;
      }

  keep : (b : Bool) (e : Live) (l : List Live) → some_in l ≡ true → some_in (cond b (e ∷ l) l) ≡ true
  keep true e l q = refl
  keep false e l q = q

  pub own_hit : (z : ℕ) (e : Live) (l : List Live) → has_side (key a z) e.cell ≡ true → some_in (own a z (e ∷ l)) ≡ true
  unfolding filter owns
  own_hit z e l h = rw h

  pub own_miss : (z : ℕ) (e : Live) (l : List Live) → has_side (key a z) e.cell ≡ false → some_in (own a z (e ∷ l)) ≡ some_in (own a z l)
  unfolding filter owns
  own_miss z e l h = rw h

  pub own_keep : (z : ℕ) (e : Live) (l : List Live) → some_in (own a z l) ≡ true → some_in (own a z (e ∷ l)) ≡ true
  unfolding filter
  own_keep z e l q = keep (owns (key a z) e) e (own a z l) q

  module _ (best c : ℕ) (h : c < 4 * s) (k : Best w s p n u v a best c m) where
    at : There w s p a c k.rest k.here
    at = there w s p a c k.rest k.here h

    side_is : (x y z : ℕ) → x ≡ node_after w s c → y ≡ node_before w s c → a ≢ z → has_side (key a z) at.e.cell ≡ (eqb x z || eqb y z)
    unfolding beside
    side_is x y z ex ey d = at.edge z d ∙ (rw (← ex, ← ey))

    joined : (z : ℕ) → a ≢ z → has_side (key a z) at.e.cell ≡ true → has_edge m a z ≡ true
    joined z d q = k.sub z d (ap some_in (at.own_is z d) ∙ own_hit z at.e at.l q)

    pub best_more : (x y b1 b2 : ℕ) → x ≡ node_after w s c → Choice m u v a x best b1 → y ≡ node_before w s c → Choice m u v a y b1 b2
        → Best w s p n u v a b2 (nx w (rings_at s) c) m
    best_more x y b1 b2 ex c1 ey c2 =
        let f1 = better m n u v a x best b1 c1 (λ l. joined x (omega arith) (side_is x y x ex ey (omega arith) ∙ (rw (eq-eqb x x refl)))) in
        let f2 = better m n u v a y b1 b2 c2 (λ l. joined y (omega arith) (side_is x y y ex ey (omega arith) ∙ (rw (eq-eqb y y refl) (or-true (eqb x y))))) in
        record {
          rest = at.l;
          here = at.then;
          most = omega (arith, f1.most, f2.most, k.most);
          good = f2.good (f1.good k.good);
          sub = λ z d q. k.sub z d (ap some_in (at.own_is z d) ∙ own_keep z at.e at.l q);
          left = λ z q g.
              let zx : z ≢ x = f1.skip z (omega (arith, f2.most)) g in
              let zy : z ≢ y = f2.skip z q g in
              let d : a ≢ z = λ e. omega (arith, g.up, e) in
              let no : has_side (key a z) at.e.cell ≡ false = side_is x y z ex ey d ∙ (rw (ne_eqb x z (λ e. zx (sym e)), ne_eqb y z (λ e. zy (sym e)))) in
              sym (own_miss z at.e at.l no) ∙ (sym (ap some_in (at.own_is z d)) ∙ k.left z (omega (arith, f1.most, f2.most)) g);
        }

    pub best_less : left w s p (nx w (rings_at s) c) < left w s p c
    best_less = rw (pos_walk w s p a (nx w (rings_at s) c) at.l at.then, pos_walk w s p a c k.rest k.here) at.less

    pub best_read : CanRead w s c
    best_read = can_read w s p a c k.rest k.here h

  pub best_end : (best c : ℕ) → 4 * s ≤ c → Best w s p n u v a best c m → LeastAt m n u v a best
  best_end best c h k =
      record {
        most = k.most;
        meets = k.good;
        least = λ b g. go b g (ltb b best) refl;
      }
    where
      go : (b : ℕ) → Meets m u v a b → (t : Bool) → ltb b best ≡ t → best ≤ b
      go b g true e =
          let d : a ≢ b = λ q. omega (arith, g.up, q) in
          absurd (false≢true (sym (ap some_in (ended w s p a b c k.rest (seek_end w s p a c k.rest k.here h b d) h)) ∙ k.left b (ltb-true b best e) g))
      go b g false e = ltb-false b best e

-- ---- the order of edges

record After (e f : Edge) : Type 0 where
  pub first : f.0 ≤ e.0
  pub second : e.0 ≡ f.0 → f.1 ≤ e.1

after : (e f : Edge) → edge_before e f ≡ false → After e f
unfolding edge_before
after e f h = go (ltb e.0 f.0) refl (eqb e.0 f.0) refl (ltb e.1 f.1) refl h
  where
    go : (a : Bool) → ltb e.0 f.0 ≡ a → (b : Bool) → eqb e.0 f.0 ≡ b → (c : Bool) → ltb e.1 f.1 ≡ c → (a || b && c) ≡ false → After e f
    go true p b q c r k = absurd (true≢false k)
    go false p true q true r k = absurd (true≢false k)
    go false p true q false r k = record { first = ltb-false e.0 f.0 p; second = λ z. ltb-false e.1 f.1 r }
    go false p false q c r k = record { first = ltb-false e.0 f.0 p; second = λ z. absurd (eqb-false e.0 f.0 q z) }

-- two edges of which neither comes before the other are the same
pub edges_total : (e f : Edge) → edge_before e f ≡ false → edge_before f e ≡ false → e ≡ f
edges_total e f h k =
    let a = after e f h in
    let b = after f e k in
    let p : e.0 ≡ f.0 = omega (arith, a.first, b.first) in
    let q : e.1 ≡ f.1 = omega (arith, a.second p, b.second (sym p)) in
    λ i. (p i, q i)

not_before : (e : Edge) (a b : ℕ) → a ≤ e.0 → (e.0 ≡ a → b ≤ e.1) → edge_before e (a, b) ≡ false
unfolding edge_before
not_before e a b h k = go (decide e.0 a)
  where
    go : Same e.0 a → (ltb e.0 a || eqb e.0 a && ltb e.1 b) ≡ false
    go (same z) = rw (le-ltb e.0 a h, le-ltb e.1 b (k z)) (and-false (eqb e.0 a))
    go (differ z) = rw (le-ltb e.0 a h, ne_eqb e.0 a z)

-- ---- the first crossing edge

module _ (w : List ℕ) (s p n u v : ℕ) (m : Mesh) (r : Rep w s p m) where
  meets_of : (e : Edge) → In e (filter (is_crossing m u v) (all_edges m)) → Meets m u v e.0 e.1
  meets_of e h =
      let k = in_filter (is_crossing m u v) (all_edges m) h in
      let g = edge_of w s p m r e k.0 in
      record { up = g.up; edge = g.has; crosses = k.1 }

  pub none_more : (a b : ℕ) → NoneBelow m u v a → length m.points ≡ n → LeastAt m n u v a b → n ≤ b → NoneBelow m u v (a + 1)
  none_more a b f e l h x y q g = go (decide x a)
    where
      go : Same x a → ⊥
      go (same d) =
          let z : Meets m u v a y = subst (λ (t : ℕ). Meets m u v t y) d g in
          omega (arith, l.least y z, edge_known w s p m r a y z.up z.edge)
      go (differ d) = f x y (omega arith) g

  pub first_at : (a b : ℕ) → NoneBelow m u v a → LeastAt m n u v a b → b < n → FirstAt m n u v a b
  unfolding first_crossing
  first_at a b f l h =
      let g = l.meets h in
      record {
        is = sort_least edge_before edges_total (a, b) (filter (is_crossing m u v) (all_edges m))
            (filter_in (is_crossing m u v) (all_edges m) (edge_in m a b g.up g.edge) g.crosses)
            (λ e k. let z = meets_of e k in not_before e a b (low e z (ltb e.0 a) refl) (λ q. l.least e.1 (subst (λ (t : ℕ). Meets m u v t e.1) q z)));
        up = g.up;
        known = h;
        none_below = f;
      }
    where
      low : (e : Edge) → Meets m u v e.0 e.1 → (t : Bool) → ltb e.0 a ≡ t → a ≤ e.0
      low e z true q = absurd (f e.0 e.1 (ltb-true e.0 a q) z)
      low e z false q = ltb-false e.0 a q

  pub first_none : (a : ℕ) → NoneBelow m u v a → length m.points ≡ n → n ≤ a → first_crossing m u v ≡ none
  unfolding first_crossing
  first_none a f e h =
      sort_none edge_before (filter (is_crossing m u v) (all_edges m))
      (λ z k. let g = meets_of z k in f z.0 z.1 (omega (arith, g.up, edge_known w s p m r z.0 z.1 g.up g.edge)) g)
