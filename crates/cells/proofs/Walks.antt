-- The ring of a node, walked: what stands at a place, and how many links are left.
use mathlib.Core.Path.{◌≡◌, refl, ap, ◌∙◌, subst}
use mathlib.Core.Logic.{◌≢◌}
use mathlib.Core.Bool.{true, false}
use mathlib.Core.List.{List, [], ◌∷◌}
use Prim.Native.Nat.{ℕ, zero, suc, ◌+◌, ◌*◌, ◌/◌, ◌≤◌, ◌<◌}
use native.Mathlib.Omega.{arith}
use lib.ListN.{length, get_or}
use borrow.Author.Tests.{lt-ltb, le-ltb}
use Rattle.rings.specs.Rings.{nx, pv, Linked, Below}
use Rattle.rings.proofs.Lists.{room}
use Rattle.definition.specs.Lists.{filter}
use Rattle.definition.specs.Cells.{Live, Mesh, nodes, key, has_side, owns}
use Rattle.cells.specs.Layout.{rings_at, codes}
use Rattle.cells.specs.Rep.{Held, Cells, cell_corners, corners, Rep}
use Rattle.cells.specs.Walk.{own, beside, CanRead, From, Pos, steps, left, Sought, nobody, somebody}
use Rattle.cells.proofs.Corners.{node_count, corners_below, cells_weaken}
use Rattle.cells.proofs.Views.{View, off, on, view}

-- the first cell of a list that has a corner at u
pub data Ahead (w : List ℕ) (s p u : ℕ) (rest : List Live) : Type 0 where
  end : corners rest u ≡ [] → ((v : ℕ) → u ≢ v → own u v rest ≡ []) → Ahead w s p u rest
  more : (e : Live) (l : List Live) (x : ℕ) → corners rest u ≡ x ∷ corners l u → corners (e ∷ l) u ≡ x ∷ corners l u
      → ((v : ℕ) → u ≢ v → own u v rest ≡ own u v (e ∷ l)) → x / 4 ≡ e.slot → x < 4 * s
      → ((v : ℕ) → u ≢ v → has_side (key u v) e.cell ≡ beside w s x v) → Held w s s p e → Cells w s s p l → Ahead w s p u rest

pub next : (w : List ℕ) (s p u : ℕ) (rest : List Live) → Cells w s s p rest → Ahead w s p u rest
unfolding corners filter owns
next w s p u [] h = end refl (λ v n. refl)
next w s p u (e ∷ l) h = go (view w s p u e h.0) (next w s p u l h.1)
  where
    skip : cell_corners u e.slot e.cell ≡ [] → ((v : ℕ) → u ≢ v → has_side (key u v) e.cell ≡ false) → Ahead w s p u l → Ahead w s p u (e ∷ l)
    skip c f (end d g) = end (rw c d) (λ v n. rw (f v n) (g v n))
    skip c f (more a k x d d' g q b t ha hk) = more a k x (rw c d) d' (λ v n. rw (f v n) (g v n)) q b t ha hk

    go : View w s u e.slot e.cell → Ahead w s p u l → Ahead w s p u (e ∷ l)
    go (off c f) n = skip c f n
    go (on x c q b t) n = more e l x (rw c) (rw c) (λ v n. refl) q b t h.0 h.1

walk_from : (n : ℕ) (w : List ℕ) (s c : ℕ) (l : List ℕ) (z : ℕ) → From (nx w (rings_at s)) c l z → Below (4 * s) l → 4 * s ≤ z → length l ≤ n → steps n w s c ≡ length l
unfolding steps
walk_from zero w s c [] z h b t k = refl
walk_from zero w s c (x ∷ l) z h b t k = absurd (omega (arith, k))
walk_from (suc n) w s c [] z h b t k = rw (le-ltb c (4 * s) (rw h t))
walk_from (suc n) w s c (x ∷ l) z h b t k =
    rw (h.0, lt-ltb x (4 * s) b.0) (ap suc (walk_from n w s (nx w (rings_at s) x) l z h.1 b.1 t (omega arith)))

module _ (w : List ℕ) (s p u c : ℕ) (rest : List Live) (at : Pos w s p u c rest) where
  pub pos_walk : left w s p c ≡ length (corners rest u)
  pos_walk = walk_from (codes s p) w s c (corners rest u) (4 * s + u) at.from (corners_below w s s p u rest (omega arith) at.cells) (omega arith) at.few

  pub seek_end : 4 * s ≤ c → (v : ℕ) → u ≢ v → Sought w s p u v c rest
  seek_end h v n = go (next w s p u rest at.cells)
    where
      go : Ahead w s p u rest → Sought w s p u v c rest
      go (end d g) = nobody (g v n) (subst (λ (l : List ℕ). From (nx w (rings_at s)) c l (4 * s + u)) d at.from)
      go (more e l x d d' g q b t he hl) =
          let r : From (nx w (rings_at s)) c (x ∷ corners l u) (4 * s + u) = subst (λ (k : List ℕ). From (nx w (rings_at s)) c k (4 * s + u)) d at.from in
          absurd (omega (arith, r.0))

  -- what stands at a corner
  pub record There : Type 0 where
    pub e : Live
    pub l : List Live
    pub own_is : (v : ℕ) → u ≢ v → own u v rest ≡ own u v (e ∷ l)
    pub slot : c / 4 ≡ e.slot
    pub edge : (v : ℕ) → u ≢ v → has_side (key u v) e.cell ≡ beside w s c v
    pub held : Held w s s p e
    pub far : left w s p c ≡ suc (length (corners l u))
    pub then : Pos w s p u (nx w (rings_at s) c) l
    pub less : length (corners l u) < length (corners rest u)

  pub there : c < 4 * s → There
  there h = go (next w s p u rest at.cells)
    where
      go : Ahead w s p u rest → There
      go (end d g) =
          let r : c ≡ 4 * s + u = subst (λ (k : List ℕ). From (nx w (rings_at s)) c k (4 * s + u)) d at.from in
          absurd (omega arith)
      go (more e l x d d' g q b t he hl) =
          let r : From (nx w (rings_at s)) c (x ∷ corners l u) (4 * s + u) = subst (λ (k : List ℕ). From (nx w (rings_at s)) c k (4 * s + u)) d at.from in
          let cx : c ≡ x = r.0 in
          let n : length (corners rest u) ≡ suc (length (corners l u)) = ap length d in
          record {
            e = e;
            l = l;
            own_is = g;
            slot = rw cx q;
            edge = λ v n. rw cx (t v n);
            held = he;
            far = pos_walk ∙ n;
            then = record {
              room = at.room;
              node = at.node;
              cells = hl;
              from = rw cx r.1;
              few = omega (arith, at.few);
            };
            less = omega arith;
          }

  pub can_read : c < 4 * s → CanRead w s c
  can_read h =
      let t = there h in
      let k = node_count t.e.cell in
      let z : get_or w t.e.slot 0 ≡ length (nodes t.e.cell) = t.held.at.kind in
      let q : c / 4 ≡ t.e.slot = t.slot in
      record {
        fits = omega (arith, at.room.fits);
        inside = h;
        least = rw (q, z) k.0;
        most = rw (q, z) k.1;
      }

  pub seek_hit : c < 4 * s → (v : ℕ) → u ≢ v → beside w s c v ≡ true → Sought w s p u v c rest
  unfolding filter owns
  seek_hit h v n b =
      let t = there h in
      let e : has_side (key u v) t.e.cell ≡ true = t.edge v n ∙ b in
      somebody t.e t.l (t.own_is v n ∙ (rw e)) t.slot h t.held t.then t.far t.less

  pub record Missed (v : ℕ) : Type 0 where
    pub rest' : List Live
    pub then : Pos w s p u (nx w (rings_at s) c) rest'
    pub own_is : own u v rest ≡ own u v rest'
    pub less : length (corners rest' u) < length (corners rest u)

  pub seek_miss : c < 4 * s → (v : ℕ) → u ≢ v → beside w s c v ≡ false → Missed v
  unfolding filter owns
  seek_miss h v n b =
      let t = there h in
      let e : has_side (key u v) t.e.cell ≡ false = t.edge v n ∙ b in
      record { rest' = t.l; then = t.then; own_is = t.own_is v n ∙ (rw e); less = t.less }

pub sought_from : (w : List ℕ) (s p u v c : ℕ) (l k : List Live) → own u v l ≡ own u v k → length (corners k u) ≤ length (corners l u)
    → Sought w s p u v c k → Sought w s p u v c l
sought_from w s p u v c l k q f (nobody e r) = nobody (q ∙ e) r
sought_from w s p u v c l k q f (somebody e m o d b h n t z) = somebody e m (q ∙ o) d b h n t (omega arith)

walk_zero : (n : ℕ) (w : List ℕ) (s c : ℕ) → 4 * s ≤ c → steps n w s c ≡ 0
unfolding steps
walk_zero zero w s c h = refl
walk_zero (suc n) w s c h = rw (le-ltb c (4 * s) h)

-- what was found
pub record Got (w : List ℕ) (s p u v r : ℕ) (rest : List Live) : Type 0 where
  pub e : Live
  pub more : List Live
  pub own_is : own u v rest ≡ e ∷ own u v more
  pub slot : r / 4 ≡ e.slot
  pub held : Held w s s p e
  pub then : Pos w s p u (nx w (rings_at s) r) more
  pub far : left w s p r ≡ suc (length (corners more u))

module _ (w : List ℕ) (s p u v r : ℕ) (rest : List Live) where
  pub got : Sought w s p u v r rest → r < 4 * s → Got w s p u v r rest
  got (nobody o e) h = absurd (omega arith)
  got (somebody e m o d b k n t z) h = record { e = e; more = m; own_is = o; slot = d; held = k; then = n; far = t }

  pub ended : Sought w s p u v r rest → 4 * s ≤ r → own u v rest ≡ []
  ended (nobody o e) h = o
  ended (somebody e m o d b k n t z) h = absurd (omega arith)

  pub sought_walk : Sought w s p u v r rest → left w s p r ≤ length (corners rest u)
  sought_walk (nobody o e) = rw (walk_zero (codes s p) w s r (omega arith)) (omega arith)
  sought_walk (somebody e m o d b k n t z) = rw t z

-- from the sentinel
from_linked : (f g : ℕ → ℕ) (l : List ℕ) (a z : ℕ) → Linked f g a l z → From f (f a) l z
from_linked f g [] a z h = h.0
from_linked f g (x ∷ l) a z h = (h.0, subst (λ (y : ℕ). From f (f x) l z) h.0 (from_linked f g l x z h.2))

pub start : (w : List ℕ) (s p u : ℕ) (m : Mesh) → Rep w s p m → u < p → Pos w s p u (nx w (rings_at s) (4 * s + u)) m.live
start w s p u m r un =
    let g = r.rings.rings u (omega arith) in
    record {
      room = r.room;
      node = un;
      cells = cells_weaken w s m.used s (length m.points) p m.live r.used r.points r.cells;
      from = from_linked (nx w (rings_at s)) (pv w (rings_at s) (codes s p)) (corners m.live u) (4 * s + u) (4 * s + u) g.linked;
      few = room (codes s p) (corners m.live u) g.distinct g.below;
    }

-- what is left of the ring has the same owners
pub record Left (w : List ℕ) (s p u v c : ℕ) (rest : List Live) : Type 0 where
  pub rest' : List Live
  pub here : Pos w s p u c rest'
  pub same : own u v rest ≡ own u v rest'
  pub fewer : length (corners rest' u) ≤ length (corners rest u)
