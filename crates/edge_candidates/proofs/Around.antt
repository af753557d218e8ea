-- The ring of a node walked for something that holds of its neighbours.
use Rattle.std.specs.Prelude.{◌≡◌, ◌≢◌, ◌||◌, ◌+◌, ◌*◌, ◌<◌, ◌≤◌, ◌∷◌}
use Rattle.laws.specs.Kit.{refl, sym, ◌∙◌, ap, subst, Bool, true, false, false≢true, ℕ, arith, eqb, eq-eqb, ne_eqb, eqb-true, List, [], length}
use mathlib.Core.Bool.{or-true}
use Rattle.rings.specs.Rings.{nx, Below}
use Rattle.rings.proofs.Lists.{Same, same, differ, decide, room}
use Rattle.definition.specs.Lists.{any, contains}
use Rattle.definition.specs.Cells.{Live, Mesh, nodes, key, owns, owners}
use Rattle.laws.specs.Lists.{filter_no}
use Rattle.cells.proofs.Near.{side_end}
use Rattle.cells.specs.Layout.{rings_at}
use Rattle.cells.specs.Rep.{Rep, Room, corners}
use Rattle.cells.specs.Walk.{own, node_after, node_before, beside, CanRead, Pos, left}
use Rattle.cells.proofs.Corners.{cells_weaken}
use Rattle.cells.proofs.Walks.{start, there, can_read, pos_walk, seek_end, ended}

-- at the place c of the ring of a, the cells of `rest` are still to come;
-- of the end v of an edge that none of them has, P holds
pub record Around (w : List ℕ) (s a c : ℕ) (m : Mesh) (P : ℕ → Type 0) : Type 0 where
  pub rest : List Live
  pub pos : Pos w s (length m.points) a c rest
  pub holds : (v : ℕ) → a ≢ v → own a v rest ≡ [] → P v

pub around_start : (w : List ℕ) (s p a : ℕ) (m : Mesh) (P : ℕ → Type 0) → Rep w s p m → a < length m.points
    → ((v : ℕ) → a ≢ v → owners m (key a v) ≡ [] → P v) → Around w s a (nx w (rings_at s) (4 * s + a)) m P
unfolding owners
around_start w s p a m P r h z =
    let n = length m.points in
    let ap : a < p = omega (arith, r.points) in
    let g = r.rings.rings a (omega arith) in
    let l = room (4 * s) (corners m.live a) g.distinct (r.rings.below a) in
    record {
      rest = m.live;
      pos = record {
        room = record { fits = omega (arith, r.room.fits, r.points); small = omega (arith, r.room.small, r.points) };
        node = h;
        cells = cells_weaken w s m.used s n n m.live r.used (omega arith) r.cells;
        from = (start w s p a m r ap).from;
        few = omega (arith, l);
      };
      holds = z;
    }

contains_below : (n x : ℕ) (l : List ℕ) → contains l x ≡ true → Below n l → x < n
unfolding contains any
contains_below n x [] h b = absurd (false≢true h)
contains_below n x (y ∷ l) h b = go (decide x y) (contains_below n x l)
  where
    go : Same x y → (contains l x ≡ true → Below n l → x < n) → x < n
    go (same e) r = omega (arith, b.0)
    go (differ e) r = r (rw (ne_eqb x y e) at h) b.1

after_beside : (w : List ℕ) (s c : ℕ) → beside w s c (node_after w s c) ≡ true
unfolding beside
after_beside w s c = rw (eq-eqb (node_after w s c) (node_after w s c) refl)

before_beside : (w : List ℕ) (s c : ℕ) → beside w s c (node_before w s c) ≡ true
unfolding beside
before_beside w s c = rw (eq-eqb (node_before w s c) (node_before w s c) refl) (or-true (eqb (node_after w s c) (node_before w s c)))

-- what holds of both neighbours holds of a node beside the corner
beside_holds : (P : ℕ → Type 0) (w : List ℕ) (s c v : ℕ) → P (node_after w s c) → P (node_before w s c) → beside w s c v ≡ true → P v
unfolding beside
beside_holds P w s c v x y h = go (decide (node_after w s c) v)
  where
    at_before : (eqb (node_after w s c) v || eqb (node_before w s c) v) ≡ true → node_after w s c ≢ v → node_before w s c ≡ v
    at_before k d = eqb-true (node_before w s c) v (rw (ne_eqb (node_after w s c) v d) at k)

    go : Same (node_after w s c) v → P v
    go (same e) = subst P e x
    go (differ d) = subst P (at_before h d) y

module _ (w : List ℕ) (s a c : ℕ) (m : Mesh) (P : ℕ → Type 0) (k : Around w s a c m P) where
  around_known : c < 4 * s → (x : ℕ) → beside w s c x ≡ true → x < length m.points
  around_known h x b = go (decide a x)
    where
      go : Same a x → x < length m.points
      go (same e) = omega (arith, k.pos.node)
      go (differ d) =
          let t = there w s (length m.points) a c k.rest k.pos h in
          contains_below (length m.points) x (nodes t.e.cell) (side_end a x t.e.cell (t.edge x d ∙ b)) t.held.shape.known

  pub around_after : c < 4 * s → (x : ℕ) → x ≡ node_after w s c → x < length m.points
  around_after h x e = around_known h x (ap (beside w s c) e ∙ after_beside w s c)

  pub around_before : c < 4 * s → (x : ℕ) → x ≡ node_before w s c → x < length m.points
  around_before h x e = around_known h x (ap (beside w s c) e ∙ before_beside w s c)

  pub around_read : c < 4 * s → CanRead w s c
  around_read h = can_read w s (length m.points) a c k.rest k.pos h

  pub around_more : c < 4 * s → (x y r : ℕ) → x ≡ node_after w s c → y ≡ node_before w s c → P x → P y → r ≡ nx w (rings_at s) c → Around w s a r m P
  unfolding owns
  around_more h x y r ex ey px py er =
      let t = there w s (length m.points) a c k.rest k.pos h in
      record {
        rest = t.l;
        pos = subst (λ (z : ℕ). Pos w s (length m.points) a z t.l) (sym er) t.then;
        holds = λ v d o. go v d o (beside w s c v) refl;
      }
    where
      go : (v : ℕ) → a ≢ v → own a v (there w s (length m.points) a c k.rest k.pos h).l ≡ [] → (b : Bool) → beside w s c v ≡ b → P v
      go v d o true b = beside_holds P w s c v (subst P ex px) (subst P ey py) b
      go v d o false b =
          let t = there w s (length m.points) a c k.rest k.pos h in
          k.holds v d (t.own_is v d ∙ filter_no (owns (key a v)) t.e t.l (t.edge v d ∙ b) ∙ o)

  pub around_end : 4 * s ≤ c → (v : ℕ) → a ≢ v → P v
  around_end h v d = k.holds v d (ended w s (length m.points) a v c k.rest (seek_end w s (length m.points) a c k.rest k.pos h v d) h)

  wide_pos : (p z : ℕ) (l : List Live) → length m.points ≤ p → Room w s p → Pos w s (length m.points) a z l → Pos w s p a z l
  wide_pos p z l h r q =
      record {
        room = r;
        node = omega (arith, q.node);
        cells = cells_weaken w s s s (length m.points) p l (omega arith) h q.cells;
        from = q.from;
        few = omega (arith, q.few);
      }

  pub around_less : (p r : ℕ) → Rep w s p m → c < 4 * s → r ≡ nx w (rings_at s) c → left w s p r < left w s p c
  around_less p r i h e =
      let t = there w s (length m.points) a c k.rest k.pos h in
      let x : left w s p c ≡ length (corners k.rest a) = pos_walk w s p a c k.rest (wide_pos p c k.rest i.points i.room k.pos) in
      let y : left w s p (nx w (rings_at s) c) ≡ length (corners t.l a) = pos_walk w s p a (nx w (rings_at s) c) t.l (wide_pos p (nx w (rings_at s) c) t.l i.points i.room t.then) in
      rw (e, x, y) t.less
