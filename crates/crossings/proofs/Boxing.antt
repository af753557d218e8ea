-- The box around a node and its neighbours, found in the node's ring.
use Rattle.std.specs.Prelude.{◌≡◌, ◌≢◌, ◌⊎◌, ◌||◌, ◌+◌, ◌*◌, ◌<◌, ◌≤◌}
use Rattle.laws.specs.Kit.{refl, sym, ◌∙◌, ap, subst, inl, inr, Bool, true, false, false≢true, ℕ, arith, eqb, ltb, eq-eqb, ne_eqb, ltb-true, ltb-false, List, length, Float, lt, le}
use mathlib.Core.Bool.{or-true}
use Rattle.rings.specs.Rings.{nx}
use Rattle.rings.proofs.Lists.{Same, same, differ, decide}
use Rattle.definition.specs.Floats.{◌≺◌, ◌≼◌}
use Rattle.definition.specs.Plane.{Node}
use Rattle.definition.specs.Cells.{Live, Mesh, key, has_side, has_edge, node_at}
use Rattle.definition.specs.Call.{point_at}
use Rattle.laws.specs.Bools.{of_T, to_T}
use Rattle.rounding.proofs.Order.{le_or_lt, real_left, real_right}
use Rattle.rounding.proofs.Keys.{le_trans, lt_le}
use Rattle.plane.specs.Points.{Within, node_of}
use Rattle.cells.specs.Layout.{rings_at}
use Rattle.cells.specs.Notes.{Near}
use Rattle.cells.specs.Rep.{Rep}
use Rattle.cells.specs.Walk.{own, Pos, left, beside, node_after, node_before, CanRead}
use Rattle.cells.proofs.Walks.{There, there, seek_end, ended, start, pos_walk, can_read}
use Rattle.crossings.specs.Cross.{Known}
use Rattle.crossings.specs.Boxes.{up, down, Starts, Comes, old, new, Picks, Bound, StartsAt, Widens, Bounds}
use Rattle.crossings.specs.declared.boxes.Side.{Side}
use Rattle.crossings.specs.declared.boxes.Sides.{Sides}
use Rattle.crossings.proofs.Sides.{edge_known}
use Rattle.crossings.proofs.Crosses.{some_in, edge_some, own_hit, own_miss, own_keep}

-- ---- coordinates

-- what compares to another compares to itself
self_left : (x y : Float) → (x ≼ y) ≡ true → (x ≼ x) ≡ true
unfolding ◌≼◌ ◌≺◌
self_left x y h =
    let r = real_left x y (to_T h) in
    elim (le_or_lt x x r r) [ inl l ↦ of_T (le x x) l | inr l ↦ lt_le x x (of_T (lt x x) l) ]

self_right : (x y : Float) → (x ≼ y) ≡ true → (y ≼ y) ≡ true
unfolding ◌≼◌ ◌≺◌
self_right x y h =
    let r = real_right x y (to_T h) in
    elim (le_or_lt y y r r) [ inl l ↦ of_T (le y y) l | inr l ↦ lt_le y y (of_T (lt y y) l) ]

-- ---- one side

pub starts : (i : ℕ) (x : Float) → Starts i x (record { node = i; at = x; fine = le x x })
unfolding ◌≼◌
starts i x = record { node = refl; at = refl; here = λ e. e }

module _ (b : Side) (i : ℕ) (x : Float) where
  pub low_stays : le b.at x ≡ true → Picks up b i x b
  unfolding ◌≼◌
  low_stays h = record { comes = old refl refl; fine = λ e. e; here = λ e. h; keeps = λ e z k. k }

  pub low_takes : le x b.at ≡ true → Picks up b i x (record { node = i; at = x; fine = b.fine })
  unfolding ◌≼◌
  low_takes h = record { comes = new refl refl; fine = λ e. e; here = λ e. self_left x b.at h; keeps = λ e z k. le_trans x b.at z h k }

  pub high_stays : le x b.at ≡ true → Picks down b i x b
  unfolding ◌≼◌
  high_stays h = record { comes = old refl refl; fine = λ e. e; here = λ e. h; keeps = λ e z k. k }

  pub high_takes : le b.at x ≡ true → Picks down b i x (record { node = i; at = x; fine = b.fine })
  unfolding ◌≼◌
  high_takes h = record { comes = new refl refl; fine = λ e. e; here = λ e. self_right b.at x h; keeps = λ e z k. le_trans z b.at x k h }

  -- the coordinates do not compare
  pub gives_up : (R : Float → Float → Bool) → Picks R b i x (record { node = b.node; at = b.at; fine = false })
  gives_up R = record { comes = old refl refl; fine = λ e. absurd (false≢true e); here = λ e. absurd (false≢true e); keeps = λ e z k. k }

-- the side on the way: what it does not bound yet is still to come
pub record SideOf (R : Float → Float → Bool) (f : ℕ → Float) (m : Mesh) (a : ℕ) (rest : List Live) (b : Side) : Type 0 where
  pub known : b.node < length m.points
  pub at : b.at ≡ f b.node
  pub self : b.fine ≡ true → R b.at (f a) ≡ true
  pub cover : b.fine ≡ true → (v : ℕ) → a ≢ v → has_edge m a v ≡ true → (R b.at (f v) ≡ true) ⊎ (some_in (own a v rest) ≡ true)

comes_known : (n : ℕ) (b : Side) (i : ℕ) (x : Float) (r : Side) → Comes b i x r → b.node < n → i < n → r.node < n
comes_known n b i x r (old e g) h k = rw e h
comes_known n b i x r (new e g) h k = rw e k

comes_at : (f : ℕ → Float) (b : Side) (i : ℕ) (x : Float) (r : Side) → Comes b i x r → b.at ≡ f b.node → x ≡ f i → r.at ≡ f r.node
comes_at f b i x r (old e g) h k = g ∙ (h ∙ ap f (sym e))
comes_at f b i x r (new e g) h k = g ∙ (k ∙ ap f (sym e))

module _ (R : Float → Float → Bool) (f : ℕ → Float) (m : Mesh) (a : ℕ) where
  side_start : (x : Float) (r : Side) → a < length m.points → x ≡ f a → ((x ≼ x) ≡ true → R x x ≡ true) → Starts a x r → SideOf R f m a m.live r
  side_start x r h ex g s =
      record {
        known = rw s.node h;
        at = s.at ∙ (ex ∙ ap f (sym s.node));
        self = λ e. rw (s.at, ← ex) (g (s.here e));
        cover = λ e v d k. inr (sym (edge_some m a v) ∙ k);
      }

  -- two nodes more, which are all that the place had
  side_more : (l l' : List Live) (x y : ℕ) (fx fy : Float) (b b1 b2 : Side) → fx ≡ f x → fy ≡ f y → x < length m.points → y < length m.points
      → ((v : ℕ) → a ≢ v → x ≢ v → y ≢ v → some_in (own a v l) ≡ true → some_in (own a v l') ≡ true)
      → SideOf R f m a l b → Picks R b x fx b1 → Picks R b1 y fy b2 → SideOf R f m a l' b2
  side_more l l' x y fx fy b b1 b2 ex ey kx ky skip s p1 p2 =
      record {
        known = comes_known (length m.points) b1 y fy b2 p2.comes (comes_known (length m.points) b x fx b1 p1.comes s.known kx) ky;
        at = comes_at f b1 y fy b2 p2.comes (comes_at f b x fx b1 p1.comes s.at ex) ey;
        self = λ e. let e1 = p2.fine e in p2.keeps e (f a) (p1.keeps e1 (f a) (s.self (p1.fine e1)));
        cover = λ e v d g. go e v d (s.cover (p1.fine (p2.fine e)) v d g) (decide x v) (decide y v);
      }
    where
      go : b2.fine ≡ true → (v : ℕ) → a ≢ v → (R b.at (f v) ≡ true) ⊎ (some_in (own a v l) ≡ true) → Same x v → Same y v
          → (R b2.at (f v) ≡ true) ⊎ (some_in (own a v l') ≡ true)
      go e v d (inl q) sx sy = let e1 = p2.fine e in inl (p2.keeps e (f v) (p1.keeps e1 (f v) q))
      go e v d (inr q) (same z) sy =
          let e1 = p2.fine e in
          inl (p2.keeps e (f v) (subst (λ (t : Float). R b1.at t ≡ true) (ex ∙ ap f z) (p1.here e1)))
      go e v d (inr q) (differ z) (same y') = inl (subst (λ (t : Float). R b2.at t ≡ true) (ey ∙ ap f y') (p2.here e))
      go e v d (inr q) (differ z) (differ y') = inr (skip v d z y' q)

  side_end : (l : List Live) (b : Side) → ((v : ℕ) → a ≢ v → some_in (own a v l) ≡ true → ⊥) → SideOf R f m a l b → Bound R f m a b
  side_end l b none s = record { known = s.known; all = λ e v g. subst (λ (t : Float). R t (f v) ≡ true) s.at (go e v g) }
    where
      own_self : (v : ℕ) → v ≡ a → b.fine ≡ true → R b.at (f v) ≡ true
      own_self v z e = subst (λ (i : ℕ). R b.at (f i) ≡ true) (sym z) (s.self e)

      or : (v : ℕ) → a ≢ v → (R b.at (f v) ≡ true) ⊎ (some_in (own a v l) ≡ true) → R b.at (f v) ≡ true
      or v d (inl q) = q
      or v d (inr q) = absurd (none v d q)

      on : (v : ℕ) → b.fine ≡ true → has_edge m a v ≡ true → Same a v → R b.at (f v) ≡ true
      on v e g (same z) = own_self v (sym z) e
      on v e g (differ d) = or v d (s.cover e v d g)

      go : b.fine ≡ true → (v : ℕ) → Near m a v → R b.at (f v) ≡ true
      go e v (inl z) = own_self v z e
      go e v (inr g) = on v e g (decide a v)

-- ---- the walk

-- a node beside another, or the node itself, is a node of the mesh
edge_any : (w : List ℕ) (s p : ℕ) (m : Mesh) → Rep w s p m → (a b : ℕ) → a < length m.points → has_edge m a b ≡ true → b < length m.points
edge_any w s p m r a b h g = go (ltb a b) refl
  where
    go : (t : Bool) → ltb a b ≡ t → b < length m.points
    go true e = edge_known w s p m r a b (ltb-true a b e) g
    go false e = omega (arith, ltb-false a b e)

pub near_known : (w : List ℕ) (s p : ℕ) (m : Mesh) → Rep w s p m → (a : ℕ) → a < length m.points → (v : ℕ) → Near m a v → v < length m.points
near_known w s p m r a h v (inl e) = rw e h
near_known w s p m r a h v (inr g) = edge_any w s p m r a v h g

-- the box on the way
pub record Boxed (w : List ℕ) (s p a c : ℕ) (m : Mesh) (b : Sides) : Type 0 where
  pub rest : List Live
  pub here : Pos w s p a c rest
  pub sub : (x : ℕ) → a ≢ x → some_in (own a x rest) ≡ true → has_edge m a x ≡ true
  pub to_left : SideOf up (λ v. (node_at m v).x) m a rest b.left
  pub to_right : SideOf down (λ v. (node_at m v).x) m a rest b.right
  pub to_low : SideOf up (λ v. (node_at m v).y) m a rest b.low
  pub to_high : SideOf down (λ v. (node_at m v).y) m a rest b.high

module _ (w : List ℕ) (q : List Float) (s p n : ℕ) (side : Float) (m : Mesh) (r : Known w q s p n side m) (a : ℕ) (an : a < n) where
  a_known : a < length m.points
  a_known = omega (arith, r.count)

  point_is : (i : ℕ) → i < length m.points → point_at q i ≡ node_at m i
  point_is i h = sym (node_of m (length m.points) q r.pts.are i h)

  pub in_slice : (i : ℕ) → i < length m.points → Within q i
  in_slice i h = omega (arith, r.pts.fits, r.pts.few)

  pub a_within : Within q a
  a_within = in_slice a a_known

  pub boxed_start : (b : Sides) → StartsAt a (point_at q a) b → Boxed w s p a (nx w (rings_at s) (4 * s + a)) m b
  boxed_start b k =
      let e = point_is a a_known in
      let ex : (point_at q a).x ≡ (node_at m a).x = ap (λ (t : Node). t.x) e in
      let ey : (point_at q a).y ≡ (node_at m a).y = ap (λ (t : Node). t.y) e in
      record {
        rest = m.live;
        here = start w s p a m r.rep (omega (arith, a_known, r.rep.points));
        sub = λ x d h. edge_some m a x ∙ h;
        to_left = side_start up (λ v. (node_at m v).x) m a (point_at q a).x b.left a_known ex (λ h. h) k.left;
        to_right = side_start down (λ v. (node_at m v).x) m a (point_at q a).x b.right a_known ex (λ h. h) k.right;
        to_low = side_start up (λ v. (node_at m v).y) m a (point_at q a).y b.low a_known ey (λ h. h) k.low;
        to_high = side_start down (λ v. (node_at m v).y) m a (point_at q a).y b.high a_known ey (λ h. h) k.high;
      }

  module _ (c : ℕ) (h : c < 4 * s) (b : Sides) (k : Boxed w s p a c m b) where
    at : There w s p a c k.rest k.here
    at = there w s p a c k.rest k.here h

    side_is : (z : ℕ) → a ≢ z → has_side (key a z) at.e.cell ≡ (eqb (node_after w s c) z || eqb (node_before w s c) z)
    unfolding beside
    side_is z d = at.edge z d

    joined : (z : ℕ) → a ≢ z → has_side (key a z) at.e.cell ≡ true → has_edge m a z ≡ true
    joined z d g = k.sub z d (ap some_in (at.own_is z d) ∙ own_hit w s p 0 0 0 a m z at.e at.l g)

    after_known : node_after w s c < length m.points
    after_known = go (decide a (node_after w s c))
      where
        x : ℕ
        x = node_after w s c

        go : Same a x → x < length m.points
        go (same e) = rw (← e) a_known
        go (differ d) = edge_any w s p m r.rep a x a_known (joined x d (side_is x d ∙ (rw (eq-eqb x x refl))))

    before_known : node_before w s c < length m.points
    before_known = go (decide a (node_before w s c))
      where
        y : ℕ
        y = node_before w s c

        go : Same a y → y < length m.points
        go (same e) = rw (← e) a_known
        go (differ d) = edge_any w s p m r.rep a y a_known (joined y d (side_is y d ∙ (rw (eq-eqb y y refl) (or-true (eqb (node_after w s c) y)))))

    pub after_within : (x : ℕ) → x ≡ node_after w s c → Within q x
    after_within x e = in_slice x (rw e after_known)

    pub before_within : (y : ℕ) → y ≡ node_before w s c → Within q y
    before_within y e = in_slice y (rw e before_known)

    skip : (x y : ℕ) → x ≡ node_after w s c → y ≡ node_before w s c → (v : ℕ) → a ≢ v → x ≢ v → y ≢ v → some_in (own a v k.rest) ≡ true → some_in (own a v at.l) ≡ true
    skip x y ex ey v d dx dy g =
        let no : has_side (key a v) at.e.cell ≡ false = side_is v d ∙ (rw (← ex, ← ey, ne_eqb x v dx, ne_eqb y v dy)) in
        sym (own_miss w s p 0 0 0 a m v at.e at.l no) ∙ (sym (ap some_in (at.own_is v d)) ∙ g)

    pub boxed_more : (x y : ℕ) (b1 b2 : Sides) → x ≡ node_after w s c → Widens b x (point_at q x) b1 → y ≡ node_before w s c → Widens b1 y (point_at q y) b2
        → Boxed w s p a (nx w (rings_at s) c) m b2
    boxed_more x y b1 b2 ex w1 ey w2 =
        let kx : x < length m.points = rw ex after_known in
        let ky : y < length m.points = rw ey before_known in
        let xx : (point_at q x).x ≡ (node_at m x).x = ap (λ (t : Node). t.x) (point_is x kx) in
        let xy : (point_at q x).y ≡ (node_at m x).y = ap (λ (t : Node). t.y) (point_is x kx) in
        let yx : (point_at q y).x ≡ (node_at m y).x = ap (λ (t : Node). t.x) (point_is y ky) in
        let yy : (point_at q y).y ≡ (node_at m y).y = ap (λ (t : Node). t.y) (point_is y ky) in
        let no = skip x y ex ey in
        record {
          rest = at.l;
          here = at.then;
          sub = λ z d g. k.sub z d (ap some_in (at.own_is z d) ∙ own_keep w s p 0 0 0 a m z at.e at.l g);
          to_left = side_more up (λ v. (node_at m v).x) m a k.rest at.l x y (point_at q x).x (point_at q y).x b.left b1.left b2.left xx yx kx ky no k.to_left w1.left w2.left;
          to_right = side_more down (λ v. (node_at m v).x) m a k.rest at.l x y (point_at q x).x (point_at q y).x b.right b1.right b2.right xx yx kx ky no k.to_right w1.right w2.right;
          to_low = side_more up (λ v. (node_at m v).y) m a k.rest at.l x y (point_at q x).y (point_at q y).y b.low b1.low b2.low xy yy kx ky no k.to_low w1.low w2.low;
          to_high = side_more down (λ v. (node_at m v).y) m a k.rest at.l x y (point_at q x).y (point_at q y).y b.high b1.high b2.high xy yy kx ky no k.to_high w1.high w2.high;
        }

    pub boxed_less : left w s p (nx w (rings_at s) c) < left w s p c
    boxed_less = rw (pos_walk w s p a (nx w (rings_at s) c) at.l at.then, pos_walk w s p a c k.rest k.here) at.less

    pub boxed_read : CanRead w s c
    boxed_read = can_read w s p a c k.rest k.here h

  pub boxed_end : (c : ℕ) (b : Sides) → 4 * s ≤ c → Boxed w s p a c m b → Bounds m a b
  boxed_end c b h k =
      record {
        left = side_end up (λ v. (node_at m v).x) m a k.rest b.left none k.to_left;
        right = side_end down (λ v. (node_at m v).x) m a k.rest b.right none k.to_right;
        low = side_end up (λ v. (node_at m v).y) m a k.rest b.low none k.to_low;
        high = side_end down (λ v. (node_at m v).y) m a k.rest b.high none k.to_high;
      }
    where
      none : (v : ℕ) → a ≢ v → some_in (own a v k.rest) ≡ true → ⊥
      none v d g = false≢true (sym (ap some_in (ended w s p a v c k.rest (seek_end w s p a c k.rest k.here h v d) h)) ∙ g)
