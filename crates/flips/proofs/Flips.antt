-- Two triangles at an edge, and the edge flipped.
use mathlib.Core.Path.{◌≡◌, refl, ap, sym, ◌∙◌, subst}
use mathlib.Core.Logic.{◌≢◌}
use mathlib.Core.Bool.{Bool, true, false, not, ◌&&◌, false≢true}
use mathlib.Core.List.{List, [], ◌∷◌}
use mathlib.Core.Option.{none, some}
use Prim.Native.Nat.{ℕ, ◌*◌, ◌/◌, ◌≤◌, ◌<◌}
use native.Mathlib.Omega.{arith}
use lib.Dec.{eqb}
use lib.ListN.{length, get_or}
use lib.Ieee.{Float}
use borrow.Author.Tests.{eq-eqb, ne_eqb}
use Rattle.definition.specs.Floats.{◌⊗◌, ◌≼◌, 0·0}
use Rattle.definition.specs.Plane.{Edge, side}
use Rattle.definition.specs.Cells.{Tri, Cell, tri, quad, Live, was_flipped, Mesh, nodes, tri_nodes, quad_nodes, new_tri, new_live, key, tri_has, has_side, owns, owners, is_locked, set_cell, with_live}
use Rattle.definition.specs.Call.{point_at}
use Rattle.definition.specs.Flips.{off_edge, third, is_step, runs, first_turned, second_turned, set_tris, flipped, convex_pair, flip_tris, flip_cells, flip_owners, flip, apart}
use Rattle.laws.specs.Bools.{and_left, and_right, cond_ok}
use Rattle.plane.specs.Points.{Within, node_of}
use Rattle.cells.specs.Rep.{Shape, CellAt, Has, here, there, Rep, Pts}
use Rattle.cells.specs.Walk.{At, Next}
use Rattle.meshes.specs.Changes.{CanSet, tri_of_nodes}
use Rattle.cells.proofs.Edges.{key_up, tri_side}
use Rattle.cells.proofs.Owners.{Here, at_here, at_end}
use Rattle.cells.proofs.Slots.{has_filter, rep_held, ReadTri, read_tri, rep_noting}
use Rattle.crossings.specs.Nodes.{Four}
use Rattle.crossings.proofs.Tris.{TriOk, tri_ok, Which, is0, is1, is2, which, off_first, off_second, off_both}
use Rattle.account.proofs.Flips.{free_flip}
use Rattle.flips.specs.Nodes.{tri_read}
use Rattle.flips.specs.Flip.{Kinds, TwinsAt, CanTurn, FlipTo}
use Rattle.std.specs.Prelude.{Option, Some, None}
use Rattle.flips.specs.Twins.{OfKinds, IsTwins}
use Rattle.flips.specs.declared.flip.Turned.TheVariants.{Not, Short, Flipped}

-- ---- the owners

record TriOf (t : Cell) : Type 0 where
  pub a : Tri
  pub is : t ≡ tri a

tri_of : (w : List ℕ) (s i : ℕ) (t : Cell) → CellAt w s i t → get_or w i 0 ≡ 3 → TriOf t
unfolding nodes quad_nodes
tri_of w s i (tri a) h k = record { a = a; is = refl }
tri_of w s i (quad a) h k = let z : get_or w i 0 ≡ 4 = h.kind in absurd (omega arith)

kinds_none : (w : List ℕ) (s i j : ℕ) (m : Mesh) (e : Edge) (x y : Cell) → CellAt w s i x → CellAt w s j y → (Kinds w i j → ⊥) → flip_cells m e i x j y ≡ none
unfolding flip_cells nodes tri_nodes
kinds_none w s i j m e (tri a) (tri b) f g k = absurd (k (record { first = f.kind; second = g.kind }))
kinds_none w s i j m e (tri a) (quad b) f g k = refl
kinds_none w s i j m e (quad a) y f g k = refl

live_path : (x : Live) (i : ℕ) (t : Cell) → i ≡ x.slot → x.cell ≡ t → x ≡ new_live i t
unfolding new_live
live_path x i t p q = λ k. record { slot = sym p k; cell = q k }

pair_path : (o : List Live) (x y x' y' : Live) → o ≡ x ∷ y ∷ [] → x ≡ x' → y ≡ y' → o ≡ x' ∷ y' ∷ []
pair_path o x y x' y' h p q = cc

-- ---- the lock

-- what its owners do not allow is no flip, locked or not
unturned : (m : Mesh) (e : Edge) → flip_owners m e (owners m e) ≡ none → flip m e ≡ none
unfolding flip
unturned m e h = cond_ok (λ o. o ≡ none) (is_locked m e) none (flip_owners m e (owners m e)) (λ z. refl) (λ z. h)

-- the edge u-v is locked as the joints say
pub lock_is : (m : Mesh) (u v : ℕ) (r : Bool) → u < v → r ≡ m.locked (u, v) → is_locked m (key u v) ≡ r
unfolding is_locked
lock_is m u v r up e = ap m.locked (key_up u v up) ∙ sym e

-- ---- the owners of an edge, one after the other

module _ (w : List ℕ) (s p u v : ℕ) (m : Mesh) (c1 : ℕ) (a1 : At w s p u v c1 (owners m (key u v))) where
  pub no_owner : 4 * s ≤ c1 → flip m (key u v) ≡ none
  unfolding flip_owners
  no_owner h = unturned m (key u v) (rw (at_end w s p u v c1 (owners m (key u v)) a1 h))

  module _ (h1 : c1 < 4 * s) (c2 : ℕ) (n1 : Next w s p u v c1 c2) where
    pub here1 : Here w s p c1 (owners m (key u v))
    here1 = at_here w s p u v c1 (owners m (key u v)) a1 h1

    pub at2 : At w s p u v c2 here1.more
    at2 = n1.at here1.x here1.more (subst (λ (l : List Live). At w s p u v c1 l) here1.is a1)

    pub one_owner : 4 * s ≤ c2 → flip m (key u v) ≡ none
    unfolding flip_owners
    one_owner h = unturned m (key u v) (rw (here1.is, at_end w s p u v c2 here1.more at2 h))

    module _ (h2 : c2 < 4 * s) (c3 : ℕ) (n2 : Next w s p u v c2 c3) where
      here2 : Here w s p c2 here1.more
      here2 = at_here w s p u v c2 here1.more at2 h2

      at3 : At w s p u v c3 here2.more
      at3 = n2.at here2.x here2.more (subst (λ (l : List Live). At w s p u v c2 l) here2.is at2)

      pub three_owners : c3 < 4 * s → flip m (key u v) ≡ none
      unfolding flip_owners
      three_owners h = unturned m (key u v) (rw (here1.is, here2.is, (at_here w s p u v c3 here2.more at3 h).is))

      two : 4 * s ≤ c3 → owners m (key u v) ≡ here1.x ∷ here2.x ∷ []
      two h = here1.is ∙ ap (λ (l : List Live). here1.x ∷ l) (here2.is ∙ ap (λ (l : List Live). here2.x ∷ l) (at_end w s p u v c3 here2.more at3 h))

      pub other_kinds : 4 * s ≤ c3 → (Kinds w (c1 / 4) (c2 / 4) → ⊥) → flip m (key u v) ≡ none
      unfolding flip_owners
      other_kinds h k =
          unturned m (key u v) (rw (two h) (kinds_none w s here1.x.slot here2.x.slot m (key u v) here1.x.cell here2.x.cell here1.held.at here2.held.at
          (λ z. k (record { first = rw here1.slot z.first; second = rw here2.slot z.second }))))

      pub both_tris : 4 * s ≤ c3 → Kinds w (c1 / 4) (c2 / 4) → TwinsAt m u v (c1 / 4) (c2 / 4)
      both_tris h k =
          let t1 = tri_of w s here1.x.slot here1.x.cell here1.held.at (rw (← here1.slot) k.first) in
          let t2 = tri_of w s here2.x.slot here2.x.cell here2.held.at (rw (← here2.slot) k.second) in
          record {
            s = t1.a;
            t = t2.a;
            own = pair_path (owners m (key u v)) here1.x here2.x (new_live (c1 / 4) (tri t1.a)) (new_live (c2 / 4) (tri t2.a)) (two h)
                (live_path here1.x (c1 / 4) (tri t1.a) here1.slot t1.is) (live_path here2.x (c2 / 4) (tri t2.a) here2.slot t2.is);
          }

-- what the kinds say is what the owners are
pub answer : (w : List ℕ) (u v i j : ℕ) (m : Mesh) (r : Option (ℕ × ℕ)) → OfKinds w i j r → (Kinds w i j → TwinsAt m u v i j) → ((Kinds w i j → ⊥) → flip m (key u v) ≡ none)
    → IsTwins m u v r
answer w u v i j m (Some t) h f g = rw (h.0, h.1) (f h.2)
answer w u v i j m None h f g = g h

-- ---- the third node

pub ok_shape : (n a b c : ℕ) → TriOk n a b c → Shape n (tri_of_nodes a b c)
unfolding nodes tri_nodes new_tri
ok_shape n a b c o =
    record {
      distinct = (((λ e. o.ab (sym e)), (o.ca, tt)), (((λ e. o.bc (sym e)), tt), (tt, tt)));
      known = (o.a_known, (o.b_known, (o.c_known, tt)));
    }

-- the third node of a triangle on the edge u-v
pub record Third (n u v x : ℕ) : Type 0 where
  pub x_known : x < n
  pub u_known : u < n
  pub v_known : v < n
  pub xu : x ≡ u → ⊥
  pub xv : x ≡ v → ⊥

third_is : (n u v : ℕ) (t : Tri) → u ≢ v → Shape n (tri t) → has_side (key u v) (tri t) ≡ true → Third n u v (third t (u, v))
unfolding third
third_is n u v t d h k =
    let z : (tri_has t u && tri_has t v) ≡ true = sym (tri_side t u v) ∙ k in
    go (tri_ok n t h) (which t u (and_left (tri_has t u) (tri_has t v) z)) (which t v (and_right (tri_has t u) (tri_has t v) z))
  where
    go : TriOk n t.n0 t.n1 t.n2 → Which t u → Which t v → Third n u v (third t (u, v))
    go o (is0 e) (is0 f) = absurd (omega arith)
    go o (is0 e) (is1 f) = rw (off_first u v t.n0 e, off_second u v t.n1 f) (omega arith)
    go o (is0 e) (is2 f) = rw (off_first u v t.n0 e, off_both u v t.n1 (omega arith) (omega arith)) (omega arith)
    go o (is1 e) (is0 f) = rw (off_second u v t.n0 f, off_first u v t.n1 e) (omega arith)
    go o (is1 e) (is1 f) = absurd (omega arith)
    go o (is1 e) (is2 f) = rw (off_both u v t.n0 (omega arith) (omega arith)) (omega arith)
    go o (is2 e) (is0 f) = rw (off_second u v t.n0 f, off_both u v t.n1 (omega arith) (omega arith)) (omega arith)
    go o (is2 e) (is1 f) = rw (off_both u v t.n0 (omega arith) (omega arith)) (omega arith)
    go o (is2 e) (is2 f) = absurd (omega arith)

-- ---- what is known of the two triangles

pub record Twin (w : List ℕ) (s u v i : ℕ) (m : Mesh) (t : Tri) : Type 0 where
  pub given : i < m.used
  pub read : tri_read w s i ≡ t
  pub third : Third (length m.points) u v (third t (u, v))

pub tri_path : (w : List ℕ) (s i : ℕ) (t : Tri) → ReadTri w s i t → tri_read w s i ≡ t
unfolding new_tri
tri_path w s i t a = λ k. record { n0 = a.n0 k; n1 = a.n1 k; n2 = a.n2 k }

module _ (w : List ℕ) (s p u v : ℕ) (m : Mesh) (r : Rep w s p m) (d : u ≢ v) where
  owner_is : (i : ℕ) (t : Tri) → Has (new_live i (tri t)) (owners m (key u v)) → Twin w s u v i m t
  unfolding owners owns new_live
  owner_is i t h =
      let k = has_filter (owns (key u v)) m.live h in
      let g = rep_held w s p m r k.0 in
      let a = read_tri w s i t g.at in
      record { given = g.inside; read = tri_path w s i t a; third = third_is (length m.points) u v t d g.shape k.1 }

  module _ (i j : ℕ) (t : TwinsAt m u v i j) where
    pub twin1 : Twin w s u v i m t.s
    twin1 = owner_is i t.s (subst (λ (l : List Live). Has (new_live i (tri t.s)) l) (sym t.own) here)

    pub twin2 : Twin w s u v j m t.t
    twin2 = owner_is j t.t (subst (λ (l : List Live). Has (new_live j (tri t.t)) l) (sym t.own) (there here))

-- ---- the turn

module _ (m : Mesh) (u v i j x y : ℕ) (k : CanTurn m u v i j x y) where
  pub can_xuy : CanSet m i (tri_of_nodes x u y)
  can_xuy = record { given = k.i_given; shape = ok_shape (length m.points) x u y (record { a_known = k.x_known; b_known = k.u_known; c_known = k.y_known; ab = k.xu; bc = λ e. k.yu (sym e); ca = λ e. k.xy (sym e) }) }

  pub can_xyu : CanSet m i (tri_of_nodes x y u)
  can_xyu = record { given = k.i_given; shape = ok_shape (length m.points) x y u (record { a_known = k.x_known; b_known = k.y_known; c_known = k.u_known; ab = k.xy; bc = k.yu; ca = λ e. k.xu (sym e) }) }

  pub can_yvx : CanSet (set_cell m i (tri_of_nodes x u y)) j (tri_of_nodes y v x)
  unfolding set_cell with_live
  can_yvx = record { given = k.j_given; shape = ok_shape (length m.points) y v x (record { a_known = k.y_known; b_known = k.v_known; c_known = k.x_known; ab = k.yv; bc = λ e. k.xv (sym e); ca = k.xy }) }

  pub can_yxv : CanSet (set_cell m i (tri_of_nodes x y u)) j (tri_of_nodes y x v)
  unfolding set_cell with_live
  can_yxv = record { given = k.j_given; shape = ok_shape (length m.points) y x v (record { a_known = k.y_known; b_known = k.x_known; c_known = k.v_known; ab = λ e. k.xy (sym e); bc = k.xv; ca = λ e. k.yv (sym e) }) }

module _ (w : List ℕ) (s p : ℕ) (m : Mesh) (u v i j x y : ℕ) (t : Tri) where
  pub turned_along : (r : Bool) → r ≡ runs t (u, v) → r ≡ true → Rep w s p (set_cell (set_cell m i (tri_of_nodes x u y)) j (tri_of_nodes y v x)) → Rep w s p (flipped m (u, v) i t j x y)
  unfolding flipped set_tris first_turned second_turned
  turned_along r e h k = rw (← e, h) (rep_noting (was_flipped (u, v)) (set_cell (set_cell m i (tri_of_nodes x u y)) j (tri_of_nodes y v x)) w s p k)

  pub turned_back : (r : Bool) → r ≡ runs t (u, v) → r ≡ false → Rep w s p (set_cell (set_cell m i (tri_of_nodes x y u)) j (tri_of_nodes y x v)) → Rep w s p (flipped m (u, v) i t j x y)
  unfolding flipped set_tris first_turned second_turned
  turned_back r e h k = rw (← e, h) (rep_noting (was_flipped (u, v)) (set_cell (set_cell m i (tri_of_nodes x y u)) j (tri_of_nodes y x v)) w s p k)

-- ---- the flip

module _ (m : Mesh) (u v i j : ℕ) (up : u < v) (t : TwinsAt m u v i j) where
  flip_two : flip_owners m (key u v) (owners m (key u v)) ≡ flip_tris m (u, v) i t.s j t.t
  unfolding flip_owners flip_cells new_live
  flip_two = (rw t.own) ∙ ap (λ (e : Edge). flip_tris m e i t.s j t.t) (key_up u v up)

  module _ (x y : ℕ) (ex : x ≡ third t.s (u, v)) (ey : y ≡ third t.t (u, v)) (r : Bool) (e : r ≡ convex_pair m u v x y) where
    pub flip_flat : r ≡ false → flip m (key u v) ≡ none
    unfolding flip_tris
    flip_flat h = unturned m (key u v) (rw (flip_two, ← ex, ← ey, ← e, h))

    pub flip_turned : is_locked m (key u v) ≡ false → r ≡ true → (o : Tri) → o ≡ t.s → flip m (key u v) ≡ some (flipped m (u, v) i o j x y)
    unfolding flip_tris
    flip_turned l h o q = rw (free_flip m (key u v) l, flip_two, ← ex, ← ey, ← e, h) (ap (λ (z : Tri). some (flipped m (u, v) i z j x y)) (sym q))

module _ (w : List ℕ) (s p : ℕ) (m : Mesh) (u v : ℕ) (room : Bool) where
  pub flip_none : flip m (key u v) ≡ none → Rep w s p m → FlipTo w s p m (flip m (key u v)) room Not
  flip_none h r = rw h ((refl, r))

  pub flip_short : (m' : Mesh) → flip m (key u v) ≡ some m' → room ≡ false → Rep w s p m → FlipTo w s p m (flip m (key u v)) room Short
  flip_short m' h e r = rw (h, e) ((refl, r))

  pub flip_some : (m' : Mesh) → flip m (key u v) ≡ some m' → room ≡ true → Rep w s p m' → FlipTo w s p m (flip m (key u v)) room Flipped
  flip_some m' h e r = rw (h, e) ((refl, r))

pub can_turn : (m : Mesh) (u v i j x y : ℕ) → i < m.used → j < m.used → Third (length m.points) u v x → Third (length m.points) u v y → x ≢ y
    → CanTurn m u v i j x y
can_turn m u v i j x y a b f g d =
    record {
      i_given = a;
      j_given = b;
      u_known = f.u_known;
      v_known = f.v_known;
      x_known = f.x_known;
      y_known = g.x_known;
      xy = d;
      xu = f.xu;
      xv = f.xv;
      yu = g.xu;
      yv = g.xv;
    }

-- a convex pair has two third nodes
pub convex_apart : (m : Mesh) (u v x y : ℕ) → convex_pair m u v x y ≡ true → x ≢ y
unfolding convex_pair
convex_apart m u v x y h e = false≢true (sym (rw (eq-eqb x y e)) ∙ h)

-- ---- nodes in the points slice

pub within : (q : List Float) (p n a : ℕ) → a < n → n ≤ p → 3 * p ≤ length q → Within q a
within q p n a h k l = omega arith

pub four : (q : List Float) (p : ℕ) (m : Mesh) → Pts q p m → (u v a b : ℕ) → u < length m.points → v < length m.points → a < length m.points → b < length m.points
    → Four q m u v a b
four q p m r u v a b hu hv ha hb =
    let f = node_of m (length m.points) q r.are in
    record { u_is = f u hu; v_is = f v hv; a_is = f a ha; b_is = f b hb }

module _ (q : List Float) (m : Mesh) (u v x y : ℕ) (f : Four q m u v x y) where
  pub convex_same : x ≡ y → false ≡ convex_pair m u v x y
  unfolding convex_pair
  convex_same e = rw (eq-eqb x y e)

-- ---- as the code goes about it

pub step_not : (a b u v : ℕ) → a ≢ u → false ≡ is_step (u, v) a b
unfolding is_step
step_not a b u v e = rw (ne_eqb a u e)

pub step_rest : (a b u v : ℕ) → a ≡ u → eqb b v ≡ is_step (u, v) a b
unfolding is_step
step_rest a b u v e = rw (eq-eqb a u e)

module _ (u v a b c x : ℕ) (r : Bool) (e : x ≡ a) (q : r ≡ off_edge (u, v) x) where
  pub third_a : r ≡ true → x ≡ third (new_tri a b c) (u, v)
  unfolding third new_tri
  third_a k = rw (← e, ← q, k)

  module _ (k : r ≡ false) (y : ℕ) (t : Bool) (f : y ≡ b) (g : t ≡ off_edge (u, v) y) where
    pub third_b : t ≡ true → y ≡ third (new_tri a b c) (u, v)
    unfolding third new_tri
    third_b h = rw (← e, ← q, k, ← f, ← g, h)

    pub third_c : t ≡ false → (z : ℕ) → z ≡ c → z ≡ third (new_tri a b c) (u, v)
    unfolding third new_tri
    third_c h z d = rw (← e, ← q, k, ← f, ← g, h) d

module _ (u v a b c x y z : ℕ) (ea : x ≡ a) (eb : y ≡ b) (ec : z ≡ c) (r1 : Bool) (q1 : r1 ≡ is_step (u, v) x y) where
  pub runs_first : r1 ≡ true → true ≡ runs (new_tri a b c) (u, v)
  unfolding runs new_tri
  runs_first k = rw (← ea, ← eb, ← ec, ← q1, k)

  module _ (r2 : Bool) (q2 : r2 ≡ is_step (u, v) y z) (k : r1 ≡ false) where
    pub runs_second : r2 ≡ true → true ≡ runs (new_tri a b c) (u, v)
    unfolding runs new_tri
    runs_second h = rw (← ea, ← eb, ← ec, ← q1, k, ← q2, h)

    pub runs_last : r2 ≡ false → (r3 : Bool) → r3 ≡ is_step (u, v) z x → r3 ≡ runs (new_tri a b c) (u, v)
    unfolding runs new_tri
    runs_last h r3 q3 = rw (← ea, ← eb, ← ec, ← q1, k, ← q2, h) q3

-- the parts of a convex pair
module _ (q : List Float) (m : Mesh) (u v x y : ℕ) (f : Four q m u v x y) (d : x ≢ y) (r : Bool)
    (e : r ≡ not (0·0 ≼ side (point_at q u) (point_at q v) (point_at q x) ⊗ side (point_at q u) (point_at q v) (point_at q y))) where
  pub convex_flat : r ≡ false → false ≡ convex_pair m u v x y
  unfolding convex_pair apart
  convex_flat h = rw (ne_eqb x y d, f.u_is, f.v_is, f.a_is, f.b_is, ← e, h)

  pub convex_rest : r ≡ true → (t : Bool) → t ≡ not (0·0 ≼ side (point_at q x) (point_at q y) (point_at q u) ⊗ side (point_at q x) (point_at q y) (point_at q v))
      → t ≡ convex_pair m u v x y
  unfolding convex_pair apart
  convex_rest h t k = rw (ne_eqb x y d, f.u_is, f.v_is, f.a_is, f.b_is, ← e, h) k
