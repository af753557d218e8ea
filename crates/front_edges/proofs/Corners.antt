-- The ring of a node walked corner by corner.
use Rattle.std.specs.Prelude.{◌≡◌, ◌≢◌, ◌&&◌, ◌||◌, ◌+◌, ◌*◌, ◌/◌, ◌<◌, ◌≤◌, ◌∷◌, ◌++◌}
use Rattle.laws.specs.Kit.{refl, sym, ◌∙◌, ap, subst, inl, inr, Bool, true, false, ℕ, arith, ℕ_discrete, eqb, eq-eqb, ne_eqb, eqb-true, List, [], length, get_or, length-append}
use Rattle.rings.specs.Rings.{nx}
use Rattle.definition.specs.Lists.{filter}
use Rattle.definition.specs.Cells.{Tri, Cell, tri, Live, Mesh, key, live_tri, tri_has, has_side, owns}
use Rattle.definition.specs.Flips.{third}
use Rattle.laws.specs.Bools.{both, either}
use Rattle.laws.specs.Lists.{In, in_either}
use Rattle.laws.specs.Frames.{Under}
use Rattle.account.proofs.Found.{is_a_tri}
use Rattle.account.specs.Triangles as triangles
use Rattle.account.proofs.Triangles as triangle_laws
use Rattle.account.proofs.Ends.{third_node}
use Rattle.cells.specs.Layout.{mesh_end, rings_at}
use Rattle.cells.specs.Rep.{Shape}
use Rattle.cells.specs.Walk.{Pos, beside, node_after, node_before, CanRead, CanSee}
use Rattle.cells.proofs.Edges.{tri_side}
use Rattle.cells.proofs.Fronts.{held_tri}
use Rattle.cells.proofs.Frames.{rep_under, pos_under}
use Rattle.cells.proofs.Walks.{There, there, seek_end, ended, start, pos_walk, can_read}
use Rattle.meshes.proofs.Valid.{valid, tri_distinct, tri_below}
use Rattle.front_edges.specs.Runs.{Row, Beyond, Good, CanTry, Tried, Met, CanWalk, Here, StepTo, GatherTo}
use Rattle.front_edges.proofs.Members.{few_ends}
use Rattle.front_edges.proofs.Puts.{beyond_refl, beyond_trans, beyond_under, snoc_apart, Half, half}
use Rattle.front_edges.proofs.Meets.{met_start, met_quad, met_tri, fresh_x, fresh_y, good_more}

-- ---- a place in a ring stays where only the rest of the memory changes

module _ (w w' : List ℕ) (s p : ℕ) (k : Under w w' (mesh_end s p)) where
  walk_under : (u from : ℕ) (m : Mesh) → CanWalk w s p u from m → CanWalk w' s p u from m
  walk_under u from m h = record { rep = rep_under w w' s p k m h.rep; known = h.known; room = h.room }

-- ---- the start and the end

module _ (w : List ℕ) (s p u from : ℕ) (m : Mesh) where
  pub here_start : CanWalk w s p u from m → Here w s p u from from (nx w (rings_at s) (4 * s + u)) m
  here_start h =
      record {
        can = h;
        rest = m.live;
        pos = start w s p u m h.rep (omega (arith, h.known, h.rep.points));
        vs = [];
        row = record { len = omega arith; firsts = λ i a b. absurd (omega arith); seconds = tt; apart = tt };
        met = met_start m u;
      }

  pub here_end : (w₀ : List ℕ) (k c : ℕ) → Here w s p u from k c m → Beyond w₀ w s p from → 4 * s ≤ c → GatherTo w₀ w s p u from k m
  unfolding filter
  here_end w₀ k c h b cs =
      record {
        vs = h.vs;
        row = h.row;
        inside = omega (
          arith,
          few_ends m (valid w s p m h.can.rep) u h.can.known h.vs h.row.apart h.met.good,
          h.row.len,
          h.can.room,
        );
        good = h.met.good;
        all = λ v g.
            let d : u ≢ v = λ z. omega (arith, g.up, z) in
            h.met.all v g (ap (λ (l : List Live). length (filter live_tri l)) (ended w s p u v c h.rest (seek_end w s p u c h.rest h.pos cs v d) cs));
        beyond = b;
      }

-- ---- one corner

module _ (w : List ℕ) (s p u from k c : ℕ) (m : Mesh) (h : Here w s p u from k c m) (cs : c < 4 * s) where
  at : There w s p u c h.rest h.pos
  at = there w s p u c h.rest h.pos cs

  pub here_read : CanRead w s c
  here_read = can_read w s p u c h.rest h.pos cs

  pub here_see : CanSee w s (c / 4)
  here_see = record { fits = omega (arith, h.pos.room.fits); inside = omega (arith, cs) }

  -- on to the next corner
  on : (w' : List ℕ) (r : ℕ) (vs : List ℕ) → Beyond w w' s p from → Row w' s p u from r vs → Met m u at.l vs → StepTo w w' s p u from k c r m
  on w' r vs b row met =
      let k' = beyond_under w w' s p from b in
      let n : nx w' (rings_at s) c ≡ nx w (rings_at s) c = k'.low (rings_at s + c) (omega arith) in
      let pos : Pos w' s p u (nx w' (rings_at s) c) at.l = subst (λ (z : ℕ). Pos w' s p u z at.l) (sym n) (pos_under w w' s p k' u (nx w (rings_at s) c) at.l at.then) in
      record {
        here = record { can = walk_under w w' s p k' u from m h.can; rest = at.l; pos = pos; vs = vs; row = row; met = met };
        beyond = b;
        fewer = rw (pos_walk w' s p u (nx w' (rings_at s) c) at.l pos, pos_walk w s p u c h.rest h.pos) at.less;
      }

  kind_is : eqb (get_or w (c / 4) 0) 3 ≡ live_tri at.e
  kind_is = rw at.slot (held_tri w s s p at.e at.held)

  pub quad_step : get_or w (c / 4) 0 ≢ 3 → StepTo w w s p u from k c k m
  quad_step n =
      on w k h.vs (beyond_refl w s p from) h.row
      (met_quad m u h.rest h.vs h.met at.e at.l at.own_is (sym kind_is ∙ ne_eqb (get_or w (c / 4) 0) 3 n))

  module _ (q : get_or w (c / 4) 0 ≡ 3) (x y : ℕ) (ex : x ≡ node_after w s c) (ey : y ≡ node_before w s c) where
    is_triangle : live_tri at.e ≡ true
    is_triangle = sym kind_is ∙ eq-eqb (get_or w (c / 4) 0) 3 q

    side : (v : ℕ) → u ≢ v → owns (key u v) at.e ≡ (eqb x v || eqb y v)
    unfolding beside owns
    side v d = at.edge v d ∙ (rw (← ex, ← ey))

    cell : (t : Tri) × (at.e.cell ≡ tri t)
    unfolding live_tri
    cell = is_a_tri at.e.cell is_triangle

    shape : Shape p (tri cell.0)
    shape = subst (λ (z : Cell). Shape p z) cell.1 at.held.shape

    both_in : (v : ℕ) → u ≢ v → (eqb x v || eqb y v) ≡ true → triangles.Has cell.0 u × triangles.Has cell.0 v
    unfolding owns
    both_in v d z =
        let t = cell.0 in
        let g : (tri_has t u && tri_has t v) ≡ true = sym (tri_side t u v) ∙ ap (λ (b : Cell). has_side (key u v) b) (sym cell.1) ∙ side v d ∙ z in
        let b = both (tri_has t u) (tri_has t v) g in
        (triangle_laws.test_has t u b.0, triangle_laws.test_has t v b.1)

    in_both : (v : ℕ) → u ≢ v → triangles.Has cell.0 u → triangles.Has cell.0 v → (eqb x v || eqb y v) ≡ true
    unfolding owns
    in_both v d a b =
        let t = cell.0 in
        sym (side v d) ∙ ap (λ (z : Cell). has_side (key u v) z) cell.1 ∙ tri_side t u v ∙ (rw (triangle_laws.has_test t u a, triangle_laws.has_test t v b))

    known : (v : ℕ) → (eqb x v || eqb y v) ≡ true → v < p
    known v z = elim (ℕ_discrete u v) [
      | yes e ↦ omega (arith, h.pos.node, e)
      | no d ↦ tri_below p cell.0 shape v (both_in v d z).1
    ]

    x_known : x < p
    x_known = known x (rw (eq-eqb x x refl))

    y_known : y < p
    y_known = known y (rw (eq-eqb y y refl) (true_last (eqb x y)))
      where
        true_last : (b : Bool) → (b || true) ≡ true
        true_last true = refl
        true_last false = refl

    -- the two other nodes of the triangle differ
    x_y : Good m u x → x ≢ y
    x_y g z =
        let d : u ≢ x = λ e. omega (arith, g.up, e) in
        let b = both_in x d (rw (eq-eqb x x refl)) in
        let f = third_node cell.0 (u, x) (tri_distinct p cell.0 shape) d b.0 b.1 in
        let o = third cell.0 (u, x) in
        let n : (eqb x o || eqb y o) ≡ true = in_both o (λ e. f.not_u (sym e)) b.0 f.nodes.has2 in
        elim (either (eqb x o) (eqb y o) n) [
          | inl i ↦ f.not_v (sym (eqb-true x o i))
          | inr i ↦ f.not_v (sym (z ∙ eqb-true y o i))
        ]

    -- room for one more
    inside : (w' : List ℕ) (j v : ℕ) (vs : List ℕ) → Row w' s p u from j vs → ((z : ℕ) → In z vs → Good m u z) → (Good m u v → In v vs → ⊥) → Good m u v → j < 3 * s
    inside w' j v vs row good fresh g =
        omega (
          arith,
          few_ends m (valid w s p m h.can.rep) u h.can.known (vs ++ v ∷ []) (snoc_apart v vs row.apart (fresh g)) more,
          length-append vs (v ∷ []),
          row.len,
          h.can.room,
        )
      where
        more : (z : ℕ) → In z (vs ++ v ∷ []) → Good m u z
        more z i = elim (in_either z vs (v ∷ []) i) [ inl j ↦ good z j | inr (inl e) ↦ subst (λ (y : ℕ). Good m u y) (sym e) g | inr (inr j) ↦ absurd j ]

    fresh : Good m u x → In x h.vs → ⊥
    fresh = fresh_x m u h.rest h.vs h.met at.e at.l at.own_is is_triangle x y side

    pub can_x : CanTry w s p u x k m
    can_x =
        record {
          rep = h.can.rep;
          first = h.pos.node;
          second = x_known;
          inside = inside w k x h.vs h.row h.met.good fresh;
        }

    module _ (w1 : List ℕ) (k1 : ℕ) (tried : Tried m w w1 s p u x k k1) where
      one : Half w w1 s p u x from k1 m h.vs
      one = half w w1 s p u x from k k1 m h.vs tried h.row fresh

      fresh' : Good m u y → In y one.vs1 → ⊥
      fresh' = fresh_y m u h.rest h.vs h.met at.e at.l at.own_is is_triangle x y side one.vs1 one.tries x_y

      pub can_y : CanTry w1 s p u y k1 m
      can_y =
          record {
            rep = rep_under w w1 s p (beyond_under w w1 s p from one.beyond) m h.can.rep;
            first = h.pos.node;
            second = y_known;
            inside = inside w1 k1 y one.vs1 one.row
                (good_more m u h.rest h.vs h.met at.e at.l at.own_is is_triangle x y side one.vs1 one.tries) fresh';
          }

      pub tri_step : (w2 : List ℕ) (k2 : ℕ) → Tried m w1 w2 s p u y k1 k2 → StepTo w w2 s p u from k c k2 m
      tri_step w2 k2 t =
          let two = half w1 w2 s p u y from k1 k2 m one.vs1 t one.row fresh' in
          on w2 k2 two.vs1 (beyond_trans w w1 w2 s p from from (omega arith) one.beyond two.beyond) two.row
          (met_tri m u h.rest h.vs h.met at.e at.l at.own_is is_triangle x y side one.vs1 two.vs1 one.tries two.tries)

-- ---- the loop

-- the walk, and what stays
pub record Walking (w₀ w : List ℕ) (s p u from k c : ℕ) (m : Mesh) : Type 0 where
  pub here : Here w s p u from k c m
  pub beyond : Beyond w₀ w s p from

pub walking_more : (w₀ w w' : List ℕ) (s p u from k c r : ℕ) (m : Mesh) → Walking w₀ w s p u from k c m → StepTo w w' s p u from k c r m
    → Walking w₀ w' s p u from r (nx w' (rings_at s) c) m
walking_more w₀ w w' s p u from k c r m h t = record { here = t.here; beyond = beyond_trans w₀ w w' s p from from (omega arith) h.beyond t.beyond }
