-- The span grows by the nodes of a triangle, of a region, of a ring; and no side node is outside.
use mathlib.Core.Path.{◌≡◌, refl, ap, sym, ◌∙◌, subst}
use mathlib.Core.Logic.{◌≢◌, ◌⊎◌, inl, inr}
use mathlib.Core.Bool.{Bool, true, false, ◌&&◌, ◌||◌, and-false, false≢true}
use mathlib.Core.List.{List, [], ◌∷◌}
use mathlib.Core.Option.{none}
use Prim.Native.Nat.{ℕ, ◌+◌, ◌*◌, ◌≤◌, ◌<◌, min, max}
use native.Mathlib.Omega.{arith}
use lib.Dec.{ltb}
use lib.ListN.{length}
use lib.Ieee.{Float}
use borrow.Author.Tests.{ne_eqb, le-ltb, ltb-false}
use Rattle.rings.specs.Rings.{nx}
use Rattle.rings.proofs.Lists.{Same, same, differ, decide}
use Rattle.definition.specs.Lists.{filter, any, first}
use Rattle.definition.specs.Numbers.{Quality, Turn}
use Rattle.definition.specs.Plane.{Vec}
use Rattle.definition.specs.Cells.{Tri, Live, Mesh, key, owns, owners, tri_owners, tri_owner, has_node, tri_has, has_edge}
use Rattle.definition.specs.Candidates.{walls, side_candidate}
use Rattle.laws.specs.Lists.{any_none}
use Rattle.cells.specs.Layout.{rings_at}
use Rattle.cells.specs.Rep.{Rep}
use Rattle.cells.specs.Walk.{node_after, node_before, CanRead, left}
use Rattle.side_candidates.specs.Hand.{InHand}
use Rattle.side_candidates.proofs.Scans.{Scan, Spot, scan_start, spot_has}
use Rattle.edge_candidates.specs.Wanted.{by_edge}
use Rattle.edge_candidates.proofs.Around.{Around, around_start, around_after, around_before, around_read, around_more, around_end, around_less}
use Rattle.edge_candidates.proofs.Closes.{edge_same, edge_other, edge_bare}
use Rattle.candidates.specs.Choice.{is_choice}
use Rattle.candidates.specs.Spans.{Widens, In, Grows, OfTri, OfRegion, Beside, Spans}
use Rattle.candidates.specs.declared.spans.Span.{Span}

-- what a span has, a wider one has
wider : (g r : Span) → r.low ≤ g.low → g.high ≤ r.high → (v : ℕ) → In g v → In r v
wider g r a b v h = record { from = omega (arith, h.from); to = omega (arith, h.to) }

-- ---- a triangle

-- none of its nodes is v
tri_none : (t : Tri) (v : ℕ) → t.n0 ≢ v → t.n1 ≢ v → t.n2 ≢ v → tri_has t v ≡ false
unfolding tri_has
tri_none t v a b c = rw (ne_eqb t.n0 v a, ne_eqb t.n1 v b, ne_eqb t.n2 v c)

module _ (n : ℕ) (t : Tri) (g one two r : Span) (x y z : ℕ) (ex : x ≡ t.n0) (ey : y ≡ t.n1) (ez : z ≡ t.n2) (a : Widens g x one) (b : Widens one y two) (c : Widens two z r) where
  -- the three widened one after the other
  record Three : Type 0 where
    pub low : r.low ≤ g.low
    pub high : g.high ≤ r.high
    pub x_in : In r x
    pub y_in : In r y
    pub z_in : In r z

  three : Three
  three =
      let la : one.low ≡ min g.low x = a.low in
      let lb : two.low ≡ min one.low y = b.low in
      let lc : r.low ≡ min two.low z = c.low in
      let ha : one.high ≡ max g.high x = a.high in
      let hb : two.high ≡ max one.high y = b.high in
      let hc : r.high ≡ max two.high z = c.high in
      record {
        low = omega (arith, la, lb, lc);
        high = omega (arith, ha, hb, hc);
        x_in = record { from = omega (arith, la, lb, lc); to = omega (arith, ha, hb, hc) };
        y_in = record { from = omega (arith, lb, lc); to = omega (arith, hb, hc) };
        z_in = record { from = omega (arith, lc); to = omega (arith, hc) };
      }

  pub tri_grows : t.n0 < n → t.n1 < n → t.n2 < n → Grows n (OfTri t) g r
  tri_grows kx ky kz =
      record {
        low = three.low;
        high = three.high;
        known = λ h. omega (arith, h, a.high, b.high, c.high, kx, ky, kz, ex, ey, ez);
        has = λ v h. go v h (decide t.n0 v) (decide t.n1 v) (decide t.n2 v);
      }
    where
      go : (v : ℕ) → tri_has t v ≡ true → Same t.n0 v → Same t.n1 v → Same t.n2 v → In r v
      go v h (same e) q o = subst (In r) (ex ∙ e) three.x_in
      go v h (differ d) (same e) o = subst (In r) (ey ∙ e) three.y_in
      go v h (differ d) (differ k) (same e) = subst (In r) (ez ∙ e) three.z_in
      go v h (differ d) (differ k) (differ l) = absurd (false≢true (sym (tri_none t v d k l) ∙ h))

-- ---- the region

-- the triangles from place i on are still to come; h has every node of the others
pub record Read (w : List ℕ) (s p k i : ℕ) (m : Mesh) (region : List Live) (g h : Span) : Type 0 where
  pub rest : List Live
  pub scan : Scan w s p k i m rest
  pub low : h.low ≤ g.low
  pub high : g.high ≤ h.high
  pub known : g.high < length m.points → h.high < length m.points
  pub cover : (v : ℕ) → OfRegion region v → In h v ⊎ OfRegion rest v

module _ (w : List ℕ) (s p k : ℕ) (m : Mesh) (region : List Live) (g : Span) where
  pub read_start : (q : List Float) → InHand w q s p k m region → Read w s p k 0 m region g g
  read_start q h = record { rest = region; scan = scan_start w q s p k m region h; low = omega arith; high = omega arith; known = λ e. e; cover = λ v e. inr e }

  module _ (i j : ℕ) (h r : Span) where
    pub read_more : (f : Read w s p k i m region g h) (z : Spot w s p k i j m f.rest) → Grows (length m.points) (OfTri z.top.t.t) h r → Read w s p k (i + 1) m region g r
    unfolding any
    read_more f z e =
        record {
          rest = z.more;
          scan = z.next;
          low = omega (arith, e.low, f.low);
          high = omega (arith, e.high, f.high);
          known = λ a. e.known (f.known a);
          cover = λ v a. go v (f.cover v a);
        }
      where
        one : (v : ℕ) → (b : Bool) → has_node v z.x ≡ b → any (has_node v) (z.x ∷ z.more) ≡ true → In r v ⊎ OfRegion z.more v
        one v true q a = inl (e.has v (sym (spot_has m j v z.x z.top) ∙ q))
        one v false q a = inr (rw q at a)

        go : (v : ℕ) → In h v ⊎ OfRegion f.rest v → In r v ⊎ OfRegion z.more v
        go v (inl a) = inl (wider h r e.low e.high v a)
        go v (inr a) = one v (has_node v z.x) refl (sym (ap (any (has_node v)) z.is) ∙ a)

    pub read_end : Read w s p k i m region g h → k ≤ i → Grows (length m.points) (OfRegion region) g h
    unfolding any
    read_end f l = record { low = f.low; high = f.high; known = f.known; has = λ v a. go v f.rest f.scan.len (f.cover v a) }
      where
        go : (v : ℕ) (rest : List Live) → i + length rest ≡ k → In h v ⊎ OfRegion rest v → In h v
        go v rest e (inl a) = a
        go v [] e (inr a) = absurd (false≢true a)
        go v (x ∷ rest) e (inr a) = absurd (omega arith)

-- ---- the ring

-- v is not in the span
abbrev outside : Span → ℕ → Bool
outside g v = ltb v g.low || ltb g.high v

in_not : (g : Span) (v : ℕ) → In g v → outside g v ≡ false
in_not g v h = rw (le-ltb v g.low h.from, le-ltb g.high v h.to)

not_in : (g : Span) (v : ℕ) → outside g v ≡ false → In g v
not_in g v h = go (ltb v g.low) refl (ltb g.high v) refl h
  where
    go : (b : Bool) → ltb v g.low ≡ b → (d : Bool) → ltb g.high v ≡ d → (b || d) ≡ false → In g v
    go true e d f k = absurd (false≢true (sym k))
    go false e true f k = absurd (false≢true (sym k))
    go false e false f k = record { from = ltb-false v g.low e; to = ltb-false g.high v f }

-- v has an edge with a, but is not in the span
abbrev stray : Mesh → ℕ → Span → ℕ → Bool
stray m a g v = has_edge m a v && outside g v

-- v is in the span, if it has an edge with a
abbrev Stays : Mesh → ℕ → Span → ℕ → Type 0
Stays m a g v = stray m a g v ≡ false

stray_in : (m : Mesh) (a : ℕ) (g : Span) (v : ℕ) → In g v → stray m a g v ≡ false
stray_in m a g v h = ap (λ (b : Bool). has_edge m a v && b) (in_not g v h) ∙ and-false (has_edge m a v)

stray_wider : (m : Mesh) (a : ℕ) (g r : Span) (v : ℕ) → (In g v → In r v) → stray m a g v ≡ false → stray m a r v ≡ false
stray_wider m a g r v f h = go (has_edge m a v) refl
  where
    go : (b : Bool) → has_edge m a v ≡ b → stray m a r v ≡ false
    go true e = stray_in m a r v (f (not_in g v (rw e at h)))
    go false e = rw e

stray_not : (m : Mesh) (a : ℕ) (g : Span) (v : ℕ) → stray m a g v ≡ false → has_edge m a v ≡ true → In g v
stray_not m a g v h e = not_in g v (rw e at h)

none_any : (f : Live → Bool) (l : List Live) → any f l ≡ false → filter f l ≡ []
unfolding any filter
none_any f [] h = refl
none_any f (x ∷ l) h = go (f x) refl (none_any f l)
  where
    go : (b : Bool) → f x ≡ b → (any f l ≡ false → filter f l ≡ []) → filter f (x ∷ l) ≡ []
    go true e r = absurd (false≢true (sym (rw e at h)))
    go false e r = rw e (r (rw e at h))

pub bare : (m : Mesh) (a v : ℕ) → owners m (key a v) ≡ [] → has_edge m a v ≡ false
unfolding owners has_edge
bare m a v h = any_none (owns (key a v)) m.live h

-- at the place c of the ring of a: an edge with a that none of the cells to come has ends in the span h
pub record Ringed (w : List ℕ) (s a c : ℕ) (m : Mesh) (g h : Span) : Type 0 where
  pub around : Around w s a c m (Stays m a h)
  pub low : h.low ≤ g.low
  pub high : g.high ≤ h.high
  pub known : g.high < length m.points → h.high < length m.points

module _ (w : List ℕ) (s p a : ℕ) (m : Mesh) (rep : Rep w s p m) (an : a < length m.points) (g : Span) where
  pub ringed_start : Ringed w s a (nx w (rings_at s) (4 * s + a)) m g g
  ringed_start =
      record {
        around = around_start w s p a m (Stays m a g) rep an (λ v d h. ap (λ (b : Bool). b && outside g v) (bare m a v h));
        low = omega arith;
        high = omega arith;
        known = λ e. e;
      }

  module _ (c : ℕ) (h : Span) (k : Ringed w s a c m g h) (inside : c < 4 * s) where
    pub ringed_read : CanRead w s c
    ringed_read = around_read w s a c m (Stays m a h) k.around inside

    pub ringed_less : (d : ℕ) → d ≡ nx w (rings_at s) c → left w s p d < left w s p c
    ringed_less d e = around_less w s a c m (Stays m a h) k.around p d rep inside e

    pub ringed_more : (x y d : ℕ) (one r : Span) → x ≡ node_after w s c → y ≡ node_before w s c → Widens h x one → Widens one y r → d ≡ nx w (rings_at s) c → Ringed w s a d m g r
    ringed_more x y d one r ex ey wx wy ed =
        let kx : x < length m.points = around_after w s a c m (Stays m a h) k.around inside x ex in
        let ky : y < length m.points = around_before w s a c m (Stays m a h) k.around inside y ey in
        let lx : one.low ≡ min h.low x = wx.low in
        let ly : r.low ≡ min one.low y = wy.low in
        let hx : one.high ≡ max h.high x = wx.high in
        let hy : r.high ≡ max one.high y = wy.high in
        let lo : r.low ≤ h.low = omega (arith, lx, ly) in
        let hi : h.high ≤ r.high = omega (arith, hx, hy) in
        let x_in : In r x = record { from = omega (arith, lx, ly); to = omega (arith, hx, hy) } in
        let y_in : In r y = record { from = omega (arith, ly); to = omega (arith, hy) } in
        let f : Around w s a c m (Stays m a r) =
        record { rest = k.around.rest; pos = k.around.pos; holds = λ v e o. stray_wider m a h r v (wider h r lo hi v) (k.around.holds v e o) } in
        record {
          around = around_more w s a c m (Stays m a r) f inside x y d ex ey (stray_in m a r x x_in) (stray_in m a r y y_in) ed;
          low = omega (arith, lo, k.low);
          high = omega (arith, hi, k.high);
          known = λ e. let z = k.known e in omega (arith, z, hx, hy, kx, ky);
        }

  pub ringed_end : (c : ℕ) (h : Span) → Ringed w s a c m g h → 4 * s ≤ c → Grows (length m.points) (Beside m a) g h
  ringed_end c h k l =
      record { low = k.low; high = k.high; known = k.known; has = λ v e. stray_not m a h v (around_end w s a c m (Stays m a h) k.around l v e.0) e.1 }

-- ---- both

pub spans_both : (m : Mesh) (a : ℕ) (region : List Live) (g h r : Span) → g.low ≡ a → g.high ≡ a → a < length m.points
    → Grows (length m.points) (OfRegion region) g h → Grows (length m.points) (Beside m a) h r → Spans m a region r
spans_both m a region g h r f e l x y =
    record {
      node = record { from = omega (arith, f, x.low, y.low); to = omega (arith, e, x.high, y.high) };
      known = y.known (x.known (omega (arith, e)));
      inner = λ v o. wider h r y.low y.high v (x.has v o);
      beside = y.has;
    }

-- ---- a node outside

module _ (y : Quality) (t : Turn) (m : Mesh) (a other : ℕ) (n : Vec) (target : Float) (region : List Live) (v : ℕ) where
  ownerless : has_edge m a v ≡ false → tri_owner m (key a v) ≡ none
  unfolding has_edge owners tri_owners tri_owner filter first
  ownerless h = rw (none_any (owns (key a v)) m.live h)

  edge_off : (a ≢ v → has_edge m a v ≡ false) → false ≡ by_edge t m a other target v
  edge_off h = go (decide v a) (decide v other)
    where
      go : Same v a → Same v other → false ≡ by_edge t m a other target v
      go (same e) o = edge_same t m a other target v e
      go (differ d) (same e) = edge_other t m a other target v d e
      go (differ d) (differ k) = edge_bare t m a other target v d k (ownerless (h (λ e. d (sym e))))

  inner_off : any (has_node v) region ≡ false → side_candidate y m a other n target region (walls m region) v ≡ false
  unfolding side_candidate
  inner_off h = rw h (simp and-false)

  -- v has no edge with a
  pub edge_none : (Beside m a v → ⊥) → false ≡ by_edge t m a other target v
  edge_none h = edge_off (λ d. go d (has_edge m a v) refl)
    where
      go : a ≢ v → (b : Bool) → has_edge m a v ≡ b → has_edge m a v ≡ false
      go d true e = absurd (h (d, e))
      go d false e = e

  -- v is no node of the region
  pub choice_outer : false ≡ by_edge t m a other target v → any (has_node v) region ≡ false → false ≡ is_choice y t m a other n target region v
  choice_outer h k = rw (← h, inner_off k)

  -- is no side node
  choice_out : (r : Span) → Spans m a region r → (In r v → ⊥) → is_choice y t m a other n target region v ≡ false
  choice_out r s out = rw (← edge_off (λ d. far d (has_edge m a v) refl), inner_off (off (any (has_node v) region) refl))
    where
      far : a ≢ v → (b : Bool) → has_edge m a v ≡ b → has_edge m a v ≡ false
      far d true e = absurd (out (s.beside v (d, e)))
      far d false e = e

      off : (b : Bool) → any (has_node v) region ≡ b → any (has_node v) region ≡ false
      off true e = absurd (out (s.inner v e))
      off false e = e

  pub choice_before : (r : Span) → Spans m a region r → v < r.low → is_choice y t m a other n target region v ≡ false
  choice_before r s h = choice_out r s (λ k. omega (arith, h, k.from))

  pub choice_behind : (r : Span) → Spans m a region r → r.high < v → is_choice y t m a other n target region v ≡ false
  choice_behind r s h = choice_out r s (λ k. omega (arith, h, k.to))
