-- Edges linked to the lists of their ends.
use Rattle.std.specs.Prelude.{◌≡◌, ◌≢◌, ◌||◌, ◌+◌, ◌-◌, ◌*◌, ◌<◌, ◌≤◌}
use Rattle.laws.specs.Kit.{refl, sym, ◌∙◌, ap, subst, Bool, true, false, ℕ, suc, arith, eqb, eq-eqb, ne_eqb, List, length, get_or, set, length-set}
use native.Mathlib.Numerals.{add-one}
use Rattle.rings.proofs.Lists.{Same, same, differ, decide}
use Rattle.definition.specs.Plane.{Edge}
use Rattle.definition.specs.Cells.{touches}
use Rattle.laws.specs.Frames.{on, off}
use Rattle.laws.specs.Numbers.{later}
use Rattle.cells.specs.Layout.{front_u_at, front_v_at, front_links_at, front_used_at, heads_at}
use Rattle.cells.specs.Rep.{Room}
use Rattle.edges.specs.Parts.{edge_of, edge_in_range}
use Rattle.loops.specs.Loop.{CanLoop}
use Rattle.loops.specs.Trace.{seek}
use Rattle.loops.specs.Link.{Filled, CanLink, linked, Linking, LinkTo, ListTo}
use Rattle.loops.proofs.Places.{front_kept}
use Rattle.loops.proofs.Unused.{seek_hit, seek_miss, seek_end}

-- ---- one edge linked

-- what linking the edge i to its ends u and v changes
pub record Joined (w w' : List ℕ) (s p u v i : ℕ) : Type 0 where
  pub len : length w' ≡ length w
  pub head_u : get_or w' (heads_at s p + u) 0 ≡ i
  pub head_v : get_or w' (heads_at s p + v) 0 ≡ i
  pub link_u : get_or w' (front_links_at s p + 2 * i) 0 ≡ get_or w (heads_at s p + u) 0
  pub link_v : get_or w' (front_links_at s p + (2 * i + 1)) 0 ≡ get_or w (heads_at s p + v) 0
  pub heads : (x : ℕ) → x ≢ u → x ≢ v → get_or w' (heads_at s p + x) 0 ≡ get_or w (heads_at s p + x) 0
  pub links : (x : ℕ) → x < 6 * s → x ≢ 2 * i → x ≢ 2 * i + 1 → get_or w' (front_links_at s p + x) 0 ≡ get_or w (front_links_at s p + x) 0
  pub below : (x : ℕ) → x < front_links_at s p → get_or w' x 0 ≡ get_or w x 0
  pub between : (x : ℕ) → front_used_at s p ≤ x → x < heads_at s p → get_or w' x 0 ≡ get_or w x 0

module _ (w : List ℕ) (s p x l i : ℕ) (h : CanLink w s p x l i) where
  linked_len : length (linked w s p x l i) ≡ length w
  unfolding linked
  linked_len = simp length-set refl

  linked_head : get_or (linked w s p x l i) (heads_at s p + x) 0 ≡ i
  unfolding linked
  linked_head = on (set w (front_links_at s p + l) (get_or w (heads_at s p + x) 0)) (heads_at s p + x) i (simp length-set (omega (arith, h.room.fits, h.node)))

  linked_link : get_or (linked w s p x l i) (front_links_at s p + l) 0 ≡ get_or w (heads_at s p + x) 0
  unfolding linked
  linked_link =
      off (set w (front_links_at s p + l) (get_or w (heads_at s p + x) 0)) (heads_at s p + x) i (front_links_at s p + l) (omega (arith, h.link))
      ∙ on w (front_links_at s p + l) (get_or w (heads_at s p + x) 0) (omega (arith, h.room.fits, h.link))

  linked_rest : (y : ℕ) → y ≢ front_links_at s p + l → y ≢ heads_at s p + x → get_or (linked w s p x l i) y 0 ≡ get_or w y 0
  unfolding linked
  linked_rest y a b = off (set w (front_links_at s p + l) (get_or w (heads_at s p + x) 0)) (heads_at s p + x) i y b ∙ off w (front_links_at s p + l) (get_or w (heads_at s p + x) 0) y a

module _ (w : List ℕ) (s p u v i : ℕ) (r : Room w s p) (hi : i < 3 * s) (hu : u < p) (hv : v < p) (d : u ≢ v) where
  pub can_first : CanLink w s p u (2 * i) i
  can_first = record { room = r; node = hu; link = omega arith; edge = hi }

  pub can_second : CanLink (linked w s p u (2 * i) i) s p v (2 * i + 1) i
  can_second =
      record {
        room = record { fits = omega (arith, linked_len w s p u (2 * i) i can_first, r.fits); small = r.small };
        node = hv;
        link = omega arith;
        edge = hi;
      }

  pub joined : Joined w (linked (linked w s p u (2 * i) i) s p v (2 * i + 1) i) s p u v i
  joined =
      let w1 = linked w s p u (2 * i) i in
      let c1 = can_first in
      let c2 = can_second in
      record {
        len = linked_len w1 s p v (2 * i + 1) i c2 ∙ linked_len w s p u (2 * i) i c1;
        head_u = linked_rest w1 s p v (2 * i + 1) i c2 (heads_at s p + u) (omega (arith, hi)) (λ z. d (omega (arith, z))) ∙ linked_head w s p u (2 * i) i c1;
        head_v = linked_head w1 s p v (2 * i + 1) i c2;
        link_u = linked_rest w1 s p v (2 * i + 1) i c2 (front_links_at s p + 2 * i) (omega arith) (omega (arith, hi)) ∙ linked_link w s p u (2 * i) i c1;
        link_v = linked_link w1 s p v (2 * i + 1) i c2 ∙ linked_rest w s p u (2 * i) i c1 (heads_at s p + v) (omega (arith, hi)) (λ z. d (omega (arith, z)));
        heads = λ x a b. linked_rest w1 s p v (2 * i + 1) i c2 (heads_at s p + x) (omega (arith, hi)) (λ z. b (omega (arith, z)))
            ∙ linked_rest w s p u (2 * i) i c1 (heads_at s p + x) (omega (arith, hi)) (λ z. a (omega (arith, z)));
        links = λ x h a b. linked_rest w1 s p v (2 * i + 1) i c2 (front_links_at s p + x) (λ z. b (omega (arith, z))) (omega (arith, h))
            ∙ linked_rest w s p u (2 * i) i c1 (front_links_at s p + x) (λ z. a (omega (arith, z))) (omega (arith, h));
        below = λ x h. linked_rest w1 s p v (2 * i + 1) i c2 x (omega (arith, h)) (omega (arith, h)) ∙ linked_rest w s p u (2 * i) i c1 x (omega (arith, h)) (omega (arith, h));
        between = λ x g h. linked_rest w1 s p v (2 * i + 1) i c2 x (omega (arith, hi, g)) (omega (arith, h)) ∙ linked_rest w s p u (2 * i) i c1 x (omega (arith, hi, g)) (omega (arith, h));
      }

-- ---- an edge's ends

touch_first : (e : Edge) (x : ℕ) → x ≡ e.0 → touches e x ≡ true
unfolding touches
touch_first e x h = rw (eq-eqb e.0 x (sym h))

touch_second : (e : Edge) (x : ℕ) → x ≡ e.1 → touches e x ≡ true
unfolding touches
touch_second e x h = go (eqb e.0 x)
  where
    go : (b : Bool) → (b || eqb e.1 x) ≡ true
    go true = refl
    go false = eq-eqb e.1 x (sym h)

touch_none : (e : Edge) (x : ℕ) → x ≢ e.0 → x ≢ e.1 → touches e x ≡ false
unfolding touches
touch_none e x a b = rw (ne_eqb e.0 x (λ z. a (sym z)), ne_eqb e.1 x (λ z. b (sym z)))

-- ---- the lists with one edge more

module _ (w w' : List ℕ) (s p n k : ℕ) (es : List Edge) (i m : ℕ) (g : Linking w s p n k es (i + 1) m) where
  in_range : i < k
  in_range = omega (arith, g.sum)

  pub first_at : get_or w (front_u_at s p + i) 0 ≡ (edge_of es i).0
  first_at = ap (λ (e : Edge). e.0) (g.front.at.each i in_range)

  pub second_at : get_or w (front_v_at s p + i) 0 ≡ (edge_of es i).1
  second_at = ap (λ (e : Edge). e.1) (g.front.at.each i in_range)

  pub up : (edge_of es i).0 < (edge_of es i).1
  up = (edge_in_range n es i g.front.edges (omega (arith, in_range, g.front.at.len))).0

  pub known : (edge_of es i).1 < n
  known = (edge_in_range n es i g.front.edges (omega (arith, in_range, g.front.at.len))).1

  module _ (j : Joined w w' s p (edge_of es i).0 (edge_of es i).1 i) where
    heads_on : (x : ℕ) → x < n → Same x (edge_of es i).0 → Same x (edge_of es i).1 → get_or w' (heads_at s p + x) 0 ≡ seek es x i (suc m)
    heads_on x h (same q) z = ap (λ (y : ℕ). get_or w' (heads_at s p + y) 0) q ∙ j.head_u ∙ sym (seek_hit es x i m (touch_first (edge_of es i) x q))
    heads_on x h (differ q) (same z) = ap (λ (y : ℕ). get_or w' (heads_at s p + y) 0) z ∙ j.head_v ∙ sym (seek_hit es x i m (touch_second (edge_of es i) x z))
    heads_on x h (differ q) (differ z) =
        j.heads x q z ∙ g.lists.heads x h ∙ ap (λ (y : ℕ). seek es x y m) (add-one i) ∙ sym (seek_miss es x i m (touch_none (edge_of es i) x q z))

    firsts_on : (x l : ℕ) → i ≤ x → x + suc l ≡ i + suc m → Same x i → get_or w' (front_links_at s p + 2 * x) 0 ≡ seek es (edge_of es x).0 (suc x) l
    firsts_on x l a b (same q) =
        let y : l ≡ m = omega arith in
        ap (λ (z : ℕ). get_or w' (front_links_at s p + 2 * z) 0) q ∙ j.link_u
        ∙ g.lists.heads (edge_of es i).0 (omega (arith, up, known)) ∙ ap (λ (z : ℕ). seek es (edge_of es i).0 z m) (add-one i)
        ∙ ap (λ (z : ℕ). seek es (edge_of es z).0 (suc z) m) (sym q) ∙ ap (seek es (edge_of es x).0 (suc x)) (sym y)
    firsts_on x l a b (differ q) =
        j.links (2 * x) (omega (arith, g.sum, g.front.at.few)) (λ z. q (omega (arith, z))) (λ z. q (omega (arith, z)))
        ∙ g.lists.firsts x l (later i x a q) (omega arith)

    seconds_on : (x l : ℕ) → i ≤ x → x + suc l ≡ i + suc m → Same x i → get_or w' (front_links_at s p + (2 * x + 1)) 0 ≡ seek es (edge_of es x).1 (suc x) l
    seconds_on x l a b (same q) =
        let y : l ≡ m = omega arith in
        ap (λ (z : ℕ). get_or w' (front_links_at s p + (2 * z + 1)) 0) q ∙ j.link_v
        ∙ g.lists.heads (edge_of es i).1 known ∙ ap (λ (z : ℕ). seek es (edge_of es i).1 z m) (add-one i)
        ∙ ap (λ (z : ℕ). seek es (edge_of es z).1 (suc z) m) (sym q) ∙ ap (seek es (edge_of es x).1 (suc x)) (sym y)
    seconds_on x l a b (differ q) =
        j.links (2 * x + 1) (omega (arith, g.sum, g.front.at.few)) (λ z. q (omega (arith, z))) (λ z. q (omega (arith, z)))
        ∙ g.lists.seconds x l (later i x a q) (omega arith)

    pub link_to : LinkTo w w' s p n k es i (suc m)
    link_to =
        record {
          linking = record {
            front = front_kept j.len j.below g.front;
            lists = record {
              heads = λ x h. heads_on x h (decide x (edge_of es i).0) (decide x (edge_of es i).1);
              firsts = λ x l a b. firsts_on x l a b (decide x i);
              seconds = λ x l a b. seconds_on x l a b (decide x i);
            };
            sum = omega (arith, g.sum);
          };
          len = j.len;
          below = j.below;
          between = j.between;
        }

module _ {w : List ℕ} {s p n k : ℕ} {es : List Edge} (i m : ℕ) (g : Linking w s p n k es (i + 1) m) {u v : ℕ} (qu : u ≡ get_or w (front_u_at s p + i) 0) (qv : v ≡ get_or w (front_v_at s p + i) 0) where
  u_is : u ≡ (edge_of es i).0
  u_is = qu ∙ first_at w w s p n k es i m g

  v_is : v ≡ (edge_of es i).1
  v_is = qv ∙ second_at w w s p n k es i m g

  ends : (u < p) × (v < p) × (i < 3 * s)
  ends =
      let a = up w w s p n k es i m g in
      let b = known w w s p n k es i m g in
      let x = u_is in
      let y = v_is in
      (omega (arith, g.front.nodes), omega (arith, g.front.nodes), omega (arith, g.sum, g.front.at.few))

  pub can_link_first : CanLink w s p u (2 * i) i
  can_link_first = record { room = g.front.room; node = ends.0; link = omega (arith, ends.2); edge = ends.2 }

  pub can_link_second : {w1 : List ℕ} → length w1 ≡ length w → CanLink w1 s p v (2 * i + 1) i
  can_link_second e =
      record { room = record { fits = omega (arith, g.front.room.fits); small = g.front.room.small }; node = ends.1; link = omega (arith, ends.2); edge = ends.2 }

  pub link_edge_to : {w1 w2 : List ℕ} → w1 ≡ linked w s p u (2 * i) i → w2 ≡ linked w1 s p v (2 * i + 1) i → LinkTo w w2 s p n k es i (suc m)
  link_edge_to {w1} {w2} a b =
      let e0 = (edge_of es i).0 in
      let e1 = (edge_of es i).1 in
      let z : w2 ≡ linked (linked w s p e0 (2 * i) i) s p e1 (2 * i + 1) i =
      b ∙ ap (λ (l : List ℕ). linked l s p v (2 * i + 1) i) a ∙ ap (λ (x : ℕ). linked (linked w s p x (2 * i) i) s p v (2 * i + 1) i) u_is
      ∙ ap (λ (x : ℕ). linked (linked w s p e0 (2 * i) i) s p x (2 * i + 1) i) v_is in
      let hu = up w w s p n k es i m g in
      let hv = known w w s p n k es i m g in
      subst (λ (l : List ℕ). LinkTo w l s p n k es i (suc m)) (sym z)
      (link_to w (linked (linked w s p e0 (2 * i) i) s p e1 (2 * i + 1) i) s p n k es i m g
      (joined w s p e0 e1 i g.front.room ends.2 (omega (arith, g.front.nodes)) (omega (arith, g.front.nodes)) (omega arith)))

-- ---- all edges linked

-- the edges from number i on are linked
pub record Going (w₀ w : List ℕ) (s p n k : ℕ) (es : List Edge) (i : ℕ) : Type 0 where
  pub m : ℕ
  pub to : LinkTo w₀ w s p n k es i m

pub going_start : {w : List ℕ} {s p n k : ℕ} {es : List Edge} → Linking w s p n k es k 0 → Going w w s p n k es k
going_start g = record { m = 0; to = record { linking = g; len = refl; below = λ x h. refl; between = λ x a b. refl } }

pub going_end : {w₀ w : List ℕ} {s p n k : ℕ} {es : List Edge} {i : ℕ} → i ≤ 0 → Going w₀ w s p n k es i → LinkTo w₀ w s p n k es 0 k
going_end {w₀} {w} {s} {p} {n} {k} {es} {i} h g =
    let e : i ≡ 0 = omega arith in
    let d : g.m ≡ k = omega (arith, g.to.linking.sum) in
    subst (LinkTo w₀ w s p n k es 0) d (subst (λ (j : ℕ). LinkTo w₀ w s p n k es j g.m) e g.to)

module _ {w₀ w : List ℕ} {s p n k : ℕ} {es : List Edge} {i : ℕ} (h : 0 < i) (g : Going w₀ w s p n k es i) where
  pub going_next : Linking w s p n k es (i - 1 + 1) g.m
  going_next = let e : i ≡ i - 1 + 1 = omega arith in subst (λ (j : ℕ). Linking w s p n k es j g.m) e g.to.linking

  pub going_on : {w' : List ℕ} → LinkTo w w' s p n k es (i - 1) (suc g.m) → Going w₀ w' s p n k es (i - 1)
  going_on t =
      record {
        m = suc g.m;
        to = record {
          linking = t.linking;
          len = t.len ∙ g.to.len;
          below = λ x a. t.below x a ∙ g.to.below x a;
          between = λ x a b. t.between x a b ∙ g.to.between x a b;
        };
      }

-- ---- from nothing

module _ {w w1 w2 : List ℕ} {s p n k : ℕ} {es : List Edge} (r : CanLoop w s p n k es) (a : Filled w w1 (front_used_at s p) k 0) (b : Filled w1 w2 (heads_at s p) n k) where
  pub cleared_below : (x : ℕ) → x < front_links_at s p → get_or w2 x 0 ≡ get_or w x 0
  cleared_below x h = b.low x (omega (arith, h)) ∙ a.low x (omega (arith, h))

  pub cleared : Linking w2 s p n k es k 0
  cleared =
      record {
        front = front_kept (b.len ∙ a.len) cleared_below r;
        lists = record {
          heads = λ v h. b.inside v h ∙ sym (seek_end es v k);
          firsts = λ j l x y. absurd (omega (arith, x, y));
          seconds = λ j l x y. absurd (omega (arith, x, y));
        };
        sum = omega arith;
      }

  pub list_to : {w3 : List ℕ} → LinkTo w2 w3 s p n k es 0 k → ListTo w w3 s p n k es
  list_to {w3} t =
      record {
        clear = record {
          ready = record { front = t.linking.front; lists = t.linking.lists };
          flags = λ x h.
              let z : get_or w3 (front_used_at s p + x) 0 ≡ 0 =
              t.between (front_used_at s p + x) (omega arith) (omega (arith, r.at.few)) ∙ b.low (front_used_at s p + x) (omega (arith, r.at.few)) ∙ a.inside x h in
              eq-eqb (get_or w3 (front_used_at s p + x) 0) 0 z;
        };
        len = t.len ∙ b.len ∙ a.len;
        below = λ x h. t.below x h ∙ cleared_below x h;
      }
