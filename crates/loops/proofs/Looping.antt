-- Loop after loop: those that are kept stand first, and the next comes behind them.
use Rattle.std.specs.Prelude.{◌≡◌, ◌+◌, ◌*◌, ◌<◌, ◌≤◌, ◌∷◌, ◌++◌}
use Rattle.laws.specs.Kit.{refl, sym, ◌∙◌, ap, subst, inl, inr, true, false, ℕ, zero, suc, arith, dec_lt, List, [], append_assoc, length, get_or, length-append, Float}
use Rattle.definition.specs.Lists.{filter, concat, flat_map}
use Rattle.definition.specs.Plane.{Node, Edge}
use Rattle.definition.specs.Cells.{Mesh}
use Rattle.definition.specs.Loops.{Walk, loops_of}
use Rattle.laws.specs.Bools.{which}
use Rattle.laws.specs.Lists.{filter_yes, filter_no, concat_cons, concat_length}
use Rattle.blocked_edges.proofs.Framing.{framed}
use Rattle.cells.specs.Layout.{front_u_at, front_links_at, refused_at, order_at}
use Rattle.edges.specs.Stored.{Edges, edge_on, LoopsAt, LoopList, Measured}
use Rattle.edges.specs.Places.{OnPlaces}
use Rattle.edges.specs.Laws.{edges_right}
use Rattle.edges.specs.Parts.{edge_of, edges_left, edges_some}
use Rattle.edges.specs.Kept.{edge_same, loops_kept, loops_last}
use Rattle.loops.specs.Link.{Clear, ListTo}
use Rattle.loops.specs.Sift.{some_open, Blocked, open_loops, CanSift, SiftedTo}
use Rattle.loops.specs.Keep.{CanKeep, KeepTo}
use Rattle.loops.specs.Trace.{fresh, unused, Ready, CanTrace, walk_of, TraceTo}
use Rattle.loops.proofs.Unused.{unused_hit, unused_none, unused_past, unused_all, behind}
use Rattle.loops.proofs.Paths.{walk_edges, loops_none, loops_more, loops_edges}

-- ---- blocked edges

blocked_kept : {w w' : List ℕ} {s p : ℕ} {bl : List Edge} → length w' ≡ length w → ((x : ℕ) → x < front_u_at s p → get_or w' x 0 ≡ get_or w x 0) → Blocked w s p bl → Blocked w' s p bl
blocked_kept {w} {w'} {s} {p} {bl} len below o =
    record { quads = o.quads; ever = o.ever; blocks = framed w w' (refused_at s p) (3 * s) p o.quads o.ever bl (record { len = len; same = λ x a b. below x (omega arith) }) o.blocks }

-- ---- the loops so far

concat_last : (ls : List (List Edge)) (l : List Edge) → length (concat (ls ++ l ∷ [])) ≡ length (concat ls) + length l
unfolding concat flat_map
concat_last [] l = let z = length-append l [] in omega arith
concat_last (k ∷ ls) l = let z = concat_last ls l in let y = length-append k (concat (ls ++ l ∷ [])) in let x = length-append k (concat ls) in omega arith

none_long : length (concat {A = Edge} []) ≡ 0
unfolding concat flat_map
none_long = refl

-- the j loops ls on the first b places, with their perimeters
pub record Standing (w : List ℕ) (f : List Float) (s p k b j : ℕ) (ps : List Node) (ls : List (List Edge)) : Type 0 where
  pub at : LoopsAt w s p 0 0 ls
  pub many : length ls ≡ j
  pub total : length (concat ls) ≡ b
  pub few : j ≤ b
  pub places : (i : ℕ) → i < b → get_or w (order_at s p + i) 0 < k
  pub sums : Measured f s p j ps ls

-- those still to come behind them are all; the edges before i are in loops
pub record Looping (w₀ w : List ℕ) (f₀ f : List Float) (s p n k b j i : ℕ) (ps : List Node) (es bl : List Edge) : Type 0 where
  pub ls : List (List Edge)
  pub fuel : ℕ
  pub loops : Standing w f s p k b j ps ls
  pub ready : Ready w s p n k es
  pub room : b + length (unused w s p es 0 k) ≤ k
  pub fine : Edges n (unused w s p es 0 k)
  pub within : i ≤ k
  pub past : (x : ℕ) → x < i → fresh w s p x ≡ false
  pub same : open_loops bl es ≡ ls ++ filter (some_open bl) (loops_of fuel (unused w s p es 0 k))
  pub enough : length (unused w s p es 0 k) ≤ fuel
  pub len : length w ≡ length w₀
  pub reals : length f ≡ length f₀
  pub below : (x : ℕ) → x < front_links_at s p → get_or w x 0 ≡ get_or w₀ x 0

pub looping_start : {w : List ℕ} {f : List Float} {s p n k : ℕ} {es : List Edge} (ps : List Node) (bl : List Edge) → Clear w s p n k es → Looping w w f f s p n k 0 0 0 ps es bl
unfolding concat flat_map
looping_start {w} {f} {s} {p} {n} {k} {es} ps bl t =
    let r = t.ready in
    let d : unused w s p es 0 k ≡ es = ap (unused w s p es 0) (sym r.front.at.len) ∙ unused_all w s p es [] es refl (λ y h. t.flags y (omega (arith, h, r.front.at.len))) in
    record {
      ls = [];
      fuel = length es;
      loops = record { at = tt; many = refl; total = refl; few = omega arith; places = λ y h. absurd (omega (arith, h)); sums = λ h. tt };
      ready = r;
      room = omega (arith, ap length d, r.front.at.len);
      fine = subst (Edges n) (sym d) r.front.edges;
      within = omega arith;
      past = λ y h. absurd (omega arith);
      same = ap (λ (l : List Edge). filter (some_open bl) (loops_of (length es) l)) (sym d);
      enough = omega (arith, ap length d);
      len = refl;
      reals = refl;
      below = λ y h. refl;
    }

append_none : (k : List (List Edge)) → k ++ [] ≡ k
append_none [] = refl
append_none (y ∷ k) = ap (λ (z : List (List Edge)). y ∷ z) (append_none k)

filter_none : (bl : List Edge) → filter (some_open bl) [] ≡ []
unfolding filter
filter_none bl = refl

module _ {w₀ w : List ℕ} {f₀ f : List Float} {s p n k b j i : ℕ} {ps : List Node} {es bl : List Edge} (g : Looping w₀ w f₀ f s p n k b j i ps es bl) where
  few : k ≤ 3 * s
  few = g.ready.front.at.few

  pub looping_end : k ≤ i → SiftedTo w₀ w f₀ f s p n j b ps es bl
  looping_end h =
      let z : k + 0 ≡ k = omega arith in
      let e : unused w s p es 0 k ≡ [] =
      ap (unused w s p es 0) (sym z) ∙ unused_past w s p es 0 k 0 (λ x c d. g.past x (omega (arith, d, h))) ∙ unused_none w s p es (0 + k) in
      let d : open_loops bl es ≡ g.ls =
      g.same ∙ ap (λ (l : List Edge). g.ls ++ filter (some_open bl) (loops_of g.fuel l)) e ∙ ap (λ (l : List (List Edge)). g.ls ++ filter (some_open bl) l) (loops_none g.fuel)
      ∙ ap (λ (l : List (List Edge)). g.ls ++ l) (filter_none bl) ∙ append_none g.ls in
      let o = g.loops in
      record {
        loops = subst (LoopList w s p n b j) (sym d)
            (record {
              len = o.many;
              total = o.total;
              few = omega (arith, few, g.room);
              edges = subst (λ (l : List (List Edge)). Edges n (concat l)) d (edges_some n (some_open bl) (loops_of (length es) es) (loops_edges n (length es) es g.ready.front.edges));
              places = λ x y. omega (arith, o.places x y, few);
              at = o.at;
            });
        sums = subst (Measured f s p j ps) (sym d) o.sums;
        len = g.len;
        reals = g.reals;
        below = g.below;
      }

  -- one more is in a loop
  pub looping_past : i < k → fresh w s p i ≡ false → Looping w₀ w f₀ f s p n k b j (i + 1) ps es bl
  looping_past h e =
      record {
        ls = g.ls;
        fuel = g.fuel;
        loops = g.loops;
        ready = g.ready;
        room = g.room;
        fine = g.fine;
        within = omega arith;
        past = λ x a. elim (dec_lt x i) [ yes q ↦ g.past x q | no q ↦ let z : x ≡ i = omega arith in ap (fresh w s p) z ∙ e ];
        same = g.same;
        enough = g.enough;
        len = g.len;
        reals = g.reals;
        below = g.below;
      }

  module _ (h : i < k) (v : fresh w s p i ≡ true) where
    left_is : unused w s p es 0 k ≡ edge_of es i ∷ unused w s p es (suc i) (behind k i h).l
    left_is =
        let m = (behind k i h).l in
        let z : 0 + i ≡ i = omega arith in
        ap (unused w s p es 0) (sym (behind k i h).sum) ∙ unused_past w s p es 0 i (suc m) (λ x c d. g.past x (omega (arith, d)))
        ∙ ap (λ (x : ℕ). unused w s p es x (suc m)) z ∙ unused_hit w s p es i m v

    pub looping_trace : CanTrace w s p n k b j i es
    looping_trace = record { ready = g.ready; room = g.room; few = g.loops.few; inside = h; free = v; rest = unused w s p es (suc i) (behind k i h).l; first = left_is }

    abbrev tr : Walk
    tr = walk_of (edge_of es i) looping_trace.rest

    split : Edges n (tr.path ++ tr.left)
    split = walk_edges n [] (edge_of es i) looping_trace.rest (subst (Edges n) looping_trace.first g.fine)

    module _ {w' : List ℕ} {r : ℕ} (t : TraceTo w w' s p n k b r j i es tr) where
      -- the loops before stay
      old_edge : (x : ℕ) → x < b → edge_on w' s p x ≡ edge_on w s p x
      old_edge x y = edge_same w w' s p x (t.aside.order x y) (λ z u v. t.aside.below z (omega (arith, v))) (omega (arith, g.loops.places x y, few))

      old_loops : LoopsAt w' s p 0 0 g.ls
      old_loops = loops_kept w w' s p 0 0 g.ls (λ x a y. t.aside.starts x (omega (arith, y, g.loops.many))) (λ x a y. old_edge x (omega (arith, y, g.loops.total))) g.loops.at

      old_places : (x : ℕ) → x < b → get_or w' (order_at s p + x) 0 < k
      old_places x y = subst (λ (z : ℕ). z < k) (sym (t.aside.order x y)) (g.loops.places x y)

      -- the loop k is the only one so far
      first_loop : (k' : List Edge) → g.ls ≡ k' ∷ [] → OnPlaces w' s p 0 b n k'
      first_loop k' e =
          let a = subst (LoopsAt w' s p 0 0) e old_loops in
          let z : length (concat g.ls) ≡ length k' + length (concat {A = Edge} []) = ap (λ (l : List (List Edge)). length (concat l)) e ∙ concat_length k' [] in
          let rest = filter (some_open bl) (loops_of g.fuel (unused w s p es 0 k)) in
          let all : Edges n (concat (k' ∷ rest)) = subst (λ (l : List (List Edge)). Edges n (concat l)) (g.same ∙ ap (λ (l : List (List Edge)). l ++ rest) e) (edges_some n (some_open bl) (loops_of (length es) es) (loops_edges n (length es) es g.ready.front.edges)) in
          record {
            len = omega (arith, z, none_long, g.loops.total);
            few = omega (arith, few, g.room);
            are = a.1;
            places = λ x u v. omega (arith, old_places x v, few);
            edges = edges_left n k' (concat rest) (subst (Edges n) (concat_cons k' rest) all);
          }

      pub looping_keep : {q : List Float} {m : Mesh} → ps ≡ m.points → CanSift w₀ q f₀ s p n k m es bl → CanKeep w' q f s p b r j m bl tr.path g.ls
      looping_keep {m = m} z c =
          let o = t.placed in
          let places : OnPlaces w' s p b r (length m.points) tr.path =
          record {
            len = sym o.sum;
            few = omega (arith, o.room, few);
            are = o.are;
            places = λ x y z. omega (arith, o.places x y z, few);
            edges = subst (λ (z : ℕ). Edges z tr.path) (sym c.points) (edges_left n tr.path tr.left split);
          } in
          record {
            loop = record {
              room = o.ready.front.room;
              at = places;
              nodes = c.pts.few;
              blocked = blocked_kept (t.aside.len ∙ g.len) (λ x a. t.aside.below x (omega (arith, a)) ∙ g.below x (omega (arith, a))) c.blocked;
            };
            behind = record {
              room = o.ready.front.room;
              pts = c.pts;
              at = places;
              inside = omega (arith, g.reals, c.floats, g.loops.few, o.room, t.more, few);
              many = g.loops.many;
              sums = subst (λ (u : List Node). Measured f s p j u g.ls) z g.loops.sums;
              first = λ k' e. subst (λ (u : ℕ). OnPlaces w' s p 0 b u k') (sym c.points) (first_loop k' e);
            };
          }

      -- kept or not
      pub record After (f' : List Float) (b' j' : ℕ) : Type 0 where
        pub ls : List (List Edge)
        pub loops : Standing w' f' s p k b' j' ps ls
        pub top : b' ≤ r
        pub reals : length f' ≡ length f
        pub same : (l : List (List Edge)) → g.ls ++ filter (some_open bl) (tr.path ∷ l) ≡ ls ++ filter (some_open bl) l

      after_kept : {f' : List Float} → length f' ≡ length f → Measured f' s p (j + 1) ps (g.ls ++ tr.path ∷ []) → some_open bl tr.path ≡ true → After f' r (j + 1)
      after_kept z v e =
          let o = g.loops in
          record {
            ls = g.ls ++ tr.path ∷ [];
            loops = record {
              at = loops_last w' s p 0 0 g.ls tr.path j b (omega (arith, o.many)) (omega (arith, o.total)) old_loops t.start t.placed.are (omega (arith, t.placed.sum, t.more));
              many = let z = length-append g.ls (tr.path ∷ []) in omega (arith, z, o.many);
              total = let z = concat_last g.ls tr.path in omega (arith, z, o.total, t.placed.sum);
              few = omega (arith, o.few, t.more);
              places = λ x y. elim (dec_lt x b) [ yes z ↦ old_places x z | no z ↦ t.placed.places x (omega arith) y ];
              sums = v;
            };
            top = omega arith;
            reals = z;
            same = λ l. ap (λ (z : List (List Edge)). g.ls ++ z) (filter_yes (some_open bl) tr.path l e) ∙ sym (append_assoc g.ls (tr.path ∷ []) (filter (some_open bl) l));
          }

      after_dropped : some_open bl tr.path ≡ false → After f b j
      after_dropped e =
          let o = g.loops in
          record {
            ls = g.ls;
            loops = record { at = old_loops; many = o.many; total = o.total; few = o.few; places = old_places; sums = o.sums };
            top = omega (arith, t.more);
            reals = refl;
            same = λ l. ap (λ (z : List (List Edge)). g.ls ++ z) (filter_no (some_open bl) tr.path l e);
          }

      after : {f' : List Float} {b' j' : ℕ} → length f' ≡ length f → KeepTo f f' s p b r j b' j' ps bl tr.path g.ls → After f' b' j'
      after {f'} {b'} {j'} len y = elim (which (some_open bl tr.path)) [
        | inl e ↦ let z = y.kept e in subst (λ (x : ℕ). After f' b' x) (sym z.0) (subst (λ (x : ℕ). After f' x (j + 1)) (sym z.1) (after_kept len z.2 e))
        | inr e ↦ let z = y.dropped e in subst (λ (x : ℕ). After f' b' x) (sym z.0) (subst (λ (x : ℕ). After f' x j) (sym z.1) (subst (λ (x : List Float). After x b j) (sym z.2) (after_dropped e)))
      ]

      module _ {f' : List Float} {b' j' : ℕ} (len : length f' ≡ length f) (y : KeepTo f f' s p b r j b' j' ps bl tr.path g.ls) where
        before : (z : ℕ) → z < i + 1 → fresh w' s p z ≡ false
        before z a = elim (dec_lt z i) [
          | yes q ↦ t.aside.used z (omega (arith, h, few, q)) (g.past z q)
          | no q ↦ let e : z ≡ i = omega arith in ap (fresh w' s p) e ∙ t.gone
        ]

        same_now : (u : ℕ) → g.fuel ≡ suc u → (a : After f' b' j') → open_loops bl es ≡ a.ls ++ filter (some_open bl) (loops_of u (unused w' s p es 0 k))
        same_now u e a =
            g.same ∙ ap (λ (z : ℕ). g.ls ++ filter (some_open bl) (loops_of z (unused w s p es 0 k))) e
            ∙ ap (λ (l : List Edge). g.ls ++ filter (some_open bl) (loops_of (suc u) l)) looping_trace.first
            ∙ ap (λ (l : List (List Edge)). g.ls ++ filter (some_open bl) l) (loops_more u (edge_of es i) looping_trace.rest ∙ ap (λ (l : List Edge). tr.path ∷ loops_of u l) (sym t.left))
            ∙ a.same (loops_of u (unused w' s p es 0 k))

        pub looping_on : Looping w₀ w' f₀ f' s p n k b' j' (i + 1) ps es bl
        looping_on = go g.fuel refl (after len y)
          where
            go : (u : ℕ) → g.fuel ≡ u → After f' b' j' → Looping w₀ w' f₀ f' s p n k b' j' (i + 1) ps es bl
            go zero e a = absurd (omega (arith, g.enough, ap length looping_trace.first, e))
            go (suc u) e a =
                record {
                  ls = a.ls;
                  fuel = u;
                  loops = a.loops;
                  ready = t.placed.ready;
                  room = omega (arith, t.placed.room, a.top);
                  fine = subst (Edges n) (sym t.left) (edges_right n tr.path tr.left split);
                  within = omega arith;
                  past = before;
                  same = same_now u e a;
                  enough = omega (arith, t.fewer, g.enough, e);
                  len = t.aside.len ∙ g.len;
                  reals = a.reals ∙ g.reals;
                  below = λ z c. t.aside.below z c ∙ g.below z c;
                }

-- with the lists of the edges
pub listed_sift : {w w₀ : List ℕ} {q f : List Float} {s p n k : ℕ} {m : Mesh} {es bl : List Edge} → ListTo w w₀ s p n k es → CanSift w q f s p n k m es bl → CanSift w₀ q f s p n k m es bl
listed_sift {w} {w₀} {s = s} {p} {bl = bl} a c =
    record {
      front = a.clear.ready.front;
      points = c.points;
      pts = c.pts;
      floats = c.floats;
      blocked = blocked_kept a.len (λ x h. a.below x (omega (arith, h))) c.blocked;
    }

-- from the slice before
pub looping_to : {w w₀ w' : List ℕ} {f f' : List Float} {s p n k r b : ℕ} {ps : List Node} {es bl : List Edge} → ListTo w w₀ s p n k es → SiftedTo w₀ w' f f' s p n r b ps es bl → SiftedTo w w' f f' s p n r b ps es bl
looping_to a b = record { loops = b.loops; sums = b.sums; len = b.len ∙ a.len; reals = b.reals; below = λ i h. b.below i h ∙ a.below i h }
