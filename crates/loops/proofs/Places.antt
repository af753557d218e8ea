-- One edge comes to its place.
use Rattle.std.specs.Prelude.{◌≡◌, ◌≢◌, ◌+◌, ◌*◌, ◌<◌, ◌≤◌, ◌∷◌, ◌++◌}
use Rattle.laws.specs.Kit.{refl, ◌∙◌, ap, false, ℕ, suc, arith, eqb, ne_eqb, List, [], length, get_or, set, length-set, length-append}
use native.Mathlib.Numerals.{add-one}
use Rattle.rings.proofs.Lists.{Same, same, differ, decide}
use Rattle.definition.specs.Plane.{Edge}
use Rattle.laws.specs.Frames.{on, off}
use Rattle.cells.specs.Layout.{front_u_at, front_v_at, front_links_at, front_used_at, order_at, starts_at, heads_at}
use Rattle.cells.specs.Rep.{Room}
use Rattle.edges.specs.Stored.{edge_in, edge_on, edges_on}
use Rattle.edges.specs.Parts.{edge_of}
use Rattle.edges.specs.Kept.{edges_same, edges_last, edge_same}
use Rattle.loops.specs.Loop.{CanLoop}
use Rattle.loops.specs.Trace.{fresh, unused, Ready, Aside, CanPlace, PlaceTo}
use Rattle.loops.proofs.Unused.{unused_some, unused_less, unused_count}

-- ---- what stays

-- the edges and the room stay where only links and what stands behind them change
pub front_kept : {w w' : List ℕ} {s p n k : ℕ} {es : List Edge} → length w' ≡ length w → ((i : ℕ) → i < front_links_at s p → get_or w' i 0 ≡ get_or w i 0) → CanLoop w s p n k es → CanLoop w' s p n k es
front_kept {w} {w'} {s} {p} len below r =
    record {
      room = record { fits = omega (arith, r.room.fits); small = r.room.small };
      at = record { len = r.at.len; few = r.at.few; each = λ i h. same_in i (omega (arith, r.at.few)) ∙ r.at.each i h };
      edges = r.edges;
      nodes = r.nodes;
    }
  where
    same_in : (i : ℕ) → i < 3 * s → edge_in w' s p i ≡ edge_in w s p i
    same_in i h = rw (below (front_u_at s p + i) (omega arith), below (front_v_at s p + i) (omega arith))

-- the lists of edges stay where only marks and what stands behind them change
pub ready_kept : {w w' : List ℕ} {s p n k : ℕ} {es : List Edge} → length w' ≡ length w → ((i : ℕ) → i < front_used_at s p → get_or w' i 0 ≡ get_or w i 0)
    → ((v : ℕ) → v < p → get_or w' (heads_at s p + v) 0 ≡ get_or w (heads_at s p + v) 0) → Ready w s p n k es → Ready w' s p n k es
ready_kept {w} {w'} {s} {p} len below heads r =
    record {
      front = front_kept len (λ i h. below i (omega (arith, h))) r.front;
      lists = record {
        heads = λ v h. heads v (omega (arith, r.front.nodes)) ∙ r.lists.heads v h;
        firsts = λ j l a b. below (front_links_at s p + 2 * j) (omega (arith, r.front.at.few)) ∙ r.lists.firsts j l a b;
        seconds = λ j l a b. below (front_links_at s p + (2 * j + 1)) (omega (arith, r.front.at.few)) ∙ r.lists.seconds j l a b;
      };
    }

pub aside_refl : (w : List ℕ) (s p b j : ℕ) → Aside w w s p b j
aside_refl w s p b j = record { len = refl; below = λ i h. refl; order = λ i h. refl; starts = λ i h. refl; used = λ i h f. f }

pub aside_trans : {w w1 w2 : List ℕ} {s p b c j l : ℕ} → b ≤ c → j ≤ l → Aside w w1 s p b j → Aside w1 w2 s p c l → Aside w w2 s p b j
aside_trans h g x y =
    record {
      len = y.len ∙ x.len;
      below = λ i k. y.below i k ∙ x.below i k;
      order = λ i k. y.order i (omega (arith, h)) ∙ x.order i k;
      starts = λ i k. y.starts i (omega (arith, g)) ∙ x.starts i k;
      used = λ i k f. y.used i k (x.used i k f);
    }

-- ---- the edge c at place b

-- what that changes
pub record Change (w w' : List ℕ) (s p b c : ℕ) : Type 0 where
  pub len : length w' ≡ length w
  pub flag : get_or w' (front_used_at s p + c) 0 ≡ 1
  pub place : get_or w' (order_at s p + b) 0 ≡ c
  pub rest : (x : ℕ) → x ≢ front_used_at s p + c → x ≢ order_at s p + b → get_or w' x 0 ≡ get_or w x 0

pub change : (w : List ℕ) (s p b c : ℕ) → Room w s p → b < 3 * s → c < 3 * s → Change w (set (set w (front_used_at s p + c) 1) (order_at s p + b) c) s p b c
change w s p b c r h g =
    let w1 = set w (front_used_at s p + c) 1 in
    record {
      len = simp length-set refl;
      flag = off w1 (order_at s p + b) c (front_used_at s p + c) (omega arith) ∙ on w (front_used_at s p + c) 1 (omega (arith, r.fits));
      place = on w1 (order_at s p + b) c (simp length-set (omega (arith, r.fits)));
      rest = λ x y z. off w1 (order_at s p + b) c x z ∙ off w (front_used_at s p + c) 1 x y;
    }

module _ {w : List ℕ} {s p n k a b c : ℕ} {es path : List Edge} (q : CanPlace w s p n k a b c es path) where
  ended : length es ≡ k
  ended = q.placed.ready.front.at.len

  fits : k ≤ 3 * s
  fits = q.placed.ready.front.at.few

  -- there is room for it
  pub place_room : b < k
  place_room = omega (arith, q.placed.room, unused_some w s p es c 0 k (omega arith) (omega (arith, q.inside)) q.free)

  module _ {w' : List ℕ} (t : Change w w' s p b c) where
    flag_is : fresh w' s p c ≡ false
    flag_is = ap (λ (z : ℕ). eqb z 0) t.flag ∙ ne_eqb 1 0 (λ z. absurd (omega (arith, z)))

    others : (x : ℕ) → x < 3 * s → x ≢ c → fresh w' s p x ≡ fresh w s p x
    others x h d = ap (λ (z : ℕ). eqb z 0) (t.rest (front_used_at s p + x) (λ z. d (omega (arith, z))) (omega (arith, h)))

    orders : (x : ℕ) → x < b → get_or w' (order_at s p + x) 0 ≡ get_or w (order_at s p + x) 0
    orders x h = t.rest (order_at s p + x) (omega (arith, fits, q.inside)) (omega (arith, h))

    lower : (x : ℕ) → x < front_used_at s p → get_or w' x 0 ≡ get_or w x 0
    lower x h = t.rest x (omega (arith, h)) (omega (arith, h))

    ready : Ready w' s p n k es
    ready = ready_kept t.len lower (λ v h. t.rest (heads_at s p + v) (omega (arith, q.inside, fits)) (omega (arith, place_room, fits))) q.placed.ready

    still : (x : ℕ) → x < 3 * s → fresh w s p x ≡ false → fresh w' s p x ≡ false
    still x h f = go (decide x c)
      where
        go : Same x c → fresh w' s p x ≡ false
        go (same z) = ap (fresh w' s p) z ∙ flag_is
        go (differ z) = others x h z ∙ f

    old_edge : (i : ℕ) → a ≤ i → i < b → edge_on w' s p i ≡ edge_on w s p i
    old_edge i x y = edge_same w w' s p i (orders i y) (λ j u v. lower j (omega (arith, v))) (omega (arith, q.placed.places i x y, fits))

    new_edge : edge_on w' s p (a + length path) ≡ edge_of es c
    new_edge = ap (edge_on w' s p) q.placed.sum ∙ ap (edge_in w' s p) t.place ∙ ready.front.at.each c q.inside

    are : edges_on w' s p a (length (path ++ edge_of es c ∷ [])) ≡ path ++ edge_of es c ∷ []
    are =
        ap (edges_on w' s p a) (length-append path (edge_of es c ∷ []) ∙ add-one (length path)) ∙ edges_last w' s p a (length path)
        ∙ ap (λ (l : List Edge). l ++ edge_on w' s p (a + length path) ∷ []) (edges_same w w' s p a (length path) (λ i x y. old_edge i x (omega (arith, y, q.placed.sum))) ∙ q.placed.are)
        ∙ ap (λ (f : Edge). path ++ f ∷ []) new_edge

    place_of : (i : ℕ) → a ≤ i → i < b + 1 → Same i b → get_or w' (order_at s p + i) 0 < k
    place_of i g h (same z) = let y : get_or w' (order_at s p + i) 0 ≡ c = ap (λ (j : ℕ). get_or w' (order_at s p + j) 0) z ∙ t.place in omega (arith, y, q.inside)
    place_of i g h (differ z) = let y = orders i (omega arith) in omega (arith, y, q.placed.places i g (omega arith))

    pub place_to : PlaceTo w w' s p n k a b c es path
    place_to =
        let ed = q.placed.ready.front.edges in
        let inside : c < length es = omega (arith, ended, q.inside) in
        let all : 0 + k ≤ length es = omega (arith, ended) in
        let rest : (x : ℕ) → x < length es → x ≢ c → fresh w' s p x ≡ fresh w s p x = λ x h d. others x (omega (arith, ended, fits, h)) d in
        let less : length (unused w s p es 0 k) ≡ suc (length (unused w' s p es 0 k)) = unused_count w w' s p n c es ed inside flag_is rest 0 k all (omega arith) (omega (arith, q.inside)) q.free in
        record {
          placed = record {
            ready = ready;
            room = omega (arith, less, q.placed.room);
            sum = let z = length-append path (edge_of es c ∷ []) in omega (arith, z, q.placed.sum);
            are = are;
            places = λ i g h. place_of i g h (decide i b);
          };
          left = unused_less w w' s p n c es ed inside flag_is rest 0 k all;
          less = less;
          aside = record {
            len = t.len;
            below = λ i h. lower i (omega (arith, h));
            order = orders;
            starts = λ i h. t.rest (starts_at s p + i) (omega (arith, q.inside, fits)) (omega (arith, place_room, fits));
            used = still;
          };
          gone = flag_is;
        }
