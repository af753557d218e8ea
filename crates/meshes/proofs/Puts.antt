-- A cell comes into a slot that holds none: its kind, then node after node.
-- What is noted of a node is forgotten before the node is placed.
use Rattle.std.specs.Prelude.{◌≡◌, ◌+◌, ◌*◌, ◌<◌, ◌∷◌, ◌++◌}
use Rattle.laws.specs.Kit.{refl, sym, ◌∙◌, ap, subst, ℕ, suc, arith, eqb, List, [], append-nil, append_assoc, length, get_or, set, length-set, length-append}
use lib.ListN.{get_or-append}
use lib.Seq.{get_or_at}
use Rattle.rings.specs.Rings.{Out, Family, LinkedTo, CanLink, pick, more}
use Rattle.rings.proofs.Lists.{Same, same, differ, decide, out_append, distinct_snoc}
use Rattle.rings.proofs.Families.{family_kept, same_rings, can_link, linked, below_out}
use Rattle.definition.specs.Cells.{Cell, Mesh, nodes, new_live, with_live, push_cell}
use Rattle.laws.specs.Frames.{on, off, Under, Keeps, under_less, keeps_trans, keeps_more, keeps_set}
use Rattle.cells.proofs.Slots.{slots_below}
use Rattle.cells.specs.Layout.{nodes_at, rings_at, codes, notes_at, fronts_at, even_at}
use Rattle.cells.specs.Notes.{note}
use Rattle.cells.specs.Rep.{Held, slots, at_node, cell_corners, corners, Uneven, Rep}
use Rattle.meshes.specs.Changes.{CanPush, CanPut, put, Forgets, Apart, Filling}
use Rattle.cells.proofs.Corners.{at_node_snoc, at_node_out, slots_append, corners_append, cells_append, cells_weaken, corners_out, below_at}
use Rattle.cells.proofs.Frames.{Elsewhere, cells_else, cells_under, else_under, under_kept, keeps_kept}
use Rattle.meshes.proofs.Notes.{note_kept, note_turned, put_same, forget_same}

-- the memory after the store of a node
abbrev pub nodeW : List ℕ → ℕ → ℕ → ℕ → ℕ → List ℕ
nodeW w s i j a = set w (s + 4 * i + j) a

-- what is noted of a node is forgotten
pub forget_filling : (w w' : List ℕ) (s p n i a : ℕ) (m : Mesh) (ns : List ℕ) → length ns < 4 → Forgets w w' s p a → Filling w s p n i m ns → Filling w' s p n i m ns
forget_filling w w' s p n i a m ns few g f =
    let l = m.live in
    let k = g.under in
    record {
      room = record { fits = omega (arith, k.len, f.room.fits); small = f.room.small };
      inside = f.inside;
      fresh = f.fresh;
      below = f.below;
      few = f.few;
      kind = k.low i (omega (arith, f.inside)) ∙ f.kind;
      cells = cells_under w w' s m.used (length m.points) l f.below (under_less w w' (5 * s) (notes_at s p) (omega arith) k) f.cells;
      dead = λ x h d o. k.low x (omega arith) ∙ f.dead x h d o;
      node = λ x h. k.low (nodes_at s + 4 * i + x) (omega (arith, f.inside)) ∙ f.node x h;
      rings = family_kept w w' (rings_at s) (codes s p) (4 * s) (λ v. corners l v ++ at_node v (4 * i) 0 ns) k.len (λ x h q. k.low x (omega arith)) f.rings;
      notes = λ u h.
          let z = f.notes u h in
          record { is = note_kept w w' s p u m g.keeps (λ q. forget_same w w' s p a g u q) z.is; out = λ q. z.out (rw (← forget_same w w' s p a g u q) q) };
    }

module _ (w : List ℕ) (s p n i j a : ℕ) (m : Mesh) (ns : List ℕ) (f : Filling w s p n i m ns) (len : length ns ≡ j) (few : j < 4) (an : a < p) where
  -- a store to slot i's nodes leaves the rings
  stored : Family (nodeW w s i j a) (rings_at s) (codes s p) (4 * s) (λ v. corners m.live v ++ at_node v (4 * i) 0 ns)
  stored =
      family_kept w (nodeW w s i j a) (rings_at s) (codes s p) (4 * s) (λ v. corners m.live v ++ at_node v (4 * i) 0 ns) (simp length-set)
      (λ x h g. off w (s + 4 * i + j) a x (omega (arith, f.inside))) f.rings

  pub place_can : CanLink (nodeW w s i j a) (rings_at s) (codes s p) (4 * i + j) (4 * s + a)
  place_can =
      can_link (nodeW w s i j a) (rings_at s) (codes s p) (4 * s) (λ v. corners m.live v ++ at_node v (4 * i) 0 ns) stored (4 * i + j) a (omega (arith, f.inside)) (omega arith)

  fresh_code : (v : ℕ) → Out (4 * i + j) (corners m.live v ++ at_node v (4 * i) 0 ns)
  fresh_code v =
      out_append (4 * i + j) (corners m.live v) (at_node v (4 * i) 0 ns) (corners_out i (4 * i + j) v m.live f.fresh (omega arith))
      (at_node_out (4 * i + j) v (4 * i) 0 ns (λ x h g. λ e. omega arith))

  module _ (w2 : List ℕ) (t : LinkedTo (nodeW w s i j a) w2 (rings_at s) (codes s p) (4 * i + j) (4 * s + a)) where
    under : Under (nodeW w s i j a) w2 (5 * s)
    under = under_kept (nodeW w s i j a) w2 (5 * s) (rings_at s) (codes s p) (omega arith) t.kept

    else : Elsewhere w w2 s i
    else =
        else_under w (nodeW w s i j a) w2 s i
        (record {
          kinds = λ x h d. off w (s + 4 * i + j) a x (omega arith);
          nodes = λ x y h d q. off w (s + 4 * i + j) a (s + 4 * x + y) (omega arith);
        })
        under

    node_is : (x : ℕ) → x < length (ns ++ a ∷ []) → Same x j → get_or w2 (s + 4 * i + x) 0 ≡ get_or (ns ++ a ∷ []) x 0
    node_is x h (same e) =
        rw e (under.low (s + 4 * i + j) (omega (arith, f.inside)) ∙ on w (s + 4 * i + j) a (omega (arith, f.inside, f.room.fits)) ∙ sym (get_or_at ns a [] 0 j len))
    node_is x h (differ e) =
        let q : length (ns ++ a ∷ []) ≡ length ns + 1 = length-append ns (a ∷ []) in
        let y : x < length ns = omega arith in
        under.low (s + 4 * i + x) (omega (arith, f.inside)) ∙ off w (s + 4 * i + j) a (s + 4 * i + x) (omega arith) ∙ f.node x y ∙ sym (get_or-append ns (a ∷ []) 0 x y)

    ring_is : (v : ℕ) → more (λ u. corners m.live u ++ at_node u (4 * i) 0 ns) (4 * i + j) a v ≡ corners m.live v ++ at_node v (4 * i) 0 (ns ++ a ∷ [])
    ring_is v =
        let e : 0 + length ns ≡ j = omega arith in
        let q : at_node v (4 * i) 0 (ns ++ a ∷ []) ≡ at_node v (4 * i) 0 ns ++ pick (eqb a v) (4 * i + j) =
        at_node_snoc v (4 * i) 0 ns a ∙ ap (λ (x : ℕ). at_node v (4 * i) 0 ns ++ pick (eqb a v) (4 * i + x)) e in
        append_assoc (corners m.live v) (at_node v (4 * i) 0 ns) (pick (eqb a v) (4 * i + j)) ∙ ap (λ (z : List ℕ). corners m.live v ++ z) (sym q)

    beyond : Keeps w w2 (notes_at s p)
    beyond =
        keeps_trans w (nodeW w s i j a) w2 (notes_at s p) (keeps_set w (notes_at s p) (s + 4 * i + j) a (omega (arith, f.inside)))
        (keeps_kept (nodeW w s i j a) w2 (rings_at s) (codes s p) (notes_at s p) (omega arith) t.kept)

    note_is : note w s p a ≡ 0 → (u : ℕ) → u < p → Apart w s p m ns u → Apart w2 s p m (ns ++ a ∷ []) u
    note_is none u h z =
        let e : note w2 s p u ≡ note w s p u = beyond.high (notes_at s p + u) (omega arith) in
        record {
          is = note_kept w w2 s p u m (keeps_more w w2 (notes_at s p) (fronts_at s p) (omega arith) beyond) (λ q. e) z.is;
          out = λ q. out_append u ns (a ∷ []) (z.out (omega arith)) ((λ x. other q e x, tt));
        }
      where
        other : 0 < note w2 s p u → note w2 s p u ≡ note w s p u → a ≡ u → ⊥
        other q e x = let y : note w s p u ≡ 0 = rw (← x) none in omega arith

    pub place_done : note w s p a ≡ 0 → Filling w2 s p n i m (ns ++ a ∷ [])
    place_done none =
        let g : length w2 ≡ length w = under.len ∙ simp length-set in
        record {
          room = record { fits = omega (arith, f.room.fits); small = f.room.small };
          inside = f.inside;
          fresh = f.fresh;
          below = f.below;
          few = f.few;
          kind = under.low i (omega (arith, f.inside)) ∙ off w (s + 4 * i + j) a i (omega (arith, f.inside)) ∙ f.kind;
          cells = cells_else w w2 s m.used (length m.points) i m.live f.below else f.fresh f.cells;
          dead = λ x h d o. else.kinds x h d ∙ f.dead x h d o;
          node = λ x h. node_is x h (decide x j);
          rings = same_rings w2 (rings_at s) (codes s p) (4 * s) (more (λ u. corners m.live u ++ at_node u (4 * i) 0 ns) (4 * i + j) a) (λ v. corners m.live v ++ at_node v (4 * i) 0 (ns ++ a ∷ [])) ring_is
              (linked (nodeW w s i j a) (rings_at s) (codes s p) (4 * s) (λ v. corners m.live v ++ at_node v (4 * i) 0 ns) stored w2 (4 * i + j) a (omega (arith, f.inside)) (omega arith) fresh_code t);
          notes = λ u h. note_is none u h (f.notes u h);
        }

-- what the memory stands for does not matter here
pub place_keeps : (w w2 : List ℕ) (s p i j a : ℕ) → i < s → j < 4 → LinkedTo (nodeW w s i j a) w2 (rings_at s) (codes s p) (4 * i + j) (4 * s + a) → Keeps w w2 (fronts_at s p)
place_keeps w w2 s p i j a h g t =
    keeps_trans w (nodeW w s i j a) w2 (fronts_at s p) (keeps_set w (fronts_at s p) (s + 4 * i + j) a (omega arith))
    (keeps_kept (nodeW w s i j a) w2 (rings_at s) (codes s p) (fronts_at s p) (omega arith) t.kept)

-- ---- the cell begins, and is complete

module _ (w : List ℕ) (s p i n : ℕ) (m : Mesh) (t : Cell) (r : Rep w s p m) (c : CanPut m s i n t) where
  pub put_start : (kind : ℕ) → Filling (set w i kind) s p kind i m []
  unfolding at_node
  put_start kind =
      let is : i < s = omega (arith, c.given, c.fits) in
      let w1 = set w i kind in
      let g : length w1 ≡ length w = simp length-set in
      let e : Elsewhere w w1 s i = record { kinds = λ x h d. off w i kind x d; nodes = λ x y h d q. off w i kind (s + 4 * x + y) (omega arith) } in
      record {
        room = record { fits = omega (arith, r.room.fits); small = r.room.small };
        inside = is;
        fresh = c.out;
        below = r.used;
        few = r.points;
        kind = on w i kind (omega (arith, r.room.fits));
        cells = cells_else w w1 s m.used (length m.points) i m.live r.used e c.out r.cells;
        dead = λ x h d o. e.kinds x h d ∙ r.dead x h o;
        node = λ x h. absurd (omega (arith, h));
        rings = same_rings w1 (rings_at s) (codes s p) (4 * s) (corners m.live) (λ v. corners m.live v ++ []) (λ v. sym (append-nil (corners m.live v)))
            (family_kept w w1 (rings_at s) (codes s p) (4 * s) (corners m.live) g (λ x h q. off w i kind x (omega arith)) r.rings);
        notes = λ u h.
            record {
              is = note_kept w w1 s p u m (keeps_set w (fronts_at s p) i kind (omega arith)) (λ q. off w i kind (notes_at s p + u) (omega arith)) (r.notes u h);
              out = λ q. tt;
            };
      }

  pub put_done : (w' : List ℕ) → Uneven w s p → Keeps w w' (fronts_at s p) → Filling w' s p (length (nodes t)) i m (nodes t) → Rep w' s p (put m i n t)
  unfolding corners with_live new_live
  put_done w' un k f =
      let l = m.live in
      let x = new_live i t in
      let mine : Held w' s n (length m.points) x = record { inside = c.given; shape = c.shape; at = record { kind = f.kind; node = f.node } } in
      record {
        room = f.room;
        used = c.fits;
        points = r.points;
        distinct = rw (slots_append l (x ∷ [])) (distinct_snoc (slots l) i r.distinct c.out);
        cells = cells_append w' s n (length m.points) l (x ∷ [])
            (cells_weaken w' s m.used n (length m.points) (length m.points) l c.more (omega arith) f.cells) ((mine, tt));
        rings = same_rings w' (rings_at s) (codes s p) (4 * s) (λ v. corners l v ++ cell_corners v i t) (corners (l ++ (x ∷ [])))
            (λ v. sym (corners_append v l (x ∷ []) ∙ ap (λ (z : List ℕ). corners l v ++ z) (append-nil (cell_corners v i t)))) f.rings;
        dead = λ j js q. dead j js (rw (slots_append l (x ∷ [])) at q);
        notes = λ u h. note_turned w' s p u m (put m i n t) refl (λ q. put_same m i n t u ((f.notes u h).out q)) (f.notes u h).is;
        even = λ h q. absurd (omega (arith, q, k.high (even_at s p) (omega arith), un));
      }
    where
      split : (j : ℕ) (z : List ℕ) → Out j (z ++ i ∷ []) → Out j z × (i ≡ j → ⊥)
      split j [] q = (tt, q.0)
      split j (y ∷ z) q = let v = split j z q.1 in ((q.0, v.0), v.1)

      dead : (j : ℕ) → j < s → Out j (slots m.live ++ i ∷ []) → get_or w' j 0 ≡ 0
      dead j js q = let z = split j (slots m.live) q in f.dead j js (λ e. z.1 (sym e)) z.0

-- node j of the cell is a point
pub known_at : {w : List ℕ} {s p i n : ℕ} {m : Mesh} {t : Cell} → Rep w s p m → CanPut m s i n t → (j : ℕ) → j < length (nodes t) → get_or (nodes t) j 0 < p
known_at {m = m} {t = t} r c j h = omega (arith, below_at (length m.points) (nodes t) j c.shape.known h, r.points)

-- ---- a push

module _ (w : List ℕ) (s p i : ℕ) (m : Mesh) (t : Cell) where
  -- the next slot holds no cell
  pub push_put : Rep w s p m → CanPush m s i t → CanPut m s i (suc i) t
  push_put r o =
      record {
        out = below_out m.used i (slots m.live) (slots_below w s m.used (length m.points) m.live r.cells) (omega (arith, o.next));
        given = omega arith;
        more = omega (arith, o.next);
        fits = omega (arith, o.free);
        shape = o.shape;
      }

pub push_is : (s p i : ℕ) (m : Mesh) (t : Cell) (w : List ℕ) → CanPush m s i t → Rep w s p (put m i (suc i) t) → Rep w s p (push_cell m t)
unfolding push_cell
push_is s p i m t w o r = subst (λ (j : ℕ). Rep w s p (put m j (suc j) t)) o.next r
