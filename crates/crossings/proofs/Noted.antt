-- The memory with a box noted stands for the same mesh.
use Rattle.std.specs.Prelude.{◌≡◌, ◌≢◌, ◌+◌, ◌*◌, ◌%◌, ◌^◌, ◌<◌, ◌≤◌}
use Rattle.laws.specs.Kit.{sym, ◌∙◌, ap, subst, true, ℕ, zero, suc, arith, List, length, get_or, set, length-set, Float, le}
use Rattle.rings.proofs.Lists.{Same, same, differ, decide}
use Rattle.rings.proofs.Families.{family_kept}
use Rattle.definition.specs.Floats.{◌≼◌}
use Rattle.definition.specs.Cells.{Mesh, node_at}
use Rattle.cells.specs.Layout.{rings_at, codes, notes_at, fronts_at, boxes_at, even_at, mesh_end}
use Rattle.cells.specs.Notes.{note, ends, noted, bound, Fronts, Near, Box, NoteAt}
use Rattle.cells.specs.Rep.{Rep, corners}
use Rattle.cells.proofs.Frames.{cells_under}
use Rattle.definition.specs.Call.{point_at}
use Rattle.laws.specs.Frames.{on, off, Under, Keeps, under_less}
use Rattle.cells.proofs.Notes.{note_same}
use Rattle.plane.specs.Points.{Within, node, ground, node_of, spot_x, spot_y}
use Rattle.plane.specs.declared.points.Spot.{Spot}
use Rattle.rounding.proofs.Keys.{le_trans}
use Rattle.crossings.specs.Cross.{Known}
use Rattle.crossings.specs.Boxes.{Bounds, AllFine, CanNote, with_box, CanLook, Beyond, on_left, on_right, under, over, Away, to_left, to_right, below, above}
use Rattle.crossings.specs.declared.boxes.Sides.{Sides}
use Rattle.crossings.specs.declared.buckets.Limits.{Limits}

-- ---- the note of a node whose words are the same

record Apart (w w' : List ℕ) (s p u : ℕ) : Type 0 where
  pub same : note w' s p u ≡ note w s p u
  pub first : u < s → get_or w' (fronts_at s p + 2 * u) 0 ≡ get_or w (fronts_at s p + 2 * u) 0
  pub second : u < s → get_or w' (fronts_at s p + 2 * u + 1) 0 ≡ get_or w (fronts_at s p + 2 * u + 1) 0
  pub sides : u < s → (j : ℕ) → j < 4 → bound w' s p u j ≡ bound w s p u j

module _ (w w' : List ℕ) (s p u : ℕ) (k : Apart w w' s p u) where
  note_apart : (m : Mesh) → NoteAt w s p m u → NoteAt w' s p m u
  note_apart m n = note_same w w' s p u k.same k.first k.second k.sides m n

-- ---- the five words

module _ (w : List ℕ) (s p a l r b t : ℕ) (c : CanNote w s p a) where
  abbrev k : ℕ
  k = boxes_at s p + 4 * a

  abbrev w1 : List ℕ
  w1 = set w (notes_at s p + a) (note w s p a + 4)

  abbrev w2 : List ℕ
  w2 = set w1 k l

  abbrev w3 : List ℕ
  w3 = set w2 (k + 1) r

  abbrev w4 : List ℕ
  w4 = set w3 (k + 2) b

  abbrev w5 : List ℕ
  w5 = set w4 (k + 3) t

  pub noted_length : length w5 ≡ length w
  noted_length = simp length-set

  elsewhere : (i : ℕ) → i ≢ notes_at s p + a → ((j : ℕ) → j < 4 → i ≢ k + j) → get_or w5 i 0 ≡ get_or w i 0
  elsewhere i d f =
      off w4 (k + 3) t i (f 3 (omega arith)) ∙ (off w3 (k + 2) b i (f 2 (omega arith)) ∙ (off w2 (k + 1) r i (f 1 (omega arith))
      ∙ (off w1 k l i (λ e. f 0 (omega arith) (omega (arith, e))) ∙ off w (notes_at s p + a) (note w s p a + 4) i d)))

  note_on : note w5 s p a ≡ note w s p a + 4
  note_on =
      let i = notes_at s p + a in
      off w4 (k + 3) t i (omega (arith, c.point)) ∙ (off w3 (k + 2) b i (omega (arith, c.point)) ∙ (off w2 (k + 1) r i (omega (arith, c.point))
      ∙ (off w1 k l i (omega (arith, c.point)) ∙ on w i (note w s p a + 4) (omega (arith, c.point, c.fits)))))

  room : (i : ℕ) → i < mesh_end s p → i < length w
  room i h = omega (arith, c.fits)

  side0 : bound w5 s p a 0 ≡ l
  side0 =
      let z : k + 0 ≡ k = omega arith in
      ap (λ (i : ℕ). get_or w5 i 0) z
      ∙ (off w4 (k + 3) t k (omega arith) ∙ (off w3 (k + 2) b k (omega arith) ∙ (off w2 (k + 1) r k (omega arith) ∙ on w1 k l (simp length-set (room k (omega (arith, c.slot)))))))

  side1 : bound w5 s p a 1 ≡ r
  side1 =
      off w4 (k + 3) t (k + 1) (omega arith) ∙ (off w3 (k + 2) b (k + 1) (omega arith) ∙ on w2 (k + 1) r (simp length-set (room (k + 1) (omega (arith, c.slot)))))

  side2 : bound w5 s p a 2 ≡ b
  side2 = off w4 (k + 3) t (k + 2) (omega arith) ∙ on w3 (k + 2) b (simp length-set (room (k + 2) (omega (arith, c.slot))))

  side3 : bound w5 s p a 3 ≡ t
  side3 = on w4 (k + 3) t (simp length-set (room (k + 3) (omega (arith, c.slot))))

  -- ---- the mesh

  pub noted_keeps : Keeps w w5 (mesh_end s p)
  noted_keeps =
      record {
        len = noted_length;
        high = λ i h. elsewhere i (omega (arith, c.point)) (λ j g. omega (arith, c.slot, g));
      }

  before : Under w w5 (notes_at s p)
  before =
      record {
        len = noted_length;
        low = λ i h. elsewhere i (omega arith) (λ j g. omega (arith, g));
      }

  others : (u : ℕ) → u < p → u ≢ a → Apart w w5 s p u
  others u h d =
      record {
        same = elsewhere (notes_at s p + u) (omega arith) (λ j g. omega (arith, g));
        first = λ us. elsewhere (fronts_at s p + 2 * u) (omega (arith, c.point, us)) (λ j g. omega (arith, g, us));
        second = λ us. elsewhere (fronts_at s p + 2 * u + 1) (omega (arith, c.point, us)) (λ j g. omega (arith, g, us));
        sides = λ us i x. elsewhere (boxes_at s p + 4 * u + i) (omega (arith, c.point)) (λ j g. omega (arith, g, x));
      }

  fronts_same : noted w5 s p a ≡ noted w s p a
  fronts_same =
      let z : (note w s p a + 4) % 4 ≡ note w s p a % 4 = omega arith in
      let x : get_or w5 (fronts_at s p + 2 * a) 0 ≡ get_or w (fronts_at s p + 2 * a) 0 =
      elsewhere (fronts_at s p + 2 * a) (omega (arith, c.point)) (λ j g. omega (arith, c.slot)) in
      let y : get_or w5 (fronts_at s p + 2 * a + 1) 0 ≡ get_or w (fronts_at s p + 2 * a + 1) 0 =
      elsewhere (fronts_at s p + 2 * a + 1) (omega (arith, c.point)) (λ j g. omega (arith, c.slot)) in
      ap (λ (i : ℕ). ends (i % 4) (get_or w5 (fronts_at s p + 2 * a) 0) (get_or w5 (fronts_at s p + 2 * a + 1) 0)) note_on
      ∙ (ap (λ (i : ℕ). ends i (get_or w5 (fronts_at s p + 2 * a) 0) (get_or w5 (fronts_at s p + 2 * a + 1) 0)) z
      ∙ (ap (λ (i : ℕ). ends (note w s p a % 4) i (get_or w5 (fronts_at s p + 2 * a + 1) 0)) x ∙ ap (λ (i : ℕ). ends (note w s p a % 4) (get_or w (fronts_at s p + 2 * a) 0) i) y))

  digits : 0 < note w5 s p a % 4 → 0 < note w s p a % 4
  digits h = let e = note_on in omega arith

  this : (m : Mesh) → NoteAt w s p m a → Box m a l r b t → NoteAt w5 s p m a
  this m n x =
      record {
        inside = λ h. c.slot;
        fronts = λ h. subst (λ (vs : List ℕ). Fronts m a vs) (sym fronts_same) (n.fronts (digits h));
        box = λ h. rw (side0, side1, side2, side3) x;
      }

  -- it stands for the same mesh
  pub rep_noted : (m : Mesh) → Rep w s p m → Box m a l r b t → Rep w5 s p m
  rep_noted m h x =
      record {
        room = record { fits = omega (arith, noted_length, h.room.fits); small = h.room.small };
        used = h.used;
        points = h.points;
        distinct = h.distinct;
        cells = cells_under w w5 s m.used (length m.points) m.live h.used (under_less w w5 (5 * s) (notes_at s p) (omega arith) before) h.cells;
        rings = family_kept w w5 (rings_at s) (codes s p) (4 * s) (corners m.live) noted_length (λ i f g. before.low i (omega arith)) h.rings;
        dead = λ i f g. before.low i (omega arith) ∙ h.dead i f g;
        notes = λ u f. go u f (decide u a);
        even = λ f g. h.even f (sym (elsewhere (even_at s p) (omega (arith, c.point)) (λ j l. omega (arith, c.slot, l))) ∙ g);
      }
    where
      go : (u : ℕ) → u < p → Same u a → NoteAt w5 s p m u
      go u f (same e) = subst (λ (i : ℕ). NoteAt w5 s p m i) (sym e) (this m (h.notes a c.point) x)
      go u f (differ d) = note_apart w w5 s p u (others u f d) m (h.notes u f)

  pub note_more : 4 ≤ note w5 s p a
  note_more = let e = note_on in omega arith

-- ---- as the code goes about it

pub put_is : (w : List ℕ) (s p a l r b t i k : ℕ) → i ≡ notes_at s p → k ≡ boxes_at s p
    → set (set (set (set (set w (i + a) (get_or w (i + a) 0 + 4)) (k + 4 * a) l) (k + 4 * a + 1) r) (k + 4 * a + 2) b) (k + 4 * a + 3) t ≡ with_box w s p a l r b t
put_is w s p a l r b t i k ei ek = rw (ei, ek)

module _ (w : List ℕ) (q : List Float) (s p a : ℕ) (l : Limits) (t : Spot) where
  pub beyond_left : node t ≡ ground (point_at q (bound w s p a 1)) → le t.x l.x0 ≡ true → Beyond w q s p a l
  unfolding ◌≼◌
  beyond_left e h = on_left (rw (← spot_x t (point_at q (bound w s p a 1)) e) h)

  pub beyond_right : node t ≡ ground (point_at q (bound w s p a 0)) → le l.x1 t.x ≡ true → Beyond w q s p a l
  unfolding ◌≼◌
  beyond_right e h = on_right (rw (← spot_x t (point_at q (bound w s p a 0)) e) h)

  pub beyond_low : node t ≡ ground (point_at q (bound w s p a 3)) → le t.y l.y0 ≡ true → Beyond w q s p a l
  unfolding ◌≼◌
  beyond_low e h = under (rw (← spot_y t (point_at q (bound w s p a 3)) e) h)

  pub beyond_high : node t ≡ ground (point_at q (bound w s p a 2)) → le l.y1 t.y ≡ true → Beyond w q s p a l
  unfolding ◌≼◌
  beyond_high e h = over (rw (← spot_y t (point_at q (bound w s p a 2)) e) h)

-- there is room for a note
pub can_note : (w : List ℕ) (q : List Float) (s p n : ℕ) (k : Float) (m : Mesh) → Known w q s p n k m → (a : ℕ) → a < n → a < s → note w s p a < 4 → CanNote w s p a
can_note w q s p n k m h a an us f =
    record {
      fits = omega (arith, h.rep.room.fits);
      small = h.rep.room.small;
      slot = us;
      point = omega (arith, h.rep.points, h.count);
      none = f;
    }

-- the nodes of a box fit a word
pub small : (w : List ℕ) (q : List Float) (s p n : ℕ) (k : Float) (m : Mesh) → Known w q s p n k m → (a : ℕ) (b : Sides) → Bounds m a b
    → (b.left.node < 2 ^ 32) × (b.right.node < 2 ^ 32) × (b.low.node < 2 ^ 32) × (b.high.node < 2 ^ 32)
small w q s p n k m h a b x =
    let f : length m.points ≤ 2 ^ 32 = omega (arith, h.rep.points, h.rep.room.small) in
    (omega (arith, x.left.known), omega (arith, x.right.known), omega (arith, x.low.known), omega (arith, x.high.known))

-- a box that was found, noted
pub known_noted : (w w' : List ℕ) (q : List Float) (s p n : ℕ) (k : Float) (m : Mesh) → Known w q s p n k m → (a : ℕ) (b : Sides) → CanNote w s p a
    → w' ≡ with_box w s p a b.left.node b.right.node b.low.node b.high.node → Bounds m a b → AllFine b
    → ((v : ℕ) → Near m a v → v < length m.points) → Known w' q s p n k m
known_noted w w' q s p n k m h a b c e x f g =
    record {
      rep = rw e (rep_noted w s p a b.left.node b.right.node b.low.node b.high.node c m h.rep
          (record {
            a_known = x.left.known;
            b_known = x.right.known;
            c_known = x.low.known;
            d_known = x.high.known;
            known = g;
            left = x.left.all f.left;
            right = x.right.all f.right;
            low = x.low.all f.low;
            high = x.high.all f.high;
          }));
      pts = h.pts;
      count = h.count;
      side = h.side;
    }

module _ (w w' : List ℕ) (s p a l r b t : ℕ) (c : CanNote w s p a) (e : w' ≡ with_box w s p a l r b t) where
  pub keeps_noted : Keeps w w' (mesh_end s p)
  keeps_noted = rw e (noted_keeps w s p a l r b t c)

  pub more_noted : 4 ≤ note w' s p a
  more_noted = rw e (note_more w s p a l r b t c)

-- ---- a node passed over

module _ (w : List ℕ) (q : List Float) (s p n : ℕ) (k : Float) (m : Mesh) (h : Known w q s p n k m) (a : ℕ) (an : a < n) (f : 4 ≤ note w s p a) where
  box_noted : Box m a (bound w s p a 0) (bound w s p a 1) (bound w s p a 2) (bound w s p a 3)
  box_noted = (h.rep.notes a (omega (arith, h.rep.points, h.count))).box f

  in_slice : (x : ℕ) → x < length m.points → Within q x
  in_slice x l = omega (arith, h.pts.fits, h.pts.few)

  pub can_look : a < s → CanLook w q s p a
  can_look us =
      record {
        fits = omega (arith, h.rep.room.fits);
        small = h.rep.room.small;
        slot = us;
        sides = look;
      }
    where
      look : (j : ℕ) → j < 4 → Within q (bound w s p a j)
      look zero l = in_slice (bound w s p a 0) box_noted.a_known
      look (suc zero) l = in_slice (bound w s p a 1) box_noted.b_known
      look (suc (suc zero)) l = in_slice (bound w s p a 2) box_noted.c_known
      look (suc (suc (suc zero))) l = in_slice (bound w s p a 3) box_noted.d_known
      look (suc (suc (suc (suc j)))) l = absurd (omega arith)

  pub away : (l : Limits) → Beyond w q s p a l → Away m a l
  away l z = go z
    where
      x : Box m a (bound w s p a 0) (bound w s p a 1) (bound w s p a 2) (bound w s p a 3)
      x = box_noted

      go : Beyond w q s p a l → Away m a l
      go (on_left y) =
          to_left (λ v g. le_trans (node_at m v).x (node_at m (bound w s p a 1)).x l.x0 (x.right v g) (rw (node_of m (length m.points) q h.pts.are (bound w s p a 1) x.b_known) y))
      go (on_right y) =
          to_right (λ v g. le_trans l.x1 (node_at m (bound w s p a 0)).x (node_at m v).x (rw (node_of m (length m.points) q h.pts.are (bound w s p a 0) x.a_known) y) (x.left v g))
      go (under y) =
          below (λ v g. le_trans (node_at m v).y (node_at m (bound w s p a 3)).y l.y0 (x.high v g) (rw (node_of m (length m.points) q h.pts.are (bound w s p a 3) x.d_known) y))
      go (over y) =
          above (λ v g. le_trans l.y1 (node_at m (bound w s p a 2)).y (node_at m v).y (rw (node_of m (length m.points) q h.pts.are (bound w s p a 2) x.c_known) y) (x.low v g))
