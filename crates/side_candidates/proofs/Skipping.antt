-- The cells of a block whose box lies on one side of a segment's line are passed over: none has a wall that the segment crosses.
use mathlib.Core.Path.{◌≡◌, refl, sym, ap, ◌∙◌, subst}
use mathlib.Core.Bool.{Bool, true, false, false≢true}
use mathlib.Core.List.{List, [], ◌∷◌}
use Prim.Native.Nat.{ℕ, zero, suc, ◌+◌, ◌*◌, ◌≤◌, ◌<◌}
use native.Mathlib.Nat.{mul-le-mul_right}
use native.Mathlib.Decide.{dec_lt}
use native.Mathlib.Omega.{arith}
use lib.ListN.{length, get_or, set}
use lib.Seq.{get_or-set_same, get_or-set_other}
use lib.Ieee.{Float, nan}
use Rattle.definition.specs.Cells.{Cell, tri, quad, Tri, Live, Mesh, new_live, node_at}
use Rattle.laws.specs.Lists.{Stored}
use Rattle.rings.specs.Rings.{Distinct}
use Rattle.cells.specs.Layout.{list_at, marks_at}
use Rattle.cells.specs.Rep.{Has, here, there, Pts, TriIn, slots}
use Rattle.definition.specs.Call.{point_at}
use Rattle.plane.specs.Points.{node_of}
use Rattle.cells.proofs.Slots.{out_has}
use Rattle.live_regions.specs.Walls.{wall_mark}
use Rattle.side_candidates.specs.Hand.{InHand, Ends}
use Rattle.side_candidates.specs.Blocks.{slot_at, frame_at, FramedFrom, BoxedTo, Scan, Boxed, Boxes, Leads, Beside, Passing, open_cell, Through, Framed}
use Rattle.side_candidates.specs.declared.blocks.Frame.{Frame}
use Rattle.side_candidates.specs.declared.blocks.Line.{Line}
use Rattle.side_candidates.proofs.Scans.{Spot, scan_start, scan_here, passing_more, passing_end, spot_open, spot_walls}
use Rattle.side_candidates.proofs.Boxing.{framed_open}

-- what stands at place k of the list
pub stored_at : (w : List ℕ) (b k : ℕ) (l : List ℕ) → Stored w b l → k < length l → get_or w (b + k) 0 ≡ get_or l k 0
stored_at w b k [] h l = absurd (omega arith)
stored_at w b zero (x ∷ l) h e = let z : b + 0 ≡ b = omega arith in ap (λ (i : ℕ). get_or w i 0) z ∙ h.0
stored_at w b (suc k) (x ∷ l) h e = let z : b + suc k ≡ b + 1 + k = omega arith in ap (λ (i : ℕ). get_or w i 0) z ∙ stored_at w (b + 1) k l h.1 (omega arith)

pub slots_len : (l : List Live) → length (slots l) ≡ length l
slots_len [] = refl
slots_len (x ∷ l) = ap suc (slots_len l)

-- the slot of the cell at place k, as it is read
pub slot_read : (w : List ℕ) (q : List Float) (s p n : ℕ) (m : Mesh) (region : List Live) → InHand w q s p n m region → (k : ℕ) → k < n → get_or w (21 * s + 3 * p + k) 0 ≡ slot_at region k
slot_read w q s p n m region h k l = stored_at w (list_at s p) k (slots region) h.stored (omega (arith, slots_len region, h.len))

-- ---- the cell at a place

one_cell : {x y : Live} {l : List Live} → Distinct (slots l) → Has x l → Has y l → x.slot ≡ y.slot → x ≡ y
one_cell d here here e = refl
one_cell d here (there k) e = absurd (out_has _ d.0 k (sym e))
one_cell d (there h) here e = absurd (out_has _ d.0 h e)
one_cell d (there h) (there k) e = one_cell d.1 h k e

tri_or : Tri → Cell → Tri
tri_or u (tri t) = t
tri_or u (quad q) = u

-- a slot holds one triangle
tri_same : (m : Mesh) → Distinct (slots m.live) → (i : ℕ) (x y : TriIn m i) → x.t ≡ y.t
unfolding new_live tri_or
tri_same m d i x y = ap (λ (l : Live). tri_or x.t l.cell) (one_cell d x.has y.has refl)

-- the cells from place k on
pub record From (w : List ℕ) (s p n k : ℕ) (m : Mesh) : Type 0 where
  pub rest : List Live
  pub scan : Scan w s p n k m rest

module _ (w : List ℕ) (q : List Float) (s p n : ℕ) (m : Mesh) (region : List Live) (y : InHand w q s p n m region) where
  pub scan_to : (k : ℕ) → k ≤ n → From w s p n k m
  scan_to zero l = record { rest = region; scan = scan_start w q s p n m region y }
  scan_to (suc k) l =
      let f = scan_to k (omega arith) in
      let c = scan_here w s p n k (get_or w (21 * s + 3 * p + k) 0) m f.rest y.rep f.scan (omega arith) refl in
      let e : k + 1 ≡ suc k = omega arith in
      record { rest = c.more; scan = subst (λ (v : ℕ). Scan w s p n v m c.more) e c.next }

  pub spot_to : (k i : ℕ) → (l : k < n) → i ≡ get_or w (21 * s + 3 * p + k) 0 → Spot w s p n k i m (scan_to k (omega arith)).rest
  spot_to k i l e = scan_here w s p n k i m (scan_to k (omega arith)).rest y.rep (scan_to k (omega arith)).scan l e

  -- its mark tells the walls of its triangle
  pub mark_told : (k i : ℕ) → k < n → i ≡ get_or w (21 * s + 3 * p + k) 0 → (t : TriIn m i) → get_or w (marks_at s p + i) 0 ≡ wall_mark m (new_live i (tri t.t))
  mark_told k i l e t =
      let c = spot_to k i l e in
      spot_walls w s p n k i m (scan_to k (omega arith)).rest c ∙ ap (λ (u : Tri). wall_mark m (new_live i (tri u))) (tri_same m y.rep.distinct i c.top.t t)

-- ---- boxes made

-- one cell more in the box
pub framed_more : (m : Mesh) (b r : Frame) (region : List Live) (j i : ℕ) → ((t : Tri) → Framed m b t → Framed m r t) → ((t : TriIn m (slot_at region i)) → Framed m r t.t) → FramedFrom m b region j i → FramedFrom m r region j (i + 1)
framed_more m b r region j i k f h u l e t =
    elim (dec_lt u i) [
      | yes z ↦ k t.t (h u l z t)
      | no z ↦ let o : i ≡ u = omega arith in subst (λ (v : ℕ). (x : TriIn m (slot_at region v)) → Framed m r x.t) o f t
    ]

abbrev nothing : Frame
nothing = record { x0 = nan; x1 = nan; y0 = nan; y1 = nan }

module _ (h h' : List Frame) (size : ℕ) (m : Mesh) (g : List Live) (j k n : ℕ) (e : k ≡ j * size) (c : n ≡ length g) where
  -- one block more
  pub boxed_more : (b : Frame) → j < length h → h' ≡ set h j b → ((u : ℕ) → u ≤ k + size → u ≤ n → FramedFrom m b g k u) → BoxedTo h size m g j → BoxedTo h' size m g (j + 1)
  boxed_more b o s f d i l r v x y z t =
      elim (dec_lt i j) [
        | yes q ↦
            let a : get_or h' i nothing ≡ get_or h i nothing = ap (λ (l : List Frame). get_or l i nothing) s ∙ get_or-set_other h j i b nothing (λ z. omega arith) in
            subst (λ (a : Frame). Framed m a t.t) (sym a) (d i q (omega arith) v x y z t)
        | no q ↦
            let u : i ≡ j = omega arith in
            let p : i * size ≡ j * size = ap (λ (a : ℕ). a * size) u in
            let a : get_or h' j nothing ≡ b = ap (λ (l : List Frame). get_or l j nothing) s ∙ get_or-set_same h j b nothing o in
            subst (λ (a : Frame). Framed m a t.t) (sym (ap (frame_at h') u ∙ a)) (f (v + 1) (omega arith) (omega arith) v (omega arith) (omega arith) t)
      ]

  -- no more cells
  pub boxed_end : n ≤ k → BoxedTo h size m g j → Boxed h size m g
  boxed_end l d i r v x y z t =
      elim (dec_lt i j) [
        | yes q ↦ d i q r v x y z t
        | no q ↦ absurd (let s : j * size ≤ i * size = mul-le-mul_right size (omega arith) in omega arith)
      ]

  -- no more room
  pub boxed_full : length h ≤ j → BoxedTo h size m g j → Boxed h size m g
  boxed_full l d i r v x y z t =
      elim (dec_lt i j) [
        | yes q ↦ d i q r v x y z t
        | no q ↦ absurd (omega arith)
      ]

-- ---- cells passed over

module _ (w : List ℕ) (q : List Float) (s p n : ℕ) (h : List Frame) (size j : ℕ) (o : Line) (m : Mesh) (region : List Live) (a b : ℕ) (total : Bool) (y : InHand w q s p n m region) (x : Boxes h size n m region)
    (e : Leads (node_at m a) (node_at m b) o) (r : j < length h) (z : Beside (frame_at h j) o) where
  -- one cell more
  skip_one : (k : ℕ) → j * size ≤ k → k < j * size + size → k < n → Passing w s p n k m (open_cell m a b) total → Passing w s p n (k + 1) m (open_cell m a b) total
  skip_one k f t l g =
      let i = get_or w (21 * s + 3 * p + k) 0 in
      let c : Spot w s p n k i m g.rest = scan_here w s p n k i m g.rest y.rep g.scan l refl in
      let d : Framed m (frame_at h j) c.top.t.t =
      subst (λ (v : ℕ). (u : TriIn m v) → Framed m (frame_at h j) u.t) (sym (slot_read w q s p n m region y k l)) (x.boxed j r k f t (omega (arith, y.len))) c.top.t in
      passing_more w s p n k m (open_cell m a b) total i g c (spot_open m i a b c.x c.top ∙ sym (framed_open m a b (frame_at h j) o e z c.top.t.t d))

  -- d cells more
  skip : (d k : ℕ) → j * size ≤ k → k + d ≤ j * size + size → k + d ≤ n → Passing w s p n k m (open_cell m a b) total → Passing w s p n (k + d) m (open_cell m a b) total
  skip zero k f t l g = let i : k ≡ k + 0 = omega arith in subst (λ (v : ℕ). Passing w s p n v m (open_cell m a b) total) i g
  skip (suc d) k f t l g =
      let i : k + 1 + d ≡ k + suc d = omega arith in
      subst (λ (v : ℕ). Passing w s p n v m (open_cell m a b) total) i (skip d (k + 1) (omega arith) (omega arith) (omega arith) (skip_one k f (omega arith) (omega arith) g))

  -- the block
  pub skip_block : (k d : ℕ) → k ≡ j * size → k < n → k + d ≡ n → Passing w s p n k m (open_cell m a b) total → Through w s p n (k + size) m a b total true
  skip_block k d f l i g =
      record {
        on = λ t u. skip size k (omega arith) (omega arith) u g;
        end = λ t u. passing_end w s p n n m (open_cell m a b) total (let c : k + d ≡ n = i in subst (λ (v : ℕ). Passing w s p n v m (open_cell m a b) total) c (skip d k (omega arith) (omega arith) (omega arith) g)) (omega arith);
        stop = λ t. absurd (false≢true (sym t));
      }

-- cells up to the end of the region, or to place k
pub through_end : (w : List ℕ) (s p n k : ℕ) (m : Mesh) (a b : ℕ) (total r : Bool) → n < k → Through w s p n n m a b total r → Through w s p n k m a b total r
through_end w s p n k m a b total r l h =
    record {
      on = λ t u. absurd (omega arith);
      end = λ t u. h.end t (omega arith);
      stop = h.stop;
    }

-- the answer
pub through_is : (w : List ℕ) (s p n k : ℕ) (m : Mesh) (a b : ℕ) (total r : Bool) → n ≤ k → Through w s p n k m a b total r → r ≡ total
through_is w s p n k m a b total true l h = h.end refl l
through_is w s p n k m a b total false l h = h.stop refl

pub through_start : (w : List ℕ) (s p n k : ℕ) (m : Mesh) (a b : ℕ) (total : Bool) → k ≤ n → Passing w s p n k m (open_cell m a b) total → Through w s p n k m a b total true
through_start w s p n k m a b total l g =
    record { on = λ t u. g; end = λ t u. passing_end w s p n k m (open_cell m a b) total g u; stop = λ t. absurd (false≢true (sym t)) }

pub through_stop : (w : List ℕ) (s p n k : ℕ) (m : Mesh) (a b : ℕ) (total : Bool) → false ≡ total → Through w s p n k m a b total false
through_stop w s p n k m a b total e = record { on = λ t u. absurd (false≢true t); end = λ t u. absurd (false≢true t); stop = λ t. e }

-- the line of a segment, by the points as they are read
pub leads_at : (q : List Float) (p : ℕ) (m : Mesh) → Pts q p m → (a b : ℕ) → Ends m a b → (o : Line) → Leads (point_at q a) (point_at q b) o → Leads (node_at m a) (node_at m b) o
leads_at q p m k a b e o h =
    let r = node_of m (length m.points) q k.are in
    rw (r a e.first, r b e.second) h
