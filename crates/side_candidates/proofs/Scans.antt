-- The region in hand read slot after slot: the cells from place k on.
use mathlib.Core.Path.{◌≡◌, refl, ap, sym, ◌∙◌, subst}
use mathlib.Core.Bool.{Bool, true, false}
use mathlib.Core.List.{List, [], ◌∷◌}
use Prim.Native.Nat.{ℕ, ◌+◌, ◌*◌, ◌≤◌, ◌<◌}
use native.Mathlib.Omega.{arith}
use lib.ListN.{length, get_or}
use lib.Ieee.{Float}
use Rattle.definition.specs.Lists.{all}
use Rattle.definition.specs.Cells.{Live, Mesh, tri, new_live, edges, tri_edges, has_node, tri_has}
use Rattle.definition.specs.Candidates.{walls, segment_inside}
use Rattle.laws.specs.Lists.{Stored}
use Rattle.live_regions.proofs.Scratches.{scratch_rep}
use Rattle.cells.specs.Layout.{marks_at, list_at}
use Rattle.cells.specs.Rep.{Rep, slots}
use Rattle.cells.proofs.Slots.{rep_held}
use Rattle.live_regions.specs.Walls.{wall_mark}
use Rattle.live_regions.specs.Stack.{Lent, LiveTo}
use Rattle.live_regions.proofs.Steps.{TopTri, tri_top}
use Rattle.side_candidates.specs.Hand.{InHand, open_edge}
pub use Rattle.side_candidates.specs.Blocks.{Scan, Passing}
use Rattle.side_candidates.specs.Blocks.{open_cell}
use Rattle.side_candidates.proofs.Fences.{inside_cells, has_tri}

pub scan_start : (w : List ℕ) (q : List Float) (s p n : ℕ) (m : Mesh) (region : List Live) → InHand w q s p n m region → Scan w s p n 0 m region
scan_start w q s p n m region h =
    record {
      stored = (let e : list_at s p ≡ list_at s p + 0 = omega arith in subst (λ (b : ℕ). Stored w b (slots region)) e h.stored);
      inner = h.inner;
      noted = h.noted;
      len = omega (arith, h.len);
    }

-- what stands at place k
pub record Spot (w : List ℕ) (s p n k i : ℕ) (m : Mesh) (rest : List Live) : Type 0 where
  pub x : Live
  pub more : List Live
  pub is : rest ≡ x ∷ more
  pub top : TopTri m i x
  pub walls : get_or w (marks_at s p + i) 0 ≡ wall_mark m x
  pub inside : i < s
  pub next : Scan w s p n (k + 1) m more

pub scan_here : (w : List ℕ) (s p n k i : ℕ) (m : Mesh) (rest : List Live) → Rep w s p m → Scan w s p n k m rest → k < n → i ≡ get_or w (21 * s + 3 * p + k) 0 → Spot w s p n k i m rest
scan_here w s p n k i m [] r h l e = absurd (omega (arith, h.len))
scan_here w s p n k i m (x ∷ more) r h l e =
    let z : i ≡ x.slot = e ∙ h.stored.0 in
    let b : list_at s p + k + 1 ≡ list_at s p + (k + 1) = omega arith in
    record {
      x = x;
      more = more;
      is = refl;
      top = tri_top m i x z h.inner.0 h.inner.1;
      walls = ap (λ (j : ℕ). get_or w (marks_at s p + j) 0) z ∙ h.noted.0;
      inside = omega (arith, (rep_held w s p m r h.inner.0).inside, r.used);
      next = record { stored = subst (λ (c : ℕ). Stored w c (slots more)) b h.stored.1; inner = h.inner.2; noted = h.noted.1; len = omega (arith, h.len) };
    }

module _ (w : List ℕ) (s p n k : ℕ) (m : Mesh) (f : Live → Bool) (total : Bool) where
  pub passing_end : Passing w s p n k m f total → n ≤ k → true ≡ total
  unfolding all
  passing_end h l = go h.rest h.scan.len h.same
    where
      go : (rest : List Live) → k + length rest ≡ n → total ≡ all f rest → true ≡ total
      go [] e z = sym z
      go (x ∷ rest) e z = absurd (omega arith)

  module _ (i : ℕ) where
    pub passing_stop : (h : Passing w s p n k m f total) (g : Spot w s p n k i m h.rest) → f g.x ≡ false → false ≡ total
    unfolding all
    passing_stop h g e = let z : all f (g.x ∷ g.more) ≡ false = rw e in sym (h.same ∙ ap (all f) g.is ∙ z)

    pub passing_more : (h : Passing w s p n k m f total) (g : Spot w s p n k i m h.rest) → f g.x ≡ true → Passing w s p n (k + 1) m f total
    unfolding all
    passing_more h g e = let z : all f (g.x ∷ g.more) ≡ all f g.more = rw e in record { rest = g.more; scan = g.next; same = h.same ∙ ap (all f) g.is ∙ z }

-- the mark at a place, by its triangle
pub spot_walls : (w : List ℕ) (s p n k i : ℕ) (m : Mesh) (rest : List Live) (g : Spot w s p n k i m rest) → get_or w (marks_at s p + i) 0 ≡ wall_mark m (new_live i (tri g.top.t.t))
spot_walls w s p n k i m rest g = g.walls ∙ ap (wall_mark m) g.top.is

-- the tests of the cell at a place, by its triangle
pub spot_open : (m : Mesh) (i a b : ℕ) (x : Live) (g : TopTri m i x) → open_cell m a b x ≡ all (open_edge m a b) (tri_edges g.t.t)
unfolding edges new_live
spot_open m i a b x g = ap (λ (y : Live). all (open_edge m a b) (edges y.cell)) g.is

pub spot_has : (m : Mesh) (i v : ℕ) (x : Live) (g : TopTri m i x) → has_node v x ≡ tri_has g.t.t v
spot_has m i v x g = ap (has_node v) g.is ∙ has_tri i g.t.t v

pub passing_start : (w : List ℕ) (q : List Float) (s p n a b : ℕ) (m : Mesh) (region : List Live) → InHand w q s p n m region
    → Passing w s p n 0 m (open_cell m a b) (segment_inside m a b (walls m region))
passing_start w q s p n a b m region h = record { rest = region; scan = scan_start w q s p n m region h; same = inside_cells m a b region }

-- the region of a search in hand
pub in_hand : (w w' : List ℕ) (q : List Float) (s p used k : ℕ) (m : Mesh) (region : List Live) → Lent w q s p used m → LiveTo w w' s p k m region → InHand w' q s p k m region
in_hand w w' q s p used k m region l h =
    record { rep = scratch_rep w w' s p m h.scratch l.rep; pts = l.pts; len = h.len; few = h.few; stored = h.stored; inner = h.inner; noted = h.noted }
