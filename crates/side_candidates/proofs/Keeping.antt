-- The triangles with a wall brought to the front of the list; they have all walls of the region.
use mathlib.Core.Path.{◌≡◌, refl, ap, sym, ◌∙◌, subst}
use mathlib.Core.Logic.{◌≢◌}
use mathlib.Core.Bool.{Bool, true, false, not}
use mathlib.Core.List.{List, [], ◌∷◌, ◌++◌, append_assoc, append-nil}
use Prim.Native.Nat.{ℕ, ◌+◌, ◌*◌, ◌≤◌, ◌<◌}
use native.Mathlib.Omega.{arith}
use lib.Dec.{eqb}
use lib.ListN.{length, get_or, set, length-append}
use lib.Ieee.{Float}
use borrow.Author.Tests.{eq-eqb, ne_eqb, eqb-true, not-false}
use Rattle.definition.specs.Plane.{Edge}
use Rattle.definition.specs.Lists.{filter, flat_map}
use Rattle.definition.specs.Cells.{Live, Mesh, new_live, edges}
use Rattle.definition.specs.Candidates.{shared_by_tris, walls}
use Rattle.laws.specs.Lists.{filter_yes, filter_no, filter_append, Stored, stored_kept, stored_snoc}
use Rattle.laws.specs.Frames.{on, off, Under}
use Rattle.cells.specs.Layout.{mesh_end, marks_at, list_at}
use Rattle.cells.specs.Rep.{Rep, slots}
use Rattle.cells.proofs.Corners.{slots_append}
use Rattle.cells.proofs.Frames.{rep_under}
use Rattle.cells.proofs.Slots.{slots_length, rep_held}
use Rattle.live_regions.specs.Walls.{wall_sum, wall_mark}
use Rattle.live_regions.specs.Stack.{Inner, Noted}
use Rattle.side_candidates.specs.Hand.{InHand, fenced, KeptTo}
use Rattle.side_candidates.proofs.Scans.{Scan, Spot, scan_start}

-- ---- walls

-- edges that add nothing to a mark are no walls
bare_edges : (m : Mesh) (k : ℕ) (l : List Edge) → 0 < k → wall_sum m k l ≡ 0 → filter (λ e. not (shared_by_tris m e)) l ≡ []
unfolding filter
bare_edges m k [] h z = refl
bare_edges m k (e ∷ l) h z = go (shared_by_tris m e) refl (bare_edges m (2 * k) l (omega arith))
  where
    go : (b : Bool) → shared_by_tris m e ≡ b → (wall_sum m (2 * k) l ≡ 0 → filter (λ d. not (shared_by_tris m d)) l ≡ []) → filter (λ d. not (shared_by_tris m d)) (e ∷ l) ≡ []
    go true q r = let y : 0 + wall_sum m (2 * k) l ≡ 0 = rw q at z in rw q (r (omega (arith, y)))
    go false q r = let y : k + wall_sum m (2 * k) l ≡ 0 = rw q at z in absurd (omega (arith, h, y))

bare_cell : (m : Mesh) (x : Live) → fenced m x ≡ false → filter (λ e. not (shared_by_tris m e)) (edges x.cell) ≡ []
unfolding fenced wall_mark
bare_cell m x h =
    let z : 8 + wall_sum m 1 (edges x.cell) ≡ 8 = eqb-true (8 + wall_sum m 1 (edges x.cell)) 8 (not-false (eqb (8 + wall_sum m 1 (edges x.cell)) 8) h) in
    bare_edges m 1 (edges x.cell) (omega arith) (omega (arith, z))

-- those of the region are all kept
pub walls_kept : (m : Mesh) (region : List Live) → walls m (filter (fenced m) region) ≡ walls m region
unfolding walls flat_map filter
walls_kept m [] = refl
walls_kept m (x ∷ l) = go (fenced m x) refl (walls_kept m l)
  where
    go : (b : Bool) → fenced m x ≡ b → walls m (filter (fenced m) l) ≡ walls m l → walls m (filter (fenced m) (x ∷ l)) ≡ walls m (x ∷ l)
    go true e r =
        ap (walls m) (filter_yes (fenced m) x l e) ∙ filter_append (λ d. not (shared_by_tris m d)) (edges x.cell) (flat_map (λ y. edges y.cell) (filter (fenced m) l))
        ∙ ap (λ (z : List Edge). filter (λ d. not (shared_by_tris m d)) (edges x.cell) ++ z) r ∙ sym (filter_append (λ d. not (shared_by_tris m d)) (edges x.cell) (flat_map (λ y. edges y.cell) l))
    go false e r =
        ap (walls m) (filter_no (fenced m) x l e) ∙ r
        ∙ sym (filter_append (λ d. not (shared_by_tris m d)) (edges x.cell) (flat_map (λ y. edges y.cell) l) ∙ ap (λ (z : List Edge). z ++ walls m l) (bare_cell m x e))

-- ---- some triangles of a region

inner_some : (m : Mesh) (f : Live → Bool) (l : List Live) → Inner m l → Inner m (filter f l)
unfolding filter
inner_some m f [] h = tt
inner_some m f (x ∷ l) h = go (f x) refl (inner_some m f l h.2)
  where
    go : (b : Bool) → f x ≡ b → Inner m (filter f l) → Inner m (filter f (x ∷ l))
    go true e r = subst (Inner m) (sym (filter_yes f x l e)) ((h.0, h.1, r))
    go false e r = subst (Inner m) (sym (filter_no f x l e)) r

noted_some : (w : List ℕ) (s p : ℕ) (m : Mesh) (f : Live → Bool) (l : List Live) → Noted w s p m l → Noted w s p m (filter f l)
unfolding filter
noted_some w s p m f [] h = tt
noted_some w s p m f (x ∷ l) h = go (f x) refl (noted_some w s p m f l h.1)
  where
    go : (b : Bool) → f x ≡ b → Noted w s p m (filter f l) → Noted w s p m (filter f (x ∷ l))
    go true e r = subst (Noted w s p m) (sym (filter_yes f x l e)) ((h.0, r))
    go false e r = subst (Noted w s p m) (sym (filter_no f x l e)) r

-- noted walls stay with the marks
pub noted_same : (w w' : List ℕ) (s p : ℕ) (m : Mesh) (l : List Live) → Rep w s p m → Inner m l → ((i : ℕ) → i < list_at s p → get_or w' i 0 ≡ get_or w i 0) → Noted w s p m l → Noted w' s p m l
noted_same w w' s p m [] r i f h = tt
noted_same w w' s p m (x ∷ l) r i f h =
    (f (marks_at s p + x.slot) (omega (arith, (rep_held w s p m r i.0).inside, r.used)) ∙ h.0, noted_same w w' s p m l r i.2 f h.1)

-- ---- the list

-- the triangles from place i on are still to come; of the others the r with a wall, `done`, are at the front
pub record Keeping (w₀ w : List ℕ) (s p k i r : ℕ) (m : Mesh) (region : List Live) : Type 0 where
  pub rest : List Live
  pub scan : Scan w₀ s p k i m rest
  pub done : List Live
  pub whole : filter (fenced m) region ≡ done ++ filter (fenced m) rest
  pub len : r ≡ length done
  pub stored : Stored w (list_at s p) (slots done)
  pub before : (j : ℕ) → j < list_at s p → get_or w j 0 ≡ get_or w₀ j 0
  pub behind : (j : ℕ) → list_at s p + i ≤ j → get_or w j 0 ≡ get_or w₀ j 0

module _ (w₀ : List ℕ) (q : List Float) (s p k : ℕ) (m : Mesh) (region : List Live) (h : InHand w₀ q s p k m region) where
  pub keeping_start : Keeping w₀ w₀ s p k 0 0 m region
  keeping_start = record { rest = region; scan = scan_start w₀ q s p k m region h; done = []; whole = refl; len = refl; stored = tt; before = λ j a. refl; behind = λ j a. refl }

  module _ (w : List ℕ) (i r : ℕ) (g : Keeping w₀ w s p k i r m region) (e : length w ≡ length w₀) (few : r ≤ i) where
    -- the slot at place i, and its mark
    pub keeping_word : (c : ℕ) → c ≡ get_or w (list_at s p + i) 0 → c ≡ get_or w₀ (21 * s + 3 * p + i) 0
    keeping_word c a = a ∙ g.behind (list_at s p + i) (omega arith)

    module _ (c : ℕ) (z : Spot w₀ s p k i c m g.rest) where
      pub keeping_mark : (f : ℕ) → f ≡ get_or w (marks_at s p + c) 0 → f ≡ wall_mark m z.x
      keeping_mark f a = a ∙ g.before (marks_at s p + c) (omega (arith, z.inside)) ∙ z.walls

      pub keeping_hit : wall_mark m z.x ≢ 8 → i < k → Keeping w₀ (set w (list_at s p + r) c) s p k (i + 1) (r + 1) m region
      unfolding fenced new_live
      keeping_hit d l =
          let y : fenced m z.x ≡ true = rw (ne_eqb (wall_mark m z.x) 8 d) in
          let n : length (slots g.done) ≡ r = slots_length g.done ∙ sym g.len in
          let w' = set w (list_at s p + r) c in
          let o : list_at s p + length (slots g.done) ≡ list_at s p + r = omega (arith, n) in
          let b : list_at s p + r < length w = omega (arith, e, few, l, h.few, h.rep.room.fits) in
          let v : get_or w' (list_at s p + length (slots g.done)) 0 ≡ z.x.slot = ap (λ (j : ℕ). get_or w' j 0) o ∙ on w (list_at s p + r) c b ∙ sym (ap (λ (a : Live). a.slot) z.top.is) in
          record {
            rest = z.more;
            scan = z.next;
            done = g.done ++ z.x ∷ [];
            whole = g.whole ∙ ap (λ (a : List Live). g.done ++ filter (fenced m) a) z.is ∙ ap (λ (a : List Live). g.done ++ a) (filter_yes (fenced m) z.x z.more y)
                ∙ sym (append_assoc g.done (z.x ∷ []) (filter (fenced m) z.more));
            len = ap (λ (j : ℕ). j + 1) g.len ∙ sym (length-append g.done (z.x ∷ []));
            stored = rw (slots_append g.done (z.x ∷ []))
                (stored_snoc w' (list_at s p) z.x.slot (slots g.done) (stored_kept w w' (list_at s p) (slots g.done) (λ j a f. off w (list_at s p + r) c j (omega (arith, f, o))) g.stored) v);
            before = λ j a. off w (list_at s p + r) c j (omega arith) ∙ g.before j a;
            behind = λ j a. off w (list_at s p + r) c j (omega (arith, a, few)) ∙ g.behind j (omega arith);
          }

      pub keeping_miss : wall_mark m z.x ≡ 8 → Keeping w₀ w s p k (i + 1) r m region
      unfolding fenced
      keeping_miss d =
          let y : fenced m z.x ≡ false = rw (eq-eqb (wall_mark m z.x) 8 d) in
          record {
            rest = z.more;
            scan = z.next;
            done = g.done;
            whole = g.whole ∙ ap (λ (a : List Live). g.done ++ filter (fenced m) a) z.is ∙ ap (λ (a : List Live). g.done ++ a) (filter_no (fenced m) z.x z.more y);
            len = g.len;
            stored = g.stored;
            before = g.before;
            behind = λ j a. g.behind j (omega arith);
          }

    pub keeping_end : i ≤ k → k ≤ i → KeptTo w₀ w q s p r m (filter (fenced m) region)
    unfolding filter
    keeping_end a b =
        let y : filter (fenced m) region ≡ g.done = none g.rest g.scan.len g.whole in
        let u : Under w₀ w (mesh_end s p) = record { len = e; low = λ j f. g.before j (omega arith) } in
        record {
          hand = record {
            rep = rep_under w₀ w s p u m h.rep;
            pts = h.pts;
            len = g.len ∙ sym (ap length y);
            few = omega (arith, few, a, h.few);
            stored = subst (λ (l : List Live). Stored w (list_at s p) (slots l)) (sym y) g.stored;
            inner = inner_some m (fenced m) region h.inner;
            noted = noted_same w₀ w s p m (filter (fenced m) region) h.rep (inner_some m (fenced m) region h.inner) g.before (noted_some w₀ s p m (fenced m) region h.noted);
          };
          only = record { len = e; low = g.before; high = λ j f. g.behind j (omega (arith, a, f, h.few)) };
        }
      where
        none : (rest : List Live) → i + length rest ≡ k → filter (fenced m) region ≡ g.done ++ filter (fenced m) rest → filter (fenced m) region ≡ g.done
        none [] f z = z ∙ append-nil g.done
        none (x ∷ rest) f z = absurd (omega arith)
