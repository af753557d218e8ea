-- A cell goes from its slot: corner after corner, and what is noted of the corner's node, then its kind.
use Rattle.std.specs.Prelude.{◌≡◌, ◌≢◌, ◌+◌, ◌*◌, ◌<◌, ◌≤◌, ◌∷◌, ◌++◌}
use Rattle.laws.specs.Kit.{refl, sym, ◌∙◌, ap, subst, Bool, true, false, ℕ, zero, suc, arith, eqb, List, [], length, get_or, set, length-set}
use Rattle.rings.specs.Rings.{Out, Family, UnlinkedFrom, CanUnlink, without, pick}
use Rattle.rings.proofs.Lists.{Same, same, differ, decide, without_hit, without_miss, without_out, without_append, distinct_without, out_self}
use Rattle.rings.proofs.Families.{family_kept, same_rings, can_unlink, unlinked}
use Rattle.definition.specs.Lists.{filter}
use Rattle.definition.specs.Cells.{Cell, Live, Mesh, nodes, with_live, remove_cell, set_cell, without as without_slot}
use Rattle.laws.specs.Frames.{on, off, Under, Keeps, under_refl, under_trans, under_less, keeps_trans, keeps_set}
use Rattle.cells.proofs.Slots.{slot_hit, slot_miss, slots_without}
use Rattle.cells.specs.Layout.{nodes_at, rings_at, codes, notes_at, fronts_at, even_at}
use Rattle.cells.specs.Notes.{note, NoteAt}
use Rattle.cells.specs.Rep.{Cells, slots, Has, here, there, at_node, cell_corners, corners, Uneven, Rep}
use Rattle.meshes.specs.Changes.{CanSet, CanPut, put, CanForget, Forgets}
use Rattle.cells.proofs.Members.{Lookup, absent, present, lookup, has_held}
use Rattle.cells.proofs.Corners.{node_count, out_left, out_right, corner_in, cell_out, below_at}
use Rattle.cells.proofs.Frames.{Elsewhere, cells_else, under_kept}
use Rattle.meshes.proofs.Notes.{note_kept, note_turned, without_of, remove_same, forget_else, forget_same}

-- ---- lists of numbers

pub out_before : (c d : ℕ) (l : List ℕ) → d ≢ c → Out d (without c l) → Out d l
unfolding without
out_before c d [] n h = tt
out_before c d (x ∷ l) n h = go (decide x c) (λ k. out_before c d l n k)
  where
    go : Same x c → (Out d (without c l) → Out d l) → Out d (x ∷ l)
    go (same e) r = ((λ q. n (sym q ∙ e)), r (rw (without_hit c x l e) at h))
    go (differ e) r = let k : Out d (x ∷ without c l) = rw (without_miss c x l e) at h in (k.0, r k.1)

-- the list without the first k corners of slot i
unfoldable pub stripped : ℕ → ℕ → List ℕ → List ℕ
stripped i zero l = l
stripped i (suc k) l = without (4 * i + k) (stripped i k l)

stripped_append : (i k : ℕ) (l r : List ℕ) → stripped i k (l ++ r) ≡ stripped i k l ++ stripped i k r
unfolding stripped
stripped_append i zero l r = refl
stripped_append i (suc k) l r = ap (without (4 * i + k)) (stripped_append i k l r) ∙ without_append (4 * i + k) (stripped i k l) (stripped i k r)

stripped_out : (i k : ℕ) (l : List ℕ) → ((j : ℕ) → j < k → Out (4 * i + j) l) → stripped i k l ≡ l
unfolding stripped
stripped_out i zero l h = refl
stripped_out i (suc k) l h = ap (without (4 * i + k)) (stripped_out i k l (λ j q. h j (omega arith))) ∙ without_out (4 * i + k) l (h k (omega arith))

-- what is in the list and no such corner is still there
out_stripped : (i k d : ℕ) (l : List ℕ) → ((j : ℕ) → j < k → d ≢ 4 * i + j) → Out d (stripped i k l) → Out d l
unfolding stripped
out_stripped i zero d l n h = h
out_stripped i (suc k) d l n h = out_stripped i k d l (λ j q. n j (omega arith)) (out_before (4 * i + k) d (stripped i k l) (n k (omega arith)) h)

stripped_nil : (i k : ℕ) → stripped i k [] ≡ []
unfolding stripped without
stripped_nil i zero = refl
stripped_nil i (suc k) = ap (without (4 * i + k)) (stripped_nil i k)

stripped_one : (i k x j : ℕ) → j < k → x ≡ 4 * i + j → stripped i k (x ∷ []) ≡ []
unfolding stripped without
stripped_one i zero x j h e = absurd (omega (arith, h))
stripped_one i (suc k) x j h e = go (decide j k) (λ g. stripped_one i k x j g e)
  where
    go : Same j k → (j < k → stripped i k (x ∷ []) ≡ []) → without (4 * i + k) (stripped i k (x ∷ [])) ≡ []
    go (same q) r =
        ap (without (4 * i + k)) (stripped_out i k (x ∷ []) (λ y g. (omega arith, tt))) ∙ without_hit (4 * i + k) x [] (omega arith)
    go (differ q) r = ap (without (4 * i + k)) (r (omega arith))

stripped_pick : (i k j : ℕ) (b : Bool) → j < k → stripped i k (pick b (4 * i + j)) ≡ []
stripped_pick i k j true h = stripped_one i k (4 * i + j) j h refl
stripped_pick i k j false h = stripped_nil i k

stripped_node : (v i k j : ℕ) (ns : List ℕ) → j + length ns ≤ k → stripped i k (at_node v (4 * i) j ns) ≡ []
unfolding at_node
stripped_node v i k j [] h = stripped_nil i k
stripped_node v i k j (x ∷ ns) h =
    stripped_append i k (pick (eqb x v) (4 * i + j)) (at_node v (4 * i) (suc j) ns) ∙ (rw (stripped_pick i k j (eqb x v) (omega arith)) (stripped_node v i k (suc j) ns (omega arith)))

-- ---- the mesh without slot i

slot_nil : (i : ℕ) → without_slot i [] ≡ []
unfolding without_slot filter
slot_nil i = refl

cells_without : (w : List ℕ) (s k n i : ℕ) (l : List Live) → Cells w s k n l → Cells w s k n (without_slot i l)
cells_without w s k n i [] h = rw (slot_nil i) tt
cells_without w s k n i (e ∷ l) h = go (decide e.slot i) (cells_without w s k n i l h.1)
  where
    go : Same e.slot i → Cells w s k n (without_slot i l) → Cells w s k n (without_slot i (e ∷ l))
    go (same q) r = rw (slot_hit i e l q) r
    go (differ q) r = rw (slot_miss i e l q) ((h.0, r))

-- the kind of slot i, if it has a cell, is n
abbrev Kinds : ℕ → ℕ → List Live → Type 0
Kinds i n [] = Unit {0}
Kinds i n (x ∷ l) = (x.slot ≡ i → length (nodes x.cell) ≡ n) × Kinds i n l

kinds_of : (w : List ℕ) (s k m i n : ℕ) (l : List Live) → Cells w s k m l → get_or w i 0 ≡ n → Kinds i n l
kinds_of w s k m i n [] h e = tt
kinds_of w s k m i n (x ∷ l) h e = ((λ q. sym h.0.at.kind ∙ ap (λ (j : ℕ). get_or w j 0) q ∙ e), kinds_of w s k m i n l h.1 e)

corners_stripped : (i n v : ℕ) (l : List Live) → n ≤ 4 → Kinds i n l → stripped i n (corners l v) ≡ corners (without_slot i l) v
unfolding corners
corners_stripped i n v [] g h = rw (slot_nil i) (stripped_nil i n)
corners_stripped i n v (e ∷ l) g h =
    stripped_append i n (cell_corners v e.slot e.cell) (corners l v) ∙ go (decide e.slot i) (corners_stripped i n v l g h.1)
  where
    go : Same e.slot i → stripped i n (corners l v) ≡ corners (without_slot i l) v
        → stripped i n (cell_corners v e.slot e.cell) ++ stripped i n (corners l v) ≡ corners (without_slot i (e ∷ l)) v
    go (same q) r =
        let z : stripped i n (cell_corners v e.slot e.cell) ≡ [] =
        subst (λ (j : ℕ). stripped i n (at_node v (4 * j) 0 (nodes e.cell)) ≡ []) (sym q) (stripped_node v i n 0 (nodes e.cell) (omega (arith, h.0 q))) in
        rw (slot_hit i e l q, z) r
    go (differ q) r =
        let z : stripped i n (cell_corners v e.slot e.cell) ≡ cell_corners v e.slot e.cell =
        stripped_out i n (cell_corners v e.slot e.cell) (λ j h. cell_out (4 * i + j) v e.slot e.cell (omega arith)) in
        rw (slot_miss i e l q, z, r)

-- ---- a cell of the list

has_corner : (c v : ℕ) {x : Live} {l : List Live} → Has x l → (Out c (cell_corners v x.slot x.cell) → ⊥) → Out c (corners l v) → ⊥
unfolding corners
has_corner c v {x} (here {l = l}) n h = n (out_left c (cell_corners v x.slot x.cell) (corners l v) h)
has_corner c v (there {y = y} {l = l} k) n h = has_corner c v k n (out_right c (cell_corners v y.slot y.cell) (corners l v) h)

-- ---- the stages of a removal

-- a note that is not 0 is as before, and its node u is none of the first k of slot i
pub record Left (w₀ w : List ℕ) (s p i k u : ℕ) : Type 0 where
  pub same : note w s p u ≡ note w₀ s p u
  pub other : (j : ℕ) → j < k → get_or w₀ (nodes_at s + 4 * i + j) 0 ≢ u

-- the first k corners of slot i were taken out, and nothing is noted of their nodes
pub record Lifting (w₀ w : List ℕ) (s p i k : ℕ) (l : List Live) : Type 0 where
  pub under : Under w₀ w (5 * s)
  pub notes : (u : ℕ) → 0 < note w s p u → Left w₀ w s p i k u
  pub rings : Family w (rings_at s) (codes s p) (4 * s) (λ v. stripped i k (corners l v))

module _ (w₀ : List ℕ) (s p i : ℕ) (m : Mesh) (r : Rep w₀ s p m) (is : i < s) where
  pub lift_start : Lifting w₀ w₀ s p i 0 m.live
  unfolding stripped
  lift_start =
      record {
        under = under_refl w₀ (5 * s);
        notes = λ u h. record { same = refl; other = λ j q. absurd (omega (arith, q)) };
        rings = r.rings;
      }

  pub kind_most : get_or w₀ i 0 ≤ 4
  kind_most = go (lookup i m.live)
    where
      go : Lookup i m.live → get_or w₀ i 0 ≤ 4
      go (absent o) = omega (arith, r.dead i is o)
      go (present x e h) =
          let k : get_or w₀ x.slot 0 ≡ length (nodes x.cell) = (has_held w₀ s m.used (length m.points) h r.cells).at.kind in
          rw (← e, k) (node_count x.cell).1

  -- node k of the slot is a point
  pub node_known : (k : ℕ) → k < get_or w₀ i 0 → get_or w₀ (nodes_at s + 4 * i + k) 0 < p
  node_known k kn = go (lookup i m.live)
    where
      go : Lookup i m.live → get_or w₀ (nodes_at s + 4 * i + k) 0 < p
      go (absent o) = absurd (omega (arith, r.dead i is o))
      go (present x e h) =
          let d = has_held w₀ s m.used (length m.points) h r.cells in
          let ns = nodes x.cell in
          let q : get_or w₀ i 0 ≡ length ns = ap (λ (j : ℕ). get_or w₀ j 0) (sym e) ∙ d.at.kind in
          let z : get_or w₀ (nodes_at s + 4 * i + k) 0 ≡ get_or ns k 0 = ap (λ (j : ℕ). get_or w₀ (nodes_at s + 4 * j + k) 0) (sym e) ∙ d.at.node k (omega arith) in
          omega (arith, below_at (length m.points) ns k d.shape.known (omega arith), r.points)

  module _ (w : List ℕ) (k : ℕ) (f : Lifting w₀ w s p i k m.live) (kn : k < get_or w₀ i 0) where
    -- the node in place k, as the loop reads it
    pub lift_node : get_or w (nodes_at s + 4 * i + k) 0 ≡ get_or w₀ (nodes_at s + 4 * i + k) 0
    lift_node = f.under.low (nodes_at s + 4 * i + k) (omega (arith, kind_most))

    pub lift_can_forget : (a : ℕ) → a ≡ get_or w (nodes_at s + 4 * i + k) 0 → CanForget w s p a
    lift_can_forget a e =
        record { room = record { fits = omega (arith, f.under.len, r.room.fits); small = r.room.small }; node = omega (arith, lift_node, node_known k kn) }

    module _ (w1 : List ℕ) (a : ℕ) (ea : a ≡ get_or w (nodes_at s + 4 * i + k) 0) (g : Forgets w w1 s p a) where
      -- a note that is still there
      left : (u : ℕ) → 0 < note w1 s p u → Left w₀ w1 s p i (suc k) u
      left u h =
          let e : note w1 s p u ≡ note w s p u = forget_same w w1 s p a g u h in
          let n = f.notes u (omega arith) in
          record { same = e ∙ n.same; other = λ j q. other j q (decide j k) n }
        where
          other : (j : ℕ) → j < suc k → Same j k → Left w₀ w s p i k u → get_or w₀ (nodes_at s + 4 * i + j) 0 ≢ u
          other j q (same z) n y = forget_else w w1 s p a g u h (sym y ∙ ap (λ (x : ℕ). get_or w₀ (nodes_at s + 4 * i + x) 0) z ∙ sym lift_node ∙ sym ea)
          other j q (differ z) n y = n.other j (omega arith) y

      lift_rings : Family w1 (rings_at s) (codes s p) (4 * s) (λ v. stripped i k (corners m.live v))
      lift_rings =
          family_kept w w1 (rings_at s) (codes s p) (4 * s) (λ v. stripped i k (corners m.live v)) g.under.len (λ x h q. g.under.low x (omega arith)) f.rings

      pub lift_can : CanUnlink w1 (rings_at s) (codes s p) (4 * i + k)
      lift_can = go (lookup i m.live)
        where
          go : Lookup i m.live → CanUnlink w1 (rings_at s) (codes s p) (4 * i + k)
          go (absent o) = absurd (omega (arith, r.dead i is o))
          go (present x e h) =
              let d = has_held w₀ s m.used (length m.points) h r.cells in
              let q : get_or w₀ i 0 ≡ length (nodes x.cell) = ap (λ (j : ℕ). get_or w₀ j 0) (sym e) ∙ d.at.kind in
              let ns = nodes x.cell in
              let b = get_or ns k 0 in
              let bn : b < length m.points = below_at (length m.points) ns k d.shape.known (omega arith) in
              let z : 4 * x.slot + (0 + k) ≡ 4 * i + k = omega arith in
              can_unlink w1 (rings_at s) (codes s p) (4 * s) (λ v. stripped i k (corners m.live v)) lift_rings (4 * i + k) b (omega (arith, kind_most)) (omega (arith, r.points))
              (λ o. has_corner (4 * i + k) b h (λ y. corner_in (4 * x.slot) 0 ns k (omega arith) (rw z y))
              (out_stripped i k (4 * i + k) (corners m.live b) (λ j l. omega arith) o))

      pub lift_more : (w' : List ℕ) → UnlinkedFrom w1 w' (rings_at s) (codes s p) (4 * i + k) → Lifting w₀ w' s p i (k + 1) m.live
      unfolding stripped
      lift_more w' t =
          let e : k + 1 ≡ suc k = omega arith in
          let after : (u : ℕ) → note w' s p u ≡ note w1 s p u = λ u. t.kept.high (notes_at s p + u) (omega arith) in
          rw e (record {
            under = under_trans w₀ w w' (5 * s) f.under
                (under_trans w w1 w' (5 * s) (under_less w w1 (5 * s) (notes_at s p) (omega arith) g.under) (under_kept w1 w' (5 * s) (rings_at s) (codes s p) (omega arith) t.kept));
            notes = λ u h. let n = left u (rw (← after u) h) in record { same = after u ∙ n.same; other = n.other };
            rings = unlinked w1 (rings_at s) (codes s p) (4 * s) (λ v. stripped i k (corners m.live v)) lift_rings w' (4 * i + k) (omega (arith, kind_most)) t;
          })

  pub lift_done : (w : List ℕ) (n : ℕ) → Uneven w₀ s p → get_or w₀ i 0 ≡ n → Keeps w₀ w (fronts_at s p) → Lifting w₀ w s p i n m.live → Rep (set w i 0) s p (remove_cell m i)
  unfolding remove_cell with_live
  lift_done w n un z k f =
      let l = m.live in
      let w' = set w i 0 in
      let g : length w' ≡ length w = simp length-set in
      let e : Elsewhere w₀ w' s i = record {
        kinds = λ j h d. off w i 0 j d ∙ f.under.low j (omega arith);
        nodes = λ j x h d q. off w i 0 (nodes_at s + 4 * j + x) (omega arith) ∙ f.under.low (nodes_at s + 4 * j + x) (omega arith);
      } in
      record {
        room = record { fits = omega (arith, f.under.len, r.room.fits); small = r.room.small };
        used = r.used;
        points = r.points;
        distinct = rw (slots_without i l) (distinct_without i (slots l) r.distinct);
        cells = cells_else w₀ w' s m.used (length m.points) i (without_slot i l) r.used e (rw (slots_without i l) (out_self i (slots l)))
            (cells_without w₀ s m.used (length m.points) i l r.cells);
        rings = same_rings w' (rings_at s) (codes s p) (4 * s) (λ v. stripped i n (corners l v)) (corners (without_slot i l))
            (λ v. corners_stripped i n v l (omega (arith, kind_most)) (kinds_of w₀ s m.used (length m.points) i n l r.cells z))
            (family_kept w w' (rings_at s) (codes s p) (4 * s) (λ v. stripped i n (corners l v)) g (λ x h q. off w i 0 x (omega arith)) f.rings);
        dead = λ j js o. dead j js (decide j i) (rw (slots_without i l) at o) e;
        notes = λ u h. notes u h;
        even = λ h q. absurd (omega (arith, q, off w i 0 (even_at s p) (omega arith), k.high (even_at s p) (omega arith), un));
      }
    where
      notes : (u : ℕ) → u < p → NoteAt (set w i 0) s p (remove_cell m i) u
      notes u h =
          let w' = set w i 0 in
          let x : note w' s p u ≡ note w s p u = off w i 0 (notes_at s p + u) (omega arith) in
          note_turned w' s p u m (remove_cell m i) refl
          (λ q. remove_same m i u (without_of w₀ s m.used (length m.points) i n u m.live r.cells z (f.notes u (rw (← x) q)).other))
          (note_kept w₀ w' s p u m (keeps_trans w₀ w w' (fronts_at s p) k (keeps_set w (fronts_at s p) i 0 (omega arith))) (λ q. x ∙ (f.notes u (rw (← x) q)).same) (r.notes u h))

      dead : (j : ℕ) → j < s → Same j i → Out j (without i (slots m.live)) → Elsewhere w₀ (set w i 0) s i → get_or (set w i 0) j 0 ≡ 0
      dead j js (same q) o e = rw q (on w i 0 (omega (arith, f.under.len, r.room.fits)))
      dead j js (differ q) o e = e.kinds j js q ∙ r.dead j js (out_before i j (slots m.live) q o)

-- slot i holds nothing any more
pub fresh_after : (m : Mesh) (i : ℕ) → Out i (slots (remove_cell m i).live)
unfolding remove_cell with_live
fresh_after m i = rw (slots_without i m.live) (out_self i (slots m.live))

-- ---- a cell replaced

module _ (s i : ℕ) (m : Mesh) (t : Cell) where
  pub set_put : m.used ≤ s → CanSet m i t → CanPut (remove_cell m i) s i m.used t
  unfolding remove_cell with_live
  set_put u o = record { out = fresh_after m i; given = o.given; more = omega arith; fits = u; shape = o.shape }

  pub set_is : (w : List ℕ) (p : ℕ) → Rep w s p (put (remove_cell m i) i m.used t) → Rep w s p (set_cell m i t)
  unfolding set_cell remove_cell with_live
  set_is w p r = r
