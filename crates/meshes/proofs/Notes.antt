-- A node's edges have the same owners where a cell without the node comes or goes.
use Rattle.std.specs.Prelude.{◌≡◌, ◌≢◌, ◌+◌, ◌*◌, ◌<◌, ◌≤◌, ◌∷◌, ◌++◌}
use Rattle.laws.specs.Kit.{refl, sym, ◌∙◌, ap, Bool, false, ℕ, suc, arith, eq-eqb, ne_eqb, List, [], length, get_or, set}
use mathlib.Core.Bool.{and-false, or-false}
use Rattle.rings.specs.Rings.{Out}
use Rattle.rings.proofs.Lists.{Same, same, differ, decide}
use Rattle.definition.specs.Lists.{filter}
use Rattle.definition.specs.Cells.{Cell, tri, quad, Live, Mesh, nodes, tri_nodes, quad_nodes, key, tri_has, has_side, owns, owners, in_slot, new_live, with_live, remove_cell, without as without_slot}
use Rattle.laws.specs.Frames.{on, off, Keeps, under_set, keeps_set}
use Rattle.cells.specs.Layout.{nodes_at, notes_at, fronts_at}
use Rattle.cells.specs.Notes.{note, NoteAt}
use Rattle.cells.specs.Rep.{Cells}
use Rattle.cells.proofs.Edges.{tri_side, quad_side}
use Rattle.cells.proofs.Notes.{note_spared, note_none, SameAt, grown_same, note_mesh}
use Rattle.meshes.specs.Changes.{put, Forgets}

-- ---- owners

-- a cell without the node u has no edge at u
pub side_out : (u v : ℕ) (t : Cell) → Out u (nodes t) → has_side (key u v) t ≡ false
unfolding nodes tri_nodes quad_nodes tri_has
side_out u v (tri t) o = rw (tri_side t u v, ne_eqb t.n0 u o.0, ne_eqb t.n1 u o.1.0, ne_eqb t.n2 u o.1.1.0)
side_out u v (quad q) o =
    rw (quad_side q u v, ne_eqb q.n0 u o.0, ne_eqb q.n1 u o.1.0, ne_eqb q.n2 u o.1.1.0, ne_eqb q.n3 u o.1.1.1.0) (simp (and-false, or-false))

filter_last : (f : Live → Bool) (l : List Live) (x : Live) → f x ≡ false → filter f (l ++ x ∷ []) ≡ filter f l
unfolding filter
filter_last f [] x e = rw e
filter_last f (y ∷ l) x e = rw (filter_last f l x e)

pub put_same : (m : Mesh) (i n : ℕ) (t : Cell) (u : ℕ) → Out u (nodes t) → SameAt m (put m i n t) u
unfolding owners with_live new_live owns
put_same m i n t u o v d = filter_last (owns (key u v)) m.live (new_live i t) (side_out u v t o)

-- the cell in slot i, if there is one, has not the node u
abbrev pub Without : ℕ → ℕ → List Live → Type 0
Without i u [] = Unit {0}
Without i u (x ∷ l) = (x.slot ≡ i → Out u (nodes x.cell)) × Without i u l

filter_without : (i u v : ℕ) (l : List Live) → Without i u l → filter (owns (key u v)) (without_slot i l) ≡ filter (owns (key u v)) l
unfolding filter without_slot in_slot owns
filter_without i u v [] o = refl
filter_without i u v (x ∷ l) o = go (decide i x.slot) (filter_without i u v l o.1)
  where
    go : Same i x.slot → filter (owns (key u v)) (without_slot i l) ≡ filter (owns (key u v)) l → filter (owns (key u v)) (without_slot i (x ∷ l)) ≡ filter (owns (key u v)) (x ∷ l)
    go (same e) r = rw (eq-eqb i x.slot e, side_out u v x.cell (o.0 (sym e))) r
    go (differ e) r = rw (ne_eqb i x.slot e, r)

pub remove_same : (m : Mesh) (i u : ℕ) → Without i u m.live → SameAt m (remove_cell m i) u
unfolding owners remove_cell with_live
remove_same m i u o v d = filter_without i u v m.live o

-- ---- nodes in the memory

out_all : (u : ℕ) (l : List ℕ) → ((j : ℕ) → j < length l → get_or l j 0 ≢ u) → Out u l
out_all u [] h = tt
out_all u (x ∷ l) h = (h 0 (omega arith), out_all u l (λ j q. h (suc j) (omega arith)))

-- none of the n nodes of slot i is u
pub without_of : (w : List ℕ) (s k m i n u : ℕ) (l : List Live) → Cells w s k m l → get_or w i 0 ≡ n → ((j : ℕ) → j < n → get_or w (nodes_at s + 4 * i + j) 0 ≢ u) → Without i u l
without_of w s k m i n u [] h e f = tt
without_of w s k m i n u (x ∷ l) h e f = (mine, without_of w s k m i n u l h.1 e f)
  where
    mine : x.slot ≡ i → Out u (nodes x.cell)
    mine q =
        let z : length (nodes x.cell) ≡ n = sym h.0.at.kind ∙ ap (λ (j : ℕ). get_or w j 0) q ∙ e in
        out_all u (nodes x.cell) (λ j g y. f j (omega arith) (ap (λ (b : ℕ). get_or w (nodes_at s + 4 * b + j) 0) (sym q) ∙ h.0.at.node j g ∙ y))

-- ---- what is noted

pub data Known (w : List ℕ) (s p u : ℕ) : Type 0 where
  nothing : note w s p u ≡ 0 → Known w s p u
  something : 0 < note w s p u → Known w s p u

pub known : (w : List ℕ) (s p u : ℕ) → Known w s p u
known w s p u = go (decide (note w s p u) 0)
  where
    go : Same (note w s p u) 0 → Known w s p u
    go (same e) = nothing e
    go (differ e) = something (omega arith)

-- a note of which the words are the same, or that is 0 now
pub note_kept : (w w' : List ℕ) (s p u : ℕ) (m : Mesh) → Keeps w w' (fronts_at s p) → (0 < note w' s p u → note w' s p u ≡ note w s p u) → NoteAt w s p m u → NoteAt w' s p m u
note_kept w w' s p u m k e n = go (known w' s p u)
  where
    go : Known w' s p u → NoteAt w' s p m u
    go (nothing z) = note_none w' s p m u z
    go (something z) = note_spared w w' s p u (record { same = e z; more = λ us i a b. k.high i a }) m n

-- a note is true of the changed mesh if it is 0 or the node's edges have the same owners
pub note_turned : (w : List ℕ) (s p u : ℕ) (m m' : Mesh) → m'.points ≡ m.points → (0 < note w s p u → SameAt m m' u) → NoteAt w s p m u → NoteAt w s p m' u
note_turned w s p u m m' e o n = go (known w s p u)
  where
    go : Known w s p u → NoteAt w s p m' u
    go (nothing z) = note_none w s p m' u z
    go (something z) = note_mesh m m' u (o z) (grown_same m m' e) w s p n

-- ---- a note is forgotten

pub forget_done : (w : List ℕ) (s p a b : ℕ) → b ≡ notes_at s p → 64 * s + 8 * p ≤ length w → a < p → Forgets w (set w (b + a) 0) s p a
forget_done w s p a b e f h =
    record {
      none = rw e (on w (notes_at s p + a) 0 (omega arith));
      other = λ u d. off w (b + a) 0 (notes_at s p + u) (omega arith);
      under = under_set w (notes_at s p) (b + a) 0 (omega arith);
      keeps = keeps_set w (fronts_at s p) (b + a) 0 (omega arith);
    }

module _ (w w' : List ℕ) (s p a : ℕ) (f : Forgets w w' s p a) (u : ℕ) (h : 0 < note w' s p u) where
  -- a node with a note is another one
  pub forget_else : u ≢ a
  forget_else e = let z : note w' s p u ≡ 0 = rw e f.none in omega arith

  pub forget_same : note w' s p u ≡ note w s p u
  forget_same = f.other u forget_else
