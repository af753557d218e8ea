-- What is said of the mesh's part of the memory stays where only the rest changes.
use mathlib.Core.Path.{◌≡◌, refl, ap, sym, ◌∙◌, subst}
use mathlib.Core.Logic.{◌≢◌}
use mathlib.Core.Bool.{Bool, true, false, cond}
use mathlib.Core.List.{List, [], ◌∷◌}
use Prim.Native.Nat.{ℕ, zero, suc, ◌+◌, ◌*◌, ◌≤◌, ◌<◌}
use native.Mathlib.Omega.{arith}
use lib.Dec.{eqb, ltb}
use lib.ListN.{length, get_or, set}
use borrow.Author.Tests.{eqb-true, ltb-true}
use Rattle.rings.specs.Rings.{nx, Below, Out, Distinct, Kept, Family}
use Rattle.rings.proofs.Families.{family_kept}
use Rattle.definition.specs.Lists.{filter}
use Rattle.definition.specs.Cells.{Cell, Live, Mesh, key, owns, owners, tris_of}
use Rattle.definition.specs.Components.{odd_one}
use Rattle.laws.specs.Frames.{on, Under, Keeps, under_less, under_set}
use Rattle.cells.specs.Layout.{nodes_at, rings_at, codes, notes_at, even_at, mesh_end}
use Rattle.cells.specs.Rep.{CellAt, Held, Cells, corners, Room, NoneOdd, Rep, slots}
use Rattle.cells.specs.Walk.{From, Pos, Sought, nobody, somebody, At, steps, left}
use Rattle.cells.proofs.Notes.{note_spared, Grown, note_mesh}
use Rattle.cells.proofs.Corners.{corners_below, node_count, cells_weaken}

-- ---- the words below an offset

pub under_kept : (w w' : List ℕ) (a b n : ℕ) → a ≤ b → Kept w w' b n → Under w w' a
under_kept w w' a b n h k = record { len = k.len; low = λ j l. k.low j (omega arith) }

-- ---- the words from an offset on

pub keeps_kept : (w w' : List ℕ) (b n e : ℕ) → b + n + n ≤ e → Kept w w' b n → Keeps w w' e
keeps_kept w w' b n e h k = record { len = k.len; high = λ j l. k.high j (omega arith) }

-- ---- cells

pub cell_under : (w w' : List ℕ) (s i : ℕ) (t : Cell) → i < s → Under w w' (5 * s) → CellAt w s i t → CellAt w' s i t
cell_under w w' s i t h k r =
    record {
      kind = k.low i (omega arith) ∙ r.kind;
      node = λ j l. k.low (nodes_at s + 4 * i + j) (omega (arith, node_count t)) ∙ r.node j l;
    }

pub cells_under : (w w' : List ℕ) (s k n : ℕ) (l : List Live) → k ≤ s → Under w w' (5 * s) → Cells w s k n l → Cells w' s k n l
cells_under w w' s k n [] g u h = tt
cells_under w w' s k n (x ∷ l) g u h = (
  record { inside = h.0.inside; shape = h.0.shape; at = cell_under w w' s x.slot x.cell (omega (arith, h.0.inside)) u h.0.at },
  cells_under w w' s k n l g u h.1,
)

-- only slot i's kind and nodes changed
pub record Elsewhere (w w' : List ℕ) (s i : ℕ) : Type 0 where
  pub kinds : (j : ℕ) → j < s → j ≢ i → get_or w' j 0 ≡ get_or w j 0
  pub nodes : (j k : ℕ) → j < s → j ≢ i → k < 4 → get_or w' (nodes_at s + 4 * j + k) 0 ≡ get_or w (nodes_at s + 4 * j + k) 0

pub else_under : (w w1 w2 : List ℕ) (s i : ℕ) → Elsewhere w w1 s i → Under w1 w2 (5 * s) → Elsewhere w w2 s i
else_under w w1 w2 s i a k =
    record {
      kinds = λ j h d. k.low j (omega arith) ∙ a.kinds j h d;
      nodes = λ j x h d l. k.low (nodes_at s + 4 * j + x) (omega arith) ∙ a.nodes j x h d l;
    }

cell_else : (w w' : List ℕ) (s i j : ℕ) (t : Cell) → j < s → j ≢ i → Elsewhere w w' s i → CellAt w s j t → CellAt w' s j t
cell_else w w' s i j t h d k r =
    record { kind = k.kinds j h d ∙ r.kind; node = λ x l. k.nodes j x h d (omega (arith, node_count t)) ∙ r.node x l }

pub cells_else : (w w' : List ℕ) (s k n i : ℕ) (l : List Live) → k ≤ s → Elsewhere w w' s i → Out i (slots l) → Cells w s k n l → Cells w' s k n l
cells_else w w' s k n i [] g u o h = tt
cells_else w w' s k n i (x ∷ l) g u o h = (
  record { inside = h.0.inside; shape = h.0.shape; at = cell_else w w' s i x.slot x.cell (omega (arith, h.0.inside)) o.0 u h.0.at },
  cells_else w w' s k n i l g u o.1 h.1,
)

-- ---- the mesh

module _ (w w' : List ℕ) (s p : ℕ) (k : Under w w' (mesh_end s p)) where
  pub room_under : Room w s p → Room w' s p
  room_under r = record { fits = omega (arith, k.len, r.fits); small = r.small }

  -- the memory stands for the same mesh
  pub rep_under : (m : Mesh) → Rep w s p m → Rep w' s p m
  rep_under m r =
      record {
        room = room_under r.room;
        used = r.used;
        points = r.points;
        distinct = r.distinct;
        cells = cells_under w w' s m.used (length m.points) m.live r.used (under_less w w' (5 * s) (mesh_end s p) (omega arith) k) r.cells;
        rings = family_kept w w' (rings_at s) (codes s p) (4 * s) (corners m.live) k.len (λ i a b. k.low i (omega arith)) r.rings;
        dead = λ i h o. k.low i (omega arith) ∙ r.dead i h o;
        notes = λ u h. note_spared w w' s p u (record { same = k.low (notes_at s p + u) (omega arith); more = λ us i a b. k.low i (omega arith) }) m (r.notes u h);
        even = λ h q. r.even h (sym (k.low (even_at s p) (omega arith)) ∙ q);
      }

  held_under : (x : Live) → Held w s s p x → Held w' s s p x
  held_under x h =
      record { inside = h.inside; shape = h.shape; at = cell_under w w' s x.slot x.cell h.inside (under_less w w' (5 * s) (mesh_end s p) (omega arith) k) h.at }

  next_kept : (i : ℕ) → i < codes s p → nx w' (rings_at s) i ≡ nx w (rings_at s) i
  next_kept i h = k.low (rings_at s + i) (omega arith)

  from_kept : (l : List ℕ) (c z : ℕ) → Below (4 * s) l → From (nx w (rings_at s)) c l z → From (nx w' (rings_at s)) c l z
  from_kept [] c z b h = h
  from_kept (x ∷ l) c z b h =
      (h.0, subst (λ (y : ℕ). From (nx w' (rings_at s)) y l z) (sym (next_kept x (omega (arith, b.0)))) (from_kept l (nx w (rings_at s) x) z b.1 h.1))

  pub pos_under : (u c : ℕ) (l : List Live) → Pos w s p u c l → Pos w' s p u c l
  pos_under u c l h =
      record {
        room = room_under h.room;
        node = h.node;
        cells = cells_under w w' s s p l (omega arith) (under_less w w' (5 * s) (mesh_end s p) (omega arith) k) h.cells;
        from = from_kept (corners l u) c (4 * s + u) (corners_below w s s p u l (omega arith) h.cells) h.from;
        few = h.few;
      }

  steps_kept : (n c : ℕ) → steps n w' s c ≡ steps n w s c
  unfolding steps
  steps_kept zero c = refl
  steps_kept (suc n) c = go (ltb c (4 * s)) refl (steps_kept n)
    where
      go : (b : Bool) → ltb c (4 * s) ≡ b → ((x : ℕ) → steps n w' s x ≡ steps n w s x)
          → cond b (suc (steps n w' s (nx w' (rings_at s) c))) 0 ≡ cond b (suc (steps n w s (nx w (rings_at s) c))) 0
      go true e r =
          let h : c < 4 * s = ltb-true c (4 * s) e in
          ap suc (ap (λ (y : ℕ). steps n w' s y) (next_kept c (omega arith)) ∙ r (nx w (rings_at s) c))
      go false e r = refl

  -- a walk over owners goes on, with the same measure
  pub left_under : (c : ℕ) → left w' s p c ≡ left w s p c
  left_under c = steps_kept (codes s p) c

  sought_under : (u v c : ℕ) (l : List Live) → Sought w s p u v c l → Sought w' s p u v c l
  sought_under u v c l (nobody e r) = nobody e r
  sought_under u v c l (somebody x m o d b h n t z) =
      somebody x m o d b (held_under x h) (subst (λ (y : ℕ). Pos w' s p u y m) (sym (next_kept c (omega arith))) (pos_under u (nx w (rings_at s) c) m n)) (left_under c ∙ t) z

  pub at_under : (u v c : ℕ) (xs : List Live) → At w s p u v c xs → At w' s p u v c xs
  at_under u v c xs a = record { rest = a.rest; sought = sought_under u v c a.rest a.sought; are = a.are }

-- it does where only the note of the components changed, and that is true
pub rep_even : (w : List ℕ) (s p v : ℕ) (m : Mesh) → 1 ≤ s → (v ≡ 1 → NoneOdd m) → Rep w s p m → Rep (set w (even_at s p) v) s p m
rep_even w s p v m h n r =
    let w' = set w (even_at s p) v in
    let u : Under w w' (even_at s p) = under_set w (even_at s p) (even_at s p) v (omega arith) in
    record {
      room = record { fits = omega (arith, u.len, r.room.fits); small = r.room.small };
      used = r.used;
      points = r.points;
      distinct = r.distinct;
      cells = cells_under w w' s m.used (length m.points) m.live r.used (under_less w w' (5 * s) (even_at s p) (omega arith) u) r.cells;
      rings = family_kept w w' (rings_at s) (codes s p) (4 * s) (corners m.live) u.len (λ i a b. u.low i (omega arith)) r.rings;
      dead = λ i l o. u.low i (omega arith) ∙ r.dead i l o;
      notes = λ x l. note_spared w w' s p x (record { same = u.low (notes_at s p + x) (omega arith); more = λ us i a b. u.low i b }) m (r.notes x l);
      even = λ l q. n (sym (on w (even_at s p) v (omega (arith, r.room.fits, h))) ∙ q);
    }

-- where the note says so, none is odd
pub even_noted : (w : List ℕ) (s p : ℕ) (m : Mesh) (r : Bool) → 1 ≤ s → r ≡ eqb (get_or w (even_at s p) 0) 1 → r ≡ true → Rep w s p m → NoneOdd m
even_noted w s p m r h e t rep = rep.even h (eqb-true (get_or w (even_at s p) 0) 1 (sym e ∙ t))

-- the memory stands for another mesh with the same live cells, the same points and maybe more,
-- and as many slots given out or more
pub rep_as : (w : List ℕ) (s p : ℕ) (m m' : Mesh) → Rep w s p m → m.used ≤ m'.used → m'.used ≤ s → Grown m m' → length m'.points ≤ p → m.live ≡ m'.live → Rep w s p m'
unfolding owners
rep_as w s p m m' r a b c d e =
    record {
      room = r.room;
      used = b;
      points = d;
      distinct = subst (λ (l : List Live). Distinct (slots l)) e r.distinct;
      cells = subst (λ (l : List Live). Cells w s m'.used (length m'.points) l) e (cells_weaken w s m.used m'.used (length m.points) (length m'.points) m.live a c.more r.cells);
      rings = subst (λ (l : List Live). Family w (rings_at s) (codes s p) (4 * s) (corners l)) e r.rings;
      dead = λ i h o. r.dead i h (subst (λ (l : List Live). Out i (slots l)) (sym e) o);
      notes = λ u h. note_mesh m m' u (λ v q. ap (filter (owns (key u v))) (sym e)) c w s p (r.notes u h);
      even = λ h q. subst (λ (l : List Live). odd_one (tris_of l) ≡ false) e (r.even h q);
    }
