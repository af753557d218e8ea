-- The memory stands for the same mesh where only notes changed and are true.
use Rattle.std.specs.Prelude.{◌≡◌, ◌≢◌, ◌+◌, ◌*◌, ◌<◌}
use Rattle.laws.specs.Kit.{sym, ◌∙◌, subst, ℕ, arith, List, length, get_or}
use Rattle.rings.proofs.Lists.{Same, same, differ, decide}
use Rattle.rings.proofs.Families.{family_kept}
use Rattle.definition.specs.Cells.{Mesh}
use Rattle.laws.specs.Frames.{Under, under_less}
use Rattle.cells.proofs.Notes.{note_same}
use Rattle.cells.specs.Layout.{rings_at, codes, notes_at, fronts_at, boxes_at, even_at}
use Rattle.cells.specs.Rep.{corners, Rep}
use Rattle.cells.specs.Notes.{NoteAt}
use Rattle.cells.proofs.Frames.{cells_under}
use Rattle.front_edges.specs.Noting.{SameNote}

-- ---- the same words

module _ (w w' : List ℕ) (s p u : ℕ) (k : SameNote w w' s p u) where
  -- a note whose words are the same is true as before
  pub note_alike : (m : Mesh) → NoteAt w s p m u → NoteAt w' s p m u
  note_alike m n =
      note_same w w' s p u k.word (λ us. k.fronts us (fronts_at s p + 2 * u) (omega arith) (omega arith)) (λ us. k.fronts us (fronts_at s p + 2 * u + 1) (omega arith) (omega arith))
      (λ us j l. k.boxes us (boxes_at s p + 4 * u + j) (omega arith) (omega arith)) m n

-- ---- the mesh

module _ (w w' : List ℕ) (s p : ℕ) (m : Mesh) (r : Rep w s p m) (k : Under w w' (notes_at s p)) (v : get_or w' (even_at s p) 0 ≡ get_or w (even_at s p) 0) where
  -- the notes of the new memory are true
  pub rep_notes : ((u : ℕ) → u < p → NoteAt w' s p m u) → Rep w' s p m
  rep_notes n =
      record {
        room = record { fits = omega (arith, k.len, r.room.fits); small = r.room.small };
        used = r.used;
        points = r.points;
        distinct = r.distinct;
        cells = cells_under w w' s m.used (length m.points) m.live r.used (under_less w w' (5 * s) (notes_at s p) (omega arith) k) r.cells;
        rings = family_kept w w' (rings_at s) (codes s p) (4 * s) (corners m.live) k.len (λ i a b. k.low i (omega arith)) r.rings;
        dead = λ i h o. k.low i (omega arith) ∙ r.dead i h o;
        notes = n;
        even = λ h q. r.even h (sym v ∙ q);
      }

  -- one note is another and true, and the words of the others are the same
  pub rep_noted : (u : ℕ) → ((v : ℕ) → v < p → v ≢ u → SameNote w w' s p v) → NoteAt w' s p m u → Rep w' s p m
  rep_noted u o n = rep_notes (λ v h. go v h (decide v u))
    where
      go : (v : ℕ) → v < p → Same v u → NoteAt w' s p m v
      go v h (same e) = subst (λ (x : ℕ). NoteAt w' s p m x) (sym e) n
      go v h (differ d) = note_alike w w' s p v (o v h d) m (r.notes v h)
