-- Joints: no flip in the history of a run is of a locked edge, whatever ended the run.
use Rattle.std.specs.Prelude.{◌≡◌, ◌+◌, ◌∷◌, ◌++◌}
use Rattle.laws.specs.Kit.{refl, sym, ◌∙◌, ap, subst, Bool, false, none, some, ℕ, List, [], length}
use Rattle.definition.specs.Lists.{find}
use Rattle.definition.specs.Numbers.{Settings}
use Rattle.definition.specs.Plane.{Node, Edge}
use Rattle.definition.specs.Cells.{Tri, Quad, Live, Event, was_split, was_flipped, was_placed, Mesh, is_locked, with_live, noting, set_cell, push_cell, remove_cells}
use Rattle.definition.specs.Trace.{words_in, traced}
use Rattle.definition.specs.Flips.{set_tris, flip}
use Rattle.definition.specs.Insertion.{with_point, split_triangle}
use Rattle.definition.specs.Attempt.{replaced}
use Rattle.definition.specs.Front.{State, Progress, stuck, progressed, limited, stopped, counting, front_loop, Outcome, ran, wanting, new_mesh, start, result, outcome, run_front}
use Rattle.definition.specs.Call.{Asked, Lent, given_points, given_tris, given_locks, onto, conditions, settings_within, written, after_run, call_within}
use Rattle.definition.specs.Account.{All}
use Rattle.laws.specs.Lists.{all_append}
use Rattle.account.proofs.Flips.{flip_free, flip_made}
use Rattle.account.proofs.Locks.{flip_locked}
use Rattle.account.specs.Start.{Proper}
use Rattle.account.proofs.Start.{start_valid}
use Rattle.account.specs.Run.{Rule, ProgressOk}
use Rattle.account.proofs.Run.{front_loop_ok}
use Rattle.account.proofs.Finished.{given_proper}
use Rattle.consequences.specs.NeverFlipped.{at_end, entries}
use Rattle.consequences.specs.NeverFlipped.{Free}

module _ (lk : Edge → Bool) where
  -- lk tells which edges of the mesh are locked, and none of them was flipped
  pub record Unflipped (room : ℕ) (m : Mesh) : Type 0 where
    pub locked : m.locked ≡ lk
    pub room_kept : m.room ≡ room
    pub free : All (Free lk) m.history

  module _ (room : ℕ) where
    -- one event more
    further : (m m' : Mesh) (v : Event) → Unflipped room m → m'.locked ≡ m.locked → m'.room ≡ m.room → m'.history ≡ m.history ++ (v ∷ []) → (Free lk) v → Unflipped room m'
    further m m' v h a r b f = record {
      locked = a ∙ h.locked;
      room_kept = r ∙ h.room_kept;
      free = subst (λ vs. All (Free lk) vs) (sym b) (all_append (Free lk) m.history (v ∷ []) h.free (f, tt));
    }

    flipped : (m m' : Mesh) (e : Edge) → Unflipped room m → flip m e ≡ some m' → Unflipped room m'
    unfolding set_tris set_cell with_live noting is_locked
    flipped m m' e h f =
        let w = (flip_made m e m' f).after in
        further m m' (was_flipped e) h (flip_locked m e m' f) (ap (λ n. n.room) w) (ap (λ n. n.history) w) (ap (λ k. k e) (sym h.locked) ∙ flip_free m e m' f)

    split_once : (m : Mesh) (id : ℕ) (t : Tri) (p : Node) → Unflipped room m → Unflipped room (split_triangle m id t p)
    unfolding split_triangle push_cell set_cell with_live with_point noting
    split_once m id t p h = further m (split_triangle m id t p) (was_split id p) h refl refl refl tt

    placed_once : (m : Mesh) (q : Quad) (cells : List Live) → Unflipped room m → Unflipped room (replaced m q cells)
    unfolding replaced push_cell remove_cells with_live noting
    placed_once m q cells h = further m (replaced m q cells) _ h refl refl refl tt

    unflipped_rule : (s : Settings) → Rule s (λ st es. Unflipped room st.mesh) (λ st es n m. Unflipped room m) (λ st. Unflipped room st.mesh)
    unfolding counting
    unflipped_rule s = record {
      opens = λ st es ok h f. h;
      begins = λ st es h. h;
      flips = λ st es n m m' e ok h i f. flipped m m' e h f;
      splits = λ st es n m x t p ok h w. split_once m x.slot t p h;
      refuses = λ st e es why n m h ok w. w;
      places = λ st e es n m q h w. subst (λ z. Unflipped room z) (sym w.after) (placed_once w.mesh q w.cells w.before.1);
      ends = λ st e es n m h ok w. w;
      limits = λ st es h. h;
      empties = λ st h. h;
    }

-- they are those of what happened up to the end
pub entries_are : (p : Progress) → entries (outcome p) ≡ traced (at_end p).mesh
unfolding entries outcome at_end result
entries_are (stuck st) = refl
entries_are (progressed st) = refl
entries_are (limited st) = refl
entries_are (stopped w st) = refl

module _ (s : Settings) (lk : Edge → Bool) (ts : List Tri) (ps : List Node) (proper : Proper ps ts) where
  -- the rounds of the run
  abbrev rounds : Progress
  rounds = front_loop (s.attempts + 2) s (length ts) (start s lk ts ps)

  in_the_end : (p : Progress) → ProgressOk (λ st es. Unflipped lk s.room st.mesh) (λ st. Unflipped lk s.room st.mesh) [] p → Unflipped lk s.room (at_end p).mesh
  unfolding at_end
  in_the_end (stuck st) h = h.1
  in_the_end (progressed st) h = h.1
  in_the_end (limited st) h = h.1
  in_the_end (stopped w st) h = h.1

  unflipped : Unflipped lk s.room (at_end rounds).mesh
  unfolding start new_mesh
  unflipped = in_the_end rounds (front_loop_ok s _ _ _ (unflipped_rule lk s.room s) (s.attempts + 2) (length ts) (start s lk ts ps)
      (start_valid s lk ts ps proper, record { locked = refl; room_kept = refl; free = tt }))

  -- No flip in the history of a run is of a locked edge: of one that finished,
  -- that a limit ended, or that 8, 9 or 11 ended.
  pub never_flipped : All (Free lk) (at_end rounds).mesh.history
  never_flipped = unflipped.free

  -- the words that it leaves are those of such a history
  pub no_locked_entry : (vs : List Event) × (entries (run_front s lk ts ps) ≡ words_in s.room vs) × All (Free lk) vs
  unfolding run_front traced
  no_locked_entry = ((at_end rounds).mesh.history, entries_are rounds ∙ ap (λ n. words_in n (at_end rounds).mesh.history) unflipped.room_kept, never_flipped)

-- ---- a call
-- The trace that a call leaves, where one is lent, has the entries of a history without a flip of a joint.
pub no_joint_flipped : (most : ℕ) (a : Asked) (l : Lent) → find (λ c. c.1) (conditions a l) ≡ none
    → (vs : List Event) × ((call_within most a l).lent.trace ≡ onto (words_in (length l.trace) vs) l.trace) × All (Free (given_locks a l)) vs
unfolding call_within settings_within after_run written entries
no_joint_flipped most a l f =
    let s = settings_within most (length l.trace) a in
    let w = no_locked_entry s (given_locks a l) (given_tris a l) (given_points a l) (given_proper a l f) in
    (w.0, rw (f, call_within) (traced_by (run_front s (given_locks a l) (given_tris a l) (given_points a l)) ∙ ap (λ ws. onto ws l.trace) w.1), w.2)
  where
    traced_by : (o : Outcome) → (after_run l o).lent.trace ≡ onto (entries o) l.trace
    traced_by (ran r) = refl
    traced_by (wanting v ps qs ws) = refl
