-- A refusal of a replay has a number: it is not 0, which says that the whole trace was replayed.
use mathlib.Core.Path.{◌≡◌, refl, sym, ap, ◌∙◌}
use mathlib.Core.Bool.{Bool, true, false, ◌&&◌, cond}
use mathlib.Core.List.{List, [], ◌∷◌}
use mathlib.Core.Option.{Option, none, some}
use Prim.{absurd, Unit, tt}
use Prim.Native.Nat.{ℕ, zero, suc, ◌+◌, ◌<◌}
use native.Mathlib.Omega.{arith}
use lib.Dec.{ltb}
use lib.ListN.{length, take}
use Rattle.definition.specs.Lists.{all, find}
use Rattle.definition.specs.Numbers.{Settings}
use Rattle.definition.specs.Counts.{Want, of_points, of_slots, of_trace, number}
use Rattle.definition.specs.Plane.{Node}
use Rattle.definition.specs.Cells.{Live, Event, was_split, was_flipped, was_placed, Mesh, quad_nodes, cell_of}
use Rattle.definition.specs.Flips.{flip}
use Rattle.definition.specs.Insertion.{Inserted, nowhere, inserted, full, holds, split}
use Rattle.definition.specs.Attempt.{replaced}
use Rattle.definition.specs.Front.{new_mesh}
use Rattle.definition.specs.Call.{Lent, given_points, given_tris, settings}
use Rattle.definition.specs.Replay.{Read, read_entry, cells_in, triangles_in, all_different, Redone, redone, balked, redo_inserted, redo_split, redo_flipped, redo, Replayed, whole, broken, replay_in, replay_words, unsound, Told, as_asked, unplayed, ReplayReturned, replay_conditions, after_replay, replay}

-- ---- of an entry

want_numbered : (w : Want) → 0 < number w
unfolding number
want_numbered of_points = omega arith
want_numbered of_slots = omega arith
want_numbered of_trace = omega arith

record Sound (x : Redone) : Type 0 where
  numbered : (k : ℕ) → x ≡ balked k → 0 < k

fine : (m : Mesh) → Sound (redone m)
fine m = record { numbered = λ k e. absurd (let z : ◌≡◌ {A = ℕ} 0 1 = cc in omega arith) }

refused : (n : ℕ) → 0 < n → Sound (balked n)
refused n h = record { numbered = λ k e. let f : n ≡ k = cc in omega (arith, h, f) }

never : Sound (balked unsound)
unfolding unsound
never = refused 12 (omega arith)

either : (b : Bool) {x y : Redone} → Sound x → Sound y → Sound (cond b x y)
either true h k = h
either false h k = k

inserted_sound : (o : Inserted) → Sound (redo_inserted o)
unfolding redo_inserted
inserted_sound nowhere = never
inserted_sound (inserted v m) = fine m
inserted_sound (full w) = refused (number w) (want_numbered w)

split_sound : (s : Settings) (m : Mesh) (p : Node) (o : Option Live) → Sound (redo_split s m p o)
unfolding redo_split
split_sound s m p none = never
split_sound s m p (some x) = either (holds m p x.cell) (inserted_sound (split s m p x.slot x.cell)) never

flipped_sound : (o : Option Mesh) → Sound (redo_flipped o)
unfolding redo_flipped
flipped_sound none = never
flipped_sound (some m) = fine m

redo_sound : (s : Settings) (m : Mesh) (v : Event) → Sound (redo s m v)
unfolding redo
redo_sound s m (was_split id p) = split_sound s m p (cell_of m id)
redo_sound s m (was_flipped e) = either (ltb e.0 e.1 && ltb e.1 (length m.points)) (flipped_sound (flip m e)) never
redo_sound s m (was_placed q ids) =
    let go = either (ltb s.slots (m.used + 1)) (refused (number of_slots) (want_numbered of_slots)) (fine (replaced m q (cells_in m ids))) in
    either (all (λ v. ltb v (length m.points)) (quad_nodes q) && (triangles_in m ids && all_different ids)) go never

-- ---- of the whole trace

abbrev Numbered : Replayed → Type 0
Numbered (whole m) = Unit
Numbered (broken k m) = 0 < k

module _ (s : Settings) (m : Mesh) (go : Mesh → List ℕ → Replayed) (next : (k : Mesh) (ws : List ℕ) → Numbered (go k ws)) where
  done_numbered : (r : Redone) (ws : List ℕ) → Sound r → Numbered (elim r [ redone m' ↦ go m' ws | balked k ↦ broken k m ])
  done_numbered (redone m') ws h = next m' ws
  done_numbered (balked k) ws h = h.numbered k refl

  entry_numbered : (o : Option Read) → Numbered (elim o [ none ↦ broken unsound m | some r ↦ elim (redo s m r.event) [ redone m' ↦ go m' r.rest | balked k ↦ broken k m ] ])
  unfolding unsound
  entry_numbered none = omega arith
  entry_numbered (some r) = done_numbered (redo s m r.event) r.rest (redo_sound s m r.event)

in_numbered : (n : ℕ) (s : Settings) (m : Mesh) (ws : List ℕ) → Numbered (replay_in n s m ws)
unfolding replay_in
in_numbered zero s m ws = tt
in_numbered (suc n) s m [] = tt
in_numbered (suc n) s m (w ∷ ws) = entry_numbered s m (λ k us. replay_in n s k us) (λ k us. in_numbered n s k us) (read_entry (w ∷ ws))

answer_numbered : (l : Lent) (r : Replayed) → Numbered r → (k : ℕ) → (after_replay l r).answer ≡ unplayed k → 0 < k
unfolding after_replay
answer_numbered l (whole m) h k e = absurd (let z : ◌≡◌ {A = ℕ} 0 1 = cc in omega arith)
answer_numbered l (broken n m) h k e = let f : n ≡ k = cc in omega (arith, h, f)

-- ---- of the opening tests

record Opens (o : Option (ℕ × Bool)) : Type 0 where
  numbered : (c : ℕ × Bool) → o ≡ some c → 0 < c.0

no_test : Opens (find (λ c. c.1) [])
unfolding find
no_test = record { numbered = λ c e. absurd (let z : ◌≡◌ {A = ℕ} 0 1 = cc in omega arith) }

test : (n : ℕ) (b : Bool) (cs : List (ℕ × Bool)) → 0 < n → Opens (find (λ c. c.1) cs) → Opens (find (λ c. c.1) ((n, b) ∷ cs))
unfolding find
test n true cs h k = record { numbered = λ c e. let f : (n, true) ≡ c = cc in let g : n ≡ c.0 = ap (λ x. x.0) f in omega (arith, h, g) }
test n false cs h k = k

opening : (t : Told) (l : Lent) → Opens (find (λ c. c.1) (replay_conditions t l))
unfolding replay_conditions
opening t l =
    test 1 _ _ (omega arith) (test 4 _ _ (omega arith) (test 4 _ _ (omega arith) (test 5 _ _ (omega arith) (test 6 _ _ (omega arith) (test 7 _ _ (omega arith) no_test)))))

by_opening : (l : Lent) (o : Option (ℕ × Bool)) (r : Replayed) → Opens o → Numbered r
    → (k : ℕ) (x : ReplayReturned) → x ≡ elim o [ none ↦ after_replay l r | some c ↦ record { answer = unplayed c.0; lent = l } ] → x.answer ≡ unplayed k → 0 < k
by_opening l none r h n k x is e = answer_numbered l r n k (sym (ap (λ y. y.answer) is) ∙ e)
by_opening l (some c) r h n k x is e =
    let d : unplayed c.0 ≡ unplayed k = sym (ap (λ y. y.answer) is) ∙ e in
    let f : c.0 ≡ k = cc in
    let g = h.numbered c refl in
    omega (arith, f, g)

-- a replay's refusal is not 0
pub numbered_answer : (t : Told) (l : Lent) (k : ℕ) → (replay t l).answer ≡ unplayed k → 0 < k
unfolding replay replay_words
numbered_answer t l k e =
    let s = settings (as_asked t) in
    let first = new_mesh s (λ e. false) (given_tris (as_asked t) l) (given_points (as_asked t) l) in
    let ws = take t.words l.trace in
    by_opening l (find (λ c. c.1) (replay_conditions t l)) (replay_words s first ws) (opening t l) (in_numbered (length ws) s first ws) k (replay t l) refl e
