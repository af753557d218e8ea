-- Replay: an entry of a trace is read back as the event that it was made from,
-- and the trace of events that can be done again is replayed to its end.
use Rattle.std.specs.Prelude.{◌≡◌, ◌+◌, ◌*◌, ◌/◌, ◌%◌, ◌<◌, ◌≤◌, ◌∷◌, ◌++◌}
use Rattle.laws.specs.Kit.{refl, sym, ◌∙◌, ap, inl, inr, ℕ, zero, suc, arith, T, le-leb, List, [], length, length-append, Float, binary64, of_bits, to_bits, fits}
use Rattle.std.proofs.Common.{div-add-mod'}
use Rattle.std.proofs.Math.Seq.{take-append_seam, drop-append_seam}
use Rattle.std.specs.Float.Ieee.Bits.{of_bits-to_bits}
use Rattle.definition.specs.Lists.{flat_map}
use Rattle.definition.specs.Floats.{f64}
use Rattle.definition.specs.Numbers.{Settings}
use Rattle.definition.specs.Plane.{flat}
use Rattle.definition.specs.Cells.{Event, was_split, was_flipped, was_placed, Mesh}
use Rattle.definition.specs.Trace.{word_limit, two_words, double_of, entry, trace}
use Rattle.definition.specs.Replay.{reading, word, is_kind, entered_quad, read_entry, Redone, redone, balked, redo, whole, replay_in}
use Rattle.laws.specs.Lists.{In}
use Rattle.account.specs.Redo.{redo_all, Enterable}
use Rattle.consequences.proofs.Doubles.{double_back}

-- whatever comes after it
pub read_back : (v : Event) (rest : List ℕ) → Enterable v → read_entry (entry v ++ rest) ≡ reading v rest
unfolding read_entry entry two_words word entered_quad is_kind
read_back (was_split id p) rest h =
    let z : flat (double_of (to_bits binary64 p.x % word_limit) (to_bits binary64 p.x / word_limit)) (double_of (to_bits binary64 p.y % word_limit) (to_bits binary64 p.y / word_limit)) ≡ p =
    (λ i. flat (double_back p.x h.1 i) (double_back p.y h.2 i)) ∙ sym h.0 in
    rw (le-leb 6 (length (entry (was_split id p) ++ rest)) (omega arith)) (ap (λ q. reading (was_split id q) rest) z)
read_back (was_flipped e) rest h = rw (le-leb 3 (length (entry (was_flipped e) ++ rest)) (omega arith)) refl
read_back (was_placed q ids) rest h =
    let whole_quad : record { n0 = q.n0; n1 = q.n1; n2 = q.n2; n3 = q.n3; edge = q.edge; round = q.round; replaced = length ids } ≡ q =
    let back = sym h in
    λ i. record { n0 = q.n0; n1 = q.n1; n2 = q.n2; n3 = q.n3; edge = q.edge; round = q.round; replaced = back i } in
    rw (le-leb 9 (length (entry (was_placed q ids) ++ rest)) (omega arith), le-leb (length ids) (length (ids ++ rest)) (omega (arith, length-append ids rest)))
    (λ i. reading (was_placed (whole_quad i) (take-append_seam ids rest i)) (drop-append_seam ids rest i))

-- ---- the whole trace
entry_words : (v : Event) → 0 < length (entry v)
unfolding entry
entry_words (was_split id p) = omega arith
entry_words (was_flipped e) = omega arith
entry_words (was_placed q ids) = omega arith

-- the words w of an entry and what follows, read as the event v
play_case : (n : ℕ) (s : Settings) (m k : Mesh) (v : Event) (ws rest : List ℕ) (r : Redone) → 0 < length ws → read_entry ws ≡ reading v rest → redo s m v ≡ r
    → ((m' : Mesh) → r ≡ redone m' → replay_in n s m' rest ≡ whole k) → ((j : ℕ) → r ≡ balked j → replay_in (suc n) s m ws ≡ whole k) → replay_in (suc n) s m ws ≡ whole k
unfolding replay_in reading
play_case n s m k v [] rest r l e f next no_way = absurd (omega arith)
play_case n s m k v (w ∷ ws) rest (redone m') l e f next no_way = rw (e, replay_in, f) (next m' refl)
play_case n s m k v (w ∷ ws) rest (balked j) l e f next no_way = no_way j refl

redo_first : (s : Settings) (m m' k : Mesh) (v : Event) (vs : List Event) → redo s m v ≡ redone m' → redo_all s m (v ∷ vs) ≡ redone k → redo_all s m' vs ≡ redone k
unfolding redo_all
redo_first s m m' k v vs f h = rw (f, redo_all) at h

redo_none : (s : Settings) (m k : Mesh) (v : Event) (vs : List Event) (j : ℕ) → redo s m v ≡ balked j → redo_all s m (v ∷ vs) ≡ redone k → balked j ≡ redone k
unfolding redo_all
redo_none s m k v vs j f h = rw (f, redo_all) at h

redo_nothing : (n : ℕ) (s : Settings) (m k : Mesh) → redo_all s m [] ≡ redone k → replay_in n s m [] ≡ whole k
unfolding redo_all replay_in
redo_nothing zero s m k h = let e : m ≡ k = cc in ap whole e
redo_nothing (suc n) s m k h = let e : m ≡ k = cc in ap whole e

-- the trace of events that can be done again is replayed to its end
pub played : (vs : List Event) (n : ℕ) (s : Settings) (m k : Mesh) → length (trace vs) ≤ n → ((v : Event) → In v vs → Enterable v) → redo_all s m vs ≡ redone k
    → replay_in n s m (trace vs) ≡ whole k
unfolding trace flat_map
played [] n s m k l g h = redo_nothing n s m k h
played (v ∷ vs) zero s m k l g h = absurd (omega (arith, length-append (entry v) (trace vs), entry_words v))
played (v ∷ vs) (suc n) s m k l g h =
    let sum = length-append (entry v) (trace vs) in
    let some_words = entry_words v in
    play_case n s m k v (entry v ++ trace vs) (trace vs) (redo s m v) (omega arith) (read_back v (trace vs) (g v (inl refl))) refl
    (λ m' e. played vs n s m' k (omega arith) (λ u i. g u (inr i)) (redo_first s m m' k v vs e h))
    (λ j e. absurd (let f = redo_none s m k v vs j e h in let z : ◌≡◌ {A = ℕ} 0 1 = cc in omega arith))
