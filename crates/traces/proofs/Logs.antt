-- A log one event further.
use Rattle.std.specs.Prelude.{◌≡◌, ◌≢◌, ◌+◌, ◌-◌, ◌/◌, ◌%◌, ◌≤◌, ◌∷◌, ◌++◌}
use Rattle.laws.specs.Kit.{refl, sym, ◌∙◌, ap, subst, true, ℕ, zero, suc, arith, leb, le-leb, List, [], append-nil, append_assoc, length, set, take, drop, length-append, Float, binary64, to_bits}
use lib.Seq.{sets-eq}
use borrow.Author.Tests.{leb-true}
use borrow.Rule.Slice.PartMut.{mid_of, put_mid}
use Rattle.definition.specs.Lists.{flat_map}
use Rattle.definition.specs.Plane.{Node, Edge, flat}
use Rattle.definition.specs.Cells.{Quad, Event, was_split, was_flipped, was_placed, Mesh, noting}
use Rattle.definition.specs.Trace.{word_limit, two_words, entry, trace, words_in, traced, in_room}
use Rattle.definition.specs.Call.{onto}
use Rattle.laws.specs.Lists.{flat_map_append}
use Rattle.laws.specs.Bools.{same_bool}
use Rattle.laws.specs.Slices.{onto_length, put_middle}
use Rattle.traces.specs.declared.Grown.{Grown}
use Rattle.traces.specs.Log.{Logged, Notes, Enters, Placing, heads}
use Rattle.traces.proofs.Parts.{onto_none, taken_length}

-- ---- the words of a mesh

words_none : (n : ℕ) (vs : List Event) → n ≡ 0 → words_in n vs ≡ []
unfolding words_in
words_none zero vs h = refl
words_none (suc n) vs h = absurd (omega arith)

words_more : (n : ℕ) (vs : List Event) (v : Event) → n ≢ 0 → words_in n (vs ++ v ∷ []) ≡ words_in n vs ++ entry v
unfolding words_in trace flat_map
words_more zero vs v h = absurd (h refl)
words_more (suc n) vs v h = flat_map_append entry vs (v ∷ []) ∙ ap (λ (z : List ℕ). flat_map entry vs ++ z) (append-nil (entry v))

-- without a trace there are none
pub traced_none : (m : Mesh) → m.room ≡ 0 → traced m ≡ []
unfolding traced
traced_none m h = words_none m.room m.history h

-- the event's entry comes behind the others
pub traced_more : (v : Event) (m m' : Mesh) → Notes v m m' → m.room ≢ 0 → traced m' ≡ traced m ++ entry v
unfolding traced
traced_more v m m' h n =
    ap (λ (z : ℕ). words_in z m'.history) h.room ∙ ap (words_in m.room) h.history ∙ words_more m.room m.history v n

-- ---- logs

-- the slice keeps its length
pub log_length : (base t : List ℕ) (at : ℕ) (m : Mesh) → Logged base t at m → length t ≡ length base
log_length base t at m h = ap length h.words ∙ onto_length (traced m) base h.fits

words_start : (n : ℕ) → words_in n [] ≡ []
unfolding words_in trace flat_map
words_start zero = refl
words_start (suc n) = refl

-- before the first event
pub log_start : (base : List ℕ) (m : Mesh) → m.room ≡ length base → m.history ≡ [] → Logged base base 0 m
unfolding traced
log_start base m h k =
    let none : traced m ≡ [] = ap (words_in m.room) k ∙ words_start m.room in
    record {
      room = h;
      words = sym (onto_none (traced m) base none);
      used = sym (ap length none);
      fits = omega (arith, ap length none);
    }

-- a mesh with the same room and history
pub log_as : (base t : List ℕ) (at : ℕ) (m m' : Mesh) → m'.room ≡ m.room → m'.history ≡ m.history → Logged base t at m → Logged base t at m'
unfolding traced
log_as base t at m m' e f h =
    let same : traced m' ≡ traced m = ap (λ (z : ℕ). words_in z m'.history) e ∙ ap (words_in m.room) f in
    record {
      room = e ∙ h.room;
      words = h.words ∙ ap (λ (z : List ℕ). onto z base) (sym same);
      used = h.used ∙ ap length (sym same);
      fits = subst (λ (z : List ℕ). length z ≤ length base) (sym same) h.fits;
    }

-- the slice left as it was
pub log_same : (base t t' : List ℕ) (at : ℕ) (m : Mesh) → t' ≡ t → Logged base t at m → Logged base t' at m
log_same base t t' at m e h = record { room = h.room; words = e ∙ h.words; used = h.used; fits = h.fits }

-- as many words used
pub log_at : (base t : List ℕ) (at at' : ℕ) (m : Mesh) → at' ≡ at → Logged base t at m → Logged base t at' m
log_at base t at at' m e h = record { room = h.room; words = h.words; used = e ∙ h.used; fits = h.fits }

pub notes_of_noting : (v : Event) (m : Mesh) → Notes v m (noting v m)
unfolding noting
notes_of_noting v m = record { room = refl; history = refl }

-- ---- how long an entry is

pub flip_length : (e : Edge) → length (entry (was_flipped e)) ≡ 3
unfolding entry
flip_length e = refl

pub split_length : (i : ℕ) (p : Node) → length (entry (was_split i p)) ≡ 6
unfolding entry two_words
split_length i p = refl

pub quad_length : (q : Quad) (ids : List ℕ) → length (entry (was_placed q ids)) ≡ 9 + length ids
unfolding entry
quad_length q ids = omega arith

-- ---- whether an entry fits

-- none is lent
pub fits_none : (base t : List ℕ) (at : ℕ) (m m' : Mesh) (v : Event) → length t ≡ 0 → Logged base t at m → Notes v m m' → in_room m' ≡ true
unfolding in_room
fits_none base t at m m' v z h k =
    let e : m'.room ≡ 0 = k.room ∙ h.room ∙ sym (log_length base t at m h) ∙ z in
    le-leb (length (traced m')) m'.room (omega (arith, ap length (traced_none m' e)))

-- the words used are of the slice
pub fits_within : (base t : List ℕ) (at : ℕ) (m : Mesh) → Logged base t at m → at ≤ length t
fits_within base t at m h = omega (arith, h.used, h.fits, log_length base t at m h)

-- the words left are enough
pub fits_left : (base t : List ℕ) (at n : ℕ) (m m' : Mesh) (v : Event) → length t ≢ 0 → Logged base t at m → Notes v m m' → length (entry v) ≡ n
    → leb n (length t - at) ≡ in_room m'
unfolding in_room
fits_left base t at n m m' v z h k l =
    let len = log_length base t at m h in
    let e : m.room ≡ length t = h.room ∙ sym len in
    let more = ap length (traced_more v m m' k (λ a. z (sym e ∙ a))) ∙ length-append (traced m) (entry v) in
    same_bool (leb n (length t - at)) (leb (length (traced m')) m'.room)
    (λ a. le-leb (length (traced m')) m'.room (omega (arith, leb-true n (length t - at) a, fits_within base t at m h, more, l, h.used, k.room, e)))
    (λ a. le-leb n (length t - at) (omega (arith, leb-true (length (traced m')) m'.room a, more, l, h.used, k.room, e)))

-- ---- an entry written

-- none is lent, and none is written
pub log_none : (base t : List ℕ) (at : ℕ) (m m' : Mesh) (v : Event) → length t ≡ 0 → Logged base t at m → Enters v m m' → Logged base t at m'
log_none base t at m m' v z h k =
    let e : m.room ≡ 0 = h.room ∙ sym (log_length base t at m h) ∙ z in
    let same : traced m' ≡ traced m = traced_none m' (k.notes.room ∙ e) ∙ sym (traced_none m e) in
    record {
      room = k.notes.room ∙ h.room;
      words = h.words ∙ ap (λ (z : List ℕ). onto z base) (sym same);
      used = h.used ∙ ap length (sym same);
      fits = subst (λ (z : List ℕ). length z ≤ length base) (sym same) h.fits;
    }

-- the entry's words are of the slice
pub enters_within : (base t : List ℕ) (at : ℕ) (m m' : Mesh) (v : Event) → length t ≢ 0 → Logged base t at m → Enters v m m' → at + length (entry v) ≤ length t
unfolding in_room
enters_within base t at m m' v z h k =
    let e : m.room ≡ length t = h.room ∙ sym (log_length base t at m h) in
    let more = ap length (traced_more v m m' k.notes (λ a. z (sym e ∙ a))) ∙ length-append (traced m) (entry v) in
    omega (arith, leb-true (length (traced m')) m'.room k.fits, more, h.used, k.notes.room, e)

-- the entry stands behind the others
pub log_entry : (base t t' : List ℕ) (at r : ℕ) (m m' : Mesh) (v : Event) → length t ≢ 0 → Logged base t at m → Enters v m m'
    → t' ≡ onto (traced m ++ entry v) base → r ≡ at + length (entry v) → Logged base t' r m'
log_entry base t t' at r m m' v z h k w n =
    let len = log_length base t at m h in
    let e : m.room ≡ length t = h.room ∙ sym len in
    let more = traced_more v m m' k.notes (λ a. z (sym e ∙ a)) in
    let words = ap length more ∙ length-append (traced m) (entry v) in
    record {
      room = k.notes.room ∙ h.room;
      words = w ∙ ap (λ (z : List ℕ). onto z base) (sym more);
      used = omega (arith, n, words, h.used);
      fits = omega (arith, enters_within base t at m m' v z h k, words, h.used, len);
    }

-- written at the front of the part behind them
pub log_put : (base t ys : List ℕ) (at r : ℕ) (m m' : Mesh) (v : Event) → length t ≢ 0 → Logged base t at m → Enters v m m' → r ≡ at + length (entry v)
    → ys ≡ entry v ++ drop (length (entry v)) (mid_of at (length t - at) t) → Logged base (put_mid at (length t - at) t ys) r m'
log_put base t ys at r m m' v z h k n w =
    log_entry base t (put_mid at (length t - at) t ys) at r m m' v z h k
    (put_middle (traced m) (entry v) base t ys at h.words h.used (enters_within base t at m m' v z h k) w) n

-- ---- a quad's entry

pub placed_words : (w : List ℕ) (from n : ℕ) (g : Grown) (q : Quad) (ids : List ℕ) (m m' : Mesh) → Placing w from n g q ids m m'
    → entry (was_placed q ids) ≡ heads g n ++ take n (drop from w)
unfolding entry
placed_words w from n g q ids m m' h =
    let number : length ids ≡ n = sym (ap length h.slots.are) ∙ taken_length n from w h.slots.fits in
    let i = h.quad in
    rw (i.node0, i.node1, i.node2, i.node3, i.edge, i.round, number, ← h.slots.are)

pub placed_within : (base t w : List ℕ) (at from n : ℕ) (g : Grown) (q : Quad) (ids : List ℕ) (m m' : Mesh) → length t ≢ 0 → Logged base t at m
    → Placing w from n g q ids m m' → at + (9 + n) ≤ length t
placed_within base t w at from n g q ids m m' z h k =
    let slots = take n (drop from w) in
    omega (
      arith,
      enters_within base t at m m' (was_placed q ids) z h k.enters,
      ap length (placed_words w from n g q ids m m' k),
      length-append (heads g n) slots,
      taken_length n from w k.slots.fits,
    )

-- a quad's entry is written in two parts
pub log_quad : (base t ys zs w : List ℕ) (at from n : ℕ) (g : Grown) (q : Quad) (ids : List ℕ) (m m' : Mesh) → length t ≢ 0 → Logged base t at m
    → Placing w from n g q ids m m' → ys ≡ heads g n ++ drop 9 (mid_of at (length t - at) t)
    → (t1 : List ℕ) → t1 ≡ put_mid at (length t - at) t ys
    → zs ≡ take n (drop from w) ++ drop n (mid_of (at + 9) (length t1 - (at + 9)) t1)
    → Logged base (put_mid (at + 9) (length t1 - (at + 9)) t1 zs) (at + 9 + n) m'
log_quad base t ys zs w at from n g q ids m m' z h k e t1 f l =
    let v = was_placed q ids in
    let slots = take n (drop from w) in
    let front = traced m ++ heads g n in
    let number : length slots ≡ n = taken_length n from w k.slots.fits in
    let whole : entry v ≡ heads g n ++ slots = placed_words w from n g q ids m m' k in
    let words : length (entry v) ≡ 9 + n = ap length whole ∙ length-append (heads g n) slots ∙ ap (λ (y : ℕ). 9 + y) number in
    let fits : at + (9 + n) ≤ length t = placed_within base t w at from n g q ids m m' z h k in
    let seam : length front ≡ at + 9 = length-append (traced m) (heads g n) ∙ ap (λ (y : ℕ). y + 9) (sym h.used) in
    let len = log_length base t at m h in
    let first : t1 ≡ onto front base = f ∙ put_middle (traced m) (heads g n) base t ys at h.words h.used (omega arith) e in
    let same : length t1 ≡ length base = ap length first ∙ onto_length front base (omega arith) in
    let second : put_mid (at + 9) (length t1 - (at + 9)) t1 zs ≡ onto (front ++ slots) base =
    put_middle front slots base t1 zs (at + 9) first (sym seam) (omega arith)
    (subst (λ (y : ℕ). zs ≡ slots ++ drop y (mid_of (at + 9) (length t1 - (at + 9)) t1)) (sym number) l) in
    log_entry base t (put_mid (at + 9) (length t1 - (at + 9)) t1 zs) at (at + 9 + n) m m' v z h k.enters
    (second ∙ ap (λ (y : List ℕ). onto y base) (append_assoc (traced m) (heads g n) slots ∙ ap (λ (y : List ℕ). traced m ++ y) (sym whole)))
    (omega (arith, words))

-- ---- a split's entry

pub split_words : (l : List ℕ) (i a b : ℕ) (x y : Float) → a ≡ to_bits binary64 x → b ≡ to_bits binary64 y → 6 ≤ length l
    → set (set (set (set (set (set l 0 1) 1 i) 2 (a % 4294967296)) 3 (a / 4294967296)) 4 (b % 4294967296)) 5 (b / 4294967296)
    ≡ entry (was_split i (flat x y)) ++ drop 6 l
unfolding entry two_words word_limit flat
split_words l i a b x y e f h =
    let words : ℕ → ℕ → List ℕ = λ c d. 1 ∷ i ∷ c % 4294967296 ∷ c / 4294967296 ∷ d % 4294967296 ∷ d / 4294967296 ∷ [] in
    sets-eq (words a b) l 0 (omega arith) ∙ ap (λ (c : ℕ). words c b ++ drop 6 l) e ∙ ap (λ (d : ℕ). words (to_bits binary64 x) d ++ drop 6 l) f
