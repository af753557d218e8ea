-- An entry as the definition reads it.
use Rattle.std.specs.Prelude.{◌≡◌, ◌≢◌, ◌+◌, ◌-◌, ◌<◌, ◌≤◌, ◌∷◌}
use Rattle.laws.specs.Kit.{refl, sym, ◌∙◌, ap, subst, Option, none, some, ℕ, zero, suc, arith, eq-eqb, ne_eqb, lt-leb, le-leb, List, [], length, get_or, take, drop, Float}
use lib.ListN.{length-drop, drop_of_length-le}
use lib.Seq.{drop-drop, get_or-drop, drop-cons}
use Rattle.definition.specs.Numbers.{Settings}
use Rattle.definition.specs.Plane.{flat}
use Rattle.definition.specs.Cells.{Event, was_split, was_flipped, was_placed, Mesh}
use Rattle.definition.specs.Trace.{double_of}
use Rattle.definition.specs.Replay.{Read, reading, word, is_kind, entered_quad, read_entry, Redone, redone, balked, unsound, redo, Replayed, whole, broken, replay_in, replay_words}
use Rattle.retrace.specs.Plays.{Plays, Broken, EntryTo}
use Rattle.retrace.specs.Reads.{AtKind, ReadOne, ReadTo, Cut, PlayTo}
use Rattle.retrace.specs.Plays.{State}

-- ---- the kinds

module _ (ws : List ℕ) where
  abbrev split_read : Event
  split_read = was_split (word ws 1) (flat (double_of (word ws 2) (word ws 3)) (double_of (word ws 4) (word ws 5)))

  abbrev flip_read : Event
  flip_read = was_flipped (word ws 1, word ws 2)

  abbrev quad_read : Event
  quad_read = was_placed (entered_quad ws) (take (word ws 8) (drop 9 ws))

  module _ (e : word ws 0 ≡ 1) where
    read_split : 6 ≤ length ws → read_entry ws ≡ reading split_read (drop 6 ws)
    unfolding read_entry is_kind
    read_split h = rw (eq-eqb (word ws 0) 1 e, le-leb 6 (length ws) h) refl

    short_split : length ws < 6 → read_entry ws ≡ none
    unfolding read_entry is_kind
    short_split h = rw (eq-eqb (word ws 0) 1 e, lt-leb 6 (length ws) h, ne_eqb (word ws 0) 2 (λ f. omega arith), ne_eqb (word ws 0) 4 (λ f. omega arith)) refl

  module _ (e : word ws 0 ≡ 2) where
    read_flip : 3 ≤ length ws → read_entry ws ≡ reading flip_read (drop 3 ws)
    unfolding read_entry is_kind
    read_flip h = rw (ne_eqb (word ws 0) 1 (λ f. omega arith), eq-eqb (word ws 0) 2 e, le-leb 3 (length ws) h) refl

    short_flip : length ws < 3 → read_entry ws ≡ none
    unfolding read_entry is_kind
    short_flip h = rw (ne_eqb (word ws 0) 1 (λ f. omega arith), eq-eqb (word ws 0) 2 e, lt-leb 3 (length ws) h, ne_eqb (word ws 0) 4 (λ f. omega arith)) refl

  module _ (e : word ws 0 ≡ 4) where
    read_quad : 9 ≤ length ws → word ws 8 ≤ length (drop 9 ws) → read_entry ws ≡ reading quad_read (drop (word ws 8) (drop 9 ws))
    unfolding read_entry is_kind
    read_quad h k =
        rw (ne_eqb (word ws 0) 1 (λ f. omega arith), ne_eqb (word ws 0) 2 (λ f. omega arith), eq-eqb (word ws 0) 4 e, le-leb 9 (length ws) h, le-leb (word ws 8) (length (drop 9 ws)) k) refl

    short_quad : length ws < 9 → read_entry ws ≡ none
    unfolding read_entry is_kind
    short_quad h = rw (ne_eqb (word ws 0) 1 (λ f. omega arith), ne_eqb (word ws 0) 2 (λ f. omega arith), eq-eqb (word ws 0) 4 e, lt-leb 9 (length ws) h) refl

    few_slots : 9 ≤ length ws → length (drop 9 ws) < word ws 8 → read_entry ws ≡ none
    unfolding read_entry is_kind
    few_slots h k =
        rw (ne_eqb (word ws 0) 1 (λ f. omega arith), ne_eqb (word ws 0) 2 (λ f. omega arith), eq-eqb (word ws 0) 4 e, le-leb 9 (length ws) h, lt-leb (word ws 8) (length (drop 9 ws)) k) refl

  no_kind : word ws 0 ≢ 1 → word ws 0 ≢ 2 → word ws 0 ≢ 4 → read_entry ws ≡ none
  unfolding read_entry is_kind
  no_kind a b c = rw (ne_eqb (word ws 0) 1 a, ne_eqb (word ws 0) 2 b, ne_eqb (word ws 0) 4 c) refl

-- ---- where they stand

module _ (w w' : List ℕ) (q q' : List Float) (quads quads' : List ℕ) (s p : ℕ) (q₀ : List Float) (old : List ℕ) (g : State) (trace : List ℕ) (t : Settings) (m : Mesh) (r : State) where
  abbrev here : List ℕ
  here = drop g.at trace

  abbrev To : Option Read → Type 0
  To o = ReadTo w w' q q' quads quads' s p q₀ old g trace t m o r

  word_is : (i : ℕ) → word here i ≡ get_or trace (g.at + i) 0
  unfolding word
  word_is i = get_or-drop g.at trace i 0

  module _ (k : ℕ) (h : AtKind trace g.at k) where
    first_word : word here 0 ≡ k
    first_word = let z : g.at + 0 ≡ g.at = omega arith in word_is 0 ∙ ap (λ (i : ℕ). get_or trace i 0) z ∙ h.kind

    long : length here ≡ length trace - g.at
    long = length-drop g.at trace

  -- the entry of n words was done as the definition says
  done : (n : ℕ) (v : Event) (rest : List ℕ) → read_entry here ≡ reading v rest → 0 < n → g.at + n ≤ length trace → rest ≡ drop (g.at + n) trace
      → EntryTo w w' q q' quads quads' s p q₀ old g n (redo t m v) r → To (read_entry here)
  unfolding reading
  done n v rest e a b c to = subst To (sym e) (record { n = n; some_words = a; fits = b; rest = c; to = to })

  pub split_done : AtKind trace g.at 1 → g.at + 6 ≤ length trace → (i : ℕ) (x y : Float) → i ≡ get_or trace (g.at + 1) 0 → x ≡ double_of (get_or trace (g.at + 2) 0) (get_or trace (g.at + 3) 0)
      → y ≡ double_of (get_or trace (g.at + 4) 0) (get_or trace (g.at + 5) 0) → EntryTo w w' q q' quads quads' s p q₀ old g 6 (redo t m (was_split i (flat x y))) r → To (read_entry here)
  split_done h b i x y ei ex ey to =
      let z = long 1 h in
      let same : was_split i (flat x y) ≡ split_read here =
      λ j. was_split ((ei ∙ sym (word_is 1)) j) (flat ((ex ∙ (λ k. double_of (sym (word_is 2) k) (sym (word_is 3) k))) j) ((ey ∙ (λ k. double_of (sym (word_is 4) k) (sym (word_is 5) k))) j)) in
      done 6 (split_read here) (drop 6 here) (read_split here (first_word 1 h) (omega arith)) (omega arith) b (drop-drop 6 g.at trace)
      (subst (λ (v : Event). EntryTo w w' q q' quads quads' s p q₀ old g 6 (redo t m v) r) same to)

  pub flip_done : AtKind trace g.at 2 → g.at + 3 ≤ length trace → (u v : ℕ) → u ≡ get_or trace (g.at + 1) 0 → v ≡ get_or trace (g.at + 2) 0
      → EntryTo w w' q q' quads quads' s p q₀ old g 3 (redo t m (was_flipped (u, v))) r → To (read_entry here)
  flip_done h b u v eu ev to =
      let z = long 2 h in
      let same : was_flipped (u, v) ≡ flip_read here = λ j. was_flipped ((eu ∙ sym (word_is 1)) j, (ev ∙ sym (word_is 2)) j) in
      done 3 (flip_read here) (drop 3 here) (read_flip here (first_word 2 h) (omega arith)) (omega arith) b (drop-drop 3 g.at trace)
      (subst (λ (v : Event). EntryTo w w' q q' quads quads' s p q₀ old g 3 (redo t m v) r) same to)

  pub quad_done : AtKind trace g.at 4 → (n : ℕ) → n ≡ get_or trace (g.at + 8) 0 → g.at + 9 + n ≤ length trace
      → EntryTo w w' q q' quads quads' s p q₀ old g (9 + n) (redo t m (was_placed (entered_quad here) (take n (drop 9 here)))) r → To (read_entry here)
  quad_done h n en b to =
      let z = long 4 h in
      let is : word here 8 ≡ n = word_is 8 ∙ sym en in
      let tail : length (drop 9 here) ≡ length here - 9 = length-drop 9 here in
      let sum : g.at + 9 + n ≡ g.at + (9 + n) = omega arith in
      done (9 + n) (quad_read here) (drop (word here 8) (drop 9 here)) (read_quad here (first_word 4 h) (omega arith) (omega arith)) (omega arith) (omega arith)
      (ap (λ (k : ℕ). drop k (drop 9 here)) is ∙ ap (drop n) (drop-drop 9 g.at trace) ∙ drop-drop n (g.at + 9) trace ∙ ap (λ (k : ℕ). drop k trace) sum)
      (subst (λ (k : ℕ). EntryTo w w' q q' quads quads' s p q₀ old g (9 + n) (redo t m (was_placed (entered_quad here) (take k (drop 9 here)))) r) (sym is) to)

module _ (w : List ℕ) (q : List Float) (quads : List ℕ) (s p : ℕ) (q₀ : List Float) (old : List ℕ) (g : State) (trace : List ℕ) (t : Settings) (m : Mesh) (r : State) (e : r.refusal ≡ 12) where
  unread : read_entry (drop g.at trace) ≡ none → ReadTo w w q q quads quads s p q₀ old g trace t m (read_entry (drop g.at trace)) r
  unread f = subst (λ (o : Option Read). ReadTo w w q q quads quads s p q₀ old g trace t m o r) (sym f) (record { number = e; refused = omega arith; points = refl; text = refl; len = refl })

  abbrev words : List ℕ
  words = drop g.at trace

  abbrev kind_is : (k : ℕ) → AtKind trace g.at k → word words 0 ≡ k
  kind_is k h = first_word w w q q quads quads s p q₀ old g trace t m r k h

  pub split_cut : AtKind trace g.at 1 → length trace - g.at < 6 → ReadTo w w q q quads quads s p q₀ old g trace t m (read_entry words) r
  split_cut h l = let z = length-drop g.at trace in unread (short_split words (kind_is 1 h) (omega arith))

  pub flip_cut : AtKind trace g.at 2 → length trace - g.at < 3 → ReadTo w w q q quads quads s p q₀ old g trace t m (read_entry words) r
  flip_cut h l = let z = length-drop g.at trace in unread (short_flip words (kind_is 2 h) (omega arith))

  pub quad_cut : AtKind trace g.at 4 → length trace - g.at < 9 → ReadTo w w q q quads quads s p q₀ old g trace t m (read_entry words) r
  quad_cut h l = let z = length-drop g.at trace in unread (short_quad words (kind_is 4 h) (omega arith))

  pub slots_cut : AtKind trace g.at 4 → 9 ≤ length trace - g.at → (n : ℕ) → n ≡ get_or trace (g.at + 8) 0 → length trace - g.at - 9 < n
      → ReadTo w w q q quads quads s p q₀ old g trace t m (read_entry words) r
  slots_cut h l n en b =
      let z = length-drop g.at trace in
      let y = length-drop 9 words in
      let is : word words 8 ≡ n = word_is w w q q quads quads s p q₀ old g trace t m r 8 ∙ sym en in
      unread (few_slots words (kind_is 4 h) (omega arith) (omega arith))

  pub other_cut : g.at < length trace → (k : ℕ) → k ≡ get_or trace g.at 0 → k ≢ 1 → k ≢ 2 → k ≢ 4 → ReadTo w w q q quads quads s p q₀ old g trace t m (read_entry words) r
  other_cut h k ek a b c =
      let is : word words 0 ≡ k = kind_is k (record { inside = h; kind = sym ek }) in
      unread (no_kind words (λ f. a (sym is ∙ f)) (λ f. b (sym is ∙ f)) (λ f. c (sym is ∙ f)))

-- ---- the whole trace

-- after some entries: the mesh so far, and what is left to do, with fuel enough
pub record Going (w₀ w : List ℕ) (q : List Float) (quads : List ℕ) (s p : ℕ) (q₀ : List Float) (old : List ℕ) (g : State) (trace : List ℕ) (t : Settings) (m₀ : Mesh) : Type 0 where
  pub mesh : Mesh
  pub plays : Plays w q quads s p q₀ old g mesh
  pub fuel : ℕ
  pub enough : length (drop g.at trace) ≤ fuel
  pub same : replay_words t m₀ trace ≡ replay_in fuel t mesh (drop g.at trace)
  pub len : length w ≡ length w₀

pub going_start : (w : List ℕ) (q : List Float) (quads : List ℕ) (s p : ℕ) (q₀ : List Float) (old : List ℕ) (g : State) (trace : List ℕ) (t : Settings) (m : Mesh)
    → g.at ≡ 0 → Plays w q quads s p q₀ old g m → Going w w q quads s p q₀ old g trace t m
unfolding replay_words
going_start w q quads s p q₀ old g trace t m e k =
    let is : drop g.at trace ≡ trace = ap (λ (i : ℕ). drop i trace) e in
    record { mesh = m; plays = k; fuel = length trace; enough = omega (arith, ap length is); same = ap (replay_in (length trace) t m) (sym is); len = refl }

module _ (t : Settings) (m : Mesh) (n : ℕ) (x : ℕ) (ws : List ℕ) where
  in_cut : read_entry (x ∷ ws) ≡ none → replay_in (suc n) t m (x ∷ ws) ≡ broken 12 m
  unfolding replay_in unsound
  in_cut e = rw (e, replay_in) refl

  in_broken : (r : Read) (k : ℕ) → read_entry (x ∷ ws) ≡ some r → redo t m r.event ≡ balked k → replay_in (suc n) t m (x ∷ ws) ≡ broken k m
  unfolding replay_in
  in_broken r k e f = rw (e, f, replay_in) refl

  in_more : (r : Read) (m' : Mesh) → read_entry (x ∷ ws) ≡ some r → redo t m r.event ≡ redone m' → replay_in (suc n) t m (x ∷ ws) ≡ replay_in n t m' r.rest
  unfolding replay_in
  in_more r m' e f = rw (e, f, replay_in) refl

in_end : (n : ℕ) (t : Settings) (m : Mesh) → replay_in n t m [] ≡ whole m
unfolding replay_in
in_end zero t m = refl
in_end (suc n) t m = refl

module _ (w₀ w : List ℕ) (q : List Float) (quads : List ℕ) (s p : ℕ) (q₀ : List Float) (old : List ℕ) (g : State) (trace : List ℕ) (t : Settings) (m₀ : Mesh)
    (h : Going w₀ w q quads s p q₀ old g trace t m₀) where
  pub going_whole : length trace ≤ g.at → PlayTo w₀ w q quads s p q₀ old (replay_words t m₀ trace) g
  going_whole l =
      let none_left : drop g.at trace ≡ [] = drop_of_length-le trace {i = g.at} l in
      subst (λ (x : Replayed). PlayTo w₀ w q quads s p q₀ old x g) (sym (h.same ∙ ap (replay_in h.fuel t h.mesh) none_left ∙ in_end h.fuel t h.mesh))
      (record { plays = h.plays; len = h.len })

  module _ (l : g.at < length trace) (w' : List ℕ) (q' : List Float) (quads' : List ℕ) (r : State)
      (to : ReadTo w w' q q' quads quads' s p q₀ old g trace t h.mesh (read_entry (drop g.at trace)) r) where
    abbrev x : ℕ
    x = get_or trace g.at 0

    abbrev ws : List ℕ
    ws = drop (suc g.at) trace

    here_is : drop g.at trace ≡ x ∷ ws
    here_is = drop-cons trace g.at 0 l

    -- a step of the definition
    one_step : (a : ℕ) × (h.fuel ≡ suc a) × (replay_words t m₀ trace ≡ replay_in (suc a) t h.mesh (x ∷ ws))
    one_step = go h.fuel refl
      where
        go : (n : ℕ) → h.fuel ≡ n → (a : ℕ) × (h.fuel ≡ suc a) × (replay_words t m₀ trace ≡ replay_in (suc a) t h.mesh (x ∷ ws))
        go zero e = absurd (omega (arith, h.enough, length-drop g.at trace))
        go (suc a) e = (a, e, h.same ∙ (λ i. replay_in (e i) t h.mesh (here_is i)))

    cut_at : (k : ℕ) → Broken w w' q q' quads quads' g k r → Cut w₀ w' q' quads' s p q₀ old k h.mesh r
    cut_at k b =
        record {
          number = b.number;
          refused = b.refused;
          memory = w;
          state = g;
          plays = subst (λ (z : List Float). Plays w z quads' s p q₀ old g h.mesh) (sym b.points) (subst (λ (z : List ℕ). Plays w q z s p q₀ old g h.mesh) (sym b.text) h.plays);
          len = b.len ∙ h.len;
        }

    -- an entry that is read and refused, or done
    data Step : Type 0 where
      stopped : (k : ℕ) → replay_words t m₀ trace ≡ broken k h.mesh → Broken w w' q q' quads quads' g k r → Step
      stepped : Going w₀ w' q' quads' s p q₀ old r trace t m₀ → Step

    by_redo : (y : Read) → read_entry (drop g.at trace) ≡ some y → ReadOne w w' q q' quads quads' s p q₀ old g trace t h.mesh y r → (d : Redone) → redo t h.mesh y.event ≡ d
        → (n : ℕ) → 0 < n → y.rest ≡ drop (g.at + n) trace → EntryTo w w' q q' quads quads' s p q₀ old g n d r → Step
    by_redo y e b (balked k) f n a rest z = stopped k (one_step.2 ∙ in_broken t h.mesh one_step.0 x ws y k (sym (ap read_entry here_is) ∙ e) f) z
    by_redo y e b (redone m') f n a rest z =
        let left : y.rest ≡ drop r.at trace = rest ∙ ap (λ (i : ℕ). drop i trace) (sym z.0) in
        stepped
        (record {
          mesh = m';
          plays = z.1;
          fuel = one_step.0;
          enough = omega (arith, h.enough, one_step.1, length-drop g.at trace, length-drop r.at trace, z.0);
          same = one_step.2 ∙ in_more t h.mesh one_step.0 x ws y m' (sym (ap read_entry here_is) ∙ e) f ∙ ap (replay_in one_step.0 t m') left;
          len = z.2 ∙ h.len;
        })

    step : Step
    step = go (read_entry (drop g.at trace)) refl to
      where
        go : (o : Option Read) → read_entry (drop g.at trace) ≡ o → ReadTo w w' q q' quads quads' s p q₀ old g trace t h.mesh o r → Step
        go none e b = stopped 12 (one_step.2 ∙ in_cut t h.mesh one_step.0 x ws (sym (ap read_entry here_is) ∙ e)) b
        go (some y) e b = by_redo y e b (redo t h.mesh y.event) refl b.n b.some_words b.rest b.to

    pub going_cut : r.refusal ≢ 0 → PlayTo w₀ w' q' quads' s p q₀ old (replay_words t m₀ trace) r
    going_cut n = go step
      where
        go : Step → PlayTo w₀ w' q' quads' s p q₀ old (replay_words t m₀ trace) r
        go (stopped k e b) = subst (λ (y : Replayed). PlayTo w₀ w' q' quads' s p q₀ old y r) (sym e) (cut_at k b)
        go (stepped z) = absurd (n z.plays.going)

    pub going_more : r.refusal ≡ 0 → Going w₀ w' q' quads' s p q₀ old r trace t m₀
    going_more n = go step
      where
        go : Step → Going w₀ w' q' quads' s p q₀ old r trace t m₀
        go (stopped k e b) = absurd (omega (arith, b.number, b.refused))
        go (stepped z) = z

    -- the measure
    pub going_on : r.refusal ≡ 0 → g.at < r.at
    going_on n = go (read_entry (drop g.at trace)) to
      where
        done_one : (d : Redone) (k : ℕ) → 0 < k → EntryTo w w' q q' quads quads' s p q₀ old g k d r → g.at < r.at
        done_one (redone m') k a z = omega (arith, z.0)
        done_one (balked j) k a z = absurd (omega (arith, z.number, z.refused))

        go : (o : Option Read) → ReadTo w w' q q' quads quads' s p q₀ old g trace t h.mesh o r → g.at < r.at
        go none b = absurd (omega (arith, b.number))
        go (some y) b = done_one (redo t h.mesh y.event) b.n b.some_words b.to
