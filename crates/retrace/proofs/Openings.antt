-- The tests that open a replay are those of a call with no joints, size, stop rule,
-- quality set or profile, and one more.
use Rattle.std.specs.Prelude.{◌≡◌, ◌≢◌, ◌<◌, ◌≤◌}
use Rattle.laws.specs.Kit.{refl, sym, ◌∙◌, Bool, true, false, cond, none, ℕ, arith, ltb, lt-ltb, le-ltb, ltb-false, length, take, of_bits, eq, le}
use Rattle.definition.specs.Lists.{any, find, table, numbers, below}
use Rattle.definition.specs.Floats.{◌≼◌, f64, 0·0, 0·1, 0·3, 0·5, 0·90630778703665, 0·99, 1·0, 2·2, 4·0}
use Rattle.definition.specs.Numbers.{base}
use Rattle.definition.specs.Call.{Lent, over_limit, bad_size, bad_stop, ranges, good_quality, bad_quality, most_pairs, too_short, unknown_node, repeated_node, far_point, bad_grid, most_joints, bad_joints, given_joints, settings}
use Rattle.definition.specs.Replay.{Told, as_asked, replay_conditions, unplayed, after_replay, replay_words, replay}
use Rattle.refusals.specs.Refusals.{number_of, first_refusal, in_turn, passed, turn, no_turn, some_found}
use Rattle.retrace.specs.Opening.{opening_number, Opened, first_mesh}

-- ---- one test after the other

-- of a call
abbrev call_by : (b1 b4 b5 b6 b7 : Bool) → ℕ
call_by b1 b4 b5 b6 b7 = cond b1 1 (cond b4 4 (cond b5 5 (cond b6 6 (cond b7 7 0))))

-- of a replay, w between 4 and 5
abbrev replay_by : (b1 b4 w b5 b6 b7 : Bool) → ℕ
replay_by b1 b4 w b5 b6 b7 = cond b1 1 (cond b4 4 (cond w 4 (cond b5 5 (cond b6 6 (cond b7 7 0)))))

no_one : (b4 b5 b6 b7 : Bool) → call_by false b4 b5 b6 b7 ≢ 1
no_one true b5 b6 b7 e = absurd (omega (arith, e))
no_one false true b6 b7 e = absurd (omega (arith, e))
no_one false false true b7 e = absurd (omega (arith, e))
no_one false false false true e = absurd (omega (arith, e))
no_one false false false false e = absurd (omega (arith, e))

by_one : (b1 b4 w b5 b6 b7 : Bool) → call_by b1 b4 b5 b6 b7 ≡ 1 → 1 ≡ replay_by b1 b4 w b5 b6 b7
by_one true b4 w b5 b6 b7 h = refl
by_one false b4 w b5 b6 b7 h = absurd (no_one b4 b5 b6 b7 h)

by_words : (b1 b4 b5 b6 b7 : Bool) → call_by b1 b4 b5 b6 b7 ≢ 1 → 4 ≡ replay_by b1 b4 true b5 b6 b7
by_words true b4 b5 b6 b7 h = absurd (h refl)
by_words false true b5 b6 b7 h = refl
by_words false false b5 b6 b7 h = refl

-- none of them holds
record Clear (b1 b4 b b5 b6 b7 : Bool) : Type 0 where
  c1 : b1 ≡ false
  c4 : b4 ≡ false
  w : b ≡ false
  c5 : b5 ≡ false
  c6 : b6 ≡ false
  c7 : b7 ≡ false

none_holds : (b1 b4 w b5 b6 b7 : Bool) → replay_by b1 b4 w b5 b6 b7 ≡ 0 → Clear b1 b4 w b5 b6 b7
none_holds true b4 w b5 b6 b7 e = absurd (omega (arith, e))
none_holds false true w b5 b6 b7 e = absurd (omega (arith, e))
none_holds false false true b5 b6 b7 e = absurd (omega (arith, e))
none_holds false false false true b6 b7 e = absurd (omega (arith, e))
none_holds false false false false true b7 e = absurd (omega (arith, e))
none_holds false false false false false true e = absurd (omega (arith, e))
none_holds false false false false false false e = record { c1 = refl; c4 = refl; w = refl; c5 = refl; c6 = refl; c7 = refl }

-- ---- what a replay does not know

module _ (t : Told) (l : Lent) where
  no_size : bad_size (as_asked t) ≡ false
  unfolding bad_size as_asked eq 0·0 f64 of_bits
  no_size = refl

  no_stop : bad_stop (as_asked t) ≡ false
  unfolding bad_stop as_asked
  no_stop = refl

  no_quality : bad_quality (as_asked t) ≡ false
  unfolding bad_quality good_quality ranges most_pairs as_asked base ◌≼◌ le 0·0 0·1 0·3 0·5 0·90630778703665 0·99 1·0 2·2 4·0 f64 of_bits
  no_quality = refl

  no_grid : bad_grid (as_asked t) l ≡ false
  unfolding bad_grid as_asked
  no_grid = refl

  no_joints : bad_joints (as_asked t) l ≡ false
  unfolding bad_joints most_joints given_joints as_asked any table below numbers
  no_joints = refl

  -- what is left of a call's tests
  abbrev over : Bool
  over = over_limit (as_asked t)

  abbrev short : Bool
  short = too_short (as_asked t) l

  abbrev cut : Bool
  cut = ltb (length l.trace) t.words

  abbrev unknown : Bool
  unknown = unknown_node (as_asked t) l

  abbrev repeated : Bool
  repeated = repeated_node (as_asked t) l

  abbrev far : Bool
  far = far_point (as_asked t) l

  call_turns : first_refusal (as_asked t) l ≡ call_by over short unknown repeated far
  call_turns = rw (in_turn (as_asked t) l, no_size, no_stop, no_quality, no_grid, no_joints)

  replay_turns : opening_number t l ≡ replay_by over short cut unknown repeated far
  unfolding opening_number replay_conditions
  replay_turns = simp (turn, no_turn)

  -- ---- the number of a replay by that of its call

  pub opens_one : first_refusal (as_asked t) l ≡ 1 → 1 ≡ opening_number t l
  opens_one h = by_one over short cut unknown repeated far (sym call_turns ∙ h) ∙ sym replay_turns

  pub opens_short : first_refusal (as_asked t) l ≢ 1 → length l.trace < t.words → 4 ≡ opening_number t l
  opens_short h k = by_words over short unknown repeated far (λ e. h (call_turns ∙ e)) ∙ rw (replay_turns, lt-ltb (length l.trace) t.words k)

  pub opens_same : t.words ≤ length l.trace → first_refusal (as_asked t) l ≡ opening_number t l
  opens_same k = call_turns ∙ rw (replay_turns, le-ltb (length l.trace) t.words k)

  -- ---- where none holds

  module _ (zero_is : opening_number t l ≡ 0) where
    clear : Clear over short cut unknown repeated far
    clear = none_holds over short cut unknown repeated far (sym replay_turns ∙ zero_is)

    pub call_passes : first_refusal (as_asked t) l ≡ 0
    call_passes = call_turns ∙ rw (clear.c1, clear.c4, clear.c5, clear.c6, clear.c7)

    pub opened : Opened t l
    opened = record { passed = passed (as_asked t) l call_passes; words = ltb-false (length l.trace) t.words clear.w }

    none_found : find (λ c. c.1) (replay_conditions t l) ≡ none
    unfolding find replay_conditions
    none_found = rw (clear.c1, clear.c4, clear.w, clear.c5, clear.c6, clear.c7)

    -- the trace's words are replayed
    pub replay_runs : replay t l ≡ after_replay l (replay_words (settings (as_asked t)) (first_mesh t l) (take t.words l.trace))
    unfolding replay
    replay_runs = rw (none_found, replay)

  -- ---- where one does, its number is the answer, and nothing is touched
  pub replay_refused : opening_number t l ≢ 0 → replay t l ≡ record { answer = unplayed (opening_number t l); lent = l }
  unfolding replay opening_number number_of
  replay_refused h = let f = some_found (find (λ c. c.1) (replay_conditions t l)) h in rw (f.1, replay, opening_number)
