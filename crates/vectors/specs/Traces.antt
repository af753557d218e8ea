-- Traces and replays of small meshes, each one theorem by computation.
use Rattle.std.specs.Prelude.{◌≡◌, refl, false, List, [], ◌∷◌, ◌++◌, ℕ, ◌+◌, ◌*◌, replicate, Float}
use Rattle.std.specs.Float.{nan}
use Rattle.definition.specs.Floats.{f64, 0·0, 0·5, 1·0}
use Rattle.definition.specs.Numbers.{base}
use Rattle.definition.specs.Counts.{tally}
use Rattle.definition.specs.Call.{Asked, Lent, finished, refusal, call}
use Rattle.definition.specs.Replay.{Told, rebuilt, unplayed, replay}
use Rattle.vectors.specs.Opened.{opened}

-- ---- the square of two triangles

-- room for its four points and one more
abbrev asked : Asked
asked = record { given = 4; capacity = 5; count = 2; slots = 5; joints = 0; size = 1·0; stop = 0; quality = base; grid = false }

abbrev told : ℕ → Told
told words = record { given = 4; capacity = 5; count = 2; slots = 5; words = words }

abbrev corners : List Float
corners = 0·0 ∷ 0·0 ∷ 0·0 ∷ 1·0 ∷ 0·0 ∷ 0·0 ∷ 1·0 ∷ 1·0 ∷ 0·0 ∷ 0·0 ∷ 1·0 ∷ 0·0 ∷ []

-- points, quads, triangles out, components, what the work holds, and the trace
abbrev lent : List Float → List ℕ → List ℕ → List ℕ → ℕ → Float → List ℕ → Lent
lent points quads left sizes d f trace =
    record {
      points = points;
      triangles = 0 ∷ 1 ∷ 2 ∷ 0 ∷ 2 ∷ 3 ∷ [];
      joints = [];
      quads = quads;
      triangles_out = left;
      components = sizes;
      work = replicate (64 * 5 + 8 * 5) d;
      float_work = replicate (4 * 5) f;
      trace = trace;
    }

-- as the caller hands it in
abbrev handed : List ℕ → Lent
handed trace = lent (corners ++ replicate 3 nan) (replicate 40 7) (replicate 15 7) (replicate 5 7) 5 nan trace

-- the work cleared, no list written
abbrev nothing_made : List ℕ → Lent
nothing_made trace = lent (corners ++ replicate 3 nan) (replicate 40 7) (replicate 15 7) (replicate 5 7) 0 0·0 trace

-- the quad at the front of its slice
abbrev quad_made : List ℕ → Lent
quad_made trace = lent (corners ++ replicate 3 nan) ((0 ∷ 1 ∷ 2 ∷ 3 ∷ 0 ∷ 1 ∷ 1 ∷ 2 ∷ []) ++ replicate 32 7) (replicate 15 7) (replicate 5 7) 0 0·0 trace

-- the quad's entry: its nodes, the edge 0-1, round 1, and its two slots
abbrev quad_entry : List ℕ
quad_entry = 4 ∷ 0 ∷ 1 ∷ 2 ∷ 3 ∷ 0 ∷ 1 ∷ 1 ∷ 2 ∷ 0 ∷ 1 ∷ []

-- eleven words, and what stands behind them stays
traced : call asked (handed (replicate 13 7))
    ≡ record { answer = finished (tally 1 1 0 0 0 0 0 0 0 1) (record { quads = 1; triangles = 0; points = 4; components = 0; words = 11 }); lent = quad_made (quad_entry ++ (7 ∷ 7 ∷ [])) }
unfolding opened
traced = refl

-- a slice of ten words has no room: 11, and none of the entry is written
no_room : call asked (handed (replicate 10 7)) ≡ record { answer = refusal 11; lent = nothing_made (replicate 10 7) }
unfolding opened
no_room = refl

-- the replay of the entry makes the quad again
played : replay (told 11) (handed (quad_entry ++ (7 ∷ 7 ∷ [])))
    ≡ record { answer = rebuilt (record { quads = 1; triangles = 0; points = 4; components = 0; words = 0 }); lent = quad_made (quad_entry ++ (7 ∷ 7 ∷ [])) }
unfolding opened
played = refl

-- one word less cuts it short, one more begins an entry of another kind: 12;
-- in the second case the quad before it stays
short_entry : replay (told 10) (handed (quad_entry ++ (7 ∷ []))) ≡ record { answer = unplayed 12; lent = nothing_made (quad_entry ++ (7 ∷ [])) }
unfolding opened
short_entry = refl

other_kind : replay (told 12) (handed (quad_entry ++ (7 ∷ []))) ≡ record { answer = unplayed 12; lent = quad_made (quad_entry ++ (7 ∷ [])) }
unfolding opened
other_kind = refl

-- no words give the given mesh back; a slice with fewer words than stated is 4 and touches nothing
no_words : replay (told 0) (handed (7 ∷ []))
    ≡ record {
      answer = rebuilt (record { quads = 0; triangles = 2; points = 4; components = 1; words = 0 });
      lent = lent (corners ++ replicate 3 nan) (replicate 40 7) ((0 ∷ 1 ∷ 2 ∷ 0 ∷ 2 ∷ 3 ∷ []) ++ replicate 9 7) (2 ∷ 7 ∷ 7 ∷ 7 ∷ 7 ∷ []) 0 0·0 (7 ∷ []);
    }
unfolding opened
no_words = refl

fewer_words : replay (told 2) (handed (7 ∷ [])) ≡ record { answer = unplayed 4; lent = handed (7 ∷ []) }
unfolding opened
fewer_words = refl

-- the diagonal flips, in its own node order only
flipped : replay (told 3) (handed (2 ∷ 0 ∷ 2 ∷ []))
    ≡ record {
      answer = rebuilt (record { quads = 0; triangles = 2; points = 4; components = 1; words = 0 });
      lent = lent (corners ++ replicate 3 nan) (replicate 40 7) ((1 ∷ 3 ∷ 0 ∷ 3 ∷ 1 ∷ 2 ∷ []) ++ replicate 9 7) (2 ∷ 7 ∷ 7 ∷ 7 ∷ 7 ∷ []) 0 0·0 (2 ∷ 0 ∷ 2 ∷ []);
    }
unfolding opened
flipped = refl

other_order : replay (told 3) (handed (2 ∷ 2 ∷ 0 ∷ [])) ≡ record { answer = unplayed 12; lent = nothing_made (2 ∷ 2 ∷ 0 ∷ []) }
unfolding opened
other_order = refl

-- a slot twice: 12
slot_twice : replay (told 11) (handed (4 ∷ 0 ∷ 1 ∷ 2 ∷ 3 ∷ 0 ∷ 1 ∷ 1 ∷ 2 ∷ 0 ∷ 0 ∷ [])) ≡ record { answer = unplayed 12; lent = nothing_made (4 ∷ 0 ∷ 1 ∷ 2 ∷ 3 ∷ 0 ∷ 1 ∷ 1 ∷ 2 ∷ 0 ∷ 0 ∷ []) }
unfolding opened
slot_twice = refl

-- No condition refuses a quad with a node twice.
-- It has the edge 0-2, which then has three owners: 12, and the quad stays.
odd_quad : replay (told 12) (handed (4 ∷ 0 ∷ 2 ∷ 0 ∷ 2 ∷ 9 ∷ 8 ∷ 6 ∷ 0 ∷ 2 ∷ 0 ∷ 2 ∷ []))
    ≡ record {
      answer = unplayed 12;
      lent = lent (corners ++ replicate 3 nan) ((0 ∷ 2 ∷ 0 ∷ 2 ∷ 9 ∷ 8 ∷ 6 ∷ 0 ∷ []) ++ replicate 32 7) (replicate 15 7) (replicate 5 7) 0 0·0 (4 ∷ 0 ∷ 2 ∷ 0 ∷ 2 ∷ 9 ∷ 8 ∷ 6 ∷ 0 ∷ 2 ∷ 0 ∷ 2 ∷ []);
    }
unfolding opened
odd_quad = refl

-- the centre of the square is on the diagonal and strictly inside no triangle: 12;
-- a point of the first triangle splits it, x and y low word first
on_the_edge : replay (told 6) (handed (1 ∷ 0 ∷ 0 ∷ 1071644672 ∷ 0 ∷ 1071644672 ∷ [])) ≡ record { answer = unplayed 12; lent = nothing_made (1 ∷ 0 ∷ 0 ∷ 1071644672 ∷ 0 ∷ 1071644672 ∷ []) }
unfolding opened
on_the_edge = refl

split : replay (told 6) (handed (1 ∷ 0 ∷ 0 ∷ 1072168960 ∷ 0 ∷ 1071644672 ∷ []))
    ≡ record {
      answer = rebuilt (record { quads = 0; triangles = 4; points = 5; components = 1; words = 0 });
      lent = lent (corners ++ (f64 4604930618986332160 ∷ 0·5 ∷ 0·0 ∷ [])) (replicate 40 7) ((0 ∷ 1 ∷ 4 ∷ 0 ∷ 2 ∷ 3 ∷ 1 ∷ 2 ∷ 4 ∷ 2 ∷ 0 ∷ 4 ∷ []) ++ replicate 3 7) (4 ∷ 7 ∷ 7 ∷ 7 ∷ 7 ∷ []) 0 0·0 (1 ∷ 0 ∷ 0 ∷ 1072168960 ∷ 0 ∷ 1071644672 ∷ []);
    }
unfolding opened
split = refl

-- ---- no triangle

-- one point
abbrev alone : List ℕ → ℕ → Float → Lent
alone quads d f =
    record {
      points = 0·0 ∷ 0·0 ∷ 0·0 ∷ [];
      triangles = [];
      joints = [];
      quads = quads;
      triangles_out = replicate 3 7;
      components = 7 ∷ [];
      work = replicate 72 d;
      float_work = replicate 4 f;
      trace = 4 ∷ 0 ∷ 0 ∷ 0 ∷ 0 ∷ 0 ∷ 0 ∷ 0 ∷ 0 ∷ [];
    }

-- one point, and a quad of it four times with no slot
point_alone : replay (record { given = 1; capacity = 1; count = 0; slots = 1; words = 9 }) (alone (replicate 8 7) 5 nan) ≡ record { answer = rebuilt (record { quads = 1; triangles = 0; points = 1; components = 0; words = 0 }); lent = alone (replicate 8 0) 0 0·0 }
unfolding opened
point_alone = refl
