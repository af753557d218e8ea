-- Calls that end for want of lent memory, each one theorem by computation: what is answered, and what every slice holds at exit.
-- Made by tools/computed/runs.py from answers/calls. At entry the outputs and the work hold numbers of no meaning.
use Rattle.std.specs.Prelude.{◌≡◌, refl, false, List, [], ◌∷◌, ◌++◌, map, ℕ, ◌+◌, ◌*◌, ◌-◌, length, replicate, Float}
use Rattle.std.specs.Float.{nan}
use Rattle.definition.specs.Floats.{f64, 0·0}
use Rattle.definition.specs.Numbers.{base}
use Rattle.definition.specs.Call.{Asked, Lent, refusal, call}
use Rattle.vectors.specs.Opened.{opened}

-- the slices: points so far with the rest of the capacity, triangles, quads so far with the rest, and what the others hold
abbrev lent : ℕ → ℕ → List ℕ → List ℕ → List ℕ → ℕ → Float → Lent
lent capacity slots points triangles quads d f =
    record {
      points = map f64 points ++ replicate (3 * capacity - length points) nan;
      triangles = triangles;
      joints = [];
      quads = quads ++ replicate (8 * slots - length quads) 7;
      triangles_out = replicate (3 * slots) 7;
      components = replicate slots 7;
      work = replicate (64 * slots + 8 * capacity) d;
      float_work = replicate (4 * slots) f;
      trace = [];
    }

asked_graded_0018 : Asked
asked_graded_0018 = record { given = 8; capacity = 9; count = 4; slots = 4; joints = 0; size = f64 0x3fe218b48187805c; stop = 1; quality = base; grid = false }

graded_0018 : call asked_graded_0018 (lent 9 4 (0xbff29bd5e63eeca8 ∷ 0xbfa841db68cd49cd ∷ 0x0000000000000000 ∷ 0x3fb0c867c716a6f7 ∷ 0x3fc3050e79a3cdba ∷ 0x0000000000000000 ∷ 0x3ff19760f3bd3bdf ∷ 0x3fa6db7b48292934 ∷ 0x0000000000000000 ∷ 0x40065a4a46dd710d ∷ 0x3fb43242b9e4fab0 ∷ 0x0000000000000000 ∷ 0xbff00ab7bf240f38 ∷ 0x3fed6ff8438ef74a ∷ 0x0000000000000000 ∷ 0xbfac406482bedf0d ∷ 0x3febbe2866f36a30 ∷ 0x0000000000000000 ∷ 0x3ff3181c8e659c8c ∷ 0x3fea87240e2217d3 ∷ 0x0000000000000000 ∷ 0x40070f2348b77b4a ∷ 0x3feff68797b0558a ∷ 0x0000000000000000 ∷ []) (0 ∷ 1 ∷ 4 ∷ 1 ∷ 5 ∷ 4 ∷ 2 ∷ 3 ∷ 7 ∷ 2 ∷ 7 ∷ 6 ∷ []) [] 5 nan) ≡ record { answer = refusal 9; lent = lent 9 4 (0xbff29bd5e63eeca8 ∷ 0xbfa841db68cd49cd ∷ 0x0000000000000000 ∷ 0x3fb0c867c716a6f7 ∷ 0x3fc3050e79a3cdba ∷ 0x0000000000000000 ∷ 0x3ff19760f3bd3bdf ∷ 0x3fa6db7b48292934 ∷ 0x0000000000000000 ∷ 0x40065a4a46dd710d ∷ 0x3fb43242b9e4fab0 ∷ 0x0000000000000000 ∷ 0xbff00ab7bf240f38 ∷ 0x3fed6ff8438ef74a ∷ 0x0000000000000000 ∷ 0xbfac406482bedf0d ∷ 0x3febbe2866f36a30 ∷ 0x0000000000000000 ∷ 0x3ff3181c8e659c8c ∷ 0x3fea87240e2217d3 ∷ 0x0000000000000000 ∷ 0x40070f2348b77b4a ∷ 0x3feff68797b0558a ∷ 0x0000000000000000 ∷ []) (0 ∷ 1 ∷ 4 ∷ 1 ∷ 5 ∷ 4 ∷ 2 ∷ 3 ∷ 7 ∷ 2 ∷ 7 ∷ 6 ∷ []) ([]) 0 0·0 }
unfolding opened asked_graded_0018
graded_0018 = refl

asked_heap_0033 : Asked
asked_heap_0033 = record { given = 12; capacity = 13; count = 4; slots = 13; joints = 0; size = f64 0x3fd0000000000000; stop = 1; quality = base; grid = false }

heap_0033 : call asked_heap_0033 (lent 13 13 (0x3fe785479817d1fe ∷ 0xbfe9e7773fd37390 ∷ 0x0000000000000000 ∷ 0x400019bd458635ba ∷ 0xbfe4fe97fac0cab0 ∷ 0x0000000000000000 ∷ 0x3ff6becf8fb2a19c ∷ 0x3fe903a835022c84 ∷ 0x0000000000000000 ∷ 0x3fc8a3a48912d6d0 ∷ 0xbfd227173dc7b0c8 ∷ 0x0000000000000000 ∷ 0x3ff930c8f6f02407 ∷ 0x3fb3c640eb7ee930 ∷ 0x0000000000000000 ∷ 0x3fed72561a421cb4 ∷ 0x3ff35d8167b9d028 ∷ 0x0000000000000000 ∷ 0xbfd4e5680ab643f4 ∷ 0x3fe5d69b7b607024 ∷ 0x0000000000000000 ∷ 0x3fed1f8d3bda437d ∷ 0x3fe6ed75401c6854 ∷ 0x0000000000000000 ∷ 0xbfb062b25a033440 ∷ 0x4001c5b97d20aa2a ∷ 0x0000000000000000 ∷ 0xbfa5a713d08877e0 ∷ 0xbfcdd3f9e8a5c100 ∷ 0x0000000000000000 ∷ 0x3ff8f02ce554068c ∷ 0xbfd7c8d9e4c81514 ∷ 0x0000000000000000 ∷ 0x3fe5684a62c26c00 ∷ 0x3ff3a0023d3e79ae ∷ 0x0000000000000000 ∷ []) (1 ∷ 2 ∷ 0 ∷ 3 ∷ 4 ∷ 5 ∷ 7 ∷ 8 ∷ 6 ∷ 10 ∷ 11 ∷ 9 ∷ []) [] 5 nan) ≡ record { answer = refusal 8; lent = lent 13 13 (0x3fe785479817d1fe ∷ 0xbfe9e7773fd37390 ∷ 0x0000000000000000 ∷ 0x400019bd458635ba ∷ 0xbfe4fe97fac0cab0 ∷ 0x0000000000000000 ∷ 0x3ff6becf8fb2a19c ∷ 0x3fe903a835022c84 ∷ 0x0000000000000000 ∷ 0x3fc8a3a48912d6d0 ∷ 0xbfd227173dc7b0c8 ∷ 0x0000000000000000 ∷ 0x3ff930c8f6f02407 ∷ 0x3fb3c640eb7ee930 ∷ 0x0000000000000000 ∷ 0x3fed72561a421cb4 ∷ 0x3ff35d8167b9d028 ∷ 0x0000000000000000 ∷ 0xbfd4e5680ab643f4 ∷ 0x3fe5d69b7b607024 ∷ 0x0000000000000000 ∷ 0x3fed1f8d3bda437d ∷ 0x3fe6ed75401c6854 ∷ 0x0000000000000000 ∷ 0xbfb062b25a033440 ∷ 0x4001c5b97d20aa2a ∷ 0x0000000000000000 ∷ 0xbfa5a713d08877e0 ∷ 0xbfcdd3f9e8a5c100 ∷ 0x0000000000000000 ∷ 0x3ff8f02ce554068c ∷ 0xbfd7c8d9e4c81514 ∷ 0x0000000000000000 ∷ 0x3fe5684a62c26c00 ∷ 0x3ff3a0023d3e79ae ∷ 0x0000000000000000 ∷ 0x3ff5b9fb0af4b5f1 ∷ 0xbfa873ce102f0ad8 ∷ 0x0000000000000000 ∷ []) (1 ∷ 2 ∷ 0 ∷ 3 ∷ 4 ∷ 5 ∷ 7 ∷ 8 ∷ 6 ∷ 10 ∷ 11 ∷ 9 ∷ []) ([]) 0 0·0 }
unfolding opened asked_heap_0033
heap_0033 = refl
