-- Meshes of a job: what is answered, charged and handed on.
use Rattle.std.specs.Prelude.{◌≡◌, refl, true, false, List, [], ◌∷◌, ℕ, replicate}
use Rattle.definition.specs.Floats.{0·0, 1·0}
use Rattle.definition.specs.Numbers.{base}
use Rattle.definition.specs.Counts.{tally}
use Rattle.definition.specs.Call.{Asked, Lent, finished, refusal}
use Rattle.definition.specs.Job.{Job, bad_job, job}
use Rattle.vectors.specs.Opened.{opened}

abbrev state : ℕ → ℕ → ℕ → ℕ → Job
state meshes allowance done left = record { meshes = meshes; allowance = allowance; done = done; left = left }

-- one triangle, each of whose edges is refused under the shape
abbrev asked : Asked
asked = record { given = 3; capacity = 3; count = 1; slots = 1; joints = 0; size = 0·0; stop = 0; quality = base; grid = false }

abbrev lent : List ℕ → List ℕ → Lent
lent left sizes =
    record {
      points = 0·0 ∷ 0·0 ∷ 0·0 ∷ 1·0 ∷ 0·0 ∷ 0·0 ∷ 0·0 ∷ 1·0 ∷ 0·0 ∷ [];
      triangles = 0 ∷ 1 ∷ 2 ∷ [];
      joints = [];
      quads = replicate 8 7;
      triangles_out = left;
      components = sizes;
      work = replicate 88 0;
      float_work = replicate 4 0·0;
      trace = [];
    }

-- 21 attempts for two meshes: ten each. Three are made, and seven are handed on.
one_of_two : job (state 2 21 0 0) asked (lent (replicate 3 7) (7 ∷ []))
    ≡ record {
      returned = record { answer = finished (tally 0 3 0 3 0 0 0 0 0 0) (record { quads = 0; triangles = 1; points = 3; components = 1; words = 0 }); lent = lent (0 ∷ 1 ∷ 2 ∷ []) (1 ∷ []) };
      charged = 3;
      next = state 2 21 1 7;
    }
unfolding opened
one_of_two = refl

-- two attempts each: the third is counted and not made, so the mesh reports its limit and one more, and nothing is left
stopped_third : job (state 2 5 0 0) asked (lent (replicate 3 7) (7 ∷ []))
    ≡ record {
      returned = record { answer = finished (tally 0 3 0 2 0 0 0 0 1 0) (record { quads = 0; triangles = 1; points = 3; components = 1; words = 0 }); lent = lent (0 ∷ 1 ∷ 2 ∷ []) (1 ∷ []) };
      charged = 2;
      next = state 2 5 1 0;
    }
unfolding opened
stopped_third = refl

-- 16 where one mesh could leave ten and eleven are handed in, and where both were run; it leaves the state as it was
eleven_left : job (state 2 21 1 11) asked (lent [] []) ≡ record { returned = record { answer = refusal 16; lent = lent [] [] }; charged = 0; next = state 2 21 1 11 }
unfolding opened
eleven_left = refl

none_to_come : bad_job (state 2 21 2 0) ≡ true
unfolding opened
none_to_come = refl

ten_left : bad_job (state 2 21 1 10) ≡ false
unfolding opened
ten_left = refl
