-- What a preview shows as twelve stores.
use mathlib.Core.Path.{◌≡◌, refl}
use mathlib.Core.List.{List, []}
use Prim.Native.Nat.{ℕ, ◌≤◌}
use native.Mathlib.Omega.{arith}
use lib.ListN.{length, set}
use lib.Seq.{sets-eq}
use Rattle.definition.specs.Call.{onto, quad_words}
use Rattle.mesher.specs.declared.preview.Born.{Born}
use Rattle.mesher.specs.declared.preview.Cost.{Cost}
use Rattle.mesher.specs.Previews.{born_of, cost_of}
use Rattle.answer_numbers.specs.Previews.{twelve}

-- the stores, first to last
abbrev stored : List ℕ → ℕ → ℕ → Cost → Born → List ℕ
stored xs what kind c q =
    set (set (set (set (set (set (set (set (set (set (set (set xs
    0 what) 1 kind) 2 c.insertions) 3 c.flips) 4 q.n0) 5 q.n1) 6 q.n2) 7 q.n3) 8 q.u) 9 q.v) 10 q.round) 11 q.replaced

pub written : (xs : List ℕ) (what kind : ℕ) (c : Cost) (q : Born) → 12 ≤ length xs → stored xs what kind c q ≡ onto (twelve what kind (cost_of c) (born_of q)) xs
unfolding onto quad_words
written xs what kind c q h = sets-eq (twelve what kind (cost_of c) (born_of q)) xs 0 (omega (arith, h))

-- a refusal has no numbers
pub none_written : (xs : List ℕ) → xs ≡ onto [] xs
unfolding onto
none_written xs = refl
