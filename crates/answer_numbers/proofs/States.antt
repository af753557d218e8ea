-- The five numbers of a job as five stores.
use mathlib.Core.Path.{◌≡◌}
use mathlib.Core.List.{List, [], ◌∷◌}
use Prim.Native.Nat.{ℕ, ◌≤◌}
use native.Mathlib.Omega.{arith}
use lib.ListN.{length, set}
use lib.Seq.{sets-eq}
use Rattle.definition.specs.Call.{onto}
use Rattle.allowances.specs.declared.Job.{Job}

pub written : (xs : List ℕ) (j : Job) (n : ℕ) → 5 ≤ length xs
    → set (set (set (set (set xs 0 j.meshes) 1 j.allowance) 2 j.done) 3 j.left) 4 n ≡ onto (j.meshes ∷ j.allowance ∷ j.done ∷ j.left ∷ n ∷ []) xs
unfolding onto
written xs j n h = sets-eq (j.meshes ∷ j.allowance ∷ j.done ∷ j.left ∷ n ∷ []) xs 0 (omega (arith, h))
