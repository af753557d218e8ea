-- The promise of the exported acceptance: the call of its definition,
-- with the verdict as thirteen numbers in a slice of their own.
use Rattle.std.specs.Prelude.{◌≡◌, List, ℕ, ◌<◌, ◌≤◌, length, Float}
use Rattle.refusals.specs.Refusals.{number_of}
use Rattle.accept.specs.Call.{Handed, Returned, refused, call}
use Rattle.accept_refusals.specs.declared.Stated.{Stated}
use Rattle.accept_numbers.specs.Numbers.{up_to_4, Tells}

-- the numbers that the caller states
abbrev pub stated : ℕ → ℕ → ℕ → ℕ → ℕ → ℕ → Float → Float → Stated
stated given count points quads left joints cosine thin = record { given = given; count = count; points = points; quads = quads; left = left; joints = joints; cosine = cosine; thin = thin }

-- With room for the numbers: the definition's answer as numbers, and the slices as its call leaves them.
pub record Judges (h : Handed) (x : Returned) (old : List ℕ) (k : ℕ) (new components work parents : List ℕ) : Type 0 where
  pub tells : Tells h x.answer old k new
  pub components_are : components ≡ x.components
  pub work_is : work ≡ x.work
  pub parents_are : parents ≡ x.parents

-- Without: refused, and nothing is touched.
pub record ShortVerdict (h : Handed) (old : List ℕ) (k : ℕ) (new components work parents : List ℕ) : Type 0 where
  pub number : k ≡ up_to_4 (number_of (refused h))
  pub answer : new ≡ old
  pub components_are : components ≡ h.components
  pub work_is : work ≡ h.work
  pub parents_are : parents ≡ h.parents

-- k is returned of an acceptance that is handed h, with `old` in the answer's slice;
-- `new` and the three others are there then
pub record ExportedVerdict (h : Handed) (old : List ℕ) (k : ℕ) (new components work parents : List ℕ) : Type 0 where
  pub roomy : 13 ≤ length old → Judges h (call h) old k new components work parents
  pub short : length old < 13 → ShortVerdict h old k new components work parents
