-- A text written into a slice of bytes.
use Rattle.std.specs.Prelude.{◌≡◌, ◌+◌, ◌≤◌, ◌++◌}
use Rattle.laws.specs.Kit.{ℕ, List, length, take, drop}
use Rattle.definition.specs.Text.{Bytes}

-- the slice with t from place p on, and all else as it was
unfoldable pub put : ℕ → Bytes → List ℕ → List ℕ
put p t xs = take p xs ++ (t ++ drop (p + length t) xs)

-- t was written at p, and q is the place after it
pub record Written (before after : List ℕ) (p : ℕ) (t : Bytes) (q : ℕ) : Type 0 where
  pub holds : after ≡ put p t before
  pub next : q ≡ p + length t

-- t was written in at most so many bytes
pub record Within (before after : List ℕ) (p : ℕ) (t : Bytes) (q most : ℕ) : Type 0 where
  pub written : Written before after p t q
  pub short : q ≤ p + most

-- a word's number is the word itself
abbrev pub itself : ℕ → ℕ
itself n = n
