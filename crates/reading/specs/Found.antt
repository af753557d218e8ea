-- What the readers' answers stand for: the definition's readings,
-- a value with the bytes that are left.
use Rattle.std.specs.Prelude.{◌∷◌}
use Rattle.laws.specs.Kit.{cond, Option, none, some, ℕ, leb, List, []}
use Rattle.definition.specs.Text.{Bytes, Taken, Reader, exactly, lit, dec, hex, node, three, times, give, ◌>>=◌, ◌>>◌}

-- a value, and the bytes after it
abbrev pub taken : {A : Type 0} → A → Bytes → Option (Taken A)
taken a x = some (record { value = a; rest = x })

-- a number of at most m
unfoldable pub limited : ℕ → Option (Taken ℕ) → Option (Taken ℕ)
limited m none = none
limited m (some t) = cond (leb t.value m) (some t) none

-- a decimal number of at most m
unfoldable pub up_to : ℕ → Reader ℕ
up_to m s = limited m (dec s)

-- a value, then one byte
unfoldable pub and_then : {A : Type 0} → ℕ → Reader A → Reader A
and_then b r = r >>= λ v. exactly (b ∷ []) >> give v

-- a line of names, then n lines of three values
abbrev pub list_of : Bytes → Reader ℕ → ℕ → Reader (List (List ℕ))
list_of names r n = exactly names >> times n (three r)

-- a line of names, then n triangles
unfoldable pub triangle_list : ℕ → Reader (List (List ℕ))
triangle_list n = lit "n0 n1 n2\n" >> times n (three node)

-- a line of names, then n points
unfoldable pub point_list : ℕ → Reader (List (List ℕ))
point_list n = lit "x y z\n" >> times n (three hex)

-- a word's number is the word itself
abbrev pub itself : ℕ → ℕ
itself n = n
