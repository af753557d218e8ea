-- What is shown, as twelve numbers.
use Rattle.std.specs.Prelude.{List, [], ◌∷◌, ℕ}
use Rattle.definition.specs.Counts.{Refusal, Placement, Shape, Recovery, Region, OddRegion}
use Rattle.definition.specs.Cells.{Quad}
use Rattle.definition.specs.Call.{quad_words}
use Rattle.definition.specs.Preview.{Cost, Shown, off_front, shown_quad, shown_kind, shown_refusal}

-- the kinds of refusal, from 1 in the order of the counts
abbrev pub kind_number : Refusal → ℕ
kind_number Placement = 1
kind_number Shape = 2
kind_number Recovery = 3
kind_number Region = 4
kind_number OddRegion = 5

-- what it is, the kind of refusal, what it costs, and a quad
abbrev pub twelve : ℕ → ℕ → Cost → Quad → List ℕ
twelve what kind c q = what ∷ kind ∷ c.insertions ∷ c.flips ∷ quad_words q

-- zeros where there is no quad
abbrev pub no_quad : Quad
no_quad = record { n0 = 0; n1 = 0; n2 = 0; n3 = 0; edge = (0, 0); round = 0; replaced = 0 }

-- the numbers of what is shown: 0 not on the front, 1 a quad, 2 the attempt is refused; a refusal has none
abbrev pub shown_numbers : Shown → List ℕ
shown_numbers (off_front c) = twelve 0 0 c no_quad
shown_numbers (shown_quad q c) = twelve 1 0 c q
shown_numbers (shown_kind why c) = twelve 2 (kind_number why) c no_quad
shown_numbers (shown_refusal k) = []

-- what is returned: a refusal's number, and 0 where something is shown
abbrev pub refusal_number : Shown → ℕ
refusal_number (off_front c) = 0
refusal_number (shown_quad q c) = 0
refusal_number (shown_kind why c) = 0
refusal_number (shown_refusal k) = k
