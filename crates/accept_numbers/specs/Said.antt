-- The stated numbers and those that are told, in the definition's words.
use Rattle.std.specs.Prelude.{List, [], ◌∷◌, ℕ}
use Rattle.accept.specs.Call.{Handed}
use Rattle.accept_refusals.specs.declared.Stated.{Stated}
use Rattle.accept_refusals.specs.Stated.{handed}
use Rattle.accept_numbers.specs.declared.Told.{Told}

-- the stated numbers, with nothing lent
abbrev pub counts : Stated → Handed
counts s = handed [] [] [] [] [] [] [] [] [] s

-- what it tells, as a list
abbrev pub in_order : Told → List ℕ
in_order t =
    t.accepted ∷ t.moved ∷ t.added ∷ t.folded ∷ t.sharp ∷ t.given_flat ∷ t.left_flat ∷ t.thin ∷ t.u ∷ t.v ∷ t.joint ∷ t.groups ∷ t.odd ∷ []
