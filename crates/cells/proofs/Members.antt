-- A cell of a list.
use mathlib.Core.Path.{◌≡◌}
use mathlib.Core.List.{List, [], ◌∷◌}
use Prim.Native.Nat.{ℕ}
use Rattle.rings.specs.Rings.{Out}
use Rattle.rings.proofs.Lists.{Same, same, differ, decide}
use Rattle.definition.specs.Cells.{Live}
use Rattle.cells.specs.Rep.{Held, Cells, slots, Has, here, there}

pub data Lookup (i : ℕ) (l : List Live) : Type 0 where
  absent : Out i (slots l) → Lookup i l
  present : (x : Live) → x.slot ≡ i → Has x l → Lookup i l

pub lookup : (i : ℕ) (l : List Live) → Lookup i l
lookup i [] = absent tt
lookup i (e ∷ l) = go (decide e.slot i) (lookup i l)
  where
    go : Same e.slot i → Lookup i l → Lookup i (e ∷ l)
    go (same q) r = present e q here
    go (differ q) (absent o) = absent ((q, o))
    go (differ q) (present x z h) = present x z (there h)

pub has_held : (w : List ℕ) (s k n : ℕ) {x : Live} {l : List Live} → Has x l → Cells w s k n l → Held w s k n x
has_held w s k n here h = h.0
has_held w s k n (there r) h = has_held w s k n r h.1
