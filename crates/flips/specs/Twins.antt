-- What is said of an edge's owners.
use Rattle.std.specs.Prelude.{◌≡◌, List, ℕ, Option, Some, None}
use Rattle.std.proofs.Math.Option.{none}
use Rattle.definition.specs.Cells.{Mesh, key}
use Rattle.definition.specs.Flips.{flip}
use Rattle.flips.specs.Flip.{Kinds, TwinsAt}

-- the slots i and j where both hold triangles
abbrev pub OfKinds : List ℕ → ℕ → ℕ → Option (ℕ × ℕ) → Type 0
OfKinds w i j (Some t) = (t.0 ≡ i) × (t.1 ≡ j) × Kinds w i j
OfKinds w i j None = Kinds w i j → ⊥

-- two triangles own the edge; where others do, there is no flip
abbrev pub IsTwins : Mesh → ℕ → ℕ → Option (ℕ × ℕ) → Type 0
IsTwins m u v (Some t) = TwinsAt m u v t.0 t.1
IsTwins m u v None = flip m (key u v) ≡ none
