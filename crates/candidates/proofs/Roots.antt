-- A length whose square is beyond that of a length too far is too far.
use mathlib.Core.Path.{◌≡◌, refl, sym}
use mathlib.Core.Bool.{Bool, true, false, ◌&&◌, false≢true}
use lib.Ieee.{Float, nan, inf, fin, binary64, fits, lt, of_bits, div}
use Rattle.definition.specs.Floats.{◌≺◌, ◌⊗◌, f64}
use Rattle.definition.specs.Numbers.{Quality, edge_high}
use Rattle.definition.specs.Root.{sqrt}
use Rattle.laws.specs.Bools.{and_left, and_right}
use Rattle.rounding.proofs.RootOrder.{root_beyond}
use Rattle.candidates.specs.Choice.{too_far, FarFrom}

both : (a b : Bool) → a ≡ true → b ≡ true → (a && b) ≡ true
both a b p q = rw (p, q)

pub far_from : (y : Quality) (x target : Float) → fits binary64 x ≡ true → true ≡ too_far y (sqrt x) target → FarFrom y x target
far_from y x target f h = λ z g l.
    both (edge_high ⊗ target ≺ sqrt z) (y.side_high ⊗ target ≺ sqrt z)
    (root_beyond (edge_high ⊗ target) x z f g (and_left (edge_high ⊗ target ≺ sqrt x) (y.side_high ⊗ target ≺ sqrt x) (sym h)) l)
    (root_beyond (y.side_high ⊗ target) x z f g (and_right (edge_high ⊗ target ≺ sqrt x) (y.side_high ⊗ target ≺ sqrt x) (sym h)) l)

pub far_endless : (y : Quality) (target : Float) → FarFrom y (inf false) target
unfolding ◌≺◌ lt
far_endless y target = λ z g l. go z l
  where
    go : (z : Float) → lt (inf false) z ≡ true → too_far y (sqrt z) target ≡ true
    go nan q = absurd (false≢true q)
    go (inf s) q = absurd (false≢true q)
    go (fin s i j) q = absurd (false≢true q)

pub endless : div binary64 (f64 0x3ff0000000000000) (f64 0) ≡ inf false
unfolding f64 of_bits div
endless = refl
