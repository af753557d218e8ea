-- Laws on floats and on tests that the proofs share.
use Rattle.std.specs.Prelude.{◌≡◌, ◌&&◌}
use Rattle.laws.specs.Kit.{refl, true, false, Float, binary64, nan, fin, inf, of_bits, lt, neg, div}
use Rattle.definition.specs.Floats.{finite}

-- between the infinities
pub finite_between : (x : Float) → finite x ≡ lt (inf true) x && lt x (inf false)
unfolding finite lt
finite_between nan = refl
finite_between (inf true) = refl
finite_between (inf false) = refl
finite_between (fin s m e) = refl

-- ---- what the code divides by zero to get

pub zero_over_zero : div binary64 (of_bits binary64 0) (of_bits binary64 0) ≡ nan
unfolding div of_bits
zero_over_zero = refl

pub one_over_zero : div binary64 (of_bits binary64 0x3ff0000000000000) (of_bits binary64 0) ≡ inf false
unfolding div of_bits
one_over_zero = refl

pub minus_one_over_zero : div binary64 (neg (of_bits binary64 0x3ff0000000000000)) (of_bits binary64 0) ≡ inf true
unfolding div neg of_bits
minus_one_over_zero = refl
