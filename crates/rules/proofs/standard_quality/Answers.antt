use mathlib.Core.Path.{refl}
use lib.Ieee.{of_bits}
use Rattle.definition.specs.Floats.{f64, 0·3, 0·5, 0·90630778703665, 2·2}
use Rattle.definition.specs.Numbers.{base}
use Rattle.rules.proofs.standard_quality.Goals as goal

pub returns : goal.returns
unfolding of_bits base 0·3 0·90630778703665 0·5 2·2 f64
returns c = refl
