-- `root::floor` meets its contract, by `proofs/Cut.antt`. Assumes nothing.
use Rattle.std.specs.Prelude.{◌+◌, ◌^◌}
use Rattle.laws.specs.Kit.{arith, rules}
use Rattle.laws.specs.Numbers.{no_nan, no_nan_bits}
use Rattle.laws.specs.Bools.{to_T}
use Rattle.root.proofs.Cut.{floor_nan, floor_large, floor_down, floor_up}
use Rattle.root.proofs.floor.Goals as goal

pub returns-then-x : goal.returns-then-x
returns-then-x c = floor_nan c.args.x c.if-x.true

pub returns-then-a-ge-WHOLE : goal.returns-then-a-ge-WHOLE
returns-then-a-ge-WHOLE c = floor_large c.args.x (to_T c.well_formed.0.1) c.if-a-ge-WHOLE.true c.if-x.false

pub float_from_bits-result : goal.float_from_bits-result
float_from_bits-result c = no_nan_bits c.cut_down.result (omega (arith, c.cut_down.ensures.0))

pub returns-then-b-lt-SIGN : goal.returns-then-b-lt-SIGN
returns-then-b-lt-SIGN c = floor_down c.args.x c.cut_down.result (to_T c.well_formed.0.1) c.if-b-lt-SIGN.true c.cut_down.ensures.1

pub float_from_bits-result-2 : goal.float_from_bits-result-2
float_from_bits-result-2 c = no_nan_bits (2 ^ 63 + c.cut_up.result) (omega (arith, c.cut_up.ensures.0))

pub returns : goal.returns
returns c = floor_up c.args.x c.cut_up.result (to_T c.well_formed.0.1) c.if-b-lt-SIGN.false c.cut_up.ensures.1

pub float_to_bits-b : goal.float_to_bits-b
float_to_bits-b c = no_nan c.args.x c.if-x.false
