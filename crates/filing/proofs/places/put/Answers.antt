-- Both words are stored.
use Rattle.std.specs.Prelude.{◌≡◌, ◌+◌, ◌*◌, ◌/◌, ◌%◌}
use Rattle.laws.specs.Kit.{arith, rules}
use Rattle.definition.specs.Cells.{new_tri}
use Rattle.filing.specs.Places.{key}
use Rattle.sorting.specs.Words.{stored}
use Rattle.filing.proofs.places.put.Goals as goal

pub returns : goal.returns
unfolding key new_tri
returns c =
    let a = c.args.a in
    let b = c.args.b in
    let d = c.args.c in
    let e : a / 256 * 4294967296 + ((a % 256 * 4096 + b) * 4096 + d) ≡ (a * 4096 + b) * 4096 + d = omega arith in
    rw e at (stored c.args.w.now c.args.i (a / 256) ((a % 256 * 4096 + b) * 4096 + d) (search rules))
