-- Both words are stored.
use Rattle.std.specs.Prelude.{◌≡◌, ◌+◌, ◌*◌, ◌/◌, ◌%◌}
use Rattle.laws.specs.Kit.{arith, rules}
use Rattle.sorting.specs.Words.{stored}
use Rattle.groups.proofs.places.put.Goals as goal

pub returns : goal.returns
returns c =
    let a = c.args.a in
    let b = c.args.b in
    let t = c.args.t in
    let e : (a * 256 + b / 4096) * 4294967296 + (b % 4096 * 1048576 + t) ≡ (a * 1048576 + b) * 1048576 + t = omega arith in
    rw e at (stored c.args.w.now c.args.i (a * 256 + b / 4096) (b % 4096 * 1048576 + t) (search rules))
