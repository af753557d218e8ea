-- Both words are stored.
use Rattle.std.specs.Prelude.{◌≡◌, ◌+◌, ◌*◌, ◌/◌, ◌%◌}
use Rattle.laws.specs.Kit.{arith, rules}
use Rattle.sorting.specs.Words.{stored}
use Rattle.balance.proofs.places.put.Goals as goal

pub returns : goal.returns
returns c =
    let a = c.args.a in
    let r = c.args.rest in
    let e : a / 2048 * 4294967296 + (a % 2048 * 2097152 + r) ≡ a * 2097152 + r = omega arith in
    rw e at (stored c.args.w.now c.args.i (a / 2048) (a % 2048 * 2097152 + r) (search rules))
