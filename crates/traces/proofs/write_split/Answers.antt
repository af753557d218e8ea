use Rattle.std.specs.Prelude.{◌/◌, ◌%◌, ◌∷◌}
use Rattle.laws.specs.Kit.{arith, []}
use lib.Seq.{lt-length-sets}
use Rattle.traces.proofs.Logs.{split_words}
use Rattle.traces.proofs.write_split.Goals as goal

pub bounds-t-1 : goal.bounds-t-1
bounds-t-1 c =
    let a = c.args in
    let f1 = c.bits_of-a.result in
    let f2 = c.bits_of-b.result in
    lt-length-sets a.t.now 0 (1 ∷ []) (omega (arith, c.requires.in_bounds))

pub bounds-t-2 : goal.bounds-t-2
bounds-t-2 c =
    let a = c.args in
    let f1 = c.bits_of-a.result in
    let f2 = c.bits_of-b.result in
    lt-length-sets a.t.now 0 (1 ∷ a.i ∷ []) (omega (arith, c.requires.in_bounds))

pub bounds-t-3 : goal.bounds-t-3
bounds-t-3 c =
    let a = c.args in
    let f1 = c.bits_of-a.result in
    let f2 = c.bits_of-b.result in
    lt-length-sets a.t.now 0 (1 ∷ a.i ∷ f1 % 4294967296 ∷ []) (omega (arith, c.requires.in_bounds))

pub bounds-t-4 : goal.bounds-t-4
bounds-t-4 c =
    let a = c.args in
    let f1 = c.bits_of-a.result in
    let f2 = c.bits_of-b.result in
    lt-length-sets a.t.now 0 (1 ∷ a.i ∷ f1 % 4294967296 ∷ f1 / 4294967296 ∷ []) (omega (arith, c.requires.in_bounds))

pub returns : goal.returns
returns c =
    let a = c.args in
    split_words a.t.now a.i c.bits_of-a.result c.bits_of-b.result a.x a.y c.bits_of-a.ensures c.bits_of-b.ensures c.requires.in_bounds
