use Rattle.std.specs.Prelude.{◌∷◌}
use Rattle.laws.specs.Kit.{arith, []}
use lib.Seq.{lt-length-sets, sets-eq}
use Rattle.traces.specs.Log.{heads}
use Rattle.traces.proofs.write_quad.Goals as goal

pub bounds-t-1 : goal.bounds-t-1
bounds-t-1 c =
    let a = c.args in
    lt-length-sets a.t.now 0 (4 ∷ []) (omega (arith, c.requires.in_bounds))

pub bounds-t-2 : goal.bounds-t-2
bounds-t-2 c =
    let a = c.args in
    lt-length-sets a.t.now 0 (4 ∷ a.g.n0 ∷ []) (omega (arith, c.requires.in_bounds))

pub bounds-t-3 : goal.bounds-t-3
bounds-t-3 c =
    let a = c.args in
    lt-length-sets a.t.now 0 (4 ∷ a.g.n0 ∷ a.g.n1 ∷ []) (omega (arith, c.requires.in_bounds))

pub bounds-t-4 : goal.bounds-t-4
bounds-t-4 c =
    let a = c.args in
    lt-length-sets a.t.now 0 (4 ∷ a.g.n0 ∷ a.g.n1 ∷ a.g.n2 ∷ []) (omega (arith, c.requires.in_bounds))

pub bounds-t-5 : goal.bounds-t-5
bounds-t-5 c =
    let a = c.args in
    lt-length-sets a.t.now 0 (4 ∷ a.g.n0 ∷ a.g.n1 ∷ a.g.n2 ∷ a.g.n3 ∷ []) (omega (arith, c.requires.in_bounds))

pub bounds-t-6 : goal.bounds-t-6
bounds-t-6 c =
    let a = c.args in
    lt-length-sets a.t.now 0 (4 ∷ a.g.n0 ∷ a.g.n1 ∷ a.g.n2 ∷ a.g.n3 ∷ a.g.u ∷ []) (omega (arith, c.requires.in_bounds))

pub bounds-t-7 : goal.bounds-t-7
bounds-t-7 c =
    let a = c.args in
    lt-length-sets a.t.now 0 (4 ∷ a.g.n0 ∷ a.g.n1 ∷ a.g.n2 ∷ a.g.n3 ∷ a.g.u ∷ a.g.v ∷ []) (omega (arith, c.requires.in_bounds))

pub bounds-t-8 : goal.bounds-t-8
bounds-t-8 c =
    let a = c.args in
    lt-length-sets a.t.now 0 (4 ∷ a.g.n0 ∷ a.g.n1 ∷ a.g.n2 ∷ a.g.n3 ∷ a.g.u ∷ a.g.v ∷ a.g.round ∷ []) (omega (arith, c.requires.in_bounds))

pub returns : goal.returns
returns c =
    let a = c.args in
    sets-eq (heads a.g a.n) a.t.now 0 (omega (arith, c.requires.in_bounds))
