use Rattle.std.specs.Prelude.{◌∷◌}
use Rattle.laws.specs.Kit.{arith, []}
use lib.Seq.{lt-length-sets}
use Rattle.settling.proofs.Texts.{written}
use Rattle.settling.proofs.settle.write_quad.Goals as goal

pub bounds-quads-1 : goal.bounds-quads-1
bounds-quads-1 c =
    let a = c.args in
    lt-length-sets a.quads.now 0 (a.z.n0 ∷ []) (omega (arith, c.requires.in_bounds))

pub bounds-quads-2 : goal.bounds-quads-2
bounds-quads-2 c =
    let a = c.args in
    lt-length-sets a.quads.now 0 (a.z.n0 ∷ a.z.n1 ∷ []) (omega (arith, c.requires.in_bounds))

pub bounds-quads-3 : goal.bounds-quads-3
bounds-quads-3 c =
    let a = c.args in
    lt-length-sets a.quads.now 0 (a.z.n0 ∷ a.z.n1 ∷ a.z.n2 ∷ []) (omega (arith, c.requires.in_bounds))

pub bounds-quads-4 : goal.bounds-quads-4
bounds-quads-4 c =
    let a = c.args in
    lt-length-sets a.quads.now 0 (a.z.n0 ∷ a.z.n1 ∷ a.z.n2 ∷ a.z.n3 ∷ []) (omega (arith, c.requires.in_bounds))

pub bounds-quads-5 : goal.bounds-quads-5
bounds-quads-5 c =
    let a = c.args in
    lt-length-sets a.quads.now 0 (a.z.n0 ∷ a.z.n1 ∷ a.z.n2 ∷ a.z.n3 ∷ a.u ∷ []) (omega (arith, c.requires.in_bounds))

pub bounds-quads-6 : goal.bounds-quads-6
bounds-quads-6 c =
    let a = c.args in
    lt-length-sets a.quads.now 0 (a.z.n0 ∷ a.z.n1 ∷ a.z.n2 ∷ a.z.n3 ∷ a.u ∷ a.v ∷ []) (omega (arith, c.requires.in_bounds))

pub bounds-quads-7 : goal.bounds-quads-7
bounds-quads-7 c =
    let a = c.args in
    lt-length-sets a.quads.now 0 (a.z.n0 ∷ a.z.n1 ∷ a.z.n2 ∷ a.z.n3 ∷ a.u ∷ a.v ∷ a.round ∷ []) (omega (arith, c.requires.in_bounds))

pub returns : goal.returns
returns c =
    let a = c.args in
    written a.quads.now a.z a.u a.v a.round c.requires.in_bounds
