-- The first k words are those of w.
use Rattle.std.specs.Prelude.{◌≡◌, ◌++◌}
use Rattle.laws.specs.Kit.{refl, subst, ℕ, arith, take, drop}
use Rattle.traces.proofs.Parts.{copied_more}
use Rattle.traces.proofs.copy_words.Goals as goal

pub loop-k-init : goal.loop-k-init
loop-k-init c = record { within = omega arith; len = refl; are = refl }

pub bounds-w-from : goal.bounds-w-from
bounds-w-from c = omega (arith, c.requires.n_in_bounds_2, c.loop-k-test.true)

pub bounds-t-k : goal.bounds-t-k
bounds-t-k c = omega (arith, c.requires.n_in_bounds, c.loop-k-test.true, c.loop-k.invariant.len)

pub loop-k-preserved : goal.loop-k-preserved
loop-k-preserved c =
    let a = c.args in
    let x = c.loop-k in
    copied_more a.w.now a.t.now x.t a.from a.n x.k c.requires.n_in_bounds c.requires.n_in_bounds_2 c.loop-k-test.true x.invariant

pub shape_of-t : goal.shape_of-t
shape_of-t c = c.loop-k.invariant.len

pub returns : goal.returns
returns c =
    let a = c.args in
    let x = c.loop-k in
    let e : x.k ≡ a.n = omega (arith, c.loop-k-test.false, x.invariant.within) in
    subst (λ (z : ℕ). x.t ≡ take z (drop a.from a.w.now) ++ drop z a.t.now) e x.invariant.are
