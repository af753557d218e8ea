-- The loop's invariant: the codes from t up to c are the sentinels of empty rings, and nothing else changed.
-- The measure is what is left.
use Rattle.std.specs.Prelude.{◌+◌}
use Rattle.laws.specs.Kit.{arith, length-set}
use Rattle.laws.specs.Frames.{only_refl}
use Rattle.rings.proofs.Opens.{open_more, open_done}
use Rattle.rings.proofs.open.Goals as goal

pub loop-c-init : goal.loop-c-init
loop-c-init c =
    let a = c.args in
    record { above = omega arith; within = c.requires.first; kept = only_refl a.w.now a.b (a.b + a.n + a.n); alone = λ x l h. absurd (omega arith) }

pub bounds-w-b : goal.bounds-w-b
bounds-w-b c = omega (arith, c.loop-c.invariant.kept.len)

pub bounds-w-b-in-loop-c : goal.bounds-w-b-in-loop-c
bounds-w-b-in-loop-c c = simp length-set (omega (arith, c.loop-c.invariant.kept.len))

pub loop-c-preserved : goal.loop-c-preserved
loop-c-preserved c =
    let l = c.loop-c in
    open_more c.args.w.now l.w c.args.b c.args.n c.args.t l.c c.requires.fits c.loop-c-test.true l.invariant

pub returns : goal.returns
returns c =
    let l = c.loop-c in
    open_done c.args.w.now l.w c.args.b c.args.n c.args.t l.c c.loop-c-test.false l.invariant

pub shape_of-w : goal.shape_of-w
shape_of-w c = c.loop-c.invariant.kept.len
