use native.Mathlib.Omega.{arith}
use Rattle.candidates.proofs.Words.{raised_one}
use Rattle.candidates.proofs.marks.raise.Goals as goal

pub returns : goal.returns
returns c =
    let a = c.args in
    raised_one a.w.now a.p a.b a.v c.requires.v_lt_p c.requires.spare.fits

pub bounds-w-b : goal.bounds-w-b
bounds-w-b c = omega (arith, c.requires.spare.fits, c.requires.v_lt_p)

pub bounds-w-b-2 : goal.bounds-w-b-2
bounds-w-b-2 c = omega (arith, c.requires.spare.fits, c.requires.v_lt_p)
