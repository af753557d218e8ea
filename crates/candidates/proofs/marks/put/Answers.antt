use native.Mathlib.Omega.{arith}
use Rattle.candidates.proofs.Words.{put_one}
use Rattle.candidates.proofs.marks.put.Goals as goal

pub returns : goal.returns
returns c =
    let a = c.args in
    put_one a.w.now a.p a.b a.v c.requires.v_lt_p c.requires.spare.fits

pub bounds-w-b : goal.bounds-w-b
bounds-w-b c = omega (arith, c.requires.spare.fits, c.requires.v_lt_p)
