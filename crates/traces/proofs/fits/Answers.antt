use Rattle.laws.specs.Kit.{sym, arith}
use Rattle.traces.proofs.Logs.{fits_none, fits_within, fits_left}
use Rattle.traces.proofs.fits.Goals as goal

pub returns-then-t-eq0 : goal.returns-then-t-eq0
returns-then-t-eq0 c =
    let a = c.args in
    λ base m m' v h k l. sym (fits_none base a.t.now a.at m m' v c.if-t-eq0.true h k)

pub returns-then-at-t : goal.returns-then-at-t
returns-then-at-t c =
    let a = c.args in
    λ base m m' v h k l. absurd (omega (arith, fits_within base a.t.now a.at m h, c.if-at-t.true))

pub returns : goal.returns
returns c =
    let a = c.args in
    λ base m m' v h k l. fits_left base a.t.now a.at a.n m m' v c.if-t-eq0.false h k l
