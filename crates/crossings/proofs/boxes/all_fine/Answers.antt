use Rattle.laws.specs.Kit.{false≢true, not-false}
use Rattle.crossings.proofs.boxes.all_fine.Goals as goal

pub returns : goal.returns
returns c = λ e.
    let b = c.args.b in
    record { left = not-false _ c.if-not-b.false; right = not-false _ c.if-not-b-2.false; low = not-false _ c.if-not-b-3.false; high = e }

pub returns-then-not-b : goal.returns-then-not-b
returns-then-not-b c = λ e. absurd (false≢true e)

pub returns-then-not-b-2 : goal.returns-then-not-b-2
returns-then-not-b-2 c = λ e. absurd (false≢true e)

pub returns-then-not-b-3 : goal.returns-then-not-b-3
returns-then-not-b-3 c = λ e. absurd (false≢true e)
