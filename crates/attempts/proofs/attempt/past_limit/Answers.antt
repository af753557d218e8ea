use Rattle.attempts.proofs.Limits.{past_first, past_second}
use Rattle.attempts.proofs.attempt.past_limit.Goals as goal

pub returns-then-c-most : goal.returns-then-c-most
returns-then-c-most c =
    let a = c.args in
    past_first a.most a.given a.c.attempts a.c.live c.if-c-most.true

pub returns : goal.returns
returns c =
    let a = c.args in
    past_second a.most a.given a.c.attempts a.c.live c.if-c-most.false
