-- `answers::mixed_answer`: the refusal's number, then the rest, all zeros in a refusal.
use Rattle.hashing.specs.Hash.{hash}
use Rattle.acceptance.proofs.answers.mixed_answer.Goals as goal

pub returns-in-Ok : goal.returns-in-Ok
unfolding hash
returns-in-Ok c = rw (c.in-Ok.is, c.mixed_counts.ensures, c.mixed.ensures)

pub returns-in-Err : goal.returns-in-Err
unfolding hash
returns-in-Err c =
    let d = c.default.ensures in
    rw (c.in-Err.is, c.mixed_counts-in-Err.ensures, c.mixed-in-Err.ensures, c.from.ensures, d.0, d.1.0, d.1.1.0, d.1.1.1.0, d.1.1.1.1.0, d.1.1.1.1.1.0, d.1.1.1.1.1.1.0, d.1.1.1.1.1.1.1.0, d.1.1.1.1.1.1.1.1.0, d.1.1.1.1.1.1.1.1.1.0, d.1.1.1.1.1.1.1.1.1.1.0, d.1.1.1.1.1.1.1.1.1.1.1.0, d.1.1.1.1.1.1.1.1.1.1.1.1.0, d.1.1.1.1.1.1.1.1.1.1.1.1.1.0, d.1.1.1.1.1.1.1.1.1.1.1.1.1.1)
