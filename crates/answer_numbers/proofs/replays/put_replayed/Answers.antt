-- A refusal leaves the slice; the lengths of the whole trace are stored.
use Rattle.std.specs.Prelude.{Ok, Err}
use mathlib.Core.Path.{refl}
use Rattle.refusals.specs.Numbers.{not_0}
use Rattle.retrace.specs.Replaying.{answered}
use Rattle.answer_numbers.proofs.Lengths.{kept, put}
use Rattle.answer_numbers.proofs.replays.put_replayed.Goals as goal

pub returns-in-Err : goal.returns-in-Err
returns-in-Err c = rw c.in-Err.is (c.into.ensures, kept (answered (Err c.in-Err.k)) c.args.answer.now (not_0 c.in-Err.k))

pub returns-in-Ok : goal.returns-in-Ok
returns-in-Ok c = rw c.in-Ok.is (refl, put (answered (Ok c.in-Ok.n)) c.args.answer.now c.write_lengths.new.answer refl c.write_lengths.ensures)
