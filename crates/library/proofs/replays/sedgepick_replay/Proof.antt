-- With room for the lengths the replay; without it 1 or 4.
use mathlib.Core.List.{[]}
use borrow.Author.Rules.{rules}
use Rattle.definition.specs.Call.{Lent}
use Rattle.definition.specs.Replay.{Told}
use Rattle.mesher.specs.Promise.{lent_of}
use Rattle.retrace.specs.Replaying.{answered}
use Rattle.answer_numbers.specs.Replays.{told_for}
use Rattle.library.proofs.Replaying.{without_room, with_number}
use Rattle.library.proofs.replays.sedgepick_replay.Statement.{statement}
use Rattle.library.proofs.replays.sedgepick_replay.Tie as tie

-- what the call states, and what its slices hold
abbrev told : tie.Start → Told
told t = told_for t.args.given t.args.capacity t.args.count t.args.slots t.args.words

abbrev held : tie.Start → Lent
held t =
    lent_of t.args.points.now t.args.triangles.now [] t.args.quads.now t.args.triangles_out.now t.args.components.now t.args.work.now
    t.args.float_work.now t.args.trace.now

abbrev start : tie.After-replay-r → tie.Start
start x = x.before.before.before.before.before.before.before.before.before.before.before.before.before.before.before.before.before

-- what they hold after the replay
abbrev left : tie.After-replay-r → Lent
left x =
    let d = x.replay-r.new in
    let a = (start x).args in
    lent_of d.points a.triangles.now [] d.quads d.triangles_out d.components d.work d.float_work a.trace.now

returns : tie.Need-returns-then-answer-lt-LENGTHS
returns c =
    let t = c in
    without_room (told t.before.before.before.before.before.before.before.before.before.before.before) (held t.before.before.before.before.before.before.before.before.before.before.before) t.args.answer.now c.short_replay.result c.if-answer-lt-LENGTHS.true c.short_replay.ensures

returns_2 : tie.Need-returns
returns_2 c =
    let w = c in
    let x = w in
    let t = start x.before.before.before.before.before.before.before.before.before.before.before.before.before.before.before.before in
    with_number (told t) (held t) t.args.answer.now (answered x.replay-r.result) (left x.before.before.before.before.before.before.before.before.before.before.before.before.before.before.before.before) x.if-answer-lt-LENGTHS.false x.replay-r.ensures
    w.put_replayed.result w.put_replayed.new.answer w.put_replayed.ensures.0 w.put_replayed.ensures.1

pub sedgepick_replay_spec : {M : Type 1} → statement M
sedgepick_replay_spec =
    tie.close
    (tie.spec
    (λ c κs. search rules) (λ c. search rules) returns (λ c κs. search rules) (λ c κs. search rules) (λ c. search rules) (λ c. search rules) (λ c. search rules) (λ c. search rules) (λ c. search rules) (λ c. search rules) (λ c. search rules) returns_2)
