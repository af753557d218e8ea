use Rattle.std.specs.Prelude.{Err}
use Rattle.laws.specs.Kit.{refl, arith}
use Rattle.refusals.specs.declared.named.Refusal.TheVariants.{BadTrace}
use Rattle.retrace.specs.Plays.{state, played}
use Rattle.retrace.proofs.Reading.{split_cut, split_done}
use Rattle.retrace.proofs.entries.split_entry.Goals as goal

pub returns-then-trace-at-lt-SPLIT : goal.returns-then-trace-at-lt-SPLIT
returns-then-trace-at-lt-SPLIT c = λ quads q₀ old m t z k.
    let a = c.args in
    split_cut a.work.now a.points.now quads a.lay.slots a.lay.points q₀ old (state a.g) a.trace.now t m (played (Err BadTrace)) refl c.requires.at_kind c.if-trace-at-lt-SPLIT.true

pub returns : goal.returns
returns c = λ quads q₀ old m t z k.
    let a = c.args in
    split_done a.work.now c.split_at.new.work a.points.now c.split_at.new.points quads quads a.lay.slots a.lay.points q₀ old (state a.g) a.trace.now t m (played c.split_at.result) c.requires.at_kind
    (omega (arith, c.if-trace-at-lt-SPLIT.false, c.requires.at_kind.inside)) c.wide-i.result c.double-x.result c.double-y.result c.wide-i.ensures c.double-x.ensures c.double-y.ensures
    (c.split_at.ensures quads q₀ old m t z k)
