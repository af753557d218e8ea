use Rattle.std.specs.Prelude.{Err}
use Rattle.laws.specs.Kit.{refl, arith}
use Rattle.refusals.specs.declared.named.Refusal.TheVariants.{BadTrace}
use Rattle.retrace.specs.Plays.{state, played}
use Rattle.retrace.proofs.Reading.{quad_cut, slots_cut, quad_done}
use Rattle.retrace.proofs.entries.quad_entry.Goals as goal

pub returns-then-left-lt-HEAD : goal.returns-then-left-lt-HEAD
returns-then-left-lt-HEAD c = λ q q₀ old m t z k.
    let a = c.args in
    quad_cut a.work.now q a.quads.now a.lay.slots a.lay.points q₀ old (state a.g) a.trace.now t m (played (Err BadTrace)) refl c.requires.at_kind c.if-left-lt-HEAD.true

pub returns-then-left-n : goal.returns-then-left-n
returns-then-left-n c = λ q q₀ old m t z k.
    let a = c.args in
    slots_cut a.work.now q a.quads.now a.lay.slots a.lay.points q₀ old (state a.g) a.trace.now t m (played (Err BadTrace)) refl c.requires.at_kind c.if-left-lt-HEAD.false
    c.wide-n.result c.wide-n.ensures c.if-left-n.true

pub returns : goal.returns
returns c = λ q q₀ old m t z k.
    let a = c.args in
    quad_done a.work.now c.quad_at.new.work q q a.quads.now c.quad_at.new.quads a.lay.slots a.lay.points q₀ old (state a.g) a.trace.now t m (played c.quad_at.result) c.requires.at_kind c.wide-n.result c.wide-n.ensures
    (omega (arith, c.if-left-lt-HEAD.false, c.if-left-n.false, c.requires.at_kind.inside)) (c.quad_at.ensures q q₀ old m t z k)
