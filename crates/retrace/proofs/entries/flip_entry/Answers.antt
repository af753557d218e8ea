use Rattle.std.specs.Prelude.{Err}
use Rattle.laws.specs.Kit.{refl, sym, subst, arith}
use Rattle.joints.specs.Table.{Locks}
use Rattle.refusals.specs.declared.named.Refusal.TheVariants.{BadTrace}
use Rattle.retrace.specs.Plays.{state, played}
use Rattle.retrace.proofs.Reading.{flip_cut, flip_done}
use Rattle.retrace.proofs.entries.flip_entry.Goals as goal

pub returns-then-trace-at-lt-FLIP : goal.returns-then-trace-at-lt-FLIP
returns-then-trace-at-lt-FLIP c = λ q₀ old m t k.
    let a = c.args in
    flip_cut a.work.now a.points.now a.quads.now a.lay.slots a.lay.points q₀ old (state a.g) a.trace.now t m (played (Err BadTrace)) refl c.requires.at_kind.0 c.if-trace-at-lt-FLIP.true

pub flip_at-requires : goal.flip_at-requires
flip_at-requires c =
    let a = c.args in
    let k = c.requires.by_index in
    record { by_index = (k.0, k.1, k.2, k.3, k.4, subst (Locks a.j.now) (sym k.3.free) c.requires.at_kind.1); at_bound = omega (arith, c.if-trace-at-lt-FLIP.false, c.requires.at_kind.0.inside, c.well_formed.1.1.1.0) }

pub returns : goal.returns
returns c = λ q₀ old m t k.
    let a = c.args in
    flip_done a.work.now c.flip_at.new.work a.points.now a.points.now a.quads.now a.quads.now a.lay.slots a.lay.points q₀ old (state a.g) a.trace.now t m (played c.flip_at.result) c.requires.at_kind.0
    (omega (arith, c.if-trace-at-lt-FLIP.false, c.requires.at_kind.0.inside)) c.wide-u.result c.wide-v.result c.wide-u.ensures c.wide-v.ensures
    (c.flip_at.ensures q₀ old m t k (subst (Locks a.j.now) (sym k.free) c.requires.at_kind.1))
