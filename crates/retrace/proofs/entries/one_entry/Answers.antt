use Rattle.std.specs.Prelude.{Err}
use Rattle.laws.specs.Kit.{refl}
use Rattle.refusals.specs.declared.named.Refusal.TheVariants.{BadTrace}
use Rattle.retrace.specs.Plays.{state, played}
use Rattle.retrace.proofs.Reading.{other_cut}
use Rattle.retrace.proofs.entries.one_entry.Goals as goal

pub returns-then-kind-eq-SPLITS : goal.returns-then-kind-eq-SPLITS
returns-then-kind-eq-SPLITS c = λ q₀ old m t z k.
    c.split_entry.ensures c.args.quads.now q₀ old m t z k

pub returns-then-kind-eq-FLIPS : goal.returns-then-kind-eq-FLIPS
returns-then-kind-eq-FLIPS c = λ q₀ old m t z k. let d = c in d.flip_entry.ensures q₀ old m t k

pub returns-then-kind-eq-QUADS : goal.returns-then-kind-eq-QUADS
returns-then-kind-eq-QUADS c = λ q₀ old m t z k.
    c.quad_entry.ensures c.args.points.now q₀ old m t z k

pub returns : goal.returns
returns c = λ q₀ old m t z k.
    let a = c.args in
    other_cut a.work.now a.points.now a.quads.now a.lay.slots a.lay.points q₀ old (state a.g) a.trace.now t m (played (Err BadTrace)) refl c.requires.at_in_bounds.0
    _ refl c.if-kind-eq-SPLITS.false c.if-kind-eq-FLIPS.false c.if-kind-eq-QUADS.false
