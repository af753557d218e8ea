-- The order, the nodes, the quads that are not stored, then the flip of what is.
use Rattle.std.specs.Prelude.{◌≡◌, Err}
use Rattle.laws.specs.Kit.{refl, sym, ◌∙◌, arith, length}
use Rattle.refusals.specs.declared.named.Refusal.TheVariants.{BadTrace}
use Rattle.retrace.specs.Stored.{stored}
use Rattle.retrace.specs.Plays.{state, played}
use Rattle.retrace.proofs.Flipping.{redo_order, redo_unknown, broken_entry, quads_fit, points_stored, locks_stored, entry_bars, entry_not, entry_made, not_made, short_made}
use Rattle.retrace.proofs.turns.flip_at.Goals as goal

pub returns-then-u-v : goal.returns-then-u-v
returns-then-u-v c = λ q₀ old m t k l.
    let a = c.args in
    broken_entry a.work.now a.work.now a.points.now a.quads.now a.lay.slots a.lay.points q₀ old (state a.g) (played (Err BadTrace)) 3 12 _
    (redo_order t m a.u a.v c.if-u-v.true) (omega arith) refl refl

pub returns-then-v-g : goal.returns-then-v-g
returns-then-v-g c = λ q₀ old m t k l.
    let a = c.args in
    let e : a.g.points ≡ length m.points = k.points in
    broken_entry a.work.now a.work.now a.points.now a.quads.now a.lay.slots a.lay.points q₀ old (state a.g) (played (Err BadTrace)) 3 12 _
    (redo_unknown t m a.u a.v (omega (arith, c.if-v-g.true, e))) (omega arith) refl refl

pub hides-requires-clause-k_in_bounds : goal.hides-requires-clause-k_in_bounds
hides-requires-clause-k_in_bounds c =
    let a = c.args in
    let k = c.requires.by_index in
    quads_fit a.work.now a.points.now a.quads.now a.lay.slots a.lay.points k.0 k.1 (state a.g) k.2 k.3 k.4

pub returns-then-hides : goal.returns-then-hides
returns-then-hides c = λ q₀ old m t k l.
    let a = c.args in
    entry_bars a.work.now a.points.now a.quads.now a.lay.slots a.lay.points q₀ old (state a.g) m k a.u a.v t (played (Err BadTrace))
    (sym c.hides.ensures ∙ c.if-hides.true) refl

pub flip-t-requires-clause-rep : goal.flip-t-requires-clause-rep
flip-t-requires-clause-rep c =
    let a = c.args in
    let k = c.requires.by_index in
    (stored k.2, k.3.rep, points_stored a.work.now a.points.now a.quads.now a.lay.slots a.lay.points k.0 k.1 (state a.g) k.2 k.3, locks_stored k.2 a.j.now k.5)

pub returns-in-Not : goal.returns-in-Not
returns-in-Not c = λ q₀ old m t k l.
    let a = c.args in
    let e : a.g.points ≡ length m.points = k.points in
    entry_not a.work.now a.points.now a.quads.now a.lay.slots a.lay.points q₀ old (state a.g) m k a.u a.v t c.if-u-v.false (omega (arith, c.if-v-g.false, e))
    (sym c.hides.ensures ∙ c.if-hides.false) c.flip-t.new.w c.flip-t.ensures.keeps.len c.flip-t.result
    (c.flip-t.ensures.is (stored m) k.rep (points_stored a.work.now a.points.now a.quads.now a.lay.slots a.lay.points q₀ old (state a.g) m k) (locks_stored m a.j.now l))
    (played (Err BadTrace)) (not_made c.flip-t.result c.in-Not.is) refl

pub returns-in-Short : goal.returns-in-Short
returns-in-Short c = λ q₀ old m t k l.
    let a = c.args in
    let e : a.g.points ≡ length m.points = k.points in
    entry_not a.work.now a.points.now a.quads.now a.lay.slots a.lay.points q₀ old (state a.g) m k a.u a.v t c.if-u-v.false (omega (arith, c.if-v-g.false, e))
    (sym c.hides.ensures ∙ c.if-hides.false) c.flip-t.new.w c.flip-t.ensures.keeps.len c.flip-t.result
    (c.flip-t.ensures.is (stored m) k.rep (points_stored a.work.now a.points.now a.quads.now a.lay.slots a.lay.points q₀ old (state a.g) m k) (locks_stored m a.j.now l))
    (played (Err BadTrace)) (short_made c.flip-t.result c.in-Short.is) refl

pub returns-in-Flipped : goal.returns-in-Flipped
returns-in-Flipped c = λ q₀ old m t k l.
    let a = c.args in
    let e : a.g.points ≡ length m.points = k.points in
    entry_made a.work.now a.points.now a.quads.now a.lay.slots a.lay.points q₀ old (state a.g) m k a.u a.v t c.if-u-v.false (omega (arith, c.if-v-g.false, e))
    (sym c.hides.ensures ∙ c.if-hides.false) c.flip-t.new.w c.flip-t.ensures.keeps.len c.flip-t.result
    (c.flip-t.ensures.is (stored m) k.rep (points_stored a.work.now a.points.now a.quads.now a.lay.slots a.lay.points q₀ old (state a.g) m k) (locks_stored m a.j.now l))
    _ c.in-Flipped.is (record { at = refl; used = refl; points = refl; quads = refl; odd = refl; going = refl })
