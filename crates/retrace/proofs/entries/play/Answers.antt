-- After each entry the definition has the rest of the trace before it.
use Rattle.std.specs.Prelude.{◌≡◌, ◌<◌, Ok, Err}
use Rattle.std.proofs.lemmas.Result.{err_from_is_err_and}
use Rattle.laws.specs.Kit.{refl, ◌∙◌, ap, ℕ, arith, List, length}
use Rattle.refusals.specs.Numbers.{not_0}
use Rattle.retrace.specs.Plays.{state, played, Small}
use Rattle.retrace.proofs.Reading.{going_start, going_whole, going_cut, going_more, going_on}
use Rattle.retrace.proofs.entries.play.Goals as goal

small_kept : (quads quads' : List ℕ) (s p : ℕ) → length quads' ≡ length quads → Small quads s p → Small quads' s p
small_kept quads quads' s p e h = record { slots = h.slots; points = h.points; room = omega (arith, h.room) }

pub loop-g-init : goal.loop-g-init
loop-g-init c = λ q₀ old m t z k.
    let a = c.args in
    going_start a.work.now a.points.now a.quads.now a.lay.slots a.lay.points q₀ old (state a.start) a.trace.now t m c.requires.at_value.0 k

pub one_entry-requires-clause-by_index : goal.one_entry-requires-clause-by_index
one_entry-requires-clause-by_index c =
    let k = c.requires.by_index in
    let h = c.loop-g.invariant k.0 k.1 k.2 k.3 k.4 k.5 in
    (k.0, k.1, h.mesh, h.plays, small_kept c.args.quads.now c.loop-g.quads c.args.lay.slots c.args.lay.points c.loop-g.auto.quads k.6)

pub returns-in_err-g : goal.returns-in_err-g
returns-in_err-g c = λ q₀ old m t z k.
    let a = c.args in
    let h = c.loop-g.invariant q₀ old m t z k in
    let e = c.in_err-g.field-0.0 in
    let up = err_from_is_err_and c.from_residual.result c.from_residual.ensures.1 in
    let same : c.from_residual.result ≡ Err e = up.1 ∙ ap Err up.2 in
    rw same
    (going_cut a.work.now c.loop-g.work c.loop-g.points c.loop-g.quads a.lay.slots a.lay.points q₀ old (state c.loop-g.g) a.trace.now t m h c.loop-g-test.true
    c.one_entry.new.work c.one_entry.new.points c.one_entry.new.quads (played (Err e)) (c.in_err-g.ensures q₀ old h.mesh t z h.plays) (not_0 e))

pub loop-g-smaller : goal.loop-g-smaller
loop-g-smaller c =
    let a = c.args in
    let k = c.requires.by_index in
    let h = c.loop-g.invariant k.0 k.1 k.2 k.3 k.4 k.5 in
    let on : c.loop-g.g.at < c.in_ok-g.g.at =
    going_on a.work.now c.loop-g.work c.loop-g.points c.loop-g.quads a.lay.slots a.lay.points k.0 k.1 (state c.loop-g.g) a.trace.now k.3 k.2 h c.loop-g-test.true
    c.one_entry.new.work c.one_entry.new.points c.one_entry.new.quads (state c.in_ok-g.g) (c.in_ok-g.ensures k.0 k.1 h.mesh k.3 k.4 h.plays) refl in
    omega (arith, on, c.loop-g-test.true)

pub loop-g-preserved : goal.loop-g-preserved
loop-g-preserved c = λ q₀ old m t z k.
    let a = c.args in
    let h = c.loop-g.invariant q₀ old m t z k in
    going_more a.work.now c.loop-g.work c.loop-g.points c.loop-g.quads a.lay.slots a.lay.points q₀ old (state c.loop-g.g) a.trace.now t m h c.loop-g-test.true
    c.one_entry.new.work c.one_entry.new.points c.one_entry.new.quads (state c.in_ok-g.g) (c.in_ok-g.ensures q₀ old h.mesh t z h.plays) refl

pub returns : goal.returns
returns c = λ q₀ old m t z k.
    let a = c.args in
    going_whole a.work.now c.loop-g.work c.loop-g.points c.loop-g.quads a.lay.slots a.lay.points q₀ old (state c.loop-g.g) a.trace.now t m (c.loop-g.invariant q₀ old m t z k) c.loop-g-test.false
