-- No quad passed has the edge; the first that does answers.
use Rattle.laws.specs.Kit.{sym, ◌∙◌, arith, not-suc-le-zero}
use borrow.Author.Count.{below_more}
use Rattle.definition.specs.Call.{quad_at, first_quads}
use Rattle.laws.specs.Bools.{holds, never}
use Rattle.laws.specs.Tables.{none_below, below_none}
use Rattle.retrace.proofs.turns.quad_has.Goals as goal

pub loop-i-init : goal.loop-i-init
loop-i-init c = (omega arith, λ x h. absurd (not-suc-le-zero h))

pub has_side-requires : goal.has_side-requires
has_side-requires c =
    record { i_in_bounds = (omega (arith, c.requires.k_in_bounds), omega (arith, c.requires.k_in_bounds)); u_lt_v = c.requires.u_lt_v }

pub returns-then-has_side : goal.returns-then-has_side
unfolding first_quads
returns-then-has_side c =
    let a = c.args in
    sym (holds _ (λ z. never _ (sym c.has_side.ensures ∙ c.if-has_side.true) (below_none _ (quad_at a.quads.now) a.k z c.loop-i.i (omega arith))))

pub loop-i-preserved : goal.loop-i-preserved
loop-i-preserved c =
    (omega arith, below_more _ _ c.loop-i.invariant.1 (sym c.has_side.ensures ∙ c.if-has_side.false))

pub returns : goal.returns
unfolding first_quads
returns c =
    let a = c.args in
    sym (none_below _ (quad_at a.quads.now) a.k (λ x b. c.loop-i.invariant.1 x (omega arith)))
