-- `accept_refusals::lent_cells::quad_twice` meets its contract: the definition's six comparisons. Assumes nothing.
use borrow.Author.Tests.{eq-eqb, ne_eqb}
use Rattle.definition.specs.Cells.{new_quad}
use Rattle.accept.specs.Call.{quad_twice}
use Rattle.accept_refusals.proofs.lent_cells.quad_twice.Goals as goal

pub returns-then-n0-n1 : goal.returns-then-n0-n1
unfolding quad_twice new_quad
returns-then-n0-n1 c = rw (eq-eqb _ _ c.if-n0-n1.true)

pub returns-then-n0-n2 : goal.returns-then-n0-n2
unfolding quad_twice new_quad
returns-then-n0-n2 c = rw (ne_eqb _ _ c.if-n0-n1.false, eq-eqb _ _ c.if-n0-n2.true)

pub returns-then-n0-n3 : goal.returns-then-n0-n3
unfolding quad_twice new_quad
returns-then-n0-n3 c = rw (ne_eqb _ _ c.if-n0-n1.false, ne_eqb _ _ c.if-n0-n2.false, eq-eqb _ _ c.if-n0-n3.true)

pub returns-then-n1-n2 : goal.returns-then-n1-n2
unfolding quad_twice new_quad
returns-then-n1-n2 c = rw (ne_eqb _ _ c.if-n0-n1.false, ne_eqb _ _ c.if-n0-n2.false, ne_eqb _ _ c.if-n0-n3.false, eq-eqb _ _ c.if-n1-n2.true)

pub returns-then-n1-n3 : goal.returns-then-n1-n3
unfolding quad_twice new_quad
returns-then-n1-n3 c =
    rw (
      ne_eqb _ _ c.if-n0-n1.false,
      ne_eqb _ _ c.if-n0-n2.false,
      ne_eqb _ _ c.if-n0-n3.false,
      ne_eqb _ _ c.if-n1-n2.false,
      eq-eqb _ _ c.if-n1-n3.true,
    )

pub returns : goal.returns
unfolding quad_twice new_quad
returns c =
    rw (
      ne_eqb _ _ c.if-n0-n1.false,
      ne_eqb _ _ c.if-n0-n2.false,
      ne_eqb _ _ c.if-n0-n3.false,
      ne_eqb _ _ c.if-n1-n2.false,
      ne_eqb _ _ c.if-n1-n3.false,
    )
