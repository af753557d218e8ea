-- `lists::list`: the line of names, then the rows.
use Rattle.laws.specs.Kit.{◌∙◌}
use Rattle.reading.proofs.Chains.{refused, retold}
use Rattle.reading.proofs.Wholes.{names_off, names_on}
use Rattle.definition.specs.Text.{times, three}
use Rattle.reading.proofs.lists.list.Goals as goal

pub returns-in_err-rows-clause-reads : goal.returns-in_err-rows-clause-reads
returns-in_err-rows-clause-reads g c =
    refused _ _ c.from_residual.ensures (names_off _ (times c.args.n (three g.T.Listed.reader)) c.args.s.now c.in_err-rows.ensures)

pub returns-clause-reads : goal.returns-clause-reads
returns-clause-reads g c =
    let f = c.in_ok-rows in
    let on = names_on _ (times c.args.n (three g.T.Listed.reader)) c.args.s.now f.rows.now f.ensures in
    retold c.lines.result (λ e. e ∙ on) (λ rest e. e ∙ on) c.lines.ensures.reads
