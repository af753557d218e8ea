-- `lists::lines`.
-- Invariant: i rows stand at the front of the slice, and what is left of the list is at the front of the rest.
use Rattle.std.specs.Prelude.{◌+◌, ◌-◌, ◌*◌}
use Rattle.laws.specs.Kit.{refl, sym, ◌∙◌, arith, map}
use Rattle.std.proofs.lemmas.List.{length-map}
use Rattle.reading.proofs.Chains.{refused}
use Rattle.reading.proofs.Threes.{row_long}
use Rattle.reading.proofs.Rows.{rows_start, rows_off, rows_more, rows_done, rows_put, past_put}
use Rattle.definition.specs.Lists.{rows}
use Rattle.definition.specs.Text.{three}
use Rattle.reading.proofs.lists.lines.Goals as goal

pub loop-i-init : goal.loop-i-init
loop-i-init g c = record { within = omega arith; reads = rows_start (map g.T.Listed.number_of c.args.into.now) (three g.T.Listed.reader) c.args.n _; past = refl }

pub returns-in_err-row-clause-reads : goal.returns-in_err-row-clause-reads
returns-in_err-row-clause-reads g c =
    let l = c.loop-i in
    refused _ _ c.from_residual.ensures
    (rows_off (rows 3 l.i (map g.T.Listed.number_of l.into)) (three g.T.Listed.reader) c.args.n l.i l.rest.now c.loop-i-test.true c.in_err-row.ensures ∙ sym l.invariant.reads)

pub returns-in_err-row-clause-past : goal.returns-in_err-row-clause-past
returns-in_err-row-clause-past g c = c.loop-i.invariant.past

pub loop-i-preserved : goal.loop-i-preserved
loop-i-preserved g c =
    let n = c.args.n in
    let l = c.loop-i in
    let f = c.in_ok-row in
    let number = g.T.Listed.number_of in
    let r = g.T.Listed.reader in
    let k = 3 * l.i + 3 - 3 * l.i in
    let long = sym (length-map f.row number) ∙ row_long r l.rest.now f.ensures in
    record {
      within = omega arith;
      reads = l.invariant.reads
          ∙ rows_more (rows 3 l.i (map number l.into)) (three r) n l.i l.rest.now c.loop-i-test.true (map number f.row) f.after.now f.ensures
          ∙ rw (c.copy_from_slice.ensures.after, rows_put number l.into f.row l.i k (omega arith) long (omega arith));
      past = rw c.copy_from_slice.ensures.after (past_put number l.into f.row l.i k (omega arith) long n c.loop-i-test.true (omega arith)) ∙ l.invariant.past;
    }

pub returns-clause-reads : goal.returns-clause-reads
returns-clause-reads g c =
    let l = c.loop-i in
    rows_done (map g.T.Listed.number_of l.into) (three g.T.Listed.reader) c.args.n l.i l.rest.now l.invariant.within c.loop-i-test.false ∙ sym l.invariant.reads

pub returns-clause-past : goal.returns-clause-past
returns-clause-past g c = c.loop-i.invariant.past
