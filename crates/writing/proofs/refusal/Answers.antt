-- `refusal`: the word and the number, each with a newline.
use Rattle.laws.specs.Kit.{arith}
use Rattle.writing.proofs.Puts.{and_next}
use Rattle.writing.proofs.Parts.{at_front}
use Rattle.definition.specs.Text.{bytes, line_of, show_refusal}
use Rattle.writing.proofs.refusal.Goals as goal

pub returns : goal.returns
unfolding bytes show_refusal line_of
returns c =
    let f = c.fixed-p in
    let g = c.put in
    at_front (and_next f.ensures (omega (arith, f.ensures.next, c.requires)) g.ensures.written) (omega (arith, f.ensures.next, g.ensures.short, c.requires))
