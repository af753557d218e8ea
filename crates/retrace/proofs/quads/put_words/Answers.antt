use Rattle.retrace.proofs.Entered.{puts_words}
use Rattle.retrace.proofs.quads.put_words.Goals as goal

pub returns : goal.returns
returns c =
    let a = c.args in
    puts_words a.quads.now c.copy_words.new.t a.trace.now a.from a.k c.requires.k_in_bounds.0 c.requires.from_in_bounds c.copy_words.ensures
