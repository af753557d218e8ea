use Rattle.edge_candidates.specs.Words.{float_at}
use Rattle.edge_candidates.proofs.Bits.{no_nan_pair}
use Rattle.edge_candidates.proofs.doubles.get.Goals as goal

pub float_of-requires : goal.float_of-requires
float_of-requires c =
    no_nan_pair c.args.w.now c.args.at c.long.result c.long-2.result c.long.ensures.0 c.long-2.ensures.0 c.requires.at_value

pub returns : goal.returns
unfolding float_at
returns c =
    rw (c.float_of.ensures, c.long.ensures.0, c.long-2.ensures.0)
