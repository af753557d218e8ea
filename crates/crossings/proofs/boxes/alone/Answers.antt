use Rattle.crossings.proofs.Boxing.{starts}
use Rattle.crossings.proofs.boxes.alone.Goals as goal

pub returns : goal.returns
returns c = starts c.args.i c.args.x
