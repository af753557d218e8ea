-- The stated numbers with the layout and the side of a bucket.
use mathlib.Core.Path.{ap}
use Rattle.refusals.specs.Stated.{asked}
use Rattle.mesher.specs.Parts.{rules_with}
use Rattle.mesher.proofs.setup.rules_of.Goals as goal

pub returns : goal.returns
returns c = ap (λ side. rules_with c.args.attempts c.args.room (asked c.args.stated) c.args.lay side) c.bucket_of-bucket.ensures
