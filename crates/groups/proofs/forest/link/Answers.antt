-- The greater root is hung under the lesser.
use Rattle.laws.specs.Kit.{arith}
use Rattle.groups.proofs.Roots.{hung}
use Rattle.groups.proofs.forest.link.Goals as goal

pub returns-then-a-b : goal.returns-then-a-b
returns-then-a-b c =
    let p = c.requires in
    hung _ _ _ _ p.0 (omega arith) (omega arith) p.4 p.3 _ _ (omega arith) (omega arith)

pub returns : goal.returns
returns c =
    let p = c.requires in
    hung _ _ _ _ p.0 (omega arith) (omega arith) p.3 p.4 _ _ (omega arith) (omega arith)
