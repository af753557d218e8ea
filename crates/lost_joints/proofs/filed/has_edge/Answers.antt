-- The first number that is not below twice the edge's tells.
use mathlib.Core.Path.{◌∙◌}
use borrow.Author.Rules.{rules}
use borrow.Author.Tests.{le-ltb}
use Rattle.lost_joints.proofs.Keys.{keyed, found, lacking}
use Rattle.lost_joints.proofs.filed.has_edge.Goals as goal

pub returns-then-i-n : goal.returns-then-i-n
returns-then-i-n c =
    let is = keyed _ _ _ _ _ _ _ _ c.min-u.ensures c.max-v.ensures c.wide.ensures c.wide-2.ensures c.wide-3.ensures c.wide-4.ensures in
    found _ _ _ _ _ is c.seek-i.ensures _ c.requires.0.ascends c.key_at.ensures (search rules)

pub returns-else-i-n : goal.returns-else-i-n
returns-else-i-n c =
    let is = keyed _ _ _ _ _ _ _ _ c.min-u.ensures c.max-v.ensures c.wide.ensures c.wide-2.ensures c.wide-3.ensures c.wide-4.ensures in
    le-ltb _ _ c.if-i-n.false ∙ lacking _ _ _ _ _ is c.seek-i.ensures c.requires.0.ascends (search rules)
