-- The roots are found, and linked.
use Rattle.groups.proofs.Roots.{first_root, second_root, roots_low, joined_roots}
use Rattle.groups.proofs.forest.join.Goals as goal

pub link-requires : goal.link-requires
link-requires c =
    let f = c.find-r.ensures in
    let g = c.find-s.ensures in
    let l = roots_low _ _ _ _ _ _ _ _ f g c.requires.1 c.requires.2 c.requires.0 in
    (g.kept.forest, l.0, l.1, first_root _ _ _ _ _ _ _ _ f g c.requires.1 c.requires.2, second_root _ _ _ _ _ _ _ _ f g c.requires.1 c.requires.2)

pub returns : goal.returns
returns c =
    joined_roots _ _ _ _ _ _ _ _ c.find-r.ensures c.find-s.ensures c.requires.1 c.requires.2 _ c.link.ensures
