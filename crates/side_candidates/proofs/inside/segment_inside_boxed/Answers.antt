use Rattle.side_candidates.proofs.inside.segment_inside_boxed.Goals as goal

pub segment_inside-requires : goal.segment_inside-requires
segment_inside-requires c = (c.requires.0, c.requires.1, c.requires.2.hand, c.requires.3)

pub returns-then-n-h : goal.returns-then-n-h
returns-then-n-h c = λ m g h e. c.segment_inside.ensures m g h.hand e
