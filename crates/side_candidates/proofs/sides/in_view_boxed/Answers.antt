use mathlib.Core.Path.{ap, ◌∙◌}
use Rattle.definition.specs.Lists.{filter}
use Rattle.definition.specs.Candidates.{segment_inside}
use Rattle.side_candidates.specs.Hand.{fenced}
use Rattle.side_candidates.proofs.Aheads.{view_same, view_other, view_inside}
use Rattle.side_candidates.proofs.Keeping.{walls_kept}
use Rattle.side_candidates.proofs.sides.in_view_boxed.Goals as goal

pub returns-then-v-a : goal.returns-then-v-a
returns-then-v-a c =
    let a = c.args in
    λ m g h e f. view_same m a.a a.other g a.v c.if-v-a.true

pub returns-then-v-other : goal.returns-then-v-other
returns-then-v-other c =
    let a = c.args in
    λ m g h e f. view_other m a.a a.other g a.v c.if-v-a.false c.if-v-other.true

pub segment_inside_boxed-requires : goal.segment_inside_boxed-requires
segment_inside_boxed-requires c =
    (c.requires.0, filter (fenced c.requires.0) c.requires.1, c.requires.2, c.requires.3)

pub returns : goal.returns
returns c =
    let a = c.args in
    λ m g h e f. view_inside m a.a a.other g a.v c.segment_inside_boxed.result c.if-v-a.false c.if-v-other.false f
    (c.segment_inside_boxed.ensures m (filter (fenced m) g) h e ∙ ap (segment_inside m a.a a.v) (walls_kept m g))
