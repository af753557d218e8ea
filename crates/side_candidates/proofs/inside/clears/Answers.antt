use mathlib.Core.Path.{ap, sym, ◌∙◌}
use Rattle.definition.specs.Candidates.{passes_by}
use Rattle.cells.proofs.Edges.{key_up, key_down}
use Rattle.side_candidates.proofs.Fences.{below_of}
use Rattle.side_candidates.proofs.inside.clears.Goals as goal

pub passes_by-requires : goal.passes_by-requires
passes_by-requires c =
    c.requires.pts

pub returns-then-u-v : goal.returns-then-u-v
returns-then-u-v c =
    let a = c.args in
    λ m k e f. c.passes_by.ensures m k e f ∙ ap (passes_by m a.a a.b) (sym (key_up a.u a.v c.if-u-v.true))

pub passes_by-requires-2 : goal.passes_by-requires-2
passes_by-requires-2 c =
    (c.requires.pts.0, c.requires.pts.1, c.requires.pts.2, record { first = c.requires.pts.3.second; second = c.requires.pts.3.first })

pub returns : goal.returns
returns c =
    let a = c.args in
    λ m k e f. c.passes_by-2.ensures m k e (record { first = f.second; second = f.first }) ∙ ap (passes_by m a.a a.b) (sym (key_down a.u a.v (below_of a.u a.v c.if-u-v.false c.requires.edge.apart)))
