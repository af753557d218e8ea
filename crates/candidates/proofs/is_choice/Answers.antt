use mathlib.Core.Path.{◌≡◌, ap, sym, ◌∙◌}
use lib.Ieee.{Float, binary64, fits}
use Rattle.definition.specs.Floats.{◌≺◌}
use Rattle.definition.specs.Root.{sqrt}
use Rattle.definition.specs.Plane.{norm}
use Rattle.definition.specs.Candidates.{toward}
use Rattle.cells.proofs.Points.{node_within}
use Rattle.plane.specs.Vectors.{vec}
use Rattle.rules.specs.Settings.{quality_of}
use Rattle.side_candidates.proofs.Aheads.{ahead_read}
use Rattle.edge_candidates.specs.Wanted.{turn}
use Rattle.edge_candidates.proofs.Halves.{toward_read}
use Rattle.candidates.specs.Choice.{too_far}
use Rattle.candidates.proofs.Tests.{choice_far, choice_edge, choice_behind, choice_side}
use Rattle.live_regions.proofs.Squares.{norm_root, square_fits}
use Rattle.candidates.proofs.Growth.{choice_outer}
use Rattle.candidates.proofs.Words.{told_out, told_in}
use Rattle.candidates.proofs.is_choice.Goals as goal

pub by_edge-requires : goal.by_edge-requires
by_edge-requires c =
    (c.requires.0, c.requires.2.hand.rep, c.requires.2.hand.pts, c.requires.3, record { node = c.requires.4.first; end = c.requires.4.second })

pub returns-then-by_edge : goal.returns-then-by_edge
returns-then-by_edge c =
    let a = c.args in
    λ m g h y e o. choice_edge (quality_of a.o.aim.quality) (turn a.o.aim.left) m a.o.aim.end a.o.aim.other (vec a.o.aim.normal) a.o.aim.target g a.v (sym c.if-by_edge.true ∙ c.by_edge.ensures m h.hand.rep h.hand.pts y (record { node = e.first; end = e.second }) o.beside)

pub returns-then-here-eq0 : goal.returns-then-here-eq0
returns-then-here-eq0 c =
    let a = c.args in
    λ m g h y e o. choice_outer (quality_of a.o.aim.quality) (turn a.o.aim.left) m a.o.aim.end a.o.aim.other (vec a.o.aim.normal) a.o.aim.target g a.v (sym c.if-by_edge.false ∙ c.by_edge.ensures m h.hand.rep h.hand.pts y (record { node = e.first; end = e.second }) o.beside)
    (told_out m a.o.aim.end g a.v a.here o c.if-here-eq0.true)

pub from_to-d-requires : goal.from_to-d-requires
from_to-d-requires c =
    let a = c.args in
    let y = node_within a.q.now a.lay.points c.requires.0 c.requires.2.hand.pts in
    (y a.o.aim.end c.requires.4.first, y a.v c.requires.4.second)

pub returns-then-square-o : goal.returns-then-square-o
unfolding ◌≺◌
returns-then-square-o c =
    let a = c.args in
    λ m g h y e o.
    let d : vec c.from_to-d.result ≡ toward m a.o.aim.end a.v = toward_read a.q.now a.lay.points m h.hand.pts a.o.aim.end a.v (record { node = e.first; end = e.second }) (vec c.from_to-d.result) c.from_to-d.ensures in
    let n : norm (toward m a.o.aim.end a.v) ≡ sqrt c.square.result = ap norm (sym d) ∙ norm_root (vec c.from_to-d.result) ∙ ap sqrt (sym c.square.ensures) in
    choice_far (quality_of a.o.aim.quality) (turn a.o.aim.left) m a.o.aim.end a.o.aim.other (vec a.o.aim.normal) a.o.aim.target g a.v
    (sym (ap (λ (x : Float). too_far (quality_of a.o.aim.quality) x a.o.aim.target) n ∙ a.o.far_from c.square.result (ap (fits binary64) c.square.ensures ∙ square_fits (vec c.from_to-d.result)) c.if-square-o.true))

pub returns-then-not-ahead : goal.returns-then-not-ahead
returns-then-not-ahead c =
    let a = c.args in
    λ m g h y e o. choice_behind (quality_of a.o.aim.quality) (turn a.o.aim.left) m a.o.aim.end a.o.aim.other (vec a.o.aim.normal) a.o.aim.target g a.v (sym c.if-by_edge.false ∙ c.by_edge.ensures m h.hand.rep h.hand.pts y (record { node = e.first; end = e.second }) o.beside)
    (sym c.if-not-ahead.true ∙ c.ahead.ensures ∙ ahead_read (quality_of a.o.aim.quality) a.q.now a.lay.points m h.hand.pts a.o.aim.end a.v e (vec a.o.aim.normal) (vec c.from_to-d.result) a.o.aim.target c.from_to-d.ensures)

pub in_view_boxed-requires : goal.in_view_boxed-requires
in_view_boxed-requires c =
    (c.requires.0, c.requires.1, c.requires.2, c.requires.4)

pub returns : goal.returns
returns c =
    let a = c.args in
    λ m g h y e o. choice_side (quality_of a.o.aim.quality) (turn a.o.aim.left) m a.o.aim.end a.o.aim.other (vec a.o.aim.normal) a.o.aim.target g a.v c.in_view_boxed.result (sym c.if-by_edge.false ∙ c.by_edge.ensures m h.hand.rep h.hand.pts y (record { node = e.first; end = e.second }) o.beside)
    (sym c.if-not-ahead.false ∙ c.ahead.ensures ∙ ahead_read (quality_of a.o.aim.quality) a.q.now a.lay.points m h.hand.pts a.o.aim.end a.v e (vec a.o.aim.normal) (vec c.from_to-d.result) a.o.aim.target c.from_to-d.ensures)
    (c.in_view_boxed.ensures m g h e (told_in m a.o.aim.end g a.v a.here o c.if-here-eq0.false))
