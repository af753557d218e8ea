-- The slots stand where the region is listed.
use Rattle.definition.specs.Attempt.{replaced}
use Rattle.pairs.specs.Steps.{grown}
use Rattle.pairs.proofs.Entries.{ids, enters_sizes, enters_placing, enters_words}
use Rattle.pairs.proofs.one.enter.Goals as goal

pub note_quad-requires : goal.note_quad-requires
note_quad-requires c =
    let a = c.args in
    let m = c.requires.1 in
    let xs = c.requires.2 in
    let h = c.requires.3 in
    let g = grown m a.n a.quad.a a.quad.b a.quad.d a.quad.e in record { by_index = (c.requires.0, m, replaced m g xs, g, ids xs, h.log', enters_placing h c.quad_grown-g.result c.quad_grown-g.ensures c.list_at-from.result c.list_at-from.ensures); words = enters_words h c.quad_grown-g.result c.quad_grown-g.ensures }

pub returns : goal.returns
returns c =
    let a = c.args in
    λ base m xs h.
    c.note_quad.ensures base m (replaced m (grown m a.n a.quad.a a.quad.b a.quad.d a.quad.e) xs) (grown m a.n a.quad.a a.quad.b a.quad.d a.quad.e) (ids xs) h.log'
    (enters_placing h c.quad_grown-g.result c.quad_grown-g.ensures c.list_at-from.result c.list_at-from.ensures)
