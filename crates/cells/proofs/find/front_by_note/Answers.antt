-- The law of the note of u, at each test.
use mathlib.Core.Path.{ap, ◌∙◌}
use Prim.Native.Nat.{ℕ, ◌+◌, ◌*◌}
use lib.ListN.{get_or}
use Rattle.cells.proofs.Notes.{noted_none, noted_first, noted_one, noted_second}
use Rattle.cells.proofs.find.front_by_note.Goals as goal

pub returns-then-known-eq1 : goal.returns-then-known-eq1
returns-then-known-eq1 c =
    let a = c.args in
    λ m r. noted_none a.w.now a.lay.slots a.lay.points a.u a.v a.known c.requires.noted m (r.notes a.u c.requires.edge.node) c.if-known-eq1.true

pub returns-then-wide-v : goal.returns-then-wide-v
returns-then-wide-v c =
    let a = c.args in
    λ m r. noted_first a.w.now a.lay.slots a.lay.points a.u a.v a.known c.requires.noted m (r.notes a.u c.requires.edge.node) c.wide.result
    (c.wide.ensures ∙ ap (λ (i : ℕ). get_or a.w.now (i + 2 * a.u) 0) c.fronts_at.ensures)
    c.if-known-eq1.false c.if-wide-v.true

pub returns-then-known-eq2 : goal.returns-then-known-eq2
returns-then-known-eq2 c =
    let a = c.args in
    λ m r. noted_one a.w.now a.lay.slots a.lay.points a.u a.v a.known c.requires.noted m (r.notes a.u c.requires.edge.node) c.wide.result
    (c.wide.ensures ∙ ap (λ (i : ℕ). get_or a.w.now (i + 2 * a.u) 0) c.fronts_at.ensures)
    c.if-known-eq2.true c.if-wide-v.false

pub returns : goal.returns
returns c =
    let a = c.args in
    λ m r. noted_second a.w.now a.lay.slots a.lay.points a.u a.v a.known c.requires.noted m (r.notes a.u c.requires.edge.node) c.wide.result c.wide-2.result
    (c.wide.ensures ∙ ap (λ (i : ℕ). get_or a.w.now (i + 2 * a.u) 0) c.fronts_at.ensures)
    (c.wide-2.ensures ∙ ap (λ (i : ℕ). get_or a.w.now (i + 2 * a.u + 1) 0) c.fronts_at.ensures)
    c.if-known-eq1.false c.if-known-eq2.false c.if-wide-v.false
