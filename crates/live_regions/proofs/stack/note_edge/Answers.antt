use mathlib.Core.Path.{sym, ◌∙◌, subst}
use Prim.Native.Nat.{ℕ, ◌+◌, ◌≤◌}
use lib.ListN.{get_or, set}
use Rattle.cells.proofs.Slots.{tri_held}
use Rattle.live_regions.specs.Stack.{PushTo, Adds}
use Rattle.live_regions.proofs.Notes.{noted_none, noted_edge}
use Rattle.live_regions.proofs.stack.note_edge.Goals as goal

pub returns-then-n-lt16 : goal.returns-then-n-lt16
returns-then-n-lt16 c =
    let a = c.args in
    λ m out seen st h. noted_none a.w.now a.lay.slots a.lay.points a.j a.u a.v m out seen st h

pub returns : goal.returns
returns c =
    let a = c.args in
    let w = a.w.now in
    let f = c.marks_at-marks.ensures in
    let r = c.with_edge.result in
    λ m out seen st h.
    subst (λ (z : ℕ). PushTo w (set w (z + a.j) r) a.lay.slots a.lay.points m out seen st) (sym f)
    (noted_edge w a.lay.slots a.lay.points a.j a.u a.v m out seen st h r c.node-x.result c.node-y.result c.node-z.result
    (subst (λ (z : ℕ). 16 ≤ get_or w (z + a.j) 0) f c.if-n-lt16.false) (subst (λ (z : ℕ). get_or w (z + a.j) 0 ≤ r) f c.with_edge.ensures.lower_bound)
    (λ k. let d = tri_held w a.lay.slots a.lay.points m h.hold.rep a.j k in (c.node-x.ensures ∙ d.n0, c.node-y.ensures ∙ d.n1, c.node-z.ensures ∙ d.n2))
    (subst (λ (z : ℕ). Adds (get_or w (z + a.j) 0) r c.node-x.result c.node-y.result c.node-z.result a.u a.v) f c.with_edge.ensures.adds))
