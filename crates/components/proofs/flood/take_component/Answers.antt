use Rattle.laws.specs.Kit.{sym, ◌∙◌}
use Rattle.components.proofs.Floods.{taken_known, taken_other, slot_tri, slot_out, taken_new}
use Rattle.components.proofs.flood.take_component.Goals as goal

pub returns-then-mark-ne0 : goal.returns-then-mark-ne0
returns-then-mark-ne0 c =
    let a = c.args in
    λ m xs h. taken_known a.w.now a.lay.slots a.lay.points a.n a.i m xs h (λ e. c.if-mark-ne0.true (c.mark.ensures ∙ e))

pub returns-then-kind-ne3 : goal.returns-then-kind-ne3
returns-then-kind-ne3 c =
    let a = c.args in
    λ m xs h. taken_other a.w.now a.lay.slots a.lay.points a.n a.i m xs h (λ q. c.if-kind-ne3.true (c.kind.ensures ∙ q))

pub flood-requires : goal.flood-requires
flood-requires c =
    let a = c.args in
    let m = c.requires.marked.0 in
    let xs = c.requires.marked.1 in
    let h = c.requires.marked.2 in
    let z = sym c.mark.ensures ∙ c.if-mark-ne0.false in
    let y = sym c.kind.ensures ∙ c.if-kind-ne3.false in
    (m, xs, h, slot_tri a.w.now a.lay.slots a.lay.points a.n a.i m xs h z y c.requires.i_lt_s, slot_out a.w.now a.lay.slots a.lay.points a.n a.i m xs h z y c.requires.i_lt_s)

pub returns : goal.returns
returns c =
    let a = c.args in
    let z = sym c.mark.ensures ∙ c.if-mark-ne0.false in
    let y = sym c.kind.ensures ∙ c.if-kind-ne3.false in
    λ m xs h.
    let ti = slot_tri a.w.now a.lay.slots a.lay.points a.n a.i m xs h z y c.requires.i_lt_s in
    taken_new a.w.now a.lay.slots a.lay.points a.n a.i m xs h z y c.requires.i_lt_s c.flood.new.w c.flood.result
    (c.flood.ensures m xs h ti (slot_out a.w.now a.lay.slots a.lay.points a.n a.i m xs h z y c.requires.i_lt_s))
