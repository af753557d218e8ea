use Rattle.laws.specs.Kit.{sym, ◌∙◌, arith}
use Rattle.leftovers.specs.Wrote.{slot_tris}
use Rattle.leftovers.proofs.Texts.{wrote_none, wrote_one, no_tri}
use Rattle.leftovers.proofs.write_slot.Goals as goal

pub returns-then-kind-ne3 : goal.returns-then-kind-ne3
returns-then-kind-ne3 c =
    let a = c.args in
    λ m r. wrote_none a.out.now a.n (slot_tris m a.i) (no_tri a.w.now a.lay.slots a.lay.points m r a.i (λ e. c.if-kind-ne3.true (c.kind.ensures ∙ e)))

pub returns : goal.returns
returns c =
    let a = c.args in
    λ m r.
    wrote_one a.w.now a.out.now c.write_three.new.out a.lay.slots a.lay.points a.i a.n m r c.requires.can_write.inside
    (sym c.kind.ensures ∙ c.if-kind-ne3.false) (omega (arith, c.requires.can_write.few, c.requires.can_write.room)) c.write_three.ensures
