use Rattle.laws.specs.Kit.{sym, ◌∙◌}
use Rattle.components.specs.Flood.{body}
use Rattle.components.proofs.Grows.{seen_can, seen_see}
use Rattle.components.proofs.Seeks.{new_other, new_known, seen_cell, new_read}
use Rattle.components.proofs.around.is_new.Goals as goal

pub mark-requires : goal.mark-requires
mark-requires c =
    let a = c.args in
    seen_can a.w.now a.lay.slots a.lay.points c.requires.0 a.j c.requires.1 c.requires.2 c.requires.3 c.requires.4

pub returns-then-mark-ne0 : goal.returns-then-mark-ne0
returns-then-mark-ne0 c = λ k m xs x h.
    let a = c.args in
    new_known h a.y a.z (λ q. c.if-mark-ne0.true (c.mark.ensures ∙ q))

pub kind-requires : goal.kind-requires
kind-requires c =
    let a = c.args in
    seen_see a.w.now a.lay.slots a.lay.points c.requires.0 a.j c.requires.1 c.requires.2 c.requires.3 c.requires.4

pub returns-then-kind-ne3 : goal.returns-then-kind-ne3
returns-then-kind-ne3 c = λ k m xs x h.
    let a = c.args in
    new_other h a.y a.z (λ q. c.if-kind-ne3.true (c.kind.ensures ∙ q))

pub has_one-requires : goal.has_one-requires
has_one-requires c =
    let a = c.args in
    seen_see a.w.now a.lay.slots a.lay.points c.requires.0 a.j c.requires.1 c.requires.2 c.requires.3 c.requires.4

pub returns : goal.returns
returns c = λ k m xs x h.
    let a = c.args in
    let e = sym c.kind.ensures ∙ c.if-kind-ne3.false in
    new_read h a.y a.z e (sym c.mark.ensures ∙ c.if-mark-ne0.false) c.has_one.result (c.has_one.ensures (body x) (seen_cell h a.y a.z e))
